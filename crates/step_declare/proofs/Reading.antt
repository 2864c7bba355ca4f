-- The first of several binds or parameters that were read: what it says, and that the others were read after it. Assumes nothing.
use Prim.Native.Nat.{ℕ, suc, ◌+◌, ◌≤◌}
use mathlib.Core.List.{List}
use mathlib.Core.Path.{◌≡◌, sym, ◌∙◌}
use native.Mathlib.Omega.{arith}
use lib.ListN.{length}
use Rattle.rules.specs.Outcome.{ok, ◌>>=◌}
use Rattle.rules.specs.Numbers.{number_at}
use Rattle.rules.specs.Tree.{Params, no_binds, no_params}
use Rattle.rules.specs.FirstWalk.{any_expression, bind_item, param_item, expr_at}
use Rattle.rules.specs.State.{Limits, AnalysisStack}
use Rattle.rules.specs.Scoping.{define_local}
use Rattle.bytes_skip.specs.Behind.{Skipped}
use Rattle.law_runs.specs.Run.{Accepted, binds_at, params_at, run_define_binds, run_define_params}
use Rattle.law_runs.proofs.Binding.{many_rest}
use Rattle.law_runs.proofs.Records.{ParamKind, no_default, with_default}
use Rattle.law_runs.proofs.Lists.{binds_first, one_bind, define_binds_none, define_binds_step, params_first, one_param, define_params_none, define_params_step}
use Rattle.state.specs.Seen.{span_of}
use Rattle.step_declare.specs.Answers.{AfterParam}

module _ (s : List ℕ) (levels : ℕ) where
  pub record FirstBind (n p : ℕ) : Type 0 where
    pub next : ℕ
    pub others : Accepted (binds_at s levels n next)
    pub fits : p + 10 ≤ length s
    pub past : (to : ℕ) → Skipped s (p + 10) to → to ≡ next
    pub defines : (L : Limits) (depth : ℕ) (st : AnalysisStack)
        → run_define_binds s L levels (suc n) p depth st
        ≡ (define_local L p (number_at s (p + 2)) (span_of (number_at s (p + 6))) depth st >>= λ st. run_define_binds s L levels n next depth st)

  pub first_bind : (n p : ℕ) → Accepted (binds_at s levels (suc n) p) → FirstBind n p
  unfolding binds_at
  first_bind n p read =
      let one = binds_first s levels n p read in
      let b = one_bind s levels p one.there in
      record {
        next = one.what.1;
        others = many_rest (bind_item s (expr_at s levels)) no_binds n p read one.there;
        fits = b.fits;
        past = λ to skips. skips levels any_expression b.value one.what.1 b.read;
        defines = λ L depth st. define_binds_step s L levels n p depth st read one.there;
      }

  pub no_bind : (p : ℕ) (L : Limits) (depth : ℕ) (st : AnalysisStack) → run_define_binds s L levels 0 p depth st ≡ ok (st, p)
  no_bind p L depth st = define_binds_none s L levels p depth st

  -- where a parameter ends
  param_past : (p : ℕ) {put : Params → Params} {q : ℕ} → ParamKind s levels p put q → (to : ℕ) → AfterParam s p to → to ≡ q
  param_past p (no_default z e puts) to behind = behind.0 z ∙ sym e
  param_past p {q = q} (with_default z default read puts) to behind = behind.1 (λ none. omega (arith, z, none)) levels any_expression default q read

  pub record FirstParam (n p : ℕ) : Type 0 where
    pub next : ℕ
    pub others : Accepted (params_at s levels n next)
    pub fits : p + 14 ≤ length s
    pub past : (to : ℕ) → AfterParam s p to → to ≡ next
    pub defines : (L : Limits) (depth : ℕ) (st : AnalysisStack)
        → run_define_params s L levels (suc n) p depth st
        ≡ (define_local L p (number_at s (p + 2)) (span_of (number_at s (p + 6))) depth st >>= λ st. run_define_params s L levels n next depth st)

  pub first_param : (n p : ℕ) → Accepted (params_at s levels (suc n) p) → FirstParam n p
  unfolding params_at
  first_param n p read =
      let one = params_first s levels n p read in
      let b = one_param s levels p one.there in
      record {
        next = one.what.1;
        others = many_rest (param_item s (expr_at s levels)) no_params n p read one.there;
        fits = b.there.fits;
        past = param_past p b.there.kind;
        defines = λ L depth st. define_params_step s L levels n p depth st read one.there;
      }

  pub no_param : (p : ℕ) (L : Limits) (depth : ℕ) (st : AnalysisStack) → run_define_params s L levels 0 p depth st ≡ ok (st, p)
  no_param p L depth st = define_params_none s L levels p depth st
