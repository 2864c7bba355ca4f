-- The analysis from a place of the tree's bytes leaves the same as it was, and the bytes that it read bound its rounds. Assumes nothing.
use Prim.Native.Nat.{ℕ, ◌+◌, ◌*◌, ◌≤◌}
use native.Mathlib.Omega.{arith}
use mathlib.Core.List.{List}
use mathlib.Core.Path.{◌≡◌}
use Rattle.rules.specs.State.{Limits, AnalysisStack}
use Rattle.rules.specs.FirstWalk.{any_expression}
use Rattle.rules.specs.Walk.{Place, Naming, head_namings}
use Rattle.law_runs.specs.Run.{run_expr, run_items, run_assertions, run_values, run_heads, run_binds, run_params, run_define_binds, run_define_params}
use Rattle.rules.proofs.After.{After, fine, after_bind}
use Rattle.law_steady.specs.Steady.{Steady, SteadySpecs, Defined}
use Rattle.law_steady.specs.Passed.{Passed, PassedSpecs}
use Rattle.law_steady.proofs.Keeping.{steady_sound}
use Rattle.law_steady.proofs.Steps.{defined_binds, defined_params}
use Rattle.law_steady.proofs.Steady.{steady, steady_all, steady_assertions, steady_values, steady_binds, steady_params, steady_heads}
use Rattle.law_steady.proofs.Weighing.{expr_weighs, items_at_weigh, binds_at_weigh, params_at_weigh, heads_at_weigh, values_at_weigh}

-- rounds that bytes pay for

pub passed : {most : ℕ} (p q : ℕ) {st st' : AnalysisStack} → p + most ≤ q → Steady most st st' → Passed p q st st'
passed p q le h = record {
  onward = omega arith;
  same_count = h.same_count;
  same_references = h.same_references;
  same_frames = h.same_frames;
  few_rounds = omega (arith, h.few_rounds);
  longer = h.longer;
  sound = steady_sound h;
}

pub passed_specs : {most count : ℕ} (n p q : ℕ) {kept kept' : ℕ} {st st' : AnalysisStack} → p + most + 2 * n ≤ q → count ≡ n → SteadySpecs most count kept kept' st st'
    → PassedSpecs n p q kept kept' st st'
passed_specs n p q le e h = record {
  onward = omega arith;
  same_count = h.same_count;
  more_references = h.more_references;
  same_frames = h.same_frames;
  few_rounds = omega (arith, h.few_rounds);
  few_kept = omega (arith, h.few_kept);
  longer = h.longer;
  sound = h.sound;
}

module _ (s : List ℕ) (L : Limits) where
  pub passed_expr : (levels p : ℕ) (naming : Naming) (h : Place) (st : AnalysisStack) → After (λ (r : AnalysisStack × ℕ). Passed p r.1 st r.0) (run_expr s L levels p naming h st)
  unfolding run_expr
  passed_expr levels p naming h st = after_bind _ (expr_weighs s levels any_expression p) λ x le.
      after_bind _ (steady L x.0 naming h st) λ st₁ k. fine (passed p x.1 le k)

  pub passed_items : (levels n p : ℕ) (h : Place) (st : AnalysisStack) → After (λ (r : AnalysisStack × ℕ). Passed p r.1 st r.0) (run_items s L levels n p h st)
  unfolding run_items
  passed_items levels n p h st = after_bind _ (items_at_weigh s levels n p) λ x le.
      after_bind _ (steady_all L x.0 h st) λ st₁ k. fine (passed p x.1 le k)

  pub passed_assertions : (levels n p : ℕ) (h : Place) (st : AnalysisStack) → After (λ (r : AnalysisStack × ℕ). Passed p r.1 st r.0) (run_assertions s L levels n p h st)
  unfolding run_assertions
  passed_assertions levels n p h st = after_bind _ (items_at_weigh s levels n p) λ x le.
      after_bind _ (steady_assertions L x.0 h st) λ st₁ k. fine (passed p x.1 le k)

  pub passed_values : (levels n heads p : ℕ) (h : Place) (st : AnalysisStack) → After (λ (r : AnalysisStack × ℕ). Passed p r.1 st r.0) (run_values s L levels n heads p h st)
  unfolding run_values
  passed_values levels n heads p h st = after_bind _ (values_at_weigh s levels n heads p) λ x le.
      after_bind _ (steady_values L x.0.1 (head_namings x.0.0) h st) λ st₁ k. fine (passed p x.1 le k)

  pub passed_heads : (levels n p : ℕ) (h : Place) (st : AnalysisStack) → After (λ (r : AnalysisStack × ℕ). Passed p r.1 st r.0) (run_heads s L levels n p h st)
  unfolding run_heads
  passed_heads levels n p h st = after_bind _ (heads_at_weigh s levels n p) λ x le.
      after_bind _ (steady_heads L x.0 h st) λ st₁ k. fine (passed p x.1 le k)

  pub passed_binds : (levels n p base kept : ℕ) (h : Place) (st : AnalysisStack)
      → After (λ (r : ℕ × (AnalysisStack × ℕ)). PassedSpecs n p r.1.1 kept r.0 st r.1.0) (run_binds s L levels n p base kept h st)
  unfolding run_binds
  passed_binds levels n p base kept h st = after_bind _ (binds_at_weigh s levels n p) λ x le.
      after_bind _ (steady_binds L x.0 base kept h st) λ r k. fine (passed_specs n p x.1 le.0 le.1 k)

  pub passed_params : (levels n p kept : ℕ) (h : Place) (st : AnalysisStack)
      → After (λ (r : ℕ × (AnalysisStack × ℕ)). PassedSpecs n p r.1.1 kept r.0 st r.1.0) (run_params s L levels n p kept h st)
  unfolding run_params
  passed_params levels n p kept h st = after_bind _ (params_at_weigh s levels n p) λ x le.
      after_bind _ (steady_params L x.0 kept h st) λ r k. fine (passed_specs n p x.1 le.0 le.1 k)

  pub defined_binds_at : (levels n p depth : ℕ) (st : AnalysisStack) → After (λ (r : AnalysisStack × ℕ). Defined st r.0) (run_define_binds s L levels n p depth st)
  unfolding run_define_binds
  defined_binds_at levels n p depth st = after_bind _ (binds_at_weigh s levels n p) λ x _.
      after_bind _ (defined_binds L x.0 depth st) λ st₁ k. fine k

  pub defined_params_at : (levels n p depth : ℕ) (st : AnalysisStack) → After (λ (r : AnalysisStack × ℕ). Defined st r.0) (run_define_params s L levels n p depth st)
  unfolding run_define_params
  defined_params_at levels n p depth st = after_bind _ (params_at_weigh s levels n p) λ x _.
      after_bind _ (defined_params L x.0 depth st) λ st₁ k. fine k
