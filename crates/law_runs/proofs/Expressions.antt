-- What the code does at each record of the tree is what the rules do there, where reading succeeds. Assumes nothing.
use Prim.Native.Nat.{ℕ, zero, suc, ◌+◌, ◌*◌, ◌-◌, ◌≤◌, ◌<◌}
use mathlib.Core.Bool.{true, false, false≢true}
use mathlib.Core.List.{List, [], ◌∷◌}
use mathlib.Core.Option.{Option, none, some}
use mathlib.Core.Path.{◌≡◌, refl, sym, ap, subst, ◌∙◌}
use native.Mathlib.Omega.{arith}
use native.Mathlib.Nat.{add-zero}
use lib.ListN.{length, get_or}
use lib.Dec.{leb, ltb}
use borrow.Author.Tests.{leb-true, ne_eqb}
use Rattle.rules.specs.Outcome.{Outcome, ok, refuse, choose, given, ◌>>=◌}
use Rattle.rules.specs.Numbers.{Mark, code, code_at, number_at, numbers_at, is_set, ID, TV, VA, AR, LO, IM, FN, OB, PA, AT, NA, PT}
use Rattle.rules.specs.Records.{span_in, size_of, numbers_of, fields, all_in_range, in_range, widths, width}
use Rattle.rules.specs.Tree.{Expr, Exprs, Binds, Params, Heads, count_exprs, no_exprs, ◌then◌, no_binds, no_heads, fixed, computed, constants, array, plain, local, function, object}
use Rattle.rules.specs.FirstWalk.{Allowed, any_expression, object_only, Form, Read, Child, level, Groups, rows, row_of, record_at, below, expr_at, only, nth, nth_span, an_identity, a_constant, a_variable, an_array, an_import, a_local, a_function, an_object, parts, many, none_left, expr_item, holder_at, child_at, groups_at, bind_item, param_item, head_item, value_groups, expressions, constant_at, constants_at, front, argument, index_part, assertion, members}
use Rattle.rules.specs.State.{Limits, AnalysisStack}
use Rattle.rules.specs.Walk.{Place, Naming, unnamed, analyze, analyze_all, analyze_assertions, analyze_values, analyze_binds, analyze_params, analyze_heads, define_binds, define_params, deeper, in_object, is_empty, is_identity, first_has_default, is_static, object_numbers, head_namings}
use Rattle.bytes_records.specs.Marks.{mark_of, children}
use Rattle.bytes_records.specs.Constants.{is_some}
use Rattle.bytes_records.proofs.Laws.{All, all_none, ◌also◌, mark_code}
use Rattle.law_runs.specs.Run.{Accepted, holders, item_at, items_at, binds_at, params_at, heads_at, values_at, run_expr, run_item, run_items, run_assertions, run_values, run_heads, run_binds, run_params, run_define_binds, run_define_params}
use Rattle.law_runs.specs.Steps.{span_at, values_from, first_defaults, gives_argument, object_record, and_place, closed_array, finished_local, finished_function, finished_object, identity_steps, variable_steps, import_steps, copied, constants_steps, begun_local, begun_function, begun_object, array_steps, local_steps, function_steps, object_steps, plain_steps}
use Rattle.rules.proofs.After.{After, fine, after_ok, after_bind, after_choose, after_many, after_weaken, held_some, both_passed, Held, there, nothing, chosen, after_self}
use Rattle.rules.proofs.Outcomes.{same_ok, bind_fine, bind_got, bind_left, bind_both, given_some, given_none}
use Rattle.rules.proofs.ReadRecords.{Every, row_found}
use Rattle.rules.proofs.Accepted.{total}
use Rattle.law_runs.proofs.Reading.{seen_at, Stands, Opened, expr_opened, expr_known, only_found, expr_any}
use Rattle.law_runs.proofs.Binding.{accepted, accepted_what}

-- The place after what was read and analysed

-- an answer with the place after it
abbrev placed : {B : Type 0} → ℕ → Outcome B → Outcome (B × ℕ)
placed q o = o >>= λ b. ok (b, q)

abbrev placed_kept : {B : Type 0} → ℕ → Outcome (ℕ × B) → Outcome (ℕ × (B × ℕ))
placed_kept q o = o >>= λ b. ok (b.0, (b.1, q))

module _ {A B : Type 0} (x : Outcome (A × ℕ)) where
  run_end : (f : A → Outcome B) {b : B} {q : ℕ} → (x >>= λ a. placed a.1 (f a.0)) ≡ ok (b, q) → (a : Accepted x) → a.what.1 ≡ q
  run_end f h a =
      let r = bind_got x _ h in
      let t = bind_got (f r.middle.0) _ r.second in
      ap (λ (y : A × ℕ). y.1) (accepted_what a r.first) ∙ ap (λ (y : B × ℕ). y.1) (same_ok t.second)

  kept_end : (f : A → Outcome (ℕ × B)) {b : B} {k q : ℕ} → (x >>= λ a. placed_kept a.1 (f a.0)) ≡ ok (k, (b, q)) → (a : Accepted x) → a.what.1 ≡ q
  kept_end f h a =
      let r = bind_got x _ h in
      let t = bind_got (f r.middle.0) _ r.second in
      ap (λ (y : A × ℕ). y.1) (accepted_what a r.first) ∙ ap (λ (y : ℕ × (B × ℕ)). y.1.1) (same_ok t.second)

-- what was read ends where the run ended
pub ended : {A : Type 0} {o : Outcome (A × ℕ)} {q : ℕ} (x : Accepted o) → x.what.1 ≡ q → o ≡ ok (x.what.0, q)
ended x e = x.there ∙ ap (λ (q : ℕ). ok (x.what.0, q)) e

module _ (s : List ℕ) (L : Limits) (levels : ℕ) where
  pub expr_end : (p : ℕ) (naming : Naming) (h : Place) (st : AnalysisStack) {st' : AnalysisStack} {q' : ℕ} → run_expr s L levels p naming h st ≡ ok (st', q')
      → (a : Accepted (expr_at s levels any_expression p)) → a.what.1 ≡ q'
  unfolding run_expr
  expr_end p naming h st e a = run_end (expr_at s levels any_expression p) (λ x. analyze L x naming h st) e a

  pub items_end : (n p : ℕ) (h : Place) (st : AnalysisStack) {st' : AnalysisStack} {q' : ℕ} → run_items s L levels n p h st ≡ ok (st', q') → (a : Accepted (items_at s levels n p)) → a.what.1 ≡ q'
  unfolding run_items
  items_end n p h st e a = run_end (items_at s levels n p) (λ x. analyze_all L x h st) e a

  pub assertions_end : (n p : ℕ) (h : Place) (st : AnalysisStack) {st' : AnalysisStack} {q' : ℕ} → run_assertions s L levels n p h st ≡ ok (st', q') → (a : Accepted (items_at s levels n p)) → a.what.1 ≡ q'
  unfolding run_assertions
  assertions_end n p h st e a = run_end (items_at s levels n p) (λ x. analyze_assertions L x h st) e a

  pub heads_end : (n p : ℕ) (h : Place) (st : AnalysisStack) {st' : AnalysisStack} {q' : ℕ} → run_heads s L levels n p h st ≡ ok (st', q') → (a : Accepted (heads_at s levels n p)) → a.what.1 ≡ q'
  unfolding run_heads
  heads_end n p h st e a = run_end (heads_at s levels n p) (λ x. analyze_heads L x h st) e a

  pub values_end : (n heads p : ℕ) (h : Place) (st : AnalysisStack) {st' : AnalysisStack} {q' : ℕ} → run_values s L levels n heads p h st ≡ ok (st', q') → (a : Accepted (values_at s levels n heads p)) → a.what.1 ≡ q'
  unfolding run_values
  values_end n heads p h st e a = run_end (values_at s levels n heads p) (λ x. analyze_values L x.1 (head_namings x.0) h st) e a

  pub binds_end : (n p base kept : ℕ) (h : Place) (st : AnalysisStack) {st' : AnalysisStack} {k q' : ℕ} → run_binds s L levels n p base kept h st ≡ ok (k, (st', q')) → (a : Accepted (binds_at s levels n p)) → a.what.1 ≡ q'
  unfolding run_binds
  binds_end n p base kept h st e a = kept_end (binds_at s levels n p) (λ x. analyze_binds L x base kept h st) e a

  pub params_end : (n p kept : ℕ) (h : Place) (st : AnalysisStack) {st' : AnalysisStack} {k q' : ℕ} → run_params s L levels n p kept h st ≡ ok (k, (st', q')) → (a : Accepted (params_at s levels n p)) → a.what.1 ≡ q'
  unfolding run_params
  params_end n p kept h st e a = kept_end (params_at s levels n p) (λ x. analyze_params L x kept h st) e a

-- What is run, once it is read

-- a step, and the same step after a reading that succeeded
then_read : {A B C : Type 0} (x : Outcome A) (q : ℕ) (f : A → Outcome B) (g : B → Outcome C) {r : Outcome (A × ℕ)} (l : A × ℕ → Outcome C) → r ≡ placed q x
    → ((a : A) → (f a >>= g) ≡ l (a, q)) → ((x >>= f) >>= g) ≡ (r >>= l)
unfolding ◌>>=◌
then_read (ok a) q f g l e h = rw e (h a)
then_read (refuse number place) q f g l e h = rw e

then_kept : {A B C : Type 0} (x : Outcome (ℕ × A)) (q : ℕ) (f : ℕ × A → Outcome B) (g : B → Outcome C) {r : Outcome (ℕ × (A × ℕ))} (l : ℕ × (A × ℕ) → Outcome C) → r ≡ placed_kept q x
    → ((a : ℕ × A) → (f a >>= g) ≡ l (a.0, (a.1, q))) → ((x >>= f) >>= g) ≡ (r >>= l)
unfolding ◌>>=◌
then_kept (ok a) q f g l e h = rw e (h a)
then_kept (refuse number place) q f g l e h = rw e

module _ (s : List ℕ) (L : Limits) (levels : ℕ) where
  pub run_expr_read : (p : ℕ) (naming : Naming) (h : Place) (st : AnalysisStack) {x : Expr} {q : ℕ} → expr_at s levels any_expression p ≡ ok (x, q) → run_expr s L levels p naming h st ≡ and_place q (analyze L x naming h st)
  unfolding run_expr and_place
  run_expr_read p naming h st e = bind_fine _ e

  pub run_item_read : (p : ℕ) (h : Place) (st : AnalysisStack) {x : Expr} {q : ℕ} → item_at s levels p ≡ ok (x, q) → run_item s L levels p h st ≡ and_place q (analyze L x unnamed h st)
  unfolding run_item and_place
  run_item_read p h st e = bind_fine _ e

  pub run_items_read : (n p : ℕ) (h : Place) (st : AnalysisStack) {x : Exprs} {q : ℕ} → items_at s levels n p ≡ ok (x, q) → run_items s L levels n p h st ≡ and_place q (analyze_all L x h st)
  unfolding run_items and_place
  run_items_read n p h st e = bind_fine _ e

  pub run_assertions_read : (n p : ℕ) (h : Place) (st : AnalysisStack) {x : Exprs} {q : ℕ} → items_at s levels n p ≡ ok (x, q) → run_assertions s L levels n p h st ≡ and_place q (analyze_assertions L x h st)
  unfolding run_assertions and_place
  run_assertions_read n p h st e = bind_fine _ e

  pub run_heads_read : (n p : ℕ) (h : Place) (st : AnalysisStack) {x : Heads} {q : ℕ} → heads_at s levels n p ≡ ok (x, q) → run_heads s L levels n p h st ≡ and_place q (analyze_heads L x h st)
  unfolding run_heads and_place
  run_heads_read n p h st e = bind_fine _ e

  pub run_values_read : (n heads p : ℕ) (h : Place) (st : AnalysisStack) {hs : Heads} {x : Exprs} {q : ℕ} → values_at s levels n heads p ≡ ok ((hs, x), q)
      → run_values s L levels n heads p h st ≡ and_place q (analyze_values L x (head_namings hs) h st)
  unfolding run_values and_place
  run_values_read n heads p h st e = bind_fine _ e

  pub run_binds_read : (n p base kept : ℕ) (h : Place) (st : AnalysisStack) {x : Binds} {q : ℕ} → binds_at s levels n p ≡ ok (x, q)
      → run_binds s L levels n p base kept h st ≡ (analyze_binds L x base kept h st >>= λ a. ok (a.0, (a.1, q)))
  unfolding run_binds
  run_binds_read n p base kept h st e = bind_fine _ e

  pub run_params_read : (n p kept : ℕ) (h : Place) (st : AnalysisStack) {x : Params} {q : ℕ} → params_at s levels n p ≡ ok (x, q)
      → run_params s L levels n p kept h st ≡ (analyze_params L x kept h st >>= λ a. ok (a.0, (a.1, q)))
  unfolding run_params
  run_params_read n p kept h st e = bind_fine _ e

  pub run_define_binds_read : (n p depth : ℕ) (st : AnalysisStack) {x : Binds} {q : ℕ} → binds_at s levels n p ≡ ok (x, q) → run_define_binds s L levels n p depth st ≡ and_place q (define_binds L x depth st)
  unfolding run_define_binds and_place
  run_define_binds_read n p depth st e = bind_fine _ e

  pub run_define_params_read : (n p depth : ℕ) (st : AnalysisStack) {x : Params} {q : ℕ} → params_at s levels n p ≡ ok (x, q) → run_define_params s L levels n p depth st ≡ and_place q (define_params L x depth st)
  unfolding run_define_params and_place
  run_define_params_read n p depth st e = bind_fine _ e

-- Records with nothing below them

module _ (s : List ℕ) (levels p : ℕ) (a : Accepted (expr_at s levels any_expression p)) where
  identity_opened : code_at s p ≡ code ID → Opened s levels any_expression p ID an_identity
  unfolding rows row_of choose code
  identity_opened e = expr_known s levels any_expression p ID an_identity (rw e) a

  constant_opened : code_at s p ≡ code TV → Opened s levels any_expression p TV a_constant
  unfolding rows row_of choose code
  constant_opened e = expr_known s levels any_expression p TV a_constant (rw e) a

  variable_opened : code_at s p ≡ code VA → Opened s levels any_expression p VA a_variable
  unfolding rows row_of choose code
  variable_opened e = expr_known s levels any_expression p VA a_variable (rw e) a

  import_opened : code_at s p ≡ code IM → Opened s levels any_expression p IM an_import
  unfolding rows row_of choose code
  import_opened e = expr_known s levels any_expression p IM an_import (rw e) a

  pub identity_size : code_at s p ≡ code ID → p + 10 ≤ length s
  unfolding size_of numbers_of widths width fields
  identity_size e = (identity_opened e).stands.fits

  pub identity_kind : code_at s p ≡ code ID → number_at s (p + 2) < 3
  unfolding numbers_of widths width fields all_in_range in_range numbers_at
  identity_kind e = leb-true _ _ (both_passed (ltb (number_at s (p + 2)) 3) _ (identity_opened e).stands.judged).0

  pub constant_size : code_at s p ≡ code TV → p + 6 ≤ length s
  unfolding size_of numbers_of widths width fields
  constant_size e = (constant_opened e).stands.fits

  pub variable_size : code_at s p ≡ code VA → p + 10 ≤ length s
  unfolding size_of numbers_of widths width fields
  variable_size e = (variable_opened e).stands.fits

  pub import_size : code_at s p ≡ code IM → p + 18 ≤ length s
  unfolding size_of numbers_of widths width fields
  import_size e = (import_opened e).stands.fits

module _ (s : List ℕ) (L : Limits) (levels p : ℕ) (a : Accepted (expr_at s levels any_expression p)) where
  pub identity_run : code_at s p ≡ code ID → (naming : Naming) (h : Place) (st : AnalysisStack) → run_expr s L levels p naming h st ≡ identity_steps L s p h st
  unfolding run_expr identity_steps and_place below analyze ◌>>=◌ nth nth_span span_in size_of numbers_of widths width fields numbers_at
  identity_run e naming h st =
      let six : p + 2 + 4 ≡ p + 6 = omega arith in
      rw ((identity_opened s levels p a e).is, six)

  pub constant_run : code_at s p ≡ code TV → (naming : Naming) (h : Place) (st : AnalysisStack) → run_expr s L levels p naming h st ≡ copied L s TV p (p + 6) st
  unfolding run_expr copied and_place below analyze ◌>>=◌ nth nth_span span_in size_of numbers_of widths width fields numbers_at
  constant_run e naming h st = rw (constant_opened s levels p a e).is

  pub variable_run : code_at s p ≡ code VA → (naming : Naming) (h : Place) (st : AnalysisStack) → run_expr s L levels p naming h st ≡ variable_steps L s p h st
  unfolding run_expr variable_steps and_place below analyze ◌>>=◌ nth nth_span span_in size_of numbers_of widths width fields numbers_at
  variable_run e naming h st =
      let six : p + 2 + 4 ≡ p + 6 = omega arith in
      rw ((variable_opened s levels p a e).is, six)

  pub import_run : code_at s p ≡ code IM → (naming : Naming) (h : Place) (st : AnalysisStack) → run_expr s L levels p naming h st ≡ import_steps L s p st
  unfolding run_expr import_steps and_place below analyze ◌>>=◌ nth nth_span span_in size_of numbers_of widths width fields numbers_at
  import_run e naming h st =
      let six : p + 2 + 4 ≡ p + 6 = omega arith in
      let ten : p + 2 + 4 + 4 ≡ p + 10 = omega arith in
      let fourteen : p + 2 + 4 + 4 + 4 ≡ p + 14 = omega arith in
      rw ((import_opened s levels p a e).is, fourteen, ten, six)

-- Locals

record LocalRead (s : List ℕ) (levels p : ℕ) : Type 0 where
  binds : Binds
  after : ℕ
  body : Expr
  end : ℕ
  binds_read : binds_at s (levels - 1) (number_at s (p + 2)) (p + 6) ≡ ok (binds, after)
  body_read : expr_at s (levels - 1) any_expression after ≡ ok (body, end)
  whole : expr_at s levels any_expression p ≡ ok (local p binds body, end)

module _ (s : List ℕ) (levels p : ℕ) (a : Accepted (expr_at s levels any_expression p)) (e : code_at s p ≡ code LO) where
  local_opened : Opened s levels any_expression p LO a_local
  unfolding rows row_of choose code
  local_opened = expr_known s levels any_expression p LO a_local (rw e) a

  pub local_size : p + 6 ≤ length s
  unfolding size_of numbers_of widths width fields
  local_size = local_opened.stands.fits

  local_is : expr_at s levels any_expression p ≡ (binds_at s (levels - 1) (number_at s (p + 2)) (p + 6) >>= λ bs. expr_at s (levels - 1) any_expression bs.1 >>= λ b. ok (local p bs.0 b.0, b.1))
  unfolding binds_at below nth size_of numbers_of widths width fields numbers_at
  local_is = local_opened.is

  local_read : LocalRead s levels p
  local_read =
      let bs = bind_got (binds_at s (levels - 1) (number_at s (p + 2)) (p + 6)) _ (sym local_is ∙ a.there) in
      let b = bind_got (expr_at s (levels - 1) any_expression bs.middle.1) _ bs.second in
      record {
        binds = bs.middle.0;
        after = bs.middle.1;
        body = b.middle.0;
        end = b.middle.1;
        binds_read = bs.first;
        body_read = b.first;
        whole = a.there ∙ sym b.second;
      }

  pub local_binds : Accepted (binds_at s (levels - 1) (number_at s (p + 2)) (p + 6))
  local_binds = accepted local_read.binds_read

  pub local_body_at : {bs : Binds} {q : ℕ} → binds_at s (levels - 1) (number_at s (p + 2)) (p + 6) ≡ ok (bs, q) → Accepted (expr_at s (levels - 1) any_expression q)
  local_body_at {bs} {q} h =
      let same : local_read.after ≡ q = ap (λ (y : Binds × ℕ). y.1) (same_ok (sym local_read.binds_read ∙ h)) in
      subst (λ (q : ℕ). Accepted (expr_at s (levels - 1) any_expression q)) same (accepted local_read.body_read)

  no_binds_read : number_at s (p + 2) ≡ 0 → binds_at s (levels - 1) (number_at s (p + 2)) (p + 6) ≡ ok (no_binds, p + 6)
  unfolding binds_at many none_left
  no_binds_read z = rw z

  pub local_only_body : number_at s (p + 2) ≡ 0 → Accepted (expr_at s (levels - 1) any_expression (p + 6))
  local_only_body z = local_body_at (no_binds_read z)

some_binds : (s : List ℕ) (levels n p : ℕ) → 0 < n → After (λ x. is_empty x.0 ≡ false) (binds_at s levels n p)
unfolding binds_at many bind_item is_empty
some_binds s levels zero p lt = absurd (omega arith)
some_binds s levels (suc n) p lt =
    after_bind {P = λ i. (bs : Binds) → is_empty (i.0 bs) ≡ false} _ (after_bind _ (after_self _) λ r _. after_bind _ (after_self _) λ x _. fine (λ bs. refl))
    λ i put. after_bind _ (after_self _) λ x _. fine (put x.0)

module _ (s : List ℕ) (L : Limits) (levels p : ℕ) (a : Accepted (expr_at s levels any_expression p)) (e : code_at s p ≡ code LO) where
  -- "`LO` with no binds is its body"
  pub local_none : number_at s (p + 2) ≡ 0 → (naming : Naming) (h : Place) (st : AnalysisStack) → run_expr s L levels p naming h st ≡ run_expr s L (levels - 1) (p + 6) unnamed h st
  unfolding analyze is_empty choose
  local_none z naming h st =
      let b = local_only_body s levels p a e z in
      let w : expr_at s levels any_expression p ≡ ok (local p no_binds b.what.0, b.what.1) =
      local_is s levels p a e ∙ bind_fine _ (no_binds_read s levels p a e z) ∙ bind_fine _ b.there in
      run_expr_read s L levels p naming h st w ∙ sym (run_expr_read s L (levels - 1) (p + 6) unnamed h st b.there)

  pub local_run : 0 < number_at s (p + 2) → (naming : Naming) (h : Place) (st : AnalysisStack) → run_expr s L levels p naming h st ≡ local_steps L s (levels - 1) p h st
  unfolding analyze choose local_steps begun_local finished_local and_place
  local_run lt naming h st =
      let r = local_read s levels p a e in
      let k = levels - 1 in
      let n = number_at s (p + 2) in
      let some : is_empty r.binds ≡ false = after_ok (some_binds s k n (p + 6) lt) r.binds_read in
      run_expr_read s L levels p naming h st r.whole
      ∙ rw some (bind_both _ _ _ _ _ λ st₁.
      then_read _ r.after _ _ _ (run_define_binds_read s L k n (p + 6) h.depth st₁ r.binds_read) λ st₂.
      then_kept _ r.after _ _ _ (run_binds_read s L k n (p + 6) 0 0 h st₂ r.binds_read) λ kept.
      then_read _ r.end _ _ _ (run_expr_read s L k r.after unnamed (deeper h) _ r.body_read) λ st₃.
      bind_left _ _ _ _ λ st₄. refl)

-- Functions

record FunctionRead (s : List ℕ) (levels p : ℕ) : Type 0 where
  params : Params
  after : ℕ
  body : Expr
  end : ℕ
  params_read : params_at s (levels - 1) (number_at s (p + 6)) (p + 10) ≡ ok (params, after)
  body_read : expr_at s (levels - 1) any_expression after ≡ ok (body, end)
  whole : expr_at s levels any_expression p ≡ ok (function p (span_at s (p + 2)) params body, end)

-- what the bytes say of the first parameter is what was read
record FirstParam (s : List ℕ) (n p : ℕ) (ps : Params) : Type 0 where
  fits : 0 < n → p + 14 ≤ length s
  default : first_has_default ps ≡ first_defaults s n p

param_flag : (s : List ℕ) (p : ℕ) {r : Read (Unit {0})} → r ≡ seen_at s PA tt p → nth r 2 ≡ number_at s (p + 10)
unfolding nth numbers_of widths width fields numbers_at
param_flag s p e =
    let ten : p + 2 + 4 + 4 ≡ p + 10 = omega arith in
    ap (λ r. nth r 2) e ∙ ap (number_at s) ten

first_param : (s : List ℕ) (levels n p : ℕ) → After (λ x. FirstParam s n p x.0) (params_at s levels n p)
unfolding params_at many none_left param_item first_defaults first_has_default size_of numbers_of widths width fields
first_param s levels zero p = fine (record { fits = λ lt. absurd (omega arith); default = refl })
first_param s levels (suc n) p =
    after_bind {P = λ i. (ps : Params) → FirstParam s (suc n) p (i.0 ps)} _
    (after_bind _ (only_found s PA p) λ r found. after_choose (is_set (nth r 2)) _ _
    (λ t. after_bind _ (after_self _) λ x _. fine (λ ps. record { fits = λ _. found.0.fits; default = sym t ∙ ap is_set (param_flag s p found.1) }))
    (λ t. fine (λ ps. record { fits = λ _. found.0.fits; default = sym t ∙ ap is_set (param_flag s p found.1) })))
    λ i put. after_bind _ (after_self _) λ x _. fine (put x.0)

pub params_first_default : (s : List ℕ) (levels n p : ℕ) {ps : Params} {q : ℕ} → params_at s levels n p ≡ ok (ps, q) → first_has_default ps ≡ first_defaults s n p
params_first_default s levels n p h = (after_ok (first_param s levels n p) h).default

module _ (s : List ℕ) (levels p : ℕ) (a : Accepted (expr_at s levels any_expression p)) (e : code_at s p ≡ code FN) where
  function_opened : Opened s levels any_expression p FN a_function
  unfolding rows row_of choose code
  function_opened = expr_known s levels any_expression p FN a_function (rw e) a

  pub function_size : p + 10 ≤ length s
  unfolding size_of numbers_of widths width fields
  function_size = function_opened.stands.fits

  function_is : expr_at s levels any_expression p
      ≡ (params_at s (levels - 1) (number_at s (p + 6)) (p + 10) >>= λ ps. expr_at s (levels - 1) any_expression ps.1 >>= λ b. ok (function p (span_at s (p + 2)) ps.0 b.0, b.1))
  unfolding params_at below nth nth_span span_in size_of numbers_of widths width fields numbers_at
  function_is = let six : p + 2 + 4 ≡ p + 6 = omega arith in rw six at function_opened.is

  function_read : FunctionRead s levels p
  function_read =
      let ps = bind_got (params_at s (levels - 1) (number_at s (p + 6)) (p + 10)) _ (sym function_is ∙ a.there) in
      let b = bind_got (expr_at s (levels - 1) any_expression ps.middle.1) _ ps.second in
      record {
        params = ps.middle.0;
        after = ps.middle.1;
        body = b.middle.0;
        end = b.middle.1;
        params_read = ps.first;
        body_read = b.first;
        whole = a.there ∙ sym b.second;
      }

  pub function_params : Accepted (params_at s (levels - 1) (number_at s (p + 6)) (p + 10))
  function_params = accepted function_read.params_read

  -- the flag of the first parameter is there
  pub function_first_size : 0 < number_at s (p + 6) → p + 24 ≤ length s
  function_first_size lt = let f = (after_ok (first_param s (levels - 1) (number_at s (p + 6)) (p + 10)) function_read.params_read).fits lt in omega arith

  pub function_body_at : {ps : Params} {q : ℕ} → params_at s (levels - 1) (number_at s (p + 6)) (p + 10) ≡ ok (ps, q) → Accepted (expr_at s (levels - 1) any_expression q)
  function_body_at {ps} {q} h =
      let same : function_read.after ≡ q = ap (λ (y : Params × ℕ). y.1) (same_ok (sym function_read.params_read ∙ h)) in
      subst (λ (q : ℕ). Accepted (expr_at s (levels - 1) any_expression q)) same (accepted function_read.body_read)

module _ (s : List ℕ) (L : Limits) (levels p : ℕ) (a : Accepted (expr_at s levels any_expression p)) (e : code_at s p ≡ code FN) where
  pub function_run : (naming : Naming) (h : Place) (st : AnalysisStack) → run_expr s L levels p naming h st ≡ function_steps L s (levels - 1) p naming h st
  unfolding analyze function_steps begun_function finished_function and_place is_identity gives_argument
  function_run naming h st =
      let r = function_read s levels p a e in
      let k = levels - 1 in
      let n = number_at s (p + 6) in
      let first : first_has_default r.params ≡ first_defaults s n (p + 10) = params_first_default s k n (p + 10) r.params_read in
      run_expr_read s L levels p naming h st r.whole
      ∙ rw first (bind_both _ _ _ _ _ λ st₁.
      then_read _ r.after _ _ _ (run_define_params_read s L k n (p + 10) h.depth st₁ r.params_read) λ st₂.
      then_kept _ r.after _ _ _ (run_params_read s L k n (p + 10) 0 h st₂ r.params_read) λ kept.
      then_read _ r.end _ _ _ (run_expr_read s L k r.after unnamed (deeper h) _ r.body_read) λ st₃.
      bind_left _ _ _ _ λ st₄. refl)

-- Children

-- where an expression may stand no holder does
no_holders : unfold rows in Every (λ (r : Mark × Form). row_of (code r.0) holders ≡ none) (rows any_expression)
unfolding rows row_of holders choose code
no_holders = (refl, (refl, (refl, (refl, (refl, (refl, (refl, (refl, (refl, (refl, (refl, (refl, (refl, (refl, (refl, (refl, (refl, tt)))))))))))))))))

pub no_holder : (c : ℕ) {r : Mark × Form} → row_of c (rows any_expression) ≡ some r → row_of c holders ≡ none
unfolding rows
no_holder c {r} e =
    let f = row_found (λ (r : Mark × Form). row_of (code r.0) holders ≡ none) c (rows any_expression) r no_holders e in
    ap (λ (c : ℕ). row_of c holders) f.0 ∙ f.1

pub item_plain : (s : List ℕ) (levels p : ℕ) → row_of (code_at s p) holders ≡ none → item_at s levels p ≡ expr_at s levels any_expression p
unfolding item_at given
item_plain s levels p e = rw e

item_held : (s : List ℕ) (levels p : ℕ) {r : Mark × Child} → row_of (code_at s p) holders ≡ some r → item_at s levels p ≡ child_at s (expr_at s levels) r.1 p
unfolding item_at given
item_held s levels p e = rw e

named_row : (c : ℕ) → c ≡ code NA → row_of c holders ≡ some (NA, argument)
unfolding row_of holders choose code
named_row c e = rw e

part_row : (c : ℕ) → c ≡ code PT → row_of c holders ≡ some (PT, index_part)
unfolding row_of holders choose code
part_row c e = rw e

assertion_row : (c : ℕ) → c ≡ code AT → row_of c holders ≡ some (AT, assertion)
unfolding row_of holders choose code
assertion_row c e = rw e

pub items_none : (s : List ℕ) (levels p : ℕ) → items_at s levels 0 p ≡ ok (no_exprs, p)
unfolding items_at many none_left
items_none s levels p = refl

pub items_next : (s : List ℕ) (levels n p : ℕ) {x : Expr × ℕ} {y : Exprs × ℕ} → item_at s levels p ≡ ok x → items_at s levels n x.1 ≡ ok y → items_at s levels (suc n) p ≡ ok (x.0 then y.0, y.1)
unfolding items_at many expr_item
items_next s levels n p {x} {y} h k =
    bind_fine _ (bind_fine _ h) ∙ bind_fine _ k

-- a child that is read is an item
abbrev Item : List ℕ → ℕ → Child → Type 0
Item s levels c = (p : ℕ) → After (λ x. item_at s levels p ≡ ok x) (child_at s (expr_at s levels) c p)

level_item : (s : List ℕ) (levels : ℕ) (a : Allowed) → Item s levels (level a)
unfolding child_at
level_item s levels a p = after_weaken (after_self (expr_at s levels a p)) λ x h.
    let any = expr_any s levels a p h in
    item_plain s levels p (no_holder (code_at s p) (expr_opened s levels any_expression p (accepted any)).opened.listed) ∙ any

holder_code : (s : List ℕ) (levels : ℕ) (m : Mark) (n : List ℕ → ℕ) (p : ℕ) → After (λ _. code_at s p ≡ code m) (holder_at s (expr_at s levels) m n p)
unfolding holder_at
holder_code s levels m n p = after_bind _ (only_found s m p) λ r found. after_bind _ (after_self _) λ _ _. fine found.0.marked

argument_item : (s : List ℕ) (levels : ℕ) → Item s levels argument
unfolding argument child_at
argument_item s levels p = after_weaken (after_self (child_at s (expr_at s levels) argument p)) λ x h.
    item_held s levels p (named_row (code_at s p) (after_ok (holder_code s levels NA (λ _. 1) p) h)) ∙ h

part_item : (s : List ℕ) (levels : ℕ) → Item s levels index_part
unfolding index_part child_at
part_item s levels p = after_weaken (after_self (child_at s (expr_at s levels) index_part p)) λ x h.
    item_held s levels p (part_row (code_at s p) (after_ok (holder_code s levels PT (λ _. 1) p) h)) ∙ h

assertion_item : (s : List ℕ) (levels : ℕ) → Item s levels assertion
unfolding assertion child_at
assertion_item s levels p = after_weaken (after_self (child_at s (expr_at s levels) assertion p)) λ x h.
    item_held s levels p (assertion_row (code_at s p) (after_ok (holder_code s levels AT (λ ns. 1 + get_or ns 0 0) p) h)) ∙ h

many_items : (s : List ℕ) (levels k : ℕ) (read : ℕ → Outcome (Expr × ℕ)) (rest : ℕ → Outcome (Exprs × ℕ)) → ((p : ℕ) → After (λ x. item_at s levels p ≡ ok x) (read p))
    → ((p : ℕ) → After (λ x. items_at s levels k p ≡ ok x) (rest p)) → (n p : ℕ) → After (λ x. items_at s levels (n + k) p ≡ ok x) (many (expr_item s (expr_at s levels) read) rest n p)
unfolding expr_item
many_items s levels k read rest one last n p =
    after_many (λ (n p : ℕ) (es : Exprs) (q : ℕ). items_at s levels (n + k) p ≡ ok (es, q)) (expr_item s (expr_at s levels) read) rest
    (λ p. after_bind _ (one p) λ x h. fine (λ n others r later. more n p h later))
    (λ p. after_weaken (last p) λ x h. none p h) n p
  where
    more : (n p : ℕ) {x : Expr × ℕ} {y : Exprs × ℕ} → item_at s levels p ≡ ok x → items_at s levels (n + k) x.1 ≡ ok y → items_at s levels (suc n + k) p ≡ ok (x.0 then y.0, y.1)
    more n p h later = let e : suc n + k ≡ suc (n + k) = omega arith in ap (λ (n : ℕ). items_at s levels n p) e ∙ items_next s levels (n + k) p h later

    none : (p : ℕ) {y : Exprs × ℕ} → items_at s levels k p ≡ ok y → items_at s levels (0 + k) p ≡ ok y
    none p h = let e : 0 + k ≡ k = omega arith in ap (λ (n : ℕ). items_at s levels n p) e ∙ h

groups_items : (s : List ℕ) (levels : ℕ) (gs : Groups) → All (λ g. Item s levels g.1) gs → (p : ℕ) → After (λ x. items_at s levels (total gs) p ≡ ok x) (groups_at s (expr_at s levels) gs p)
unfolding groups_at none_left
groups_items s levels [] all p = fine (items_none s levels p)
groups_items s levels (g ∷ gs) (here also later) p = many_items s levels (total gs) (child_at s (expr_at s levels) g.1) (groups_at s (expr_at s levels) gs) here (groups_items s levels gs later) g.0 p

-- n expressions
exprs_items : (s : List ℕ) (levels n p : ℕ) → After (λ x. items_at s levels n p ≡ ok x) (many (expr_item s (expr_at s levels) (expr_at s levels any_expression)) (none_left no_exprs) n p)
unfolding none_left child_at
exprs_items s levels n p =
    after_weaken (many_items s levels 0 (expr_at s levels any_expression) (none_left no_exprs) (level_item s levels any_expression) (λ p. fine (items_none s levels p)) n p) λ x h.
    ap (λ (n : ℕ). items_at s levels n p) (sym (add-zero n)) ∙ h

pub items_count : (s : List ℕ) (levels n p : ℕ) {es : Exprs} {q : ℕ} → items_at s levels n p ≡ ok (es, q) → count_exprs es ≡ n
unfolding items_at expr_item count_exprs none_left
items_count s levels n p h =
    after_ok (after_many (λ (n p : ℕ) (es : Exprs) (q : ℕ). count_exprs es ≡ n) _ (none_left no_exprs)
    (λ p. after_bind _ (after_self _) λ x _. fine (λ n others r later. ap (λ (n : ℕ). suc n) later))
    (λ p. fine refl) n p) h

-- Records that open no frame

-- the groups of a row are as many as the mark's children, and each is of items
record PlainRow (s : List ℕ) (levels : ℕ) (r : Mark × Form) : Type 0 where
  groups : List ℕ → Groups
  form : r.1 ≡ parts groups
  sum : (ns : List ℕ) → total (groups ns) ≡ children r.0 ns
  items : (ns : List ℕ) → All (λ (g : ℕ × Child). Item s levels g.1) (groups ns)

last_group : (a b : ℕ) → a + (b + 0) ≡ a + b
last_group a b = omega arith

record PlainRead (s : List ℕ) (levels p : ℕ) (m : Mark) : Type 0 where
  stands : Stands s m p
  items : Exprs
  end : ℕ
  items_read : items_at s (levels - 1) (children m (numbers_at s (numbers_of m) (p + 2))) (p + size_of m) ≡ ok (items, end)
  whole : expr_at s levels any_expression p ≡ ok (plain p m (numbers_at s (numbers_of m) (p + 2)) items, end)

module _ (s : List ℕ) (levels p : ℕ) (a : Accepted (expr_at s levels any_expression p))
    (no_id : code_at s p ≡ code ID → ⊥) (no_tv : code_at s p ≡ code TV → ⊥) (no_va : code_at s p ≡ code VA → ⊥) (no_ar : code_at s p ≡ code AR → ⊥)
    (no_im : code_at s p ≡ code IM → ⊥) (no_lo : code_at s p ≡ code LO → ⊥) (no_fn : code_at s p ≡ code FN → ⊥) (no_ob : code_at s p ≡ code OB → ⊥) where
  plain_rows : (levels : ℕ) → unfold rows in Every (λ (r : Mark × Form). code_at s p ≡ code r.0 → PlainRow s levels r) (rows any_expression)
  unfolding rows children expressions
  plain_rows levels = (
    (λ e. absurd (no_id e)),
    (
      (λ e. absurd (no_tv e)),
      (
        (λ e. absurd (no_va e)),
        (
          (λ e. absurd (no_ar e)),
          (
            (λ _. record { groups = λ ns. (1, level any_expression) ∷ (1, level object_only) ∷ []; form = refl; sum = λ ns. refl; items = λ ns. level_item s levels any_expression also level_item s levels object_only also all_none }),
            (
              (λ _. record { groups = λ ns. expressions (1); form = refl; sum = λ ns. add-zero (1); items = λ ns. level_item s levels any_expression also all_none }),
              (
                (λ _. record { groups = λ ns. expressions (2); form = refl; sum = λ ns. add-zero (2); items = λ ns. level_item s levels any_expression also all_none }),
                (
                  (λ _. record { groups = λ ns. expressions (2 + get_or ns 0 0); form = refl; sum = λ ns. add-zero (2 + get_or ns 0 0); items = λ ns. level_item s levels any_expression also all_none }),
                  (
                    (λ e. absurd (no_lo e)),
                    (
                      (λ _. record { groups = λ ns. expressions (1); form = refl; sum = λ ns. add-zero (1); items = λ ns. level_item s levels any_expression also all_none }),
                      (
                        (λ e. absurd (no_im e)),
                        (
                          (λ _. record { groups = λ ns. (1 + get_or ns 0 0, level any_expression) ∷ (get_or ns 1 0, argument) ∷ []; form = refl; sum = λ ns. last_group (1 + get_or ns 0 0) (get_or ns 1 0); items = λ ns. level_item s levels any_expression also argument_item s levels also all_none }),
                          (
                            (λ _. record { groups = λ ns. (1, level any_expression) ∷ (get_or ns 0 0, index_part) ∷ []; form = refl; sum = λ ns. last_group 1 (get_or ns 0 0); items = λ ns. level_item s levels any_expression also part_item s levels also all_none }),
                            (
                              (λ e. absurd (no_fn e)),
                              (
                                (λ _. record { groups = λ ns. expressions (2 + get_or ns 0 0); form = refl; sum = λ ns. add-zero (2 + get_or ns 0 0); items = λ ns. level_item s levels any_expression also all_none }),
                                (
                                  (λ _. record { groups = λ ns. expressions (1 + members (get_or ns 0 0)); form = refl; sum = λ ns. add-zero (1 + members (get_or ns 0 0)); items = λ ns. level_item s levels any_expression also all_none }),
                                  ((λ e. absurd (no_ob e)), tt),
                                ),
                              ),
                            ),
                          ),
                        ),
                      ),
                    ),
                  ),
                ),
              ),
            ),
          ),
        ),
      ),
    ),
  )

  plain_row : (levels : ℕ) {r : Mark × Form} → row_of (code_at s p) (rows any_expression) ≡ some r → PlainRow s levels r
  unfolding rows
  plain_row levels {r} e =
      let f = row_found (λ (r : Mark × Form). code_at s p ≡ code r.0 → PlainRow s levels r) (code_at s p) (rows any_expression) r (plain_rows levels) e in
      f.1 f.0

  plain_read_as : (m : Mark) (form : Form) → Opened s levels any_expression p m form → PlainRead s levels p m
  unfolding below
  plain_read_as m form o =
      let ns = numbers_at s (numbers_of m) (p + 2) in
      let row = plain_row (levels - 1) o.listed in
      let is : expr_at s levels any_expression p ≡ (groups_at s (expr_at s (levels - 1)) (row.groups ns) (p + size_of m) >>= λ es. ok (plain p m ns es.0, es.1)) =
      o.is ∙ ap (λ (f : Form). below s (expr_at s (levels - 1)) f (seen_at s m form p) p) row.form in
      let es = bind_got (groups_at s (expr_at s (levels - 1)) (row.groups ns) (p + size_of m)) _ (sym is ∙ a.there) in
      record {
        stands = o.stands;
        items = es.middle.0;
        end = es.middle.1;
        items_read = ap (λ (n : ℕ). items_at s (levels - 1) n (p + size_of m)) (sym (row.sum ns)) ∙ after_ok (groups_items s (levels - 1) (row.groups ns) (row.items ns) (p + size_of m)) es.first;
        whole = a.there ∙ sym es.second;
      }

  plain_read : PlainRead s levels p (mark_of (code_at s p))
  plain_read =
      let o = expr_opened s levels any_expression p a in
      let r = plain_read_as o.mark o.form o.opened in
      subst (λ (m : Mark). PlainRead s levels p m) (sym (ap mark_of o.opened.stands.marked ∙ mark_code o.mark)) r

  pub plain_code : code_at s p ≡ code (mark_of (code_at s p))
  plain_code = plain_read.stands.marked

  pub plain_size : p + size_of (mark_of (code_at s p)) ≤ length s
  plain_size = plain_read.stands.fits

  pub plain_items : Accepted (items_at s (levels - 1) (children (mark_of (code_at s p)) (numbers_at s (numbers_of (mark_of (code_at s p))) (p + 2))) (p + size_of (mark_of (code_at s p))))
  plain_items = accepted plain_read.items_read

module _ (s : List ℕ) (L : Limits) (levels p : ℕ) (a : Accepted (expr_at s levels any_expression p))
    (no_id : code_at s p ≡ code ID → ⊥) (no_tv : code_at s p ≡ code TV → ⊥) (no_va : code_at s p ≡ code VA → ⊥) (no_ar : code_at s p ≡ code AR → ⊥)
    (no_im : code_at s p ≡ code IM → ⊥) (no_lo : code_at s p ≡ code LO → ⊥) (no_fn : code_at s p ≡ code FN → ⊥) (no_ob : code_at s p ≡ code OB → ⊥) where
  pub plain_run : (naming : Naming) (h : Place) (st : AnalysisStack) → run_expr s L levels p naming h st
      ≡ plain_steps L s (mark_of (code_at s p)) (levels - 1) (children (mark_of (code_at s p)) (numbers_at s (numbers_of (mark_of (code_at s p))) (p + 2))) (p + size_of (mark_of (code_at s p))) p h st
  unfolding analyze plain_steps copied and_place
  plain_run naming h st =
      let r = plain_read s levels p a no_id no_tv no_va no_ar no_im no_lo no_fn no_ob in
      run_expr_read s L levels p naming h st r.whole
      ∙ then_read _ r.end _ _ _ (run_items_read s L (levels - 1) _ _ h st r.items_read) λ st. refl

-- Records that hold expressions and count for no level

pub data Holder (c : ℕ) : Type 0 where
  an_argument : c ≡ code NA → Holder c
  a_part : c ≡ code PT → Holder c
  an_assertion : c ≡ code AT → Holder c

pub record HolderRead (s : List ℕ) (levels p : ℕ) (m : Mark) : Type 0 where
  pub stands : Stands s m p
  pub items : Exprs
  pub end : ℕ
  pub exprs_read : many (expr_item s (expr_at s levels) (expr_at s levels any_expression)) (none_left no_exprs) (children m (numbers_at s (numbers_of m) (p + 2))) (p + size_of m) ≡ ok (items, end)
  pub items_read : items_at s levels (children m (numbers_at s (numbers_of m) (p + 2))) (p + size_of m) ≡ ok (items, end)
  pub whole : item_at s levels p ≡ ok (plain p m (numbers_at s (numbers_of m) (p + 2)) items, end)

holder_read_as : (s : List ℕ) (levels p : ℕ) (m : Mark) (n : List ℕ → ℕ) → ((ns : List ℕ) → children m ns ≡ n ns) → item_at s levels p ≡ holder_at s (expr_at s levels) m n p
    → Accepted (item_at s levels p) → HolderRead s levels p m
unfolding holder_at
holder_read_as s levels p m n same is a =
    let ns = numbers_at s (numbers_of m) (p + 2) in
    let r = bind_got (record_at s (only m) p) _ (sym is ∙ a.there) in
    let found = after_ok (only_found s m p) r.first in
    let read : (many (expr_item s (expr_at s levels) (expr_at s levels any_expression)) (none_left no_exprs) (n ns) (p + size_of m) >>= λ es. ok (plain p m ns es.0, es.1)) ≡ ok a.what =
    subst (λ (r : Read (Unit {0})). (many (expr_item s (expr_at s levels) (expr_at s levels any_expression)) (none_left no_exprs) (n r.numbers) r.next >>= λ es. ok (plain p m r.numbers es.0, es.1)) ≡ ok a.what) found.1 r.second in
    let es = bind_got (many (expr_item s (expr_at s levels) (expr_at s levels any_expression)) (none_left no_exprs) (n ns) (p + size_of m)) _ read in
    record {
      stands = found.0;
      items = es.middle.0;
      end = es.middle.1;
      exprs_read = ap (λ (n : ℕ). many (expr_item s (expr_at s levels) (expr_at s levels any_expression)) (none_left no_exprs) n (p + size_of m)) (same ns) ∙ es.first;
      items_read = ap (λ (n : ℕ). items_at s levels n (p + size_of m)) (same ns) ∙ after_ok (exprs_items s levels (n ns) (p + size_of m)) es.first;
      whole = a.there ∙ sym es.second;
    }

holder_read_is : (s : List ℕ) (levels p : ℕ) (m : Mark) → code_at s p ≡ code m → HolderRead s levels p m → HolderRead s levels p (mark_of (code_at s p))
holder_read_is s levels p m e r = subst (λ (m : Mark). HolderRead s levels p m) (sym (ap mark_of e ∙ mark_code m)) r

module _ (s : List ℕ) (levels p : ℕ) (a : Accepted (item_at s levels p)) where
  pub holder_read : Holder (code_at s p) → HolderRead s levels p (mark_of (code_at s p))
  unfolding argument index_part assertion child_at children
  holder_read (an_argument e) = holder_read_is s levels p NA e (holder_read_as s levels p NA (λ ns. 1) (λ ns. refl) (item_held s levels p (named_row (code_at s p) e)) a)
  holder_read (a_part e) = holder_read_is s levels p PT e (holder_read_as s levels p PT (λ ns. 1) (λ ns. refl) (item_held s levels p (part_row (code_at s p) e)) a)
  holder_read (an_assertion e) = holder_read_is s levels p AT e (holder_read_as s levels p AT (λ ns. 1 + get_or ns 0 0) (λ ns. refl) (item_held s levels p (assertion_row (code_at s p) e)) a)

  module _ (no_na : code_at s p ≡ code NA → ⊥) (no_pt : code_at s p ≡ code PT → ⊥) (no_at : code_at s p ≡ code AT → ⊥) where
    no_row : row_of (code_at s p) holders ≡ none
    unfolding row_of holders choose
    no_row = rw (ne_eqb (code_at s p) (code NA) no_na, ne_eqb (code_at s p) (code PT) no_pt, ne_eqb (code_at s p) (code AT) no_at)

    pub item_is_expr : item_at s levels p ≡ expr_at s levels any_expression p
    item_is_expr = item_plain s levels p no_row

    pub item_expr : Accepted (expr_at s levels any_expression p)
    item_expr = record { what = a.what; there = sym item_is_expr ∙ a.there }

module _ (s : List ℕ) (L : Limits) (levels p : ℕ) (a : Accepted (item_at s levels p)) where
  pub holder_run : Holder (code_at s p) → (h : Place) (st : AnalysisStack) → run_item s L levels p h st
      ≡ plain_steps L s (mark_of (code_at s p)) levels (children (mark_of (code_at s p)) (numbers_at s (numbers_of (mark_of (code_at s p))) (p + 2))) (p + size_of (mark_of (code_at s p))) p h st
  unfolding analyze plain_steps copied and_place
  holder_run e h st =
      let r = holder_read s levels p a e in
      run_item_read s L levels p h st r.whole
      ∙ then_read _ r.end _ _ _ (run_items_read s L levels _ _ h st r.items_read) λ st. refl

  pub item_run : (code_at s p ≡ code NA → ⊥) → (code_at s p ≡ code PT → ⊥) → (code_at s p ≡ code AT → ⊥) → (h : Place) (st : AnalysisStack) → run_item s L levels p h st ≡ run_expr s L levels p unnamed h st
  unfolding run_item run_expr
  item_run no_na no_pt no_at h st = rw (item_is_expr s levels p a no_na no_pt no_at)

-- Arrays

record Constants (s : List ℕ) (n p : ℕ) (vs : List ℕ) : Type 0 where
  are : vs ≡ values_from s n p
  count : length vs ≡ n
  fits : p ≤ length s → p + 6 * n ≤ length s

constant_fits : (s : List ℕ) (p : ℕ) → constant_at s p ≡ true → p + 6 ≤ length s
unfolding constant_at
constant_fits s p e = leb-true _ _ (both_passed (leb (p + 6) (length s)) _ e).0

constants_next : (s : List ℕ) (n p : ℕ) → p + 6 ≤ length s → (o : Option (List ℕ)) → Held (Constants s n (p + 6)) o → Held (Constants s (suc n) p) (front (number_at s (p + 2)) o)
unfolding front values_from
constants_next s n p h none _ = nothing
constants_next s n p h (some vs) (there c) = there (record {
  are = ap (λ (vs : List ℕ). number_at s (p + 2) ∷ vs) c.are;
  count = ap (λ (n : ℕ). suc n) c.count;
  fits = λ le. let f = c.fits h in omega arith;
})

constants_held : (s : List ℕ) (n p : ℕ) → Held (Constants s n p) (constants_at s n p)
unfolding constants_at values_from
constants_held s zero p = there (record { are = refl; count = refl; fits = λ le. omega arith })
constants_held s (suc n) p =
    chosen (Held (Constants s (suc n) p)) (constant_at s p) _ _ (λ t. constants_next s n p (constant_fits s p t) (constants_at s n (p + 6)) (constants_held s n (p + 6))) (λ _. nothing)

record Some {A : Type 0} (o : Option A) : Type 0 where
  what : A
  is : o ≡ some what

is_some_true : {A : Type 0} (o : Option A) → is_some o ≡ true → Some o
unfolding is_some
is_some_true none e = absurd (false≢true e)
is_some_true (some a) e = record { what = a; is = refl }

is_some_false : {A : Type 0} (o : Option A) → is_some o ≡ false → o ≡ none
unfolding is_some
is_some_false none e = refl
is_some_false (some a) e = absurd (false≢true (sym e))

pub values_count : (s : List ℕ) (n p : ℕ) → length (values_from s n p) ≡ n
unfolding values_from
values_count s zero p = refl
values_count s (suc n) p = ap (λ (n : ℕ). suc n) (values_count s n (p + 6))

record ArrayRead (s : List ℕ) (levels p : ℕ) : Type 0 where
  items : Exprs
  end : ℕ
  items_read : items_at s (levels - 1) (number_at s (p + 2)) (p + 6) ≡ ok (items, end)
  whole : expr_at s levels any_expression p ≡ ok (array p items, end)

module _ (s : List ℕ) (levels p : ℕ) (a : Accepted (expr_at s levels any_expression p)) (e : code_at s p ≡ code AR) where
  array_opened : Opened s levels any_expression p AR an_array
  unfolding rows row_of choose code
  array_opened = expr_known s levels any_expression p AR an_array (rw e) a

  pub array_size : p + 6 ≤ length s
  unfolding size_of numbers_of widths width fields
  array_size = array_opened.stands.fits

  array_is : expr_at s levels any_expression p
      ≡ given (constants_at s (number_at s (p + 2)) (p + 6))
      (λ _. groups_at s (expr_at s (levels - 1)) (expressions (number_at s (p + 2))) (p + 6) >>= λ es. ok (array p es.0, es.1))
      (λ vs. ok (constants p vs, p + 6 + 6 * number_at s (p + 2)))
  unfolding below nth size_of numbers_of widths width fields numbers_at
  array_is = array_opened.is

  module _ (c : is_some (constants_at s (number_at s (p + 2)) (p + 6)) ≡ true) where
    pub constants_size : p + 6 + 6 * number_at s (p + 2) ≤ length s
    constants_size =
        let vs = is_some_true (constants_at s (number_at s (p + 2)) (p + 6)) c in
        (held_some (constants_held s (number_at s (p + 2)) (p + 6)) vs.is).fits array_size

  module _ (c : is_some (constants_at s (number_at s (p + 2)) (p + 6)) ≡ false) where
    array_read : ArrayRead s levels p
    unfolding expressions
    array_read =
        let k = levels - 1 in
        let n = number_at s (p + 2) in
        let is : expr_at s levels any_expression p ≡ (groups_at s (expr_at s k) (expressions n) (p + 6) >>= λ es. ok (array p es.0, es.1)) =
        array_is ∙ given_none _ _ (is_some_false (constants_at s n (p + 6)) c) in
        let es = bind_got (groups_at s (expr_at s k) (expressions n) (p + 6)) _ (sym is ∙ a.there) in
        record {
          items = es.middle.0;
          end = es.middle.1;
          items_read = ap (λ (n : ℕ). items_at s k n (p + 6)) (sym (add-zero n)) ∙ after_ok (groups_items s k (expressions n) (level_item s k any_expression also all_none) (p + 6)) es.first;
          whole = a.there ∙ sym es.second;
        }

    pub array_items : Accepted (items_at s (levels - 1) (number_at s (p + 2)) (p + 6))
    array_items = accepted array_read.items_read

module _ (s : List ℕ) (L : Limits) (levels p : ℕ) (a : Accepted (expr_at s levels any_expression p)) (e : code_at s p ≡ code AR) where
  pub constants_run : is_some (constants_at s (number_at s (p + 2)) (p + 6)) ≡ true → (naming : Naming) (h : Place) (st : AnalysisStack)
      → run_expr s L levels p naming h st ≡ constants_steps L s (number_at s (p + 2)) p st
  unfolding analyze constants_steps
  constants_run c naming h st =
      let vs = is_some_true (constants_at s (number_at s (p + 2)) (p + 6)) c in
      let known = held_some (constants_held s (number_at s (p + 2)) (p + 6)) vs.is in
      let w : expr_at s levels any_expression p ≡ ok (constants p vs.what, p + 6 + 6 * number_at s (p + 2)) = array_is s levels p a e ∙ given_some _ _ vs.is in
      run_expr_read s L levels p naming h st w ∙ rw (known.count, known.are)

  pub array_run : is_some (constants_at s (number_at s (p + 2)) (p + 6)) ≡ false → (naming : Naming) (h : Place) (st : AnalysisStack)
      → run_expr s L levels p naming h st ≡ array_steps L s (levels - 1) p h st
  unfolding analyze array_steps closed_array and_place
  array_run c naming h st =
      let r = array_read s levels p a e c in
      let k = levels - 1 in
      let n = number_at s (p + 2) in
      run_expr_read s L levels p naming h st r.whole
      ∙ rw (items_count s k n (p + 6) r.items_read) (bind_left _ _ _ _ λ st₁.
      then_read _ r.end _ _ _ (run_items_read s L k n (p + 6) h st₁ r.items_read) λ st₂.
      bind_left _ _ _ _ λ st₃. refl)

-- Objects

-- the values of fields are as many as their heads, and each is an item

value_items : (s : List ℕ) (levels : ℕ) (hs : Heads) → All (λ (g : ℕ × Child). Item s levels g.1) (value_groups hs)
unfolding value_groups
value_items s levels no_heads = all_none
value_items s levels (fixed place h hs) = level_item s levels _ also value_items s levels hs
value_items s levels (computed place h name hs) = level_item s levels _ also value_items s levels hs

value_count : (s : List ℕ) (levels n p : ℕ) → After (λ x. total (value_groups x.0) ≡ n) (heads_at s levels n p)
unfolding heads_at head_item none_left value_groups
value_count s levels n p =
    after_many (λ (n p : ℕ) (hs : Heads) (q : ℕ). total (value_groups hs) ≡ n) (head_item s (expr_at s levels)) (none_left no_heads)
    (λ p. after_bind _ (after_self _) λ r _. after_choose _ _ _
    (λ _. after_bind _ (after_self _) λ x _. fine (λ n others r later. more n later))
    (λ _. fine (λ n others r later. more n later)))
    (λ p. fine refl) n p
  where
    more : (n : ℕ) {k : ℕ} → k ≡ n → 1 + k ≡ suc n
    more n e = omega arith

record ObjectRead (s : List ℕ) (levels p : ℕ) : Type 0 where
  heads : Heads
  binds : Binds
  assertions : Exprs
  values : Exprs
  heads_end : ℕ
  binds_end : ℕ
  assertions_end : ℕ
  end : ℕ
  heads_read : heads_at s (levels - 1) (number_at s (p + 10)) (p + 14) ≡ ok (heads, heads_end)
  binds_read : binds_at s (levels - 1) (number_at s (p + 2)) heads_end ≡ ok (binds, binds_end)
  assertions_read : items_at s (levels - 1) (number_at s (p + 6)) binds_end ≡ ok (assertions, assertions_end)
  values_read : values_at s (levels - 1) (number_at s (p + 10)) (p + 14) assertions_end ≡ ok ((heads, values), end)
  assertions_count : count_exprs assertions ≡ number_at s (p + 6)
  values_count : count_exprs values ≡ number_at s (p + 10)
  whole : expr_at s levels any_expression p ≡ ok (object p heads binds assertions values, end)

module _ (s : List ℕ) (levels p : ℕ) (a : Accepted (expr_at s levels any_expression p)) (e : code_at s p ≡ code OB) where
  object_opened : Opened s levels any_expression p OB an_object
  unfolding rows row_of choose code
  object_opened = expr_known s levels any_expression p OB an_object (rw e) a

  pub object_size : p + 14 ≤ length s
  unfolding size_of numbers_of widths width fields
  object_size = object_opened.stands.fits

  object_is : expr_at s levels any_expression p
      ≡ (heads_at s (levels - 1) (number_at s (p + 10)) (p + 14) >>= λ hs.
      binds_at s (levels - 1) (number_at s (p + 2)) hs.1 >>= λ bs.
      groups_at s (expr_at s (levels - 1)) ((number_at s (p + 6), assertion) ∷ []) bs.1 >>= λ ts.
      groups_at s (expr_at s (levels - 1)) (value_groups hs.0) ts.1 >>= λ vs.
      ok (object p hs.0 bs.0 ts.0 vs.0, vs.1))
  unfolding heads_at binds_at below nth size_of numbers_of widths width fields numbers_at
  object_is =
      let six : p + 2 + 4 ≡ p + 6 = omega arith in
      let ten : p + 2 + 4 + 4 ≡ p + 10 = omega arith in
      rw (ten, six) at object_opened.is

  object_read : ObjectRead s levels p
  unfolding values_at
  object_read =
      let k = levels - 1 in
      let hs = bind_got (heads_at s k (number_at s (p + 10)) (p + 14)) _ (sym object_is ∙ a.there) in
      let bs = bind_got (binds_at s k (number_at s (p + 2)) hs.middle.1) _ hs.second in
      let ts = bind_got (groups_at s (expr_at s k) ((number_at s (p + 6), assertion) ∷ []) bs.middle.1) _ bs.second in
      let vs = bind_got (groups_at s (expr_at s k) (value_groups hs.middle.0) ts.middle.1) _ ts.second in
      let told : items_at s k (number_at s (p + 6)) bs.middle.1 ≡ ok ts.middle =
      ap (λ (n : ℕ). items_at s k n bs.middle.1) (sym (add-zero (number_at s (p + 6))))
      ∙ after_ok (groups_items s k ((number_at s (p + 6), assertion) ∷ []) (assertion_item s k also all_none) bs.middle.1) ts.first in
      let valued : items_at s k (total (value_groups hs.middle.0)) ts.middle.1 ≡ ok vs.middle =
      after_ok (groups_items s k (value_groups hs.middle.0) (value_items s k hs.middle.0) ts.middle.1) vs.first in
      record {
        heads = hs.middle.0;
        binds = bs.middle.0;
        assertions = ts.middle.0;
        values = vs.middle.0;
        heads_end = hs.middle.1;
        binds_end = bs.middle.1;
        assertions_end = ts.middle.1;
        end = vs.middle.1;
        heads_read = hs.first;
        binds_read = bs.first;
        assertions_read = told;
        values_read = bind_fine _ hs.first ∙ bind_fine _ vs.first;
        assertions_count = items_count s k (number_at s (p + 6)) bs.middle.1 told;
        values_count = items_count s k (total (value_groups hs.middle.0)) ts.middle.1 valued ∙ after_ok (value_count s k (number_at s (p + 10)) (p + 14)) hs.first;
        whole = a.there ∙ sym vs.second;
      }

  pub object_heads : Accepted (heads_at s (levels - 1) (number_at s (p + 10)) (p + 14))
  object_heads = accepted object_read.heads_read

  pub object_binds_at : {hs : Heads} {q₁ : ℕ} → heads_at s (levels - 1) (number_at s (p + 10)) (p + 14) ≡ ok (hs, q₁) → Accepted (binds_at s (levels - 1) (number_at s (p + 2)) q₁)
  object_binds_at {q₁ = q₁} h =
      let same : object_read.heads_end ≡ q₁ = ap (λ (y : Heads × ℕ). y.1) (same_ok (sym object_read.heads_read ∙ h)) in
      subst (λ (q : ℕ). Accepted (binds_at s (levels - 1) (number_at s (p + 2)) q)) same (accepted object_read.binds_read)

  pub object_assertions_at : {hs : Heads} {bs : Binds} {q₁ q₂ : ℕ} → heads_at s (levels - 1) (number_at s (p + 10)) (p + 14) ≡ ok (hs, q₁)
      → binds_at s (levels - 1) (number_at s (p + 2)) q₁ ≡ ok (bs, q₂) → Accepted (items_at s (levels - 1) (number_at s (p + 6)) q₂)
  object_assertions_at {q₁ = q₁} {q₂ = q₂} h k =
      let one : object_read.heads_end ≡ q₁ = ap (λ (y : Heads × ℕ). y.1) (same_ok (sym object_read.heads_read ∙ h)) in
      let two : object_read.binds_end ≡ q₂ = ap (λ (y : Binds × ℕ). y.1)
      (same_ok (sym object_read.binds_read ∙ ap (λ (q : ℕ). binds_at s (levels - 1) (number_at s (p + 2)) q) one ∙ k)) in
      subst (λ (q : ℕ). Accepted (items_at s (levels - 1) (number_at s (p + 6)) q)) two (accepted object_read.assertions_read)

  pub object_values_at : {hs : Heads} {bs : Binds} {ts : Exprs} {q₁ q₂ q₃ : ℕ} → heads_at s (levels - 1) (number_at s (p + 10)) (p + 14) ≡ ok (hs, q₁)
      → binds_at s (levels - 1) (number_at s (p + 2)) q₁ ≡ ok (bs, q₂) → items_at s (levels - 1) (number_at s (p + 6)) q₂ ≡ ok (ts, q₃)
      → Accepted (values_at s (levels - 1) (number_at s (p + 10)) (p + 14) q₃)
  object_values_at {q₁ = q₁} {q₂ = q₂} {q₃ = q₃} h k l =
      let one : object_read.heads_end ≡ q₁ = ap (λ (y : Heads × ℕ). y.1) (same_ok (sym object_read.heads_read ∙ h)) in
      let two : object_read.binds_end ≡ q₂ = ap (λ (y : Binds × ℕ). y.1)
      (same_ok (sym object_read.binds_read ∙ ap (λ (q : ℕ). binds_at s (levels - 1) (number_at s (p + 2)) q) one ∙ k)) in
      let three : object_read.assertions_end ≡ q₃ = ap (λ (y : Exprs × ℕ). y.1)
      (same_ok (sym object_read.assertions_read ∙ ap (λ (q : ℕ). items_at s (levels - 1) (number_at s (p + 6)) q) two ∙ l)) in
      subst (λ (q : ℕ). Accepted (values_at s (levels - 1) (number_at s (p + 10)) (p + 14) q)) three (accepted object_read.values_read)

-- the same by what was run

module _ (s : List ℕ) (L : Limits) (levels p : ℕ) (a : Accepted (expr_at s levels any_expression p)) (e : code_at s p ≡ code OB) where
  module _ (h₁ : Place) (st₁ : AnalysisStack) {st₁' : AnalysisStack} {q₁ : ℕ} (heads : run_heads s L (levels - 1) (number_at s (p + 10)) (p + 14) h₁ st₁ ≡ ok (st₁', q₁)) where
    heads_ended : heads_at s (levels - 1) (number_at s (p + 10)) (p + 14) ≡ ok ((object_heads s levels p a e).what.0, q₁)
    heads_ended = ended (object_heads s levels p a e) (heads_end s L (levels - 1) (number_at s (p + 10)) (p + 14) h₁ st₁ heads (object_heads s levels p a e))

    pub object_binds : Accepted (binds_at s (levels - 1) (number_at s (p + 2)) q₁)
    object_binds = object_binds_at s levels p a e heads_ended

    module _ (base kept : ℕ) (h₂ : Place) (st₂ : AnalysisStack) {k : ℕ} {st₂' : AnalysisStack} {q₂ : ℕ}
        (binds : run_binds s L (levels - 1) (number_at s (p + 2)) q₁ base kept h₂ st₂ ≡ ok (k, (st₂', q₂))) where
      binds_ended : binds_at s (levels - 1) (number_at s (p + 2)) q₁ ≡ ok (object_binds.what.0, q₂)
      binds_ended = ended object_binds (binds_end s L (levels - 1) (number_at s (p + 2)) q₁ base kept h₂ st₂ binds object_binds)

      pub object_assertions : Accepted (items_at s (levels - 1) (number_at s (p + 6)) q₂)
      object_assertions = object_assertions_at s levels p a e heads_ended binds_ended

      pub object_values : (h₃ : Place) (st₃ : AnalysisStack) {st₃' : AnalysisStack} {q₃ : ℕ} → run_assertions s L (levels - 1) (number_at s (p + 6)) q₂ h₃ st₃ ≡ ok (st₃', q₃)
          → Accepted (values_at s (levels - 1) (number_at s (p + 10)) (p + 14) q₃)
      object_values h₃ st₃ told =
          object_values_at s levels p a e heads_ended binds_ended
          (ended object_assertions (assertions_end s L (levels - 1) (number_at s (p + 6)) q₂ h₃ st₃ told object_assertions))

  pub object_run : (hs : Accepted (heads_at s (levels - 1) (number_at s (p + 10)) (p + 14))) (naming : Naming) (h : Place) (st : AnalysisStack)
      → run_expr s L levels p naming h st ≡ object_steps L s (is_static [] hs.what.0) (levels - 1) p h st
  unfolding analyze object_steps begun_object finished_object and_place object_numbers object_record in_object
  object_run hs naming h st =
      let r = object_read s levels p a e in
      let k = levels - 1 in
      let l = number_at s (p + 2) in
      let t = number_at s (p + 6) in
      let f = number_at s (p + 10) in
      let same : hs.what.0 ≡ r.heads = ap (λ (y : Heads × ℕ). y.0) (accepted_what hs r.heads_read) in
      run_expr_read s L levels p naming h st r.whole
      ∙ rw (r.assertions_count, r.values_count, same)
      (then_read _ r.heads_end _ _ _ (run_heads_read s L k f (p + 14) h st r.heads_read) λ st₁.
      bind_both _ _ _ _ _ λ st₂.
      bind_both _ _ _ _ _ λ st₃.
      then_read _ r.binds_end _ _ _ (run_define_binds_read s L k l r.heads_end h.depth st₃ r.binds_read) λ st₄.
      then_kept _ r.binds_end _ _ _ (run_binds_read s L k l r.heads_end 1 0 _ st₄ r.binds_read) λ kept.
      then_read _ r.assertions_end _ _ _ (run_assertions_read s L k t r.binds_end _ _ r.assertions_read) λ st₅.
      then_read _ r.end _ _ _ (run_values_read s L k f (p + 14) r.assertions_end _ st₅ r.values_read) λ st₆.
      bind_left _ _ _ _ λ st₇. refl)
