-- What stands where while a local, a function or an object is walked, and that the state is ready for it. Assumes nothing.
use Prim.Native.Nat.{ℕ, ◌+◌, ◌-◌, ◌<◌, ◌≤◌}
use native.Mathlib.Omega.{arith}
use mathlib.Core.Bool.{Bool}
use mathlib.Core.List.{List}
use mathlib.Core.Path.{◌≡◌, refl, sym, ◌∙◌, ap, subst}
use lib.ListN.{length, take, drop}
use Rattle.rules.specs.Outcome.{ok}
use Rattle.rules.specs.Numbers.{Mark, number_at, numbers_at, code, code_at, AR, LO, FN, OB}
use Rattle.rules.specs.Records.{size_of, numbers_of}
use Rattle.rules.specs.FirstWalk.{any_expression, expr_at}
use Rattle.rules.specs.State as rules
use Rattle.rules.specs.Settling.{propagate_analysis}
use Rattle.rules.specs.Scoping.{settle_frame}
use Rattle.rules.specs.Walk as walk
use Rattle.rules.proofs.After.{after_ok}
use Rattle.rules.proofs.Outcomes.{bind_got}
use Rattle.bytes_records.specs.Marks.{mark_of, children}
use Rattle.bytes_records.proofs.Laws.{numbers_part}
use Rattle.law_runs.specs.Run.{Accepted, run_expr, run_assertions, run_heads, run_binds, run_params, items_at, binds_at, params_at, heads_at, values_at}
use Rattle.law_runs.specs.Steps.{begun_local, begun_function, begun_object}
use Rattle.law_runs.proofs.Reading.{expr_level, expr_within}
use Rattle.law_runs.proofs.Expressions.{plain_code, plain_size, plain_items, array_size, local_size, local_binds, local_body_at, function_size, function_params, function_body_at, object_size, object_heads, object_binds_at, object_assertions_at, object_values_at, expr_end, assertions_end, heads_end, binds_end, params_end}
use Rattle.law_runs.proofs.Lists as lists
use Rattle.law_steady.proofs.Places.{passed_expr}
use Rattle.state.specs.Seen.{Buffers, stack, Fit}
use Rattle.state.specs.Walks.{place_of, Walks, WalksSpecs, Becomes}
use Rattle.state.specs.declared.AnalysisStack.{AnalysisStack}
use Rattle.state.specs.declared.Limits.{Limits}
use Rattle.state.specs.declared.Place.{Place}
use Rattle.step_judge.specs.Answers.{Settleable}
use Rattle.step_static.specs.Answers.{IsStatic}
use Rattle.law_runs.proofs.Holders.{held_first, held_marked, held_second, held_size, held_sized}
use Rattle.law_joins.proofs.Returns.{the_holder}
use Rattle.law_joins.specs.Ready.{Ready, There, PlainThere, MembersThere, FieldsThere, HeldThere, fields_steps, static_of}
use Rattle.law_joins.proofs.Joining.{went, went_fit, kept_on}
use Rattle.law_joins.proofs.Readiness.{begun_local_alike, begun_function_alike, begun_object_alike}
use Rattle.law_joins.proofs.Onward.{Framed, ready_expr, ready_local, ready_function, ready_object, framed_binds, framed_params, ready_settled, kept_before, passed_fields}
use Rattle.law_joins.proofs.Readiness as readiness
use Rattle.law_joins.proofs.Asking.{settleable, references_counted}
use Rattle.std.specs.Prelude.{Ok}
use Rattle.state.specs.Seen.{Walked, Specs}

-- the place after a walk is inside the bytes
pub expr_behind : (s : List ℕ) (nest p : ℕ) (ν : walk.Naming) (h : walk.Place) → Accepted (expr_at s nest any_expression p) → {l : Limits} {b b₁ : Buffers} {st st₁ : AnalysisStack} {r : Walked} {q : ℕ}
    → Walks r l b b₁ st (λ L σ. run_expr s L nest p ν h σ) → r ≡ Ok (st₁, q) → q ≤ length s
expr_behind s nest p ν h a {b = b} {st = st} w e =
    subst (λ (q : ℕ). q ≤ length s) (expr_end s _ nest p ν h (stack b st) (went w e _ refl) a) (expr_within s nest any_expression p a.there).1

-- What stands there

-- limits where none matter
abbrev pub no_limits : rules.Limits
no_limits = record { locals = 0; frames = 0; captures = 0; references = 0; out = 0; diagnostics = 0 }

module _ {s : List ℕ} {nest p : ℕ} where
  -- a level is left for it
  pub level : {m : Mark} → There s nest m p → 0 < nest
  level a = expr_level s nest any_expression p a.read

  pub plain_level : {mark : ℕ} → PlainThere s nest mark p → 0 < nest
  plain_level a = expr_level s nest any_expression p a.read

  -- its bytes are there
  pub array_fits : There s nest AR p → p + 6 ≤ length s
  array_fits a = array_size s nest p a.read a.marked

  pub local_fits : There s nest LO p → p + 6 ≤ length s
  local_fits a = local_size s nest p a.read a.marked

  pub function_fits : There s nest FN p → p + 10 ≤ length s
  function_fits a = function_size s nest p a.read a.marked

  pub object_fits : There s nest OB p → p + 14 ≤ length s
  object_fits a = object_size s nest p a.read a.marked

  module _ {mark : ℕ} (a : HeldThere s nest mark p) where
    pub held_fits : p + 6 ≤ length s
    held_fits = held_size s no_limits nest p a.read mark a.marked (the_holder a.holder)

    pub held_whole : (p + size_of (mark_of mark) ≤ length s) × (code_at s p ≡ code (mark_of mark))
    held_whole =
        (rw (held_sized s no_limits nest p a.read mark a.marked (the_holder a.holder)) held_fits, held_marked s no_limits nest p a.read mark a.marked (the_holder a.holder))

    pub held_first_there : Accepted (expr_at s nest any_expression (p + 6))
    held_first_there = held_first s no_limits nest p a.read mark a.marked (the_holder a.holder)

-- how many records stand below one, told from the bytes that begin with it
pub children_here : (s : List ℕ) (mark p : ℕ) {n : ℕ} → n ≡ children (mark_of mark) (numbers_at (take (length s - p) (drop p s)) (numbers_of (mark_of mark)) 2) → n ≡ children (mark_of mark) (numbers_at s (numbers_of (mark_of mark)) (p + 2))
children_here s mark p e = e ∙ ap (children (mark_of mark)) (numbers_part s p (numbers_of (mark_of mark)) 2)

-- a plain record's children
pub plain_children : {s : List ℕ} {nest mark p n size : ℕ} → PlainThere s nest mark p → n ≡ children (mark_of mark) (numbers_at s (numbers_of (mark_of mark)) (p + 2)) → size ≡ size_of (mark_of mark) → Accepted (items_at s (nest - 1) n (p + size))
plain_children {s = s} {nest = nest} {mark = mark} {p = p} {size = size} a en es =
    subst (λ (k : ℕ). Accepted (items_at s (nest - 1) k (p + size))) (sym en) (subst (λ (k : ℕ). Accepted (items_at s (nest - 1) (children (mark_of mark) (numbers_at s (numbers_of (mark_of mark)) (p + 2))) (p + k))) (sym es)
    (subst (λ (c : ℕ). Accepted (items_at s (nest - 1) (children (mark_of c) (numbers_at s (numbers_of (mark_of c)) (p + 2))) (p + size_of (mark_of c)))) a.marked
    (plain_items s nest p a.read (λ e. a.not_identity (sym a.marked ∙ e)) (λ e. a.not_constant (sym a.marked ∙ e)) (λ e. a.not_variable (sym a.marked ∙ e)) (λ e. a.not_array (sym a.marked ∙ e))
    (λ e. a.not_import (sym a.marked ∙ e)) (λ e. a.not_local (sym a.marked ∙ e)) (λ e. a.not_function (sym a.marked ∙ e)) (λ e. a.not_object (sym a.marked ∙ e)))))

pub plain_fits : {s : List ℕ} {nest mark p : ℕ} → PlainThere s nest mark p → p + size_of (mark_of mark) ≤ length s
plain_fits {s = s} {nest = nest} {p = p} a = subst (λ (c : ℕ). p + size_of (mark_of c) ≤ length s) a.marked
    (plain_size s nest p a.read (λ e. a.not_identity (sym a.marked ∙ e)) (λ e. a.not_constant (sym a.marked ∙ e)) (λ e. a.not_variable (sym a.marked ∙ e)) (λ e. a.not_array (sym a.marked ∙ e))
    (λ e. a.not_import (sym a.marked ∙ e)) (λ e. a.not_local (sym a.marked ∙ e)) (λ e. a.not_function (sym a.marked ∙ e)) (λ e. a.not_object (sym a.marked ∙ e)))

pub plain_marked : {s : List ℕ} {nest mark p : ℕ} → PlainThere s nest mark p → code_at s p ≡ code (mark_of mark)
plain_marked {s = s} {nest = nest} {p = p} a = subst (λ (c : ℕ). code_at s p ≡ code (mark_of c)) a.marked
    (plain_code s nest p a.read (λ e. a.not_identity (sym a.marked ∙ e)) (λ e. a.not_constant (sym a.marked ∙ e)) (λ e. a.not_variable (sym a.marked ∙ e)) (λ e. a.not_array (sym a.marked ∙ e))
    (λ e. a.not_import (sym a.marked ∙ e)) (λ e. a.not_local (sym a.marked ∙ e)) (λ e. a.not_function (sym a.marked ∙ e)) (λ e. a.not_object (sym a.marked ∙ e)))

-- the stages of a frame that its body follows
pub record Stage (l : Limits) (s : List ℕ) (nest : ℕ) (h : Place) (n kept q before : ℕ) (b : Buffers) (st : AnalysisStack) : Type 0 where
  pub framed : Framed l s nest h n kept q before b st
  pub inside : q ≤ length s
  pub few : kept ≤ length s
  pub body : Accepted (expr_at s (nest - 1) any_expression q)

pub stage_settleable : {l : Limits} {s : List ℕ} {nest : ℕ} {h : Place} {n kept q before : ℕ} {b : Buffers} {st : AnalysisStack} → Stage l s nest h n kept q before b st → Settleable b.locals b.references st kept before
stage_settleable g = settleable g.framed.ready g.inside g.framed.before_there g.few

module _ {l : Limits} {s : List ℕ} {nest : ℕ} {h : Place} {n kept q before : ℕ} {b₂ b₃ : Buffers} {st₂ st₃ : AnalysisStack} (g : Stage l s nest h n kept q before b₂ st₂) (settled : Becomes st₃ l b₂ b₃ st₂ (settle_frame propagate_analysis kept before))
    (h' : Place) (level : 0 < nest) (same : place_of h' ≡ walk.deeper (place_of h)) (depth : h'.depth ≡ h.depth + 1) where
  pub stage_body : Ready l b₃ st₃ s q (nest - 1) h'
  stage_body = ready_settled g.framed settled level same depth

  -- after the body: what the end of the frame asks
  pub stage_ends : (ν : walk.Naming) {b₄ : Buffers} {st₄ : AnalysisStack} {r : Walked} {q' : ℕ} → Walks r l b₃ b₄ st₃ (λ L σ. run_expr s L (nest - 1) q ν (place_of h') σ) → r ≡ Ok (st₄, q') → Settleable b₄.locals b₄.references st₄ kept before × Fit l b₄ st₄
  stage_ends ν w e =
      let k = ready_expr stage_body (nest - 1) ν (place_of h') w e in
      (settleable k (expr_behind s (nest - 1) q ν (place_of h') g.body w e) (kept_before g.framed settled (after_ok (passed_expr s _ (nest - 1) q ν (place_of h') (stack b₃ st₃)) (went w e _ refl))) g.few, k.fit)

-- `LO`
module _ {l : Limits} {s : List ℕ} {nest p : ℕ} {h : Place} {b : Buffers} {st : AnalysisStack} (r : Ready l b st s p nest h) (a : There s nest LO p) {n : ℕ} (en : n ≡ number_at s (p + 2)) where
  local_binds_read : Accepted (binds_at s (nest - 1) n (p + 6))
  local_binds_read = subst (λ (k : ℕ). Accepted (binds_at s (nest - 1) k (p + 6))) (sym en) (local_binds s nest p a.read a.marked)

  pub local_binds_there : Accepted (binds_at s (nest - 1) n (p + 6))
  local_binds_there = local_binds_read

  pub local_stage : {b₁ b₂ : Buffers} {st₁ st₂ : AnalysisStack} {r₁ : Walked} {r₂ : Specs} {q₁ q kept : ℕ} → Walks r₁ l b b₁ st (λ L σ. begun_local L s (nest - 1) n p h.depth σ) → r₁ ≡ Ok (st₁, q₁)
      → WalksSpecs r₂ l b₁ b₂ st₁ (λ L σ. run_binds s L (nest - 1) n (p + 6) 0 0 (place_of h) σ) → r₂ ≡ Ok (st₂, q, kept) → Stage l s nest h n kept q st.references b₂ st₂
  local_stage {b₁ = b₁} {st₁ = st₁} begun e₁ binds e₂ =
      let f = framed_binds (ready_local (nest - 1) n h.depth r begun e₁) (omega arith) (sym (references_counted b st) ∙ sym (ap length (begun_local_alike s _ (nest - 1) n p h.depth (went begun e₁ _ refl)).same_references)) (nest - 1) 0 binds e₂ in
      let end = binds_end s _ (nest - 1) n (p + 6) 0 0 (place_of h) (stack b₁ st₁) (kept_on binds e₂ _ refl) local_binds_read in
      record {
        framed = f;
        inside = subst (λ (q : ℕ). q ≤ length s) end (lists.binds_end s (nest - 1) n (p + 6) local_binds_read.there (local_size s nest p a.read a.marked)).1;
        few = omega (arith, f.specs.few, lists.binds_short s (nest - 1) n (p + 6) local_binds_read);
        body = subst (λ (q : ℕ). Accepted (expr_at s (nest - 1) any_expression q)) end (local_body_at s nest p a.read a.marked (subst (λ (k : ℕ). binds_at s (nest - 1) k (p + 6) ≡ ok local_binds_read.what) en local_binds_read.there));
      }

-- `FN`
module _ {l : Limits} {s : List ℕ} {nest p : ℕ} {h : Place} {b : Buffers} {st : AnalysisStack} (r : Ready l b st s p nest h) (a : There s nest FN p) {n : ℕ} (en : n ≡ number_at s (p + 6)) where
  pub function_params_there : Accepted (params_at s (nest - 1) n (p + 10))
  function_params_there = subst (λ (k : ℕ). Accepted (params_at s (nest - 1) k (p + 10))) (sym en) (function_params s nest p a.read a.marked)

  pub function_stage : {b₁ b₂ : Buffers} {st₁ st₂ : AnalysisStack} {r₁ : Walked} {r₂ : Specs} {q₁ q kept : ℕ} → Walks r₁ l b b₁ st (λ L σ. begun_function L s (nest - 1) n p h.depth σ) → r₁ ≡ Ok (st₁, q₁)
      → WalksSpecs r₂ l b₁ b₂ st₁ (λ L σ. run_params s L (nest - 1) n (p + 10) 0 (place_of h) σ) → r₂ ≡ Ok (st₂, q, kept) → Stage l s nest h n kept q st.references b₂ st₂
  function_stage {b₁ = b₁} {st₁ = st₁} begun e₁ params e₂ =
      let f = framed_params (ready_function (nest - 1) n h.depth r begun e₁) (omega arith) (sym (references_counted b st) ∙ sym (ap length (begun_function_alike s _ (nest - 1) n p h.depth (went begun e₁ _ refl)).same_references)) (nest - 1) params e₂ in
      let end = params_end s _ (nest - 1) n (p + 10) 0 (place_of h) (stack b₁ st₁) (kept_on params e₂ _ refl) function_params_there in
      record {
        framed = f;
        inside = subst (λ (q : ℕ). q ≤ length s) end (lists.params_end s (nest - 1) n (p + 10) function_params_there.there (function_size s nest p a.read a.marked)).1;
        few = omega (arith, f.specs.few, lists.params_short s (nest - 1) n (p + 10) function_params_there);
        body = subst (λ (q : ℕ). Accepted (expr_at s (nest - 1) any_expression q)) end (function_body_at s nest p a.read a.marked (subst (λ (k : ℕ). params_at s (nest - 1) k (p + 10) ≡ ok function_params_there.what) en function_params_there.there));
      }

-- `OB`
module _ {s : List ℕ} {nest p : ℕ} (a : There s nest OB p) where
  pub object_heads_there : {f : ℕ} → f ≡ number_at s (p + 10) → Accepted (heads_at s (nest - 1) f (p + 14))
  object_heads_there ef = subst (λ (k : ℕ). Accepted (heads_at s (nest - 1) k (p + 14))) (sym ef) (object_heads s nest p a.read a.marked)

  -- after the heads
  pub object_members : {f : ℕ} → f ≡ number_at s (p + 10) → {l : Limits} {b b₁ : Buffers} {st st₁ : AnalysisStack} (h : walk.Place) {r : Walked} {q : ℕ} → Walks r l b b₁ st (λ L σ. run_heads s L (nest - 1) f (p + 14) h σ) → r ≡ Ok (st₁, q) → MembersThere s nest q p
  unfolding object_heads_there
  object_members {f = f} ef {b = b} {st = st} h w e =
      let hs = object_heads s nest p a.read a.marked in
      let end = heads_end s _ (nest - 1) f (p + 14) h (stack b st) (went w e _ refl) (object_heads_there ef) in
      record {
        there = a;
        heads = hs.what.0;
        behind = hs.there ∙ ap (λ (q : ℕ). ok (hs.what.0, q)) end;
      }

-- what stands after the heads of the object at p, from `binds` on
module _ {l : Limits} {s : List ℕ} {nest p binds : ℕ} {h : Place} {b : Buffers} {st : AnalysisStack} (r : Ready l b st s (binds - 14) nest h) (m : MembersThere s nest binds p) {n : ℕ} (en : n ≡ number_at s (p + 2)) where
  pub members_behind : (p + 14 ≤ binds) × (binds ≤ length s)
  members_behind =
      let k = lists.heads_within s (nest - 1) (number_at s (p + 10)) (p + 14) m.behind in
      (omega (arith, k.0), k.1 (object_size s nest p m.there.read m.there.marked))

  pub members_binds_there : Accepted (binds_at s (nest - 1) n binds)
  members_binds_there = subst (λ (k : ℕ). Accepted (binds_at s (nest - 1) k binds)) (sym en) (object_binds_at s nest p m.there.read m.there.marked m.behind)

  pub record MembersStage (i : Place) (kept q before : ℕ) (b₂ : Buffers) (st₂ : AnalysisStack) : Type 0 where
    pub framed : Framed l s nest i n kept q before b₂ st₂
    pub inside : q ≤ length s
    pub few : kept ≤ length s
    pub fields : FieldsThere s (nest - 1) p q

  pub members_stage : (i : Place) {b₁ b₂ : Buffers} {st₁ st₂ : AnalysisStack} {r₁ : Walked} {r₂ : Specs} {q₁ q kept : ℕ} → place_of i ≡ walk.in_object (length (stack b st).locals) (place_of h) → i.depth ≡ h.depth
      → Walks r₁ l b b₁ st (λ L σ. begun_object L s (nest - 1) n p binds (place_of h) σ) → r₁ ≡ Ok (st₁, q₁)
      → WalksSpecs r₂ l b₁ b₂ st₁ (λ L σ. run_binds s L (nest - 1) n binds 1 0 (place_of i) σ) → r₂ ≡ Ok (st₂, q, kept) → MembersStage i kept q st.references b₂ st₂
  members_stage i {b₁ = b₁} {st₁ = st₁} {q = q} ei ed begun e₁ specs e₂ =
      let f = framed_binds (ready_object (nest - 1) n p binds ei ed r begun e₁) (omega (arith, members_behind.0))
      (sym (references_counted b st) ∙ sym (ap length (begun_object_alike s _ (nest - 1) n p binds (place_of h) (went begun e₁ _ refl)).alike.same_references)) (nest - 1) 1 specs e₂ in
      let end = binds_end s _ (nest - 1) n binds 1 0 (place_of i) (stack b₁ st₁) (kept_on specs e₂ _ refl) members_binds_there in
      let read : binds_at s (nest - 1) n binds ≡ ok (members_binds_there.what.0, q) = members_binds_there.there ∙ ap (λ (q : ℕ). ok (members_binds_there.what.0, q)) end in
      let counted : binds_at s (nest - 1) (number_at s (p + 2)) binds ≡ ok (members_binds_there.what.0, q) = subst (λ (k : ℕ). binds_at s (nest - 1) k binds ≡ ok (members_binds_there.what.0, q)) en read in
      let ts = object_assertions_at s nest p m.there.read m.there.marked m.behind counted in
      record {
        framed = f;
        inside = (lists.binds_end s (nest - 1) n binds read members_behind.1).1;
        few = omega (arith, f.specs.few, lists.binds_short s (nest - 1) n binds members_binds_there);
        fields = record { fits = object_size s nest p m.there.read m.there.marked; inside = (lists.binds_end s (nest - 1) n binds read members_behind.1).1; assertions = ts; values = object_values_at s nest p m.there.read m.there.marked m.behind counted ts.there };
      }

-- the values after the assertions
module _ {s : List ℕ} {levels object p : ℕ} (g : FieldsThere s levels object p) {n : ℕ} (en : n ≡ number_at s (object + 6)) where
  pub fields_assertions : Accepted (items_at s levels n p)
  fields_assertions = subst (λ (k : ℕ). Accepted (items_at s levels k p)) (sym en) g.assertions

  pub fields_values : {f : ℕ} → f ≡ number_at s (object + 10) → {l : Limits} {b b₁ : Buffers} {st st₁ : AnalysisStack} (h : walk.Place) {r : Walked} {q : ℕ} → Walks r l b b₁ st (λ L σ. run_assertions s L levels n p h σ) → r ≡ Ok (st₁, q)
      → Accepted (values_at s levels f (object + 14) q)
  unfolding fields_assertions
  fields_values ef {b = b} {st = st} h {q = q} w e =
      let end = assertions_end s _ levels n p h (stack b st) (went w e _ refl) fields_assertions in
      subst (λ (k : ℕ). Accepted (values_at s levels k (object + 14) q)) (sym ef) (subst (λ (q : ℕ). Accepted (values_at s levels (number_at s (object + 10)) (object + 14) q)) end g.values)

-- the place after both is inside the bytes
pub fields_behind : {s : List ℕ} {levels object p : ℕ} → FieldsThere s levels object p → (h : walk.Place) {l : Limits} {b b₁ : Buffers} {st st₁ : AnalysisStack} {r : Walked} {q : ℕ} → Walks r l b b₁ st (λ L σ. fields_steps s L levels object p h σ) → r ≡ Ok (st₁, q) → q ≤ length s
unfolding fields_steps
fields_behind {s = s} {levels = levels} {object = object} {p = p} g h {b = b} {st = st} w e =
    let k = bind_got _ _ (went w e _ refl) in
    let ts = lists.assertions_ran s _ levels (number_at s (object + 6)) p h (stack b st) k.first in
    let vs = lists.values_ran s _ levels (number_at s (object + 10)) (object + 14) k.middle.1 h k.middle.0 k.second in
    (lists.values_end s levels (number_at s (object + 10)) (object + 14) k.middle.1 vs.1 (lists.items_end s levels (number_at s (object + 6)) p ts.1 g.inside).1).1

-- after assertions and values: what the end of the object asks
pub members_end_asks : {l : Limits} {s : List ℕ} {nest p binds : ℕ} {h : Place} {b : Buffers} {st : AnalysisStack} {r : Ready l b st s (binds - 14) nest h} {m : MembersThere s nest binds p} {n : ℕ} {en : n ≡ number_at s (p + 2)} {i : Place} {kept q before : ℕ}
    {b₂ b₃ b₄ : Buffers} {st₂ st₃ st₄ : AnalysisStack} (g : MembersStage r m en i kept q before b₂ st₂) (settled : Becomes st₃ l b₂ b₃ st₂ (settle_frame propagate_analysis kept before))
    (i' : Place) → 0 < nest → place_of i' ≡ walk.deeper (place_of i) → i'.depth ≡ i.depth + 1 → {w : Walked} {q' : ℕ} → Walks w l b₃ b₄ st₃ (λ L σ. fields_steps s L (nest - 1) p q (place_of i') σ) → w ≡ Ok (st₄, q')
    → Settleable b₄.locals b₄.references st₄ kept before × Fit l b₄ st₄
members_end_asks {s = s} {nest = nest} {p = p} {q = q} {b₃ = b₃} {st₃ = st₃} g settled i' level same depth w e =
    let passed = after_ok (passed_fields s _ (nest - 1) p q (place_of i') (stack b₃ st₃)) (went w e _ refl) in
    let k = readiness.ready_passed (ready_settled g.framed settled level same depth) passed (went_fit w e) in
    (settleable k (fields_behind g.fields (place_of i') w e) (kept_before g.framed settled passed) g.few, k.fit)

-- whether the object is static, as the code tells
pub static_told : {s : List ℕ} {nest binds p f : ℕ} {t : Bool} → MembersThere s nest binds p → f ≡ number_at s (p + 10) → IsStatic t s (p + 14) f → t ≡ static_of (heads_at s (nest - 1) (number_at s (p + 10)) (p + 14))
unfolding static_of
static_told {s = s} {nest = nest} {binds = binds} {p = p} m ef w = w.same (nest - 1) m.heads binds (subst (λ (k : ℕ). heads_at s (nest - 1) k (p + 14) ≡ ok (m.heads, binds)) (sym ef) m.behind) ∙ sym (ap static_of m.behind)

-- a holder's second expression
pub held_second_there : {s : List ℕ} {nest mark p : ℕ} (a : HeldThere s nest mark p) {n : ℕ} → n ≡ children (mark_of mark) (numbers_at s (numbers_of (mark_of mark)) (p + 2)) → (n ≡ 1 → ⊥) → (h : walk.Place) {l : Limits} {b b₁ : Buffers} {st st₁ : AnalysisStack} {r : Walked} {q : ℕ}
    → Walks r l b b₁ st (λ L σ. run_expr s L nest (p + 6) walk.unnamed h σ) → r ≡ Ok (st₁, q) → Accepted (expr_at s nest any_expression q)
held_second_there {s = s} {nest = nest} {mark = mark} {p = p} a en two h {b = b} {st = st} w e = held_second s _ nest p a.read mark a.marked (the_holder a.holder) (λ k. two (en ∙ k)) h (stack b st) (went w e _ refl)
