-- What a leaf's mark says: it holds nothing, it stands where an expression may, and a walk over it is that expression's. Assumes nothing.
use Prim.Native.Nat.{ℕ, ◌+◌, ◌*◌, ◌<◌, ◌≤◌}
use native.Mathlib.Omega.{arith}
use mathlib.Core.Bool.{Bool, true, false, ◌&&◌, ◌||◌, false≢true}
use mathlib.Core.List.{List}
use mathlib.Core.Option.{none}
use mathlib.Core.Path.{◌≡◌, refl, sym, ◌∙◌, ap}
use lib.ListN.{length}
use lib.Dec.{eqb}
use borrow.Author.Tests.{eqb-true, eqb-false, ne_eqb}
use Rattle.rules.specs.Outcome.{choose, given, ◌>>=◌}
use Rattle.rules.specs.Numbers.{code, code_at, number_at, ID, TV, VA, IM, NA, PT, AT}
use Rattle.rules.specs.FirstWalk.{any_expression, expr_at, expr_item, row_of, many, none_left}
use Rattle.rules.specs.Tree.{no_exprs, ◌then◌}
use Rattle.rules.specs.State as rules
use Rattle.rules.specs.Walk as walk
use Rattle.law_runs.specs.Run.{Accepted, holders, item_at, items_at, run_expr, run_items}
use Rattle.law_runs.specs.Steps.{and_place, copied, identity_steps, import_steps, variable_steps}
use Rattle.law_runs.proofs.Expressions.{identity_run, constant_run, variable_run, import_run, identity_size, identity_kind, variable_size, constant_size, import_size}
use Rattle.law_runs.proofs.Holders.{not_held, not_held_run}
use Rattle.state.specs.Seen.{Buffers}
use Rattle.state.specs.Walks.{Walks}
use Rattle.state.specs.declared.AnalysisStack.{AnalysisStack}
use Rattle.state.specs.declared.Limits.{Limits}
use Rattle.step_name.specs.Answers.{identity_step, variable_step, name_step}
use Rattle.law_joins.proofs.Joining.{walks_as}
use Rattle.law_joins.proofs.Returns.{constant_returns, identity_returns, import_returns, variable_returns}
use Rattle.step_leaf.specs.Leaves.{is_leaf, LeafThere, items_rank}
use Rattle.state.specs.Seen.{Walked}

-- Its mark

is_none_of : {c : ℕ} → is_leaf c ≡ true → {m : ℕ} → is_leaf m ≡ false → c ≡ m → ⊥
is_none_of e not_leaf h = false≢true (sym not_leaf ∙ sym (ap is_leaf h) ∙ e)

no_holder : {c : ℕ} → is_leaf c ≡ true → (c ≡ code NA → ⊥) × (c ≡ code PT → ⊥) × (c ≡ code AT → ⊥)
unfolding code is_leaf
no_holder e = (λ h. is_none_of e refl h, λ h. is_none_of e refl h, λ h. is_none_of e refl h)

import_left : {c : ℕ} → is_leaf c ≡ true → (c ≡ code ID → ⊥) → (c ≡ code TV → ⊥) → (c ≡ code VA → ⊥) → c ≡ code IM
unfolding is_leaf
import_left {c = c} e no_id no_tv no_va =
    eqb-true c (code IM) (sym (ap (λ (t : Bool). (t || eqb c (code TV)) || (eqb c (code VA) || eqb c (code IM))) (ne_eqb c (code ID) no_id)
    ∙ ap (λ (t : Bool). t || (eqb c (code VA) || eqb c (code IM))) (ne_eqb c (code TV) no_tv)
    ∙ ap (λ (t : Bool). t || eqb c (code IM)) (ne_eqb c (code VA) no_va)) ∙ e)

variable_left : {c : ℕ} → is_leaf c ≡ true → (c ≡ code TV → ⊥) → (c ≡ code IM → ⊥) → (c ≡ code ID → ⊥) → c ≡ code VA
variable_left {c = c} e no_tv no_im no_id = by (eqb c (code VA)) refl
  where
    by : (t : Bool) → eqb c (code VA) ≡ t → c ≡ code VA
    by true h = eqb-true c (code VA) h
    by false h = absurd (no_im (import_left e no_id no_tv (eqb-false c (code VA) h)))

module _ {c : ℕ} (e : is_leaf c ≡ false) where
  is_other : {m : ℕ} → is_leaf m ≡ true → c ≡ m → ⊥
  is_other leaf h = false≢true (sym e ∙ ap is_leaf h ∙ leaf)

  pub no_identity : c ≡ code ID → ⊥
  unfolding code is_leaf
  no_identity h = is_other refl h

  pub no_constant : c ≡ code TV → ⊥
  unfolding code is_leaf
  no_constant h = is_other refl h

  pub no_variable : c ≡ code VA → ⊥
  unfolding code is_leaf
  no_variable h = is_other refl h

  pub no_import : c ≡ code IM → ⊥
  unfolding code is_leaf
  no_import h = is_other refl h

-- How far down a walk over items can go

module _ (s : List ℕ) (at : ℕ) where
  pub rank_one : {c : ℕ} → code_at s at ≡ c → is_leaf c ≡ true → items_rank s at 1 ≡ 2
  unfolding items_rank choose
  rank_one ec leaf = rw (ec, leaf) refl

  rank_cases : (n : ℕ) (t : Bool) → eqb n 1 ≡ t → (n ≡ 1 → is_leaf (code_at s at) ≡ false) → items_rank s at n ≡ 6
  unfolding items_rank choose
  rank_cases n true e other = rw (e, other (eqb-true n 1 e)) refl
  rank_cases n false e other = rw e refl

  pub rank_more : (n : ℕ) → (n ≡ 1 → is_leaf (code_at s at) ≡ false) → items_rank s at n ≡ 6
  rank_more n other = rank_cases n (eqb n 1) refl other

  most : (t : Bool) → choose t (λ _. 2) (λ _. 6) ≤ 6
  unfolding choose
  most true = omega arith
  most false = omega arith

  rank_most : (n : ℕ) → items_rank s at n ≤ 6
  unfolding items_rank
  rank_most n = most (eqb n 1 && is_leaf (code_at s at))

  pub rank_falls : (n k : ℕ) {t : ℕ} → 16 * k + 6 < t → 16 * k + items_rank s at n < t
  rank_falls n k less = omega (arith, rank_most n, less)

-- What stands there

module _ (s : List ℕ) (nest p : ℕ) {c : ℕ} (ec : code_at s p ≡ c) (leaf : is_leaf c ≡ true) where
  row_none : row_of (code_at s p) holders ≡ none
  unfolding row_of holders choose
  row_none = let others = no_holder leaf in rw (ne_eqb (code_at s p) (code NA) (λ h. others.0 (sym ec ∙ h)), ne_eqb (code_at s p) (code PT) (λ h. others.1 (sym ec ∙ h)), ne_eqb (code_at s p) (code AT) (λ h. others.2 (sym ec ∙ h))) refl

  item_is_expr : item_at s nest p ≡ expr_at s nest any_expression p
  unfolding item_at given
  item_is_expr = rw (row_none) refl

  -- an expression is an item
  pub leaf_item : Accepted (expr_at s nest any_expression p) → Accepted (items_at s nest 1 p)
  unfolding items_at many expr_item none_left ◌>>=◌
  leaf_item a = record { what = (a.what.0 then no_exprs, a.what.1); there = rw (item_is_expr, a.there) refl }

-- Walks over it

module _ (s : List ℕ) (nest p : ℕ) {c : ℕ} (ec : code_at s p ≡ c) (h : walk.Place) (leaf : is_leaf c ≡ true) where
  as_expr : Accepted (items_at s nest 1 p) → (L : rules.Limits) (σ : rules.AnalysisStack) → run_items s L nest 1 p h σ ≡ run_expr s L nest p walk.unnamed h σ
  as_expr a L σ = let others = no_holder leaf in not_held_run s L nest p a c ec others.0 others.1 others.2 h σ

  -- nothing in it has a name of its own
  module _ (a : Accepted (expr_at s nest any_expression p)) (ν : walk.Naming) (L : rules.Limits) (σ : rules.AnalysisStack) where
    named_as : (t u v : Bool) → eqb c (code ID) ≡ t → eqb c (code TV) ≡ u → eqb c (code VA) ≡ v → run_expr s L nest p ν h σ ≡ run_expr s L nest p walk.unnamed h σ
    named_as true u v et eu ev = let e = ec ∙ eqb-true c (code ID) et in identity_run s L nest p a e ν h σ ∙ sym (identity_run s L nest p a e walk.unnamed h σ)
    named_as false true v et eu ev = let e = ec ∙ eqb-true c (code TV) eu in constant_run s L nest p a e ν h σ ∙ sym (constant_run s L nest p a e walk.unnamed h σ)
    named_as false false true et eu ev = let e = ec ∙ eqb-true c (code VA) ev in variable_run s L nest p a e ν h σ ∙ sym (variable_run s L nest p a e walk.unnamed h σ)
    named_as false false false et eu ev =
        let e = ec ∙ import_left leaf (eqb-false c (code ID) et) (eqb-false c (code TV) eu) (eqb-false c (code VA) ev) in
        import_run s L nest p a e ν h σ ∙ sym (import_run s L nest p a e walk.unnamed h σ)

    named : run_expr s L nest p ν h σ ≡ run_expr s L nest p walk.unnamed h σ
    named = named_as (eqb c (code ID)) (eqb c (code TV)) (eqb c (code VA)) refl refl refl

  pub leaf_answered : (a : Accepted (expr_at s nest any_expression p)) (ν : walk.Naming) {l : Limits} {b b₁ : Buffers} {st : AnalysisStack} {r : Walked} → Walks r l b b₁ st (λ L σ. run_items s L nest 1 p h σ) → Walks r l b b₁ st (λ L σ. run_expr s L nest p ν h σ)
  leaf_answered a ν w = walks_as w λ L σ. as_expr (leaf_item s nest p ec leaf a) L σ ∙ sym (named a ν L σ)

-- A leaf is a constant, an import or else a name

module _ {s : List ℕ} {nest c p : ℕ} (a : LeafThere s nest c p) where
  leaf_read : Accepted (expr_at s nest any_expression p)
  leaf_read = let others = no_holder a.leaf in not_held s (record { locals = 0; frames = 0; captures = 0; references = 0; out = 0; diagnostics = 0 }) nest p a.read c a.marked others.0 others.1 others.2

  pub constant_fits : c ≡ code TV → p + 6 ≤ length s
  constant_fits e = constant_size s nest p leaf_read (a.marked ∙ e)

  pub import_fits : c ≡ code IM → p + 18 ≤ length s
  import_fits e = import_size s nest p leaf_read (a.marked ∙ e)

  module _ (h : walk.Place) {l : Limits} {b b₁ : Buffers} {st : AnalysisStack} {r : Walked} where
    walked_as_expr : Walks r l b b₁ st (λ L σ. run_expr s L nest p walk.unnamed h σ) → Walks r l b b₁ st (λ L σ. run_items s L nest 1 p h σ)
    walked_as_expr w = walks_as w λ L σ. sym (as_expr s nest p a.marked h a.leaf a.read L σ)

    pub constant_walked : c ≡ code TV → Walks r l b b₁ st (λ L σ. copied L s TV p (p + 6) σ) → Walks r l b b₁ st (λ L σ. run_items s L nest 1 p h σ)
    constant_walked e w = walked_as_expr (constant_returns s nest p leaf_read walk.unnamed h (a.marked ∙ e) w)

    pub import_walked : c ≡ code IM → Walks r l b b₁ st (λ L σ. import_steps L s p σ) → Walks r l b b₁ st (λ L σ. run_items s L nest 1 p h σ)
    import_walked e w = walked_as_expr (import_returns s nest p leaf_read walk.unnamed h (a.marked ∙ e) w)

  module _ (no_tv : c ≡ code TV → ⊥) (no_im : c ≡ code IM → ⊥) where
    is_variable : eqb c (code ID) ≡ false → code_at s p ≡ code VA
    is_variable e = a.marked ∙ variable_left a.leaf no_tv no_im (eqb-false c (code ID) e)

    pub name_fits : p + 10 ≤ length s
    name_fits = by (eqb c (code ID)) refl
      where
        by : (t : Bool) → eqb c (code ID) ≡ t → p + 10 ≤ length s
        by true e = identity_size s nest p leaf_read (a.marked ∙ eqb-true c (code ID) e)
        by false e = variable_size s nest p leaf_read (is_variable e)

    pub name_walked : (h : walk.Place) {l : Limits} {b b₁ : Buffers} {st : AnalysisStack} {r : Walked} → Walks r l b b₁ st (λ L σ. and_place (p + 10) (name_step L s c p h σ)) → Walks r l b b₁ st (λ L σ. run_items s L nest 1 p h σ)
    unfolding name_step identity_step variable_step identity_steps variable_steps choose
    name_walked h {l = l} {b = b} {b₁ = b₁} {st = st} {r = r} w = walked_as_expr h (by (eqb c (code ID)) refl)
      where
        by : (t : Bool) → eqb c (code ID) ≡ t → Walks r l b b₁ st (λ L σ. run_expr s L nest p walk.unnamed h σ)
        by true e = identity_returns s nest p leaf_read walk.unnamed h (a.marked ∙ eqb-true c (code ID) e) (rw e at w)
        by false e = variable_returns s nest p leaf_read walk.unnamed h (is_variable e) (rw e at w)

  pub name_kind : c ≡ code ID → number_at s (p + 2) < 3
  name_kind e = identity_kind s nest p leaf_read (a.marked ∙ e)
