-- "In a frame of n kept names each takes at most n + 1 rounds": what bounds the rounds cuts nothing off, for the last round changes nothing. Assumes nothing.
use Prim.Native.Nat.{ℕ, zero, suc, ◌+◌, ◌≤◌, suc-le-suc, min, max}
use native.Mathlib.Nat.{min-eq_left, min-eq_right, le_of_lt, le_antisymm, le_refl}
use native.Mathlib.Omega.{arith}
use mathlib.Core.Bool.{Bool, true, false, not, ◌||◌, ◌&&◌, or-true, or-false, and-eq-true_iff}
use mathlib.Core.List.{List}
use mathlib.Core.Path.{◌≡◌, refl, sym, ap, ap₂, ◌∙◌}
use lib.ListN.{length, set}
use lib.Dec.{leb, ltb}
use lib.Seq.{set-get_or}
use borrow.Author.Tests.{leb-true, leb-false, ltb-true, ltb-false, eqb-true, le-leb, lt-leb, le-ltb, eq-eqb, not-false}
use Rattle.rules.specs.Depths.{AnalysisResult, taint_by, depend_on_local, same_result}
use Rattle.rules.specs.Locals.{LocalDefinition, local_at, no_local, with_analysis, with_used_at_depth}
use Rattle.rules.specs.Settling.{Reference, Round, Loop, propagate_analysis, propagate_use, one_round, Settled, settle, settled}
use Rattle.rules.proofs.After.{chosen}
use Rattle.rules.proofs.ReadRecords.{Every}
use Rattle.rules.proofs.Growing.{Place, following}
use Rattle.rules.proofs.Spreading.{Inside, Spreads, settles, more_changes_nothing}

-- Tests of depths

leb_min : (a b t : ℕ) → leb (min a b) t ≡ (leb a t || leb b t)
leb_min a b t = go (leb a t) (leb b t) refl refl
  where
    go : (x y : Bool) → leb a t ≡ x → leb b t ≡ y → leb (min a b) t ≡ (x || y)
    go true y e f = le-leb (min a b) t (omega (arith, leb-true a t e))
    go false true e f = le-leb (min a b) t (omega (arith, leb-true b t f))
    go false false e f = lt-leb (min a b) t (omega (arith, leb-false a t e, leb-false b t f))

leb_max : (a b t : ℕ) → leb t (max a b) ≡ (leb t a || leb t b)
leb_max a b t = go (leb t a) (leb t b) refl refl
  where
    go : (x y : Bool) → leb t a ≡ x → leb t b ≡ y → leb t (max a b) ≡ (x || y)
    go true y e f = le-leb t (max a b) (omega (arith, leb-true t a e))
    go false true e f = le-leb t (max a b) (omega (arith, leb-true t b f))
    go false false e f = lt-leb t (max a b) (omega (arith, leb-false t a e, leb-false t b f))

-- numbers that no test tells apart
same_below : (a b : ℕ) → ((t : ℕ) → leb a t ≡ leb b t) → a ≡ b
same_below a b h = le_antisymm (leb-true a b (h b ∙ le-leb b b (le_refl b))) (leb-true b a (sym (h a) ∙ le-leb a a (le_refl a)))

same_above : (a b : ℕ) → ((t : ℕ) → leb t a ≡ leb t b) → a ≡ b
same_above a b h = le_antisymm (leb-true a b (sym (h a) ∙ le-leb a a (le_refl a))) (leb-true b a (h b ∙ le-leb b b (le_refl b)))

-- The use loop: whether a local is used at a depth of at most t

use_place : ℕ → LocalDefinition → Place
use_place t l = record { reached = leb l.used_at_depth t; reaches = false }

next_use : LocalDefinition → LocalDefinition → LocalDefinition
next_use l m = with_used_at_depth (min l.used_at_depth m.used_at_depth) l

use_sets : (r : Round) (ref : Reference) → (propagate_use r ref).locals ≡ set r.locals ref.used (next_use (local_at r.locals ref.used) (local_at r.locals ref.user))
unfolding propagate_use next_use with_used_at_depth local_at
use_sets r ref =
    let ls = r.locals in
    let used = local_at ls ref.used in
    let at = (local_at ls ref.user).used_at_depth in
    let stored : ℕ → List LocalDefinition = λ depth. set ls ref.used (with_used_at_depth depth used) in
    chosen (λ (x : Round). x.locals ≡ stored (min used.used_at_depth at)) _ _ _
    (λ e. ap stored (sym (min-eq_right (le_of_lt (ltb-true at used.used_at_depth e)))))
    (λ e. sym (ap stored (min-eq_left (ltb-false at used.used_at_depth e)) ∙ set-get_or ls ref.used no_local))

use_tells : (r : Round) (ref : Reference)
    → (propagate_use r ref).changed ≡ (r.changed || ltb (local_at r.locals ref.user).used_at_depth (local_at r.locals ref.used).used_at_depth)
unfolding propagate_use
use_tells r ref =
    let lower = ltb (local_at r.locals ref.user).used_at_depth (local_at r.locals ref.used).used_at_depth in
    chosen (λ (x : Round). x.changed ≡ (r.changed || lower)) _ _ _
    (λ e. sym (ap (λ (b : Bool). r.changed || b) e ∙ or-true r.changed))
    (λ e. sym (ap (λ (b : Bool). r.changed || b) e ∙ or-false r.changed))

use_follows : (t : ℕ) (l m : LocalDefinition) → use_place t (next_use l m) ≡ following (use_place t l) (use_place t m)
unfolding next_use use_place with_used_at_depth following
use_follows t l m = λ i. record { reached = (leb_min l.used_at_depth m.used_at_depth t ∙ sym (or-false _)) i; reaches = false }

use_same : (l m : LocalDefinition) → ltb m.used_at_depth l.used_at_depth ≡ false → (t : ℕ) → use_place t (next_use l m) ≡ use_place t l
unfolding next_use use_place with_used_at_depth
use_same l m e t = ap (λ (u : ℕ). use_place t (with_used_at_depth u l)) (min-eq_left (ltb-false m.used_at_depth l.used_at_depth e))

use_no_difference : (l m : LocalDefinition) → ((t : ℕ) → use_place t (next_use l m) ≡ use_place t l) → ltb m.used_at_depth l.used_at_depth ≡ false
unfolding next_use use_place with_used_at_depth
use_no_difference l m h =
    le-ltb m.used_at_depth l.used_at_depth (omega (arith, same_below (min l.used_at_depth m.used_at_depth) l.used_at_depth (λ t. ap (λ (p : Place). p.reached) (h t))))

use_spreads : Spreads propagate_use
use_spreads = record {
  follower = λ ref. ref.used;
  followed = λ ref. ref.user;
  inside = λ first n ref i. omega arith;
  next = next_use;
  differs = λ l m. ltb m.used_at_depth l.used_at_depth;
  sets = use_sets;
  tells = use_tells;
  Test = ℕ;
  place = use_place;
  follows = use_follows;
  same_places = use_same;
  no_difference = use_no_difference;
}

-- The analysis loop: whether what a local depends on lies at most, or for the innermost local at least, at a depth

data Bound : Type 0 where
  object_at_most local_at_most local_at_least : ℕ → Bound

result_place : Bound → AnalysisResult → (defined_at : ℕ) → Place
result_place (object_at_most t) a d = record { reached = leb a.object_dependent_depth t; reaches = false }
result_place (local_at_most t) a d = record { reached = leb a.local_dependent_depth t; reaches = leb d t }
result_place (local_at_least t) a d = record { reached = leb t a.local_dependent_depth_max; reaches = leb t d }

analysis_place : Bound → LocalDefinition → Place
analysis_place t l = result_place t l.analysis l.defined_at_depth

next_result : LocalDefinition → LocalDefinition → AnalysisResult
next_result l m = depend_on_local m.defined_at_depth (taint_by l.analysis m.analysis)

next_analysis : LocalDefinition → LocalDefinition → LocalDefinition
next_analysis l m = with_analysis (next_result l m) l

analysis_follows : (t : Bound) (l m : LocalDefinition) → analysis_place t (next_analysis l m) ≡ following (analysis_place t l) (analysis_place t m)
unfolding analysis_place result_place next_analysis next_result with_analysis depend_on_local taint_by following
analysis_follows (object_at_most t) l m =
    λ i. record { reached = (leb_min l.analysis.object_dependent_depth m.analysis.object_dependent_depth t ∙ sym (or-false _)) i; reaches = false }
analysis_follows (local_at_most t) l m =
    let a = l.analysis.local_dependent_depth in
    let b = m.analysis.local_dependent_depth in
    let d = m.defined_at_depth in
    λ i. record { reached = (leb_min (min a b) d t ∙ ap (λ (x : Bool). x || leb d t) (leb_min a b t)) i; reaches = leb l.defined_at_depth t }
analysis_follows (local_at_least t) l m =
    let a = l.analysis.local_dependent_depth_max in
    let b = m.analysis.local_dependent_depth_max in
    let d = m.defined_at_depth in
    λ i. record { reached = (leb_max (max a b) d t ∙ ap (λ (x : Bool). x || leb t d) (leb_max a b t)) i; reaches = leb t l.defined_at_depth }

same_result_true : (a b : AnalysisResult) → same_result a b ≡ true → a ≡ b
unfolding same_result
same_result_true a b e =
    let outer = (and-eq-true_iff _ _).0 e in
    let inner = (and-eq-true_iff _ _).0 outer.0 in
    λ i. record {
      object_dependent_depth = eqb-true a.object_dependent_depth b.object_dependent_depth inner.0 i;
      local_dependent_depth = eqb-true a.local_dependent_depth b.local_dependent_depth inner.1 i;
      local_dependent_depth_max = eqb-true a.local_dependent_depth_max b.local_dependent_depth_max outer.1 i;
    }

-- results that no bound tells apart
bounds_same : (a b : AnalysisResult) (d : ℕ) → ((t : Bound) → result_place t a d ≡ result_place t b d) → same_result a b ≡ true
unfolding same_result result_place
bounds_same a b d h =
    ap₂ ◌&&◌ (ap₂ ◌&&◌
    (eq-eqb _ _ (same_below a.object_dependent_depth b.object_dependent_depth λ t. ap (λ (p : Place). p.reached) (h (object_at_most t))))
    (eq-eqb _ _ (same_below a.local_dependent_depth b.local_dependent_depth λ t. ap (λ (p : Place). p.reached) (h (local_at_most t)))))
    (eq-eqb _ _ (same_above a.local_dependent_depth_max b.local_dependent_depth_max λ t. ap (λ (p : Place). p.reached) (h (local_at_least t))))

analysis_spreads : Spreads propagate_analysis
unfolding propagate_analysis next_analysis next_result analysis_place with_analysis
analysis_spreads = record {
  follower = λ ref. ref.user;
  followed = λ ref. ref.used;
  inside = λ first n ref i. omega arith;
  next = next_analysis;
  differs = λ l m. not (same_result (next_result l m) l.analysis);
  sets = λ r ref. refl;
  tells = λ r ref. refl;
  Test = Bound;
  place = analysis_place;
  follows = analysis_follows;
  same_places = λ l m e t. ap (λ (a : AnalysisResult). result_place t a l.defined_at_depth) (same_result_true _ _ (not-false _ e));
  no_difference = λ l m h. ap not (bounds_same (next_result l m) l.analysis l.defined_at_depth h);
}

-- The rounds

-- the fuel alone bounds them
settle_rounds : (most : ℕ) (loop : Loop) (refs : List Reference) (ls : List LocalDefinition) → (settle most loop refs ls).rounds ≤ most
unfolding settle
settle_rounds zero loop refs ls = omega arith
settle_rounds (suc most) loop refs ls =
    chosen (λ (x : Settled). x.rounds ≤ suc most) _ _ _ (λ _. suc-le-suc (settle_rounds most loop refs _)) (λ _. omega arith)

pub rounds_at_most : (n : ℕ) (loop : Loop) (refs : List Reference) (ls : List LocalDefinition) → (settled n loop refs ls).rounds ≤ n + 1
unfolding settled
rounds_at_most n loop refs ls = omega (arith, settle_rounds (suc n) loop refs ls)

-- one more round changes nothing
pub use_settles : (first n : ℕ) (refs : List Reference) (ls : List LocalDefinition) → Every (Inside first n) refs → first + n ≤ length ls
    → (one_round propagate_use refs (record { locals = (settled n propagate_use refs ls).locals; changed = false })).changed ≡ false
unfolding settled
use_settles first n refs ls all fits = settles use_spreads first n refs all ls fits

pub analysis_settles : (first n : ℕ) (refs : List Reference) (ls : List LocalDefinition) → Every (Inside first n) refs → first + n ≤ length ls
    → (one_round propagate_analysis refs (record { locals = (settled n propagate_analysis refs ls).locals; changed = false })).changed ≡ false
unfolding settled
analysis_settles first n refs ls all fits = settles analysis_spreads first n refs all ls fits

-- with more of them allowed the loops leave the same and take as many: the last of n + 1 rounds, if it is run, changes nothing
pub use_settled : (first n k : ℕ) (refs : List Reference) (ls : List LocalDefinition) → Every (Inside first n) refs → first + n ≤ length ls
    → settle (suc n + k) propagate_use refs ls ≡ settle (suc n) propagate_use refs ls
use_settled first n k refs ls all fits = more_changes_nothing use_spreads first n refs all k ls fits

pub analysis_settled : (first n k : ℕ) (refs : List Reference) (ls : List LocalDefinition) → Every (Inside first n) refs → first + n ≤ length ls
    → settle (suc n + k) propagate_analysis refs ls ≡ settle (suc n) propagate_analysis refs ls
analysis_settled first n k refs ls all fits = more_changes_nothing analysis_spreads first n refs all k ls fits
