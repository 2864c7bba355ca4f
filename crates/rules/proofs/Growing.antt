-- What spreads over n places and never goes back is at rest after n rounds. Assumes nothing.
use Prim.Native.Nat.{ℕ, zero, suc, ◌+◌, ◌≤◌, ◌<◌}
use native.Mathlib.Omega.{arith}
use mathlib.Core.Bool.{Bool, true, false, ◌||◌}
use mathlib.Core.List.{List, [], ◌∷◌}
use mathlib.Core.Logic.{◌⊎◌, inl, inr, ⊎_elim}
use mathlib.Core.Path.{◌≡◌, refl, sym, ap, subst, ◌∙◌}
use lib.ListN.{get_or, set}
use lib.Seq.{set-get_or}

-- whether a place is reached, and whether it reaches its followers even if it is not
pub record Place : Type 0 where
  pub reached : Bool
  pub reaches : Bool

-- what the follower is once it has followed
unfoldable pub following : (follower followed : Place) → Place
following p q = record { reached = p.reached || q.reached || q.reaches; reaches = p.reaches }

-- the t-th place follows the s-th; what lies outside is d
unfoldable pub link : (d : Place) (t s : ℕ) → List Place → List Place
link d t s ps = set ps t (following (get_or ps t d) (get_or ps s d))

-- Growing

abbrev missing : Bool → ℕ
missing true = 0
missing false = 1

-- how many of the n places from `first` on are not reached
abbrev pub unreached : (first n : ℕ) → List Place → ℕ
unreached first n [] = 0
unreached (suc first) n (p ∷ ps) = unreached first n ps
unreached zero zero (p ∷ ps) = 0
unreached zero (suc n) (p ∷ ps) = missing p.reached + unreached zero n ps

missing_at_most : (b : Bool) → missing b ≤ 1
missing_at_most true = omega arith
missing_at_most false = omega arith

pub unreached_at_most : (first n : ℕ) (ps : List Place) → unreached first n ps ≤ n
unreached_at_most first n [] = omega arith
unreached_at_most (suc first) n (p ∷ ps) = unreached_at_most first n ps
unreached_at_most zero zero (p ∷ ps) = omega arith
unreached_at_most zero (suc n) (p ∷ ps) = omega (arith, missing_at_most p.reached, unreached_at_most zero n ps)

-- nothing has changed, or more is reached
pub data Grows (first n : ℕ) (before after : List Place) : Type 0 where
  same : after ≡ before → Grows first n before after
  more : unreached first n after < unreached first n before → Grows first n before after

pub grows_then : {first n : ℕ} {ps qs rs : List Place} → Grows first n ps qs → Grows first n qs rs → Grows first n ps rs
grows_then {first = first} {n = n} {rs = rs} (same e) k = subst (λ (xs : List Place). Grows first n xs rs) e k
grows_then {first = first} {n = n} {ps = ps} (more h) (same e) = more (subst (λ (xs : List Place). unreached first n xs < unreached first n ps) (sym e) h)
grows_then (more h) (more k) = more (omega arith)

-- what has not changed in the end did not change at first
pub grows_back : {first n : ℕ} {ps qs rs : List Place} → Grows first n ps qs → Grows first n qs rs → rs ≡ ps → qs ≡ ps
grows_back (same e) k back = e
grows_back {first = first} {n = n} (more h) (same e) back = absurd (omega (arith, h, ap (unreached first n) (sym e ∙ back)))
grows_back {first = first} {n = n} (more h) (more k) back = absurd (omega (arith, h, k, ap (unreached first n) back))

grows_behind : {first n : ℕ} (p : Place) {ps qs : List Place} → Grows first n ps qs → Grows (suc first) n (p ∷ ps) (p ∷ qs)
grows_behind p (same e) = same (ap (λ (rs : List Place). p ∷ rs) e)
grows_behind p (more h) = more h

grows_behind_first : {n : ℕ} (p : Place) {ps qs : List Place} → Grows zero n ps qs → Grows zero (suc n) (p ∷ ps) (p ∷ qs)
grows_behind_first p (same e) = same (ap (λ (rs : List Place). p ∷ rs) e)
grows_behind_first p (more h) = more (omega arith)

set_grows : (first n t : ℕ) (ps : List Place) (d p : Place) → first ≤ t → t < first + n → (get_or ps t d).reached ≡ false → p.reached ≡ true → Grows first n ps (set ps t p)
set_grows first n t [] d p above below was is = same refl
set_grows (suc first) n zero (x ∷ ps) d p above below was is = absurd (omega arith)
set_grows (suc first) n (suc t) (x ∷ ps) d p above below was is = grows_behind x (set_grows first n t ps d p (omega arith) (omega arith) was is)
set_grows zero zero t (x ∷ ps) d p above below was is = absurd (omega arith)
set_grows zero (suc n) zero (x ∷ ps) d p above below was is = more (omega (arith, ap missing was, ap missing is))
set_grows zero (suc n) (suc t) (x ∷ ps) d p above below was is = grows_behind_first x (set_grows zero n t ps d p (omega arith) (omega arith) was is)

or_either : (x y z : Bool) → ((x || y || z) ≡ x) ⊎ ((x ≡ false) × ((x || y || z) ≡ true))
or_either true y z = inl refl
or_either false true z = inr (refl, refl)
or_either false false true = inr (refl, refl)
or_either false false false = inl refl

pub link_grows : (d : Place) (first n t s : ℕ) (ps : List Place) → first ≤ t → t < first + n → Grows first n ps (link d t s ps)
unfolding link following
link_grows d first n t s ps above below =
    let p = get_or ps t d in
    let q = get_or ps s d in
    ⊎_elim
    (λ e. same ((λ i. set ps t (record { reached = e i; reaches = p.reaches })) ∙ set-get_or ps t d))
    (λ e. set_grows first n t ps d _ above below e.0 e.1)
    (or_either p.reached q.reached q.reaches)

-- Rest

module _ (round : List Place → List Place) where
  abbrev pub repeated : ℕ → List Place → List Place
  repeated zero ps = ps
  repeated (suc k) ps = repeated k (round ps)

  repeated_same : (k : ℕ) (ps : List Place) → round ps ≡ ps → repeated k ps ≡ ps
  repeated_same zero ps e = refl
  repeated_same (suc k) ps e = ap (repeated k) e ∙ repeated_same k ps e

  rests_if_same : (k : ℕ) (ps : List Place) → round ps ≡ ps → round (repeated k ps) ≡ repeated k ps
  rests_if_same k ps e = ap round (repeated_same k ps e) ∙ e ∙ sym (repeated_same k ps e)

  -- after a round that changed nothing no round changes anything, and each round before that one reached a place
  pub at_rest : {first n : ℕ} → ((ps : List Place) → Grows first n ps (round ps)) → (k : ℕ) (ps : List Place) → unreached first n ps ≤ k → round (repeated k ps) ≡ repeated k ps
  at_rest {first = first} {n = n} grows zero ps few = go (grows ps)
    where
      go : Grows first n ps (round ps) → round ps ≡ ps
      go (same e) = e
      go (more h) = absurd (omega arith)
  at_rest {first = first} {n = n} grows (suc k) ps few = go (grows ps) (at_rest grows k (round ps))
    where
      go : Grows first n ps (round ps) → (unreached first n (round ps) ≤ k → round (repeated k (round ps)) ≡ repeated k (round ps)) → round (repeated k (round ps)) ≡ repeated k (round ps)
      go (same e) later = rests_if_same (suc k) ps e
      go (more h) later = later (omega arith)
