-- The way that `skip` goes: from record to record, with a count of those still to come. Assumes nothing.
use Prim.Native.Nat.{ℕ, suc, ◌+◌, ◌*◌, ◌-◌, ◌≤◌, ◌<◌}
use mathlib.Core.List.{List}
use mathlib.Core.Path.{◌≡◌, refl, ap, ◌∙◌}
use native.Mathlib.Nat.{add_assoc, add_comm, zero-add}
use native.Mathlib.Omega.{arith}
use lib.ListN.{length, take, drop}
use Rattle.rules.specs.Numbers.{code_at, numbers_at}
use Rattle.rules.specs.Records.{numbers_of, size_of}
use Rattle.bytes_records.specs.Marks.{mark_of, children, mark_at, size_at, children_at}
use Rattle.bytes_records.proofs.Laws.{numbers_part, size_least}

-- w records and all that stands below them go from p to q
pub data Goes (s : List ℕ) (q : ℕ) : ℕ → ℕ → Type 0 where
  arrived : (w p : ℕ) → w ≡ 0 → p ≡ q → Goes s q w p
  onward : (w p v : ℕ) → w ≡ suc v → p + size_at s p ≤ length s → Goes s q (v + children_at s p) (p + size_at s p) → Goes s q w p

size_at_least : (s : List ℕ) (p : ℕ) → 2 ≤ size_at s p
unfolding size_at
size_at_least s p = size_least (mark_at s p)

-- each record has two bytes at least, and all of them are there
pub goes_far : {s : List ℕ} {q w p : ℕ} → Goes s q w p → p + 2 * w ≤ q
goes_far (arrived w p e f) = omega arith
goes_far {s} (onward w p v e h g) = omega (arith, size_at_least s p, goes_far g)

pub goes_within : {s : List ℕ} {q w p : ℕ} → Goes s q w p → p ≤ length s → q ≤ length s
goes_within (arrived w p e f) le = omega arith
goes_within (onward w p v e h g) le = goes_within g h

-- the first record of the way
record First (s : List ℕ) (q w p : ℕ) : Type 0 where
  fits : p + size_at s p ≤ length s
  others : Goes s q (w - 1 + children_at s p) (p + size_at s p)

first : {s : List ℕ} {q w p : ℕ} → Goes s q w p → 0 < w → First s q w p
first (arrived w p e f) lt = absurd (omega arith)
first (onward w p v e h g) lt = let one : w - 1 ≡ v = omega arith in record { fits = h; others = rw one g }

ended : {s : List ℕ} {q w p : ℕ} → Goes s q w p → w ≤ 0 → p ≡ q
ended (arrived w p e f) none = f
ended (onward w p v e h g) none = absurd (omega arith)

-- what the code has read

pub size_seen : (s : List ℕ) (p m z : ℕ) → m ≡ code_at s p → z ≡ size_of (mark_of m) → z ≡ size_at s p
unfolding size_at mark_at
size_seen s p m z em ez = ez ∙ ap (λ (c : ℕ). size_of (mark_of c)) em

pub children_seen : (s : List ℕ) (p m k : ℕ) → m ≡ code_at s p
    → k ≡ children (mark_of m) (numbers_at (take (length s - p) (drop p s)) (numbers_of (mark_of m)) 2) → k ≡ children_at s p
unfolding children_at mark_at
children_seen s p m k em ek =
    ek ∙ ap (children (mark_of m)) (numbers_part s p (numbers_of (mark_of m)) 2) ∙ ap (λ (c : ℕ). children (mark_of c) (numbers_at s (numbers_of (mark_of c)) (p + 2))) em

module _ (s : List ℕ) (p left q : ℕ) (g : Goes s q left p) where
  pub skip_end : left ≤ 0 → p ≡ q
  skip_end none = ended g none

  module _ (lt : 0 < left) where
    pub skip_next : Goes s q (left - 1 + children_at s p) (p + size_at s p)
    skip_next = (first g lt).others

    pub skip_stuck : length s < p + size_at s p → p ≡ q
    skip_stuck h = let f = (first g lt).fits in absurd (omega arith)

    pub skip_crowded : length s - p < left → p ≡ q
    skip_crowded h =
        let f = (first g lt).fits in
        let le : p ≤ length s = omega arith in
        absurd (omega (arith, goes_far g, goes_within g le))

    pub skip_over : left ≤ length s - p → length s - p - left < children_at s p → p ≡ q
    skip_over _ h =
        let f = (first g lt).fits in
        let o = (first g lt).others in
        absurd (omega (arith, size_at_least s p, goes_far o, goes_within o f))

-- n records and all that stands below them go from p to q, whatever follows
abbrev pub Steps : List ℕ → ℕ → ℕ → ℕ → Type 0
Steps s n p q = (w r : ℕ) → Goes s r w q → Goes s r (n + w) p

module _ (s : List ℕ) where
  pub steps_none : (p : ℕ) → Steps s 0 p p
  steps_none p w r g = rw (zero-add w) g

  pub steps_then : (n m p q r : ℕ) → Steps s n p q → Steps s m q r → Steps s (n + m) p r
  steps_then n m p q r a b w t g = rw (add_assoc n m w) (a (m + w) t (b w t g))

  pub steps_record : (p q : ℕ) → p + size_at s p ≤ length s → Steps s (children_at s p) (p + size_at s p) q → Steps s 1 p q
  steps_record p q fits below w r g = onward (1 + w) p w (omega arith) fits (rw (add_comm w (children_at s p)) (below w r g))

  -- all of the way
  pub steps_goes : (p q : ℕ) → Steps s 1 p q → Goes s q 1 p
  steps_goes p q h = h 0 q (arrived 0 q refl refl)
