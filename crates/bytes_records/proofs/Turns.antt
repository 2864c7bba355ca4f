-- Turns of the loop over constants: what is left, from here, is there where the whole is. Assumes nothing.
use Prim.Native.Nat.{ℕ, zero, suc, ◌+◌, ◌*◌, ◌-◌, ◌≤◌, ◌<◌}
use mathlib.Core.Bool.{Bool, true, false, false≢true}
use mathlib.Core.List.{List}
use mathlib.Core.Option.{Option, none, some}
use mathlib.Core.Path.{◌≡◌, refl, sym, ◌∙◌}
use native.Mathlib.Omega.{arith}
use lib.ListN.{length}
use borrow.Author.Tests.{leb-true}
use Rattle.rules.specs.Outcome.{choose}
use Rattle.rules.specs.Numbers.{number_at}
use Rattle.rules.specs.FirstWalk.{front, constant_at, constants_at}
use Rattle.rules.proofs.After.{both_passed}
use Rattle.bytes_records.specs.Constants.{is_some}

module _ (s : List ℕ) where
  constant_room : (p : ℕ) → constant_at s p ≡ true → p + 6 ≤ length s
  unfolding constant_at
  constant_room p e = leb-true _ _ (both_passed _ _ e).0

  front_some : {A : Type 0} (a : A) (o : Option (List A)) → is_some (front a o) ≡ is_some o
  unfolding front is_some
  front_some a none = refl
  front_some a (some l) = refl

  pub record Constants (n i at p : ℕ) : Type 0 where
    pub same : is_some (constants_at s (n - i) p) ≡ is_some (constants_at s n at)
    pub turns : i ≤ n

  module _ {n i at p : ℕ} (T : Constants n i at p) where
    pub constants_end : n ≤ i → true ≡ is_some (constants_at s n at)
    unfolding constants_at is_some
    constants_end le = let e : n - i ≡ 0 = omega arith in (rw e at T.same)

    module _ (lt : i < n) {r : Bool} (h : r ≡ constant_at s p) where
      pub constants_stop : r ≡ false → false ≡ is_some (constants_at s n at)
      unfolding constants_at is_some choose
      constants_stop f =
          let e : n - i ≡ suc (n - (i + 1)) = omega arith in
          let g : constant_at s p ≡ false = sym h ∙ f in
          (rw (e, g) at T.same)

      pub constants_next : r ≡ true → Constants n (i + 1) at (p + 6)
      unfolding constants_at is_some choose
      constants_next f =
          let e : n - i ≡ suc (n - (i + 1)) = omega arith in
          let g : constant_at s p ≡ true = sym h ∙ f in
          record { same = sym (front_some (number_at s (p + 2)) (constants_at s (n - (i + 1)) (p + 6))) ∙ (rw (e, g) at T.same); turns = omega arith }

  pub constants_fit : (n p : ℕ) → is_some (constants_at s n p) ≡ true → p ≤ length s → p + 6 * n ≤ length s
  unfolding constants_at is_some choose
  constants_fit zero p h le = omega arith
  constants_fit (suc n) p h le = by (constants_fit n (p + 6)) (constant_at s p) refl h
    where
      v : ℕ
      v = number_at s (p + 2)

      by : (is_some (constants_at s n (p + 6)) ≡ true → p + 6 ≤ length s → p + 6 + 6 * n ≤ length s)
          → (b : Bool) → constant_at s p ≡ b → is_some (choose b (λ _. front v (constants_at s n (p + 6))) (λ _. none)) ≡ true → p + 6 * suc n ≤ length s
      by later true e h = let room = constant_room p e in omega (arith, later (sym (front_some v (constants_at s n (p + 6))) ∙ h) room)
      by later false e h = absurd (false≢true h)
