-- A flag that was tested: set where its number is not zero. Assumes nothing.
use Prim.Native.Nat.{ℕ, zero, suc}
use native.Mathlib.Omega.{arith}
use mathlib.Core.Bool.{true, false, false≢true}
use mathlib.Core.Path.{◌≡◌, refl, sym, ap}
use Rattle.rules.specs.Numbers.{is_set}

pub set_of : {n : ℕ} → (n ≡ 0 → ⊥) → is_set n ≡ true
unfolding is_set
set_of {n = zero} not_zero = absurd (not_zero refl)
set_of {n = suc n} not_zero = refl

pub unset_of : {n : ℕ} → n ≡ 0 → is_set n ≡ false
unfolding is_set
unset_of e = ap is_set e

pub zero_of : (n : ℕ) → is_set n ≡ false → n ≡ 0
unfolding is_set
zero_of zero e = refl
zero_of (suc n) e = absurd (false≢true (sym e))

pub not_zero_of : (n : ℕ) → is_set n ≡ true → n ≡ 0 → ⊥
unfolding is_set
not_zero_of zero e z = false≢true e
not_zero_of (suc n) e z = omega arith
