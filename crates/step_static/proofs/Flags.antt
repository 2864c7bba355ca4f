-- Flags of names as bits of numbers: setting one sets it and keeps the others. Assumes nothing.
use Prim.Native.Nat.{ℕ, ◌*◌, ◌/◌, ◌%◌, ◌^◌, ◌<◌}
use mathlib.Core.List.{List}
use mathlib.Core.Path.{◌≡◌, sym, ap, ◌∙◌}
use native.Mathlib.Nat.{one-mul, mod-eq_of_lt, div_self}
use native.Mathlib.Decide.{ℕ_discrete}
use native.Mathlib.Omega.{arith}
use lib.ListN.{length, get_or, set}
use lib.Seq.{get_or-set_same, get_or-set_other}
use lib.Pow.{pow_pos, pow-lt}
use lib.Bits.{bit_or, or_shr, or_step, or_comm}
use Rattle.step_static.specs.Answers.{flag_of, NowFlagged}

-- One bit

odd_or : (a b : ℕ) → a % 2 ≡ 1 → bit_or a b % 2 ≡ 1
odd_or a b e = let s = or_step a b in omega (arith, s, e)

-- what is set stays set
or_bit : (x y k : ℕ) → x / 2 ^ k % 2 ≡ 1 → bit_or x y / 2 ^ k % 2 ≡ 1
or_bit x y k e = ap (λ (n : ℕ). n % 2) (or_shr x y k) ∙ odd_or (x / 2 ^ k) (y / 2 ^ k) e

bit_own : (x k : ℕ) → bit_or x (2 ^ k) / 2 ^ k % 2 ≡ 1
bit_own x k =
    ap (λ (n : ℕ). n / 2 ^ k % 2) (or_comm x (2 ^ k))
    ∙ or_bit (2 ^ k) x k (ap (λ (n : ℕ). n % 2) (div_self (pow_pos k)))

-- a 1 that is shifted within 64 bits
shifted : (k : ℕ) → k < 64 → 1 * 2 ^ k % 18446744073709551616 ≡ 2 ^ k
shifted k h = let below : 2 ^ k < 18446744073709551616 = pow-lt h in ap (λ (n : ℕ). n % 18446744073709551616) (one-mul (2 ^ k)) ∙ mod-eq_of_lt below

-- All flags

-- what `flag` stores
abbrev flagged : List ℕ → ℕ → ℕ → List ℕ
flagged met word name = set met word (bit_or (get_or met word 0) (1 * 2 ^ (name % 64) % 18446744073709551616))

own_flag : (met : List ℕ) (name : ℕ) → length met ≡ 16 → flag_of (flagged met (name / 64 % 16) name) name ≡ 1
unfolding flag_of
own_flag met name size =
    let inside : name / 64 % 16 < length met = omega (arith, size) in
    rw (get_or-set_same met (name / 64 % 16) (bit_or (get_or met (name / 64 % 16) 0) (1 * 2 ^ (name % 64) % 18446744073709551616)) 0 inside)
    (rw (shifted (name % 64) (omega arith)) (bit_own (get_or met (name / 64 % 16) 0) (name % 64)))

-- a flag that is set stays set
kept_flag : (met : List ℕ) (word name : ℕ) → word < length met → (other : ℕ) → flag_of met other ≡ 1 → flag_of (flagged met word name) other ≡ 1
unfolding flag_of
kept_flag met word name inside other e = by (ℕ_discrete (other / 64 % 16) word)
  where
    by : Dec (other / 64 % 16 ≡ word) → get_or (flagged met word name) (other / 64 % 16) 0 / 2 ^ (other % 64) % 2 ≡ 1
    by (yes same) =
        ap (λ (x : ℕ). x / 2 ^ (other % 64) % 2) (ap (λ (j : ℕ). get_or (flagged met word name) j 0) same ∙ get_or-set_same met word _ 0 inside)
        ∙ or_bit (get_or met word 0) _ (other % 64) (ap (λ (j : ℕ). get_or met j 0 / 2 ^ (other % 64) % 2) (sym same) ∙ e)
    by (no far) = ap (λ (x : ℕ). x / 2 ^ (other % 64) % 2) (get_or-set_other met word (other / 64 % 16) _ 0 far) ∙ e

pub now_flagged : (met : List ℕ) (word name : ℕ) → length met ≡ 16 → word ≡ name / 64 % 16 → NowFlagged met (flagged met word name) name
now_flagged met word name size is = record {
  own = rw is (own_flag met name size);
  kept = kept_flag met word name (omega (arith, size, is));
}
