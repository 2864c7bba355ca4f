-- Numbers and marks as bytes: what is read at a place is spelled there, and what is spelled there is read. Assumes nothing.
use Prim.Native.Nat.{ℕ, zero, suc, ◌+◌, ◌*◌, ◌/◌, ◌%◌, ◌≤◌, ◌<◌}
use native.Mathlib.Omega.{arith}
use native.Mathlib.Nat.{div-div-eq-div-mul}
use mathlib.Core.List.{List, [], ◌∷◌}
use mathlib.Core.Path.{◌≡◌, refl, ap, ap₂}
use lib.ListN.{length, get_or}
use lib.Dec.{lit<}
use Rattle.rules.specs.Numbers.{number_at, numbers_at, number_bytes, numbers_bytes, code_at, mark_bytes, code, Mark}
use Rattle.rules.specs.Range.{Bytes, Numbers}
use Rattle.rules.proofs.Lists.{Piece, piece_none, piece_then, piece_one, piece_first, piece_second, piece_element}

byte_below : (s : List ℕ) (p : ℕ) → Bytes s → get_or s p 0 < 256
unfolding Bytes
byte_below [] p h = omega arith
byte_below (b ∷ bs) zero h = h.0
byte_below (b ∷ bs) (suc p) h = byte_below bs p h.1

-- four bytes are those of the number that they make
four_bytes : (a b c d : ℕ) → a < 256 → b < 256 → c < 256 → d < 256 → number_bytes (a + 256 * b + 65536 * c + 16777216 * d) ≡ a ∷ b ∷ c ∷ d ∷ []
unfolding number_bytes
four_bytes a b c d ha hb hc hd = λ i. first i ∷ second i ∷ third i ∷ fourth i ∷ []
  where
    first : (a + 256 * b + 65536 * c + 16777216 * d) % 256 ≡ a
    first = omega arith

    second : (a + 256 * b + 65536 * c + 16777216 * d) / 256 % 256 ≡ b
    second = omega arith

    third : (a + 256 * b + 65536 * c + 16777216 * d) / 65536 % 256 ≡ c
    third = omega arith

    fourth : (a + 256 * b + 65536 * c + 16777216 * d) / 16777216 % 256 ≡ d
    fourth = omega arith

module _ (s : List ℕ) (bytes : Bytes s) where
  number_spelled : (p : ℕ) → p + 4 ≤ length s → Piece s p (number_bytes (number_at s p)) (p + 4)
  unfolding number_at
  number_spelled p h =
      rw (four_bytes (get_or s p 0) (get_or s (p + 1) 0) (get_or s (p + 2) 0) (get_or s (p + 3) 0)
      (byte_below s p bytes) (byte_below s (p + 1) bytes) (byte_below s (p + 2) bytes) (byte_below s (p + 3) bytes))
      (piece_then (piece_one s p (p + 1) 0 (omega arith) (omega arith)) (piece_then (piece_one s (p + 1) (p + 2) 0 (omega arith) (omega arith))
      (piece_then (piece_one s (p + 2) (p + 3) 0 (omega arith) (omega arith)) (piece_one s (p + 3) (p + 4) 0 (omega arith) h))))

  pub numbers_spelled : (n p q : ℕ) → q ≡ p + 4 * n → q ≤ length s → Piece s p (numbers_bytes (numbers_at s n p)) q
  unfolding numbers_bytes numbers_at
  numbers_spelled zero p q e h = piece_none s p q (omega arith)
  numbers_spelled (suc n) p q e h = piece_then (number_spelled p (omega arith)) (numbers_spelled n (p + 4) q (omega arith) h)

  pub mark_spelled : (p : ℕ) (m : Mark) → p + 2 ≤ length s → code_at s p ≡ code m → Piece s p (mark_bytes m) (p + 2)
  unfolding code_at mark_bytes
  mark_spelled p m h e = rw (high, low) (piece_then (piece_one s p (p + 1) 0 (omega arith) (omega arith)) (piece_one s (p + 1) (p + 2) 0 (omega arith) h))
    where
      high : code m / 256 ≡ get_or s p 0
      high = omega (arith, byte_below s (p + 1) bytes)

      low : code m % 256 ≡ get_or s (p + 1) 0
      low = omega (arith, byte_below s (p + 1) bytes)

  pub number_in_range : (p : ℕ) → number_at s p < 4294967296
  unfolding number_at
  number_in_range p =
      omega (arith, byte_below s p bytes, byte_below s (p + 1) bytes, byte_below s (p + 2) bytes, byte_below s (p + 3) bytes)

  pub numbers_in_range : (n p : ℕ) → Numbers (numbers_at s n p)
  unfolding numbers_at Numbers
  numbers_in_range zero p = tt
  numbers_in_range (suc n) p = (number_in_range p, numbers_in_range n (p + 4))

pub length_numbers_at : (s : List ℕ) (n p : ℕ) → length (numbers_at s n p) ≡ n
unfolding numbers_at
length_numbers_at s zero p = refl
length_numbers_at s (suc n) p = ap suc (length_numbers_at s n (p + 4))

-- And what is spelled at a place is read there

pub code_back : {s : List ℕ} {p q : ℕ} (m : Mark) → Piece s p (mark_bytes m) q → code_at s p ≡ code m
unfolding code_at mark_bytes
code_back {p = p} m h = omega (arith, piece_element 0 0 p (omega arith) (omega arith) h, piece_element 0 1 (p + 1) (omega arith) (omega arith) h)

-- four digits to the base 256 make the number
digits : (n : ℕ) → n < 4294967296 → n % 256 + 256 * (n / 256 % 256) + 65536 * (n / 65536 % 256) + 16777216 * (n / 16777216 % 256) ≡ n
digits n small = rw (← div-div-eq-div-mul n 65536 256, ← div-div-eq-div-mul n 256 256) (omega arith)

pub number_back : {s : List ℕ} {p q : ℕ} (n : ℕ) → n < 4294967296 → Piece s p (number_bytes n) q → number_at s p ≡ n
unfolding number_at number_bytes
number_back {p = p} n small h =
    omega (
      arith,
      digits n small,
      piece_element 0 0 p (omega arith) (lit< tt) h,
      piece_element 0 1 (p + 1) (omega arith) (lit< tt) h,
      piece_element 0 2 (p + 2) (omega arith) (lit< tt) h,
      piece_element 0 3 (p + 3) (omega arith) (lit< tt) h,
    )

pub numbers_back : {s : List ℕ} {p q : ℕ} (ns : List ℕ) → Numbers ns → Piece s p (numbers_bytes ns) q → numbers_at s (length ns) p ≡ ns
unfolding numbers_at numbers_bytes Numbers number_bytes
numbers_back [] small h = refl
numbers_back {s = s} {p = p} {q = q} (n ∷ ns) small h =
    ap₂ {C = List ℕ} ◌∷◌ (number_back n small.0 (piece_first (number_bytes n) (numbers_bytes ns) h)) (numbers_back {p = p + length (number_bytes n)} ns small.1 (piece_second (number_bytes n) (numbers_bytes ns) h))
