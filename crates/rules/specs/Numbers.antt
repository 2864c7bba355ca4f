-- "A record is a two-byte ASCII mark, then 32-bit little-endian numbers": numbers, marks and records as bytes. Assumes nothing.
use Rattle.std.specs.Prelude.{ℕ, zero, suc, ◌+◌, ◌*◌, ◌/◌, ◌%◌, Bool, true, false, List, [], ◌∷◌, ◌++◌, get_or, eqb}
use Rattle.rules.specs.Outcome.{choose}

-- "4294967295: unused", and no dependence
abbrev pub never : ℕ
never = 4294967295

-- a flag is written as 0 or 1
abbrev pub bit : Bool → ℕ
bit true = 1
bit false = 0

-- a flag that was read; refusal 3 has left only 0 and 1
unfoldable pub is_set : ℕ → Bool
is_set zero = false
is_set (suc n) = true

-- names are opaque: nothing is asked of two but whether they are the same
abbrev pub Name : Type 0
Name = ℕ

unfoldable pub same_name : Name → Name → Bool
same_name a b = eqb a b

-- a number as four bytes, the lowest first
unfoldable pub number_bytes : ℕ → List ℕ
number_bytes n = n % 256 ∷ n / 256 % 256 ∷ n / 65536 % 256 ∷ n / 16777216 % 256 ∷ []

unfoldable pub numbers_bytes : List ℕ → List ℕ
numbers_bytes [] = []
numbers_bytes (n ∷ ns) = number_bytes n ++ numbers_bytes ns

-- the number at a place; past the end there are zeros
unfoldable pub number_at : List ℕ → ℕ → ℕ
number_at s p = get_or s p 0 + 256 * get_or s (p + 1) 0 + 65536 * get_or s (p + 2) 0 + 16777216 * get_or s (p + 3) 0

-- n numbers from a place
unfoldable pub numbers_at : List ℕ → ℕ → ℕ → List ℕ
numbers_at s zero p = []
numbers_at s (suc n) p = number_at s p ∷ numbers_at s n (p + 4)

-- the tree's marks, and those that only the output and the diagnostics have
pub data Mark : Type 0 where
  JT ID TV VA AR OX UN BI AS LO ER IM AP IX FN IF SC OB BV BF PA AT FH NA PT : Mark
  LS CS SU BL AC IY FV SH DG : Mark

-- a mark as a number: its first letter times 256, and its second
unfoldable pub code : Mark → ℕ
code JT = 0x4a54
code ID = 0x4944
code TV = 0x5456
code VA = 0x5641
code AR = 0x4152
code OX = 0x4f58
code UN = 0x554e
code BI = 0x4249
code AS = 0x4153
code LO = 0x4c4f
code ER = 0x4552
code IM = 0x494d
code AP = 0x4150
code IX = 0x4958
code FN = 0x464e
code IF = 0x4946
code SC = 0x5343
code OB = 0x4f42
code BV = 0x4256
code BF = 0x4246
code PA = 0x5041
code AT = 0x4154
code FH = 0x4648
code NA = 0x4e41
code PT = 0x5054
code LS = 0x4c53
code CS = 0x4353
code SU = 0x5355
code BL = 0x424c
code AC = 0x4143
code IY = 0x4959
code FV = 0x4656
code SH = 0x5348
code DG = 0x4447

unfoldable pub mark_bytes : Mark → List ℕ
mark_bytes m = code m / 256 ∷ code m % 256 ∷ []

-- the two bytes at a place as a mark's number
unfoldable pub code_at : List ℕ → ℕ → ℕ
code_at s p = 256 * get_or s p 0 + get_or s (p + 1) 0

-- a record in bytes
unfoldable pub record_bytes : Mark → List ℕ → List ℕ
record_bytes m ns = mark_bytes m ++ numbers_bytes ns

-- several
abbrev pub Record : Type 0
Record = Mark × List ℕ

unfoldable pub records_bytes : List Record → List ℕ
records_bytes [] = []
records_bytes (r ∷ rs) = record_bytes r.0 r.1 ++ records_bytes rs

unfoldable pub same_bytes : List ℕ → List ℕ → Bool
same_bytes [] [] = true
same_bytes [] (y ∷ ys) = false
same_bytes (x ∷ xs) [] = false
same_bytes (x ∷ xs) (y ∷ ys) = choose (eqb x y) (λ _. same_bytes xs ys) (λ _. false)
