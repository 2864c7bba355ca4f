-- Laws of marks, of the numbers of a record, and of the tests of the code. Assumes nothing.
use Prim.Native.Nat.{ℕ, zero, suc, ◌+◌, ◌-◌, ◌≤◌, ◌<◌}
use mathlib.Core.Bool.{Bool, true, false}
use mathlib.Core.List.{List, [], ◌∷◌}
use mathlib.Core.Path.{◌≡◌, refl, sym, ◌∙◌}
use native.Mathlib.Nat.{add_assoc}
use native.Mathlib.Omega.{arith}
use lib.ListN.{length, take, drop, length-drop}
use lib.Seq.{get_or-drop, take_all}
use lib.Dec.{eqb, leb}
use borrow.Author.Tests.{eqb-true, leb-true, leb-false}
use Rattle.rules.specs.Outcome.{choose}
use Rattle.rules.specs.Numbers.{Mark, JT, ID, TV, VA, AR, OX, UN, BI, AS, LO, ER, IM, AP, IX, FN, IF, SC, OB, BV, BF, PA, AT, FH, NA, PT, LS, CS, SU, BL, AC, IY, FV, SH, DG, code, number_at, numbers_at}
use Rattle.rules.specs.Records.{size_of}
use Rattle.bytes_records.specs.Marks.{marks, find_mark, mark_of}
use Rattle.rules.proofs.After.{chosen}

-- P holds of each
pub data All {A : Type 0} (P : A → Type 0) : List A → Type 0 where
  all_none : All P []
  ◌also◌ : {a : A} {rest : List A} → P a → All P rest → All P (a ∷ rest)

infixr 20 ◌also◌
-- what holds of each mark that may have this number, and of the one for none, holds of the mark that is found
find_all : (Q : Mark → Type 0) (c : ℕ) (ms : List Mark) → All (λ m. c ≡ code m → Q m) ms → Q DG → Q (find_mark c ms)
unfolding find_mark
find_all Q c [] all none = none
find_all Q c (m ∷ ms) (here also later) none = chosen Q (eqb c (code m)) (λ _. m) (λ _. find_mark c ms) (λ e. here (eqb-true _ _ e)) (λ e. find_all Q c ms later none)

pub mark_all : (Q : Mark → Type 0) (c : ℕ) → unfold marks in All (λ m. c ≡ code m → Q m) marks → Q DG → Q (mark_of c)
unfolding mark_of marks
mark_all Q c all none = find_all Q c marks all none

-- a mark's number leads back to it
pub mark_code : (m : Mark) → mark_of (code m) ≡ m
unfolding mark_of find_mark marks code choose
mark_code JT = refl
mark_code ID = refl
mark_code TV = refl
mark_code VA = refl
mark_code AR = refl
mark_code OX = refl
mark_code UN = refl
mark_code BI = refl
mark_code AS = refl
mark_code LO = refl
mark_code ER = refl
mark_code IM = refl
mark_code AP = refl
mark_code IX = refl
mark_code FN = refl
mark_code IF = refl
mark_code SC = refl
mark_code OB = refl
mark_code BV = refl
mark_code BF = refl
mark_code PA = refl
mark_code AT = refl
mark_code FH = refl
mark_code NA = refl
mark_code PT = refl
mark_code LS = refl
mark_code CS = refl
mark_code SU = refl
mark_code BL = refl
mark_code AC = refl
mark_code IY = refl
mark_code FV = refl
mark_code SH = refl
mark_code DG = refl

-- a part of a slice that goes to its end begins where the part begins

number_part : (s : List ℕ) (p k : ℕ) → number_at (take (length s - p) (drop p s)) k ≡ number_at s (p + k)
unfolding number_at
number_part s p k =
    let all : length (drop p s) ≤ length s - p = (let h : length (drop p s) ≡ length s - p = length-drop p s in omega arith) in
    rw (take_all (length s - p) (drop p s) all) (simp (get_or-drop, add_assoc))

pub numbers_part : (s : List ℕ) (p n k : ℕ) → numbers_at (take (length s - p) (drop p s)) n k ≡ numbers_at s n (p + k)
unfolding numbers_at
numbers_part s p zero k = refl
numbers_part s p (suc n) k =
    let e : p + (k + 4) ≡ p + k + 4 = omega arith in
    rw (number_part s p k, numbers_part s p n (k + 4), e)

-- a record's size goes from a bare mark to a field's head
pub size_least : (m : Mark) → 2 ≤ size_of m
unfolding size_of
size_least m = omega arith

-- Tests of the code

-- what `has_room` answered
pub room_there : (a n l : ℕ) (r : Bool) → r ≡ leb (a + n) l → r ≡ true → a + n ≤ l
room_there a n l r e h = leb-true (a + n) l (sym e ∙ h)

pub room_missing : (a n l : ℕ) (r : Bool) → r ≡ leb (a + n) l → r ≡ false → l < a + n
room_missing a n l r e h = leb-false (a + n) l (sym e ∙ h)
