-- The records of an output, from its bytes. Assumes nothing.
use Rattle.std.specs.Prelude.{ℕ, zero, suc, ◌+◌, ◌*◌, Bool, true, false, List, [], ◌∷◌, length, drop, eqb, leb}
use Rattle.std.proofs.Math.Option.{Option, none, some}
use Rattle.rules.specs.Outcome.{choose}
use Rattle.rules.specs.Numbers.{Record, number_at, numbers_at, code, code_at}
use Rattle.rules.specs.Numbers.{Mark, TV, AR, OX, UN, BI, AS, LO, ER, IM, AP, IX, FN, IF, SC, OB, BV, PA, AT, FH, NA, PT, LS, CS, SU, BL, AC, IY, FV, SH}
use Rattle.rules.specs.Records.{widths, out_fields, Tail, no_tail, constants_tail, pairs_tail}

infixl 10 ◌>>=◌
-- where there is nothing, nothing follows
unfoldable pub ◌>>=◌ : {A B : Type 0} → Option A → (A → Option B) → Option B
◌>>=◌ none f = none
◌>>=◌ (some a) f = f a

-- the marks that an output may have
unfoldable pub out_marks : List Mark
out_marks = TV ∷ AR ∷ OX ∷ UN ∷ BI ∷ AS ∷ LO ∷ ER ∷ IM ∷ AP ∷ IX ∷ FN ∷ IF ∷ SC ∷ OB ∷ BV ∷ PA ∷ AT ∷ FH ∷ NA ∷ PT ∷ LS ∷ CS ∷ SU ∷ BL ∷ AC ∷ IY ∷ FV ∷ SH ∷ []

unfoldable pub mark_among : ℕ → List Mark → Option Mark
mark_among c [] = none
mark_among c (m ∷ ms) = choose (eqb c (code m)) (λ _. some m) (λ _. mark_among c ms)

-- how many numbers stand after a record's fields; s begins with the record
unfoldable pub tail_count : Tail → List ℕ → ℕ
tail_count no_tail s = 0
tail_count constants_tail s = number_at s 2
tail_count pairs_tail s = 2 * number_at s 6

-- how many numbers the record has with which s begins
unfoldable pub out_count : Mark → List ℕ → ℕ
out_count m s = widths (out_fields m).0 + tail_count (out_fields m).1 s

unfoldable pub is_end : List ℕ → Bool
is_end [] = true
is_end (b ∷ bs) = false

-- the records that s is, at most so many, and nothing left over
unfoldable pub decoded : ℕ → List ℕ → Option (List Record)
decoded zero s = choose (is_end s) (λ _. some []) (λ _. none)
decoded (suc most) s = choose (is_end s)
    (λ _. some [])
    (λ _. do
      m ← mark_among (code_at s 0) out_marks
      let n = out_count m s
      choose (leb (2 + 4 * n) (length s))
          (λ _. do
            rs ← decoded most (drop (2 + 4 * n) s)
            some ((m, numbers_at s n 2) ∷ rs))
          (λ _. none))

-- each has two bytes at least
unfoldable pub out_records : List ℕ → Option (List Record)
out_records s = decoded (length s) s
