-- Marks by their numbers, and how many records stand directly below a record. Assumes nothing.
use Rattle.std.specs.Prelude.{ℕ, ◌+◌, ◌*◌, List, [], ◌∷◌, get_or, eqb}
use Rattle.rules.specs.Outcome.{choose}
use Rattle.rules.specs.Numbers.{Mark, JT, ID, TV, VA, AR, OX, UN, BI, AS, LO, ER, IM, AP, IX, FN, IF, SC, OB, BV, BF, PA, AT, FH, NA, PT, LS, CS, SU, BL, AC, IY, FV, SH, DG}
use Rattle.rules.specs.Numbers.{code, code_at, numbers_at, is_set, bit}
use Rattle.rules.specs.Records.{numbers_of, size_of}
use Rattle.rules.specs.FirstWalk.{members}

unfoldable pub marks : List Mark
marks =
    JT ∷ ID ∷ TV ∷ VA ∷ AR ∷ OX ∷ UN ∷ BI ∷ AS ∷ LO ∷ ER ∷ IM ∷ AP ∷ IX ∷ FN ∷ IF ∷ SC ∷ OB ∷ BV ∷ BF ∷ PA ∷ AT ∷ FH ∷ NA ∷ PT
    ∷ LS ∷ CS ∷ SU ∷ BL ∷ AC ∷ IY ∷ FV ∷ SH ∷ DG ∷ []

-- the first of some marks that has this number; where none has, one that no tree has
unfoldable pub find_mark : ℕ → List Mark → Mark
find_mark c [] = DG
find_mark c (m ∷ ms) = choose (eqb c (code m)) (λ _. m) (λ _. find_mark c ms)

unfoldable pub mark_of : ℕ → Mark
mark_of c = find_mark c marks

-- how many records stand directly below one, by its numbers
unfoldable pub children : Mark → List ℕ → ℕ
children JT ns = 0
children ID ns = 0
children TV ns = 0
children VA ns = 0
children AR ns = get_or ns 0 0
children OX ns = 2
children UN ns = 1
children BI ns = 2
children AS ns = 2 + get_or ns 0 0
children LO ns = 1 + get_or ns 0 0
children ER ns = 1
children IM ns = 0
children AP ns = 1 + get_or ns 0 0 + get_or ns 1 0
children IX ns = 1 + get_or ns 0 0
children FN ns = 1 + get_or ns 1 0
children IF ns = 2 + get_or ns 0 0
children SC ns = 1 + members (get_or ns 0 0)
children OB ns = 2 * get_or ns 2 0 + get_or ns 0 0 + get_or ns 1 0
children BV ns = 1
children BF ns = 1
children PA ns = bit (is_set (get_or ns 2 0))
children AT ns = 1 + get_or ns 0 0
children FH ns = bit (is_set (get_or ns 0 0))
children NA ns = 1
children PT ns = 1
children LS ns = 0
children CS ns = 0
children SU ns = 0
children BL ns = 0
children AC ns = 0
children IY ns = 0
children FV ns = 0
children SH ns = 0
children DG ns = 0

module _ (s : List ℕ) where
  -- the mark of the record at a place, how many bytes it takes, and how many records stand directly below it
  unfoldable pub mark_at : ℕ → Mark
  mark_at p = mark_of (code_at s p)

  unfoldable pub size_at : ℕ → ℕ
  size_at p = size_of (mark_at p)

  unfoldable pub children_at : ℕ → ℕ
  children_at p = children (mark_at p) (numbers_at s (numbers_of (mark_at p)) (p + 2))
