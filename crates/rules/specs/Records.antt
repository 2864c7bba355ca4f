-- What kind of number each field of each record is: one table for the tree, from which widths and refusal 3 follow, one for the output. Assumes nothing.
use Rattle.std.specs.Prelude.{ℕ, ◌+◌, ◌*◌, Bool, true, false, List, [], ◌∷◌, get_or, drop, ltb}
use Rattle.rules.specs.Outcome.{choose}
use Rattle.rules.specs.Numbers.{Mark, JT, ID, TV, VA, AR, OX, UN, BI, AS, LO, ER, IM, AP, IX, FN, IF, SC, OB, BV, BF, PA, AT, FH, NA, PT, LS, CS, SU, BL, AC, IY, FV, SH, DG}

-- Spans

-- "Names, spans, constants, operators and import kinds are opaque numbers"; a span is a type of its own, so that its form stands here alone
pub record Span : Type 0 where
  pub number : ℕ

-- how many numbers it takes in a record
abbrev pub span_width : ℕ
span_width = 1

unfoldable pub span_numbers : Span → List ℕ
span_numbers s = s.number ∷ []

-- the span that begins at the i-th number of a record
unfoldable pub span_in : List ℕ → ℕ → Span
span_in ns i = record { number = get_or ns i 0 }

-- what stands for the span of an external and of an object's `this`, which have none
unfoldable pub no_span : Span
no_span = record { number = 0 }

-- Kinds of numbers

-- `kind n` is one of n kinds; `slot` is a slot or a capture's number
pub data Kind : Type 0 where
  opaque flag set visibility count name span slot : Kind
  kind : ℕ → Kind

unfoldable pub width : Kind → ℕ
width opaque = 1
width flag = 1
width set = 1
width visibility = 1
width count = 1
width name = 1
width span = span_width
width slot = 1
width (kind n) = 1

-- "a flag, kind, set or visibility is out of range" where this is false; ns are the numbers from that field on
unfoldable pub in_range : Kind → List ℕ → Bool
in_range opaque ns = true
in_range flag ns = ltb (get_or ns 0 0) 2
in_range set ns = ltb (get_or ns 0 0) 8
in_range visibility ns = ltb (get_or ns 0 0) 3
in_range count ns = true
in_range name ns = true
in_range span ns = true
in_range slot ns = true
in_range (kind n) ns = ltb (get_or ns 0 0) n

unfoldable pub widths : List Kind → ℕ
widths [] = 0
widths (k ∷ ks) = width k + widths ks

unfoldable pub all_in_range : List Kind → List ℕ → Bool
all_in_range [] ns = true
all_in_range (k ∷ ks) ns = choose (in_range k ns) (λ _. all_in_range ks (drop (width k) ns)) (λ _. false)

-- The tree's records

-- the marks that no tree has are without fields here
unfoldable pub fields : Mark → List Kind
fields JT = count ∷ []
fields ID = kind 3 ∷ span ∷ []
fields TV = opaque ∷ []
fields VA = name ∷ span ∷ []
fields AR = count ∷ []
fields OX = []
fields UN = opaque ∷ []
fields BI = opaque ∷ []
fields AS = flag ∷ []
fields LO = count ∷ []
fields ER = span ∷ []
fields IM = opaque ∷ span ∷ flag ∷ opaque ∷ []
fields AP = count ∷ count ∷ flag ∷ span ∷ []
fields IX = count ∷ []
fields FN = span ∷ count ∷ []
fields IF = flag ∷ []
fields SC = set ∷ []
fields OB = count ∷ count ∷ count ∷ []
fields BV = name ∷ span ∷ []
fields BF = name ∷ span ∷ []
fields PA = name ∷ span ∷ flag ∷ []
fields AT = flag ∷ []
fields FH = kind 2 ∷ name ∷ span ∷ flag ∷ visibility ∷ flag ∷ []
fields NA = name ∷ []
fields PT = span ∷ []
fields LS = []
fields CS = []
fields SU = []
fields BL = []
fields AC = []
fields IY = []
fields FV = []
fields SH = []
fields DG = []

-- how many numbers follow the mark, and how many bytes the record takes
unfoldable pub numbers_of : Mark → ℕ
numbers_of m = widths (fields m)

unfoldable pub size_of : Mark → ℕ
size_of m = 2 + 4 * numbers_of m

-- The output's records, and the diagnostics'

-- what follows a record's fields: as many constants as its first field says, or as many pairs as its second
pub data Tail : Type 0 where
  no_tail constants_tail pairs_tail : Tail

-- the marks that no output has are without fields here
unfoldable pub out_fields : Mark → List Kind × Tail
out_fields JT = ([], no_tail)
out_fields ID = ([], no_tail)
out_fields TV = (opaque ∷ [], no_tail)
out_fields VA = ([], no_tail)
out_fields AR = (count ∷ [], no_tail)
out_fields OX = ([], no_tail)
out_fields UN = (opaque ∷ [], no_tail)
out_fields BI = (opaque ∷ [], no_tail)
out_fields AS = (flag ∷ [], no_tail)
out_fields LO = (count ∷ [], no_tail)
out_fields ER = (span ∷ [], no_tail)
out_fields IM = (opaque ∷ span ∷ opaque ∷ [], no_tail)
out_fields AP = (count ∷ count ∷ flag ∷ span ∷ [], no_tail)
out_fields IX = (count ∷ [], no_tail)
out_fields FN = (flag ∷ name ∷ count ∷ [], no_tail)
out_fields IF = (flag ∷ [], no_tail)
out_fields SC = (set ∷ [], no_tail)
out_fields OB = (flag ∷ flag ∷ flag ∷ count ∷ count ∷ count ∷ flag ∷ [], no_tail)
out_fields BV = (slot ∷ [], no_tail)
out_fields BF = ([], no_tail)
out_fields PA = (name ∷ slot ∷ flag ∷ [], no_tail)
out_fields AT = (flag ∷ [], no_tail)
out_fields FH = (kind 2 ∷ name ∷ flag ∷ visibility ∷ [], no_tail)
out_fields NA = (name ∷ [], no_tail)
out_fields PT = (span ∷ [], no_tail)
out_fields LS = (slot ∷ [], no_tail)
out_fields CS = (slot ∷ [], no_tail)
out_fields SU = ([], no_tail)
out_fields BL = (kind 5 ∷ [], no_tail)
out_fields AC = (count ∷ [], constants_tail)
out_fields IY = ([], no_tail)
out_fields FV = ([], no_tail)
out_fields SH = (count ∷ count ∷ [], pairs_tail)
out_fields DG = (kind 2 ∷ opaque ∷ name ∷ span ∷ [], no_tail)
