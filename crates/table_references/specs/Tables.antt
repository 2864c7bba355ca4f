-- What storing a reference, and keeping a spec's references, leave of the tables. Assumes nothing.
use Rattle.std.specs.Prelude.{ℕ, ◌+◌, ◌*◌, ◌≤◌, ◌<◌, List, ◌++◌, map, ◌≡◌, length, get_or, take, drop, Option, Some, None}
use Rattle.rules.specs.Locals.{LocalDefinition, noted, without_notes}
use Rattle.rules.specs.Settling.{Reference}
use Rattle.table_rows.specs.Rows.{Put}
use Rattle.table_locals.specs.Meaning.{locals_of}
use Rattle.table_references.specs.Meaning.{reference, references_of}

abbrev pub PutReference : (before after : List ℕ) → (i : ℕ) → Reference → Type 0
PutReference before after i r = Put references_of before after i r

-- the references with those that the user has noted among the locals from `first` on
unfoldable pub with_noted : (user first : ℕ) → List LocalDefinition → List Reference → List Reference
with_noted user first ls refs = refs ++ map (reference user) (noted first (drop first ls))

-- the locals with no notes from `first` on
unfoldable pub cleared : (first : ℕ) → List LocalDefinition → List LocalDefinition
cleared first ls = take first ls ++ without_notes (drop first ls)

-- four entries from `from` on are before the end, and none of them has a note
pub record NoneNoted (locals : List ℕ) (from end : ℕ) : Type 0 where
  pub inside : from + 4 ≤ end
  pub none : (k : ℕ) → from ≤ k → k < from + 4 → get_or locals (16 * k + 7) 0 ≡ 0

-- all are kept, within the limit, and their notes cleared
pub record AllKept (locals locals' references references' : List ℕ) (user first total kept limit count : ℕ) : Type 0 where
  pub fits : count ≤ limit
  pub references_are : references_of count references' ≡ with_noted user first (locals_of total locals) (references_of kept references)
  pub locals_are : locals_of total locals' ≡ cleared first (locals_of total locals)

-- they are, or they would pass the limit
abbrev pub Keeps : Option ℕ → (locals locals' references references' : List ℕ) → (user first total kept limit : ℕ) → Type 0
Keeps (Some count) locals locals' references references' user first total kept limit = AllKept locals locals' references references' user first total kept limit count
Keeps None locals locals' references references' user first total kept limit = limit < length (with_noted user first (locals_of total locals) (references_of kept references))
