-- What the struct and a table's entries mean: the rules' references. Assumes nothing.
use Rattle.std.specs.Prelude.{ℕ, List, map, get_or}
use Rattle.rules.specs.Settling as settling
use Rattle.table_rows.specs.Rows.{rows}
use Rattle.table_references.specs.declared.Reference.{Reference}

abbrev pub reference : (user used : ℕ) → settling.Reference
reference user used = record { user = user; used = used }

abbrev pub refers : Reference → settling.Reference
refers r = reference r.user.0 r.used.0

-- the reference of an entry's numbers; the other fourteen are unused
unfoldable pub reference_of_row : List ℕ → settling.Reference
reference_of_row r = reference (get_or r 0 0) (get_or r 1 0)

-- the references of the first n entries, the oldest first
unfoldable pub references_of : ℕ → List ℕ → List settling.Reference
references_of n t = map reference_of_row (rows n t)

unfoldable pub reference_at : List settling.Reference → ℕ → settling.Reference
reference_at refs i = get_or refs i (reference 0 0)
