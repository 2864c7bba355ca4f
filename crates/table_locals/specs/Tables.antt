-- What storing a local leaves of the table. Assumes nothing.
use Rattle.std.specs.Prelude.{ℕ, List}
use Rattle.rules.specs.Locals.{LocalDefinition}
use Rattle.table_rows.specs.Rows.{Put}
use Rattle.table_locals.specs.Meaning.{locals_of}

abbrev pub PutLocal : (before after : List ℕ) → (id : ℕ) → LocalDefinition → Type 0
PutLocal before after id l = Put locals_of before after id l
