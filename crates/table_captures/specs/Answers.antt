-- What a put leaves. Assumes nothing.
use Rattle.std.specs.Prelude.{List, ℕ}
use Rattle.table_rows.specs.Rows.{Put}
use Rattle.table_captures.specs.Meaning.{Logged, log_of}

abbrev pub PutCapture : (before after : List ℕ) → (i : ℕ) → Logged → Type 0
PutCapture before after i e = Put log_of before after i e
