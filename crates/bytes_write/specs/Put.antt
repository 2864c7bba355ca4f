-- What putting a record after the bytes that were used answers and leaves. Assumes nothing.
use Rattle.std.specs.Prelude.{ℕ, ◌+◌, ◌≤◌, ◌<◌, List, ◌++◌, ◌≡◌, length, take, drop, Option, Some, None}

-- the buffer with these bytes after those that were used
unfoldable pub put : List ℕ → ℕ → List ℕ → List ℕ
put out used bytes = take used out ++ bytes ++ drop (used + length bytes) out

-- there was room, and they stand there; or there was none, and nothing has changed
abbrev pub Put : Option ℕ → (before after : List ℕ) → (used : ℕ) → (bytes : List ℕ) → Type 0
Put (Some next) before after used bytes = (next ≡ used + length bytes) × (next ≤ length before) × (after ≡ put before used bytes)
Put None before after used bytes = (length before < used + length bytes) × (after ≡ before)
