-- An entry of a table as its numbers, and what a store of four of them leaves. Assumes nothing.
use Rattle.std.specs.Prelude.{List, ◌≡◌, ℕ, ◌+◌, ◌*◌, ◌<◌, length, get_or}
use Rattle.table_rows.specs.Rows.{row}

-- sixteen numbers an entry: the number j of the entry k
unfoldable pub number : List ℕ → (k j : ℕ) → ℕ
number t k j = get_or t (16 * k + j) 0

-- an entry begins with these four numbers, and no other entry has changed
pub record Stored (before after : List ℕ) (i : ℕ) (numbers : List ℕ) : Type 0 where
  pub here : (j : ℕ) → j < 4 → number after i j ≡ get_or numbers j 0
  pub others : (k : ℕ) → (k ≡ i → ⊥) → row k after ≡ row k before
  pub long : length after ≡ length before
