-- "sixteen numbers an entry": a table as a list of rows, and the store of an entry. Assumes nothing.
use Rattle.std.specs.Prelude.{List, [], ◌∷◌, ◌++◌, ◌≡◌, ℕ, zero, suc, ◌*◌, ◌≤◌, ◌<◌, length, set, take, drop}

-- the entry k: its 16 numbers
unfoldable pub row : ℕ → List ℕ → List ℕ
row k t = take 16 (drop (16 * k) t)

-- the first n entries, the oldest first
unfoldable pub rows : ℕ → List ℕ → List (List ℕ)
rows zero t = []
rows (suc n) t = rows n t ++ (row n t ∷ [])

-- the entry i holds this one, and the others what they held; `entries` says what the first entries of a table are
pub record Put {A : Type 0} (entries : ℕ → List ℕ → List A) (before after : List ℕ) (i : ℕ) (entry : A) : Type 0 where
  pub size : length after ≡ length before
  pub held : (n : ℕ) → i < n → entries n after ≡ set (entries n before) i entry
  pub below : (n : ℕ) → n ≤ i → entries n after ≡ entries n before
  pub others : (k : ℕ) → (k ≡ i → ⊥) → row k after ≡ row k before
