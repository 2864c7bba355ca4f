-- The records with nothing below them: their marks, what is asked where one stands, and how far down a walk over items can go. Assumes nothing.
use Rattle.std.specs.Prelude.{ℕ, Bool, true, ◌&&◌, ◌||◌, List, ◌≡◌, eqb}
use Rattle.rules.specs.Outcome.{choose}
use Rattle.rules.specs.Numbers.{code, code_at, ID, TV, VA, IM}
use Rattle.law_runs.specs.Run.{Accepted, items_at}

unfoldable pub is_leaf : ℕ → Bool
is_leaf mark = (eqb mark (code ID) || eqb mark (code TV)) || (eqb mark (code VA) || eqb mark (code IM))

pub record LeafThere (s : List ℕ) (nest mark at : ℕ) : Type 0 where
  pub read : Accepted (items_at s nest 1 at)
  pub marked : code_at s at ≡ mark
  pub leaf : is_leaf mark ≡ true

-- below what calls for more than a leaf, and above it where one leaf is all
unfoldable pub items_rank : List ℕ → (at n : ℕ) → ℕ
items_rank s at n = choose (eqb n 1 && is_leaf (code_at s at)) (λ _. 2) (λ _. 6)
