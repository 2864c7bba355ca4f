-- What a search answers, and what a look at four names tells. Assumes nothing.
use Rattle.std.specs.Prelude.{ℕ, ◌+◌, ◌*◌, ◌≤◌, ◌<◌, List, ◌≡◌, get_or}
use Rattle.std.specs.Prelude.{Option, Some, None}
use Rattle.std.proofs.Math.Option as math
use Rattle.value_local.specs.declared.LocalId.{LocalId}

-- where a search found it
unfoldable pub found : Option LocalId → math.Option ℕ
found (Some id) = math.some id.0
found None = math.none

-- none of the four entries from `from` on has the name
pub record NoneNamed (locals : List ℕ) (name from : ℕ) : Type 0 where
  pub others : (k : ℕ) → from ≤ k → k < from + 4 → get_or locals (16 * k + 10) 0 ≡ name → ⊥
