-- What the leaves of the walk leave beside their answer: where a record was read, it lies within the tree. Assumes nothing.
use Rattle.std.specs.Prelude.{ℕ, ◌<◌, List, ◌≡◌, Result, Ok}
use Rattle.bytes_skip.specs.Places.{Within, expected_at}
use Rattle.refusal.specs.declared.Refusal.{Refusal}
use Rattle.tree.specs.Seen.{seen}
use Rattle.tree.specs.Places.{opened_at}

pub record Opened (s : List ℕ) (nest mark p : ℕ) (r : Result ℕ Refusal) : Type 0 where
  pub same : seen r ≡ opened_at s nest mark p
  pub within : (q : ℕ) → r ≡ Ok q → Within s mark p q
  pub level : (q : ℕ) → r ≡ Ok q → 0 < nest

pub record Expected (s : List ℕ) (mark p : ℕ) (r : Result ℕ Refusal) : Type 0 where
  pub same : seen r ≡ expected_at s mark p
  pub within : (q : ℕ) → r ≡ Ok q → Within s mark p q
