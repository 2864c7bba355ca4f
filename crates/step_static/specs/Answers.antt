-- What the questions about an object's heads ask for and answer. Assumes nothing.
use Rattle.std.specs.Prelude.{ℕ, zero, suc, ◌+◌, ◌*◌, ◌/◌, ◌%◌, ◌^◌, ◌<◌, ◌≤◌, Bool, List, [], ◌∷◌, ◌≡◌, get_or}
use Rattle.rules.specs.Outcome.{ok}
use Rattle.rules.specs.Numbers.{Name, number_at}
use Rattle.rules.specs.Tree.{Heads}
use Rattle.rules.specs.Walk as walk
use Rattle.law_runs.specs.Run.{Accepted, heads_at}

-- n heads were read there under some levels
pub record HeadsThere (s : List ℕ) (n at : ℕ) : Type 0 where
  pub levels : ℕ
  pub read : Accepted (heads_at s levels n at)

-- the names of the first n heads, each of 26 bytes, the last first
unfoldable pub names_before : (s : List ℕ) → (at n : ℕ) → List Name
names_before s at zero = []
names_before s at (suc n) = number_at s (at + 26 * n + 6) ∷ names_before s at n

-- none of these names is above the highest
pub record NoneAbove (s : List ℕ) (at n highest : ℕ) : Type 0 where
  pub below : (k : ℕ) → k < n → number_at s (at + 26 * k + 6) ≤ highest

-- the flag of a name, 0 or 1: a bit of one of 16 numbers, by the name's residue by 1,024
unfoldable pub flag_of : List ℕ → Name → ℕ
flag_of met name = get_or met (name / 64 % 16) 0 / 2 ^ (name % 64) % 2

-- each of these names is flagged
pub record Flagged (s : List ℕ) (at n : ℕ) (met : List ℕ) : Type 0 where
  pub flags : (k : ℕ) → k < n → flag_of met (number_at s (at + 26 * k + 6)) ≡ 1

-- this name is flagged too
pub record NowFlagged (before after : List ℕ) (name : Name) : Type 0 where
  pub own : flag_of after name ≡ 1
  pub kept : (other : Name) → flag_of before other ≡ 1 → flag_of after other ≡ 1

pub record IsStatic (r : Bool) (s : List ℕ) (at n : ℕ) : Type 0 where
  pub same : (levels : ℕ) (hs : Heads) (q : ℕ) → heads_at s levels n at ≡ ok (hs, q) → r ≡ walk.is_static [] hs
