-- What the ways past an expression and past a field's head promise. Assumes nothing.
use Rattle.std.specs.Prelude.{ℕ, List, ◌≡◌}
use Rattle.rules.specs.Outcome.{ok}
use Rattle.rules.specs.Tree.{Expr}
use Rattle.rules.specs.FirstWalk.{Allowed, expr_at}
use Rattle.bytes_skip.specs.Places.{held_past}

-- wherever reading an expression there succeeds, it ends here
abbrev pub Skipped : List ℕ → (from to : ℕ) → Type 0
Skipped s from to = (levels : ℕ) (allowed : Allowed) (e : Expr) (q : ℕ) → expr_at s levels allowed from ≡ ok (e, q) → to ≡ q

-- wherever reading a field's head succeeds, it ends here
abbrev pub Behind : List ℕ → (from to : ℕ) → Type 0
Behind s from to = (nest q : ℕ) → held_past s nest 0x4648 from ≡ ok q → to ≡ q
