-- An outcome as one number. Assumes nothing.
use Rattle.std.specs.Prelude.{ℕ}
use Rattle.rules.specs.Outcome.{Outcome, ok, refuse}

unfoldable pub number_of : Outcome ℕ → ℕ
number_of (ok place) = 0
number_of (refuse number place) = number
