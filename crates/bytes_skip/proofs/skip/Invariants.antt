-- The loop's invariant: wherever one record from `at` on ends, the records still to come end there too. The measure is what is left of the tree. Assumes nothing.
use Rattle.std.proofs.Common.{ℕ, ◌-◌, length}
use Rattle.bytes_skip.proofs.Going.{Goes}
use Rattle.bytes_skip.proofs.skip.Given as goal

abbrev pub invariant-loop-left : goal.invariant-loop-left
invariant-loop-left l = (q : ℕ) → Goes l.tree q 1 l.at → Goes l.tree q l.left l.p

abbrev pub decreases-loop-left : goal.decreases-loop-left
decreases-loop-left l = length l.tree - l.p
