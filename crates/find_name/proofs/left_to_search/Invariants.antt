-- `left_to_search` passes what does not have the name. The invariant: the newest of those that are left is the newest of all. Assumes nothing.
use Rattle.find_name.proofs.Finding.{Searching}
use Rattle.find_name.proofs.left_to_search.Given as goal

abbrev pub invariant-loop-left : goal.invariant-loop-left
invariant-loop-left l = Searching l.locals l.name l.first l.n l.left

abbrev pub decreases-loop-left : goal.decreases-loop-left
decreases-loop-left l = l.left
