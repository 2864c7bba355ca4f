-- `left_to_search` passes what does not have the name. The invariant: the newest of those that are left is the newest of all. Assumes nothing.
use Rattle.find_name.proofs.Finding.{four_searched}
use Rattle.find_name.proofs.left_to_search.Goals as goal

pub loop-left-preserved : goal.loop-left-preserved
loop-left-preserved c = four_searched c.loop-left.invariant c.loop-left-test.true (c.none_named.ensures c.if-none_named.true)
