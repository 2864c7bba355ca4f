-- `newest` finds the newest local with a name. The invariant: the newest of those that are left is the newest of all. Assumes nothing.
use Rattle.find_name.proofs.Finding.{Searching}
use Rattle.find_name.proofs.newest.Given as goal

abbrev pub invariant-loop-k : goal.invariant-loop-k
invariant-loop-k l = Searching l.locals l.name l.first l.n l.k
