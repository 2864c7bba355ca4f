-- `define_externals` is the rules' `define_externals`. The loop's invariant: what is left, from here, gives what the whole gives. Assumes nothing.
use Rattle.call_root.proofs.Beginning.{Externals}
use Rattle.call_root.proofs.define_externals.Given as goal

abbrev pub invariant-loop-i : goal.invariant-loop-i
invariant-loop-i l = Externals l.tree l.limits l.initial.locals l.initial.reached l.n l.i l.locals l.reached
