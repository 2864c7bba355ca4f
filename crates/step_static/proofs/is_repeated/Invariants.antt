-- `step_static::is_repeated` meets its contract. The loop's invariant: the name is among the first n where it is among those left. Assumes nothing.
use Rattle.step_static.proofs.Static.{Among}
use Rattle.step_static.proofs.is_repeated.Given as goal

abbrev pub invariant-loop-i : goal.invariant-loop-i
invariant-loop-i l = Among l.tree l.at l.name l.n l.i
