-- `pop_frame` takes the top frame's captures out of the log. The loop's invariant is `Closing`. Assumes nothing.
use Rattle.std.proofs.Common.{◌-◌}
use Rattle.resolver.proofs.Closing.{Closing}
use Rattle.resolver.proofs.pop_frame.Given as goal

abbrev pub invariant-loop-i : goal.invariant-loop-i
invariant-loop-i l = Closing (l.n - 1) l.from l.count l.initial.captures l.captures l.to l.i
