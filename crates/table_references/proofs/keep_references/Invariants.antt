-- `keep_references` keeps what was noted, within the limit, and clears the notes. The invariant: what is left to keep and to clear gives what the whole gives. Assumes nothing.
use Rattle.std.proofs.Common.{◌-◌}
use Rattle.table_references.proofs.Keeping.{Keeping}
use Rattle.table_references.proofs.keep_references.Given as goal

abbrev pub invariant-loop-next : goal.invariant-loop-next
invariant-loop-next l = Keeping l.initial.locals l.initial.references l.user.0 l.first l.end l.kept l.max_references l.locals l.references l.count l.next

abbrev pub decreases-loop-next : goal.decreases-loop-next
decreases-loop-next l = l.end - l.next
