-- `capture_of` finds an id among the owner's captures. The loop's invariant: it is not among those of the entries passed, which are k. Assumes nothing.
use Rattle.find_capture.proofs.Laws.{Passed}
use Rattle.find_capture.proofs.capture_of.Given as goal

abbrev pub invariant-loop-i : goal.invariant-loop-i
invariant-loop-i l = Passed l.captures l.owner l.id.0 l.k l.i
