-- The loop's invariant: what is left, from here, is constant where the whole is. Assumes nothing.
use Rattle.bytes_records.proofs.Turns.{Constants}
use Rattle.bytes_records.proofs.constants.Given as goal

abbrev pub invariant-loop : goal.invariant-loop
invariant-loop l = Constants l.tree l.n l.counter l.at l.p
