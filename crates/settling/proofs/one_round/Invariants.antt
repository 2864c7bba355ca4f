-- `one_round` is one round of the rules' loop. The invariant: what is left of the round gives what the whole gives. Assumes nothing.
use Rattle.settling.proofs.Turns.{Turn}
use Rattle.settling.proofs.one_round.Given as goal

abbrev pub invariant-loop-k : goal.invariant-loop-k
invariant-loop-k g l = Turn g.L.Propagate.rule l.references l.initial.locals l.from l.to l.locals l.changed l.k
