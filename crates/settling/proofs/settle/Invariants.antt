-- `settle` is the rules' loop, and answers its rounds. The invariant: what is left of the loop gives what the whole gives. Assumes nothing.
use Rattle.settling.specs.Meaning.{references_between}
use Rattle.settling.proofs.Settling.{Settling}
use Rattle.settling.proofs.settle.Given as goal

abbrev pub invariant-loop-rounds : goal.invariant-loop-rounds
invariant-loop-rounds g l = Settling g.L.Propagate.rule (references_between l.from l.to l.references) l.initial.locals l.kept l.locals l.rounds
