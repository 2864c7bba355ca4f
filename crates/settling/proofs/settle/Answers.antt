-- `settle` is the rules' loop, and answers its rounds. The invariant: what is left of the loop gives what the whole gives. Assumes nothing.
use Rattle.std.proofs.Common.{arith, rules, tests}
use Rattle.settling.proofs.Settling.{settling_begins, settling_stops, settling_goes_on, settling_ends}
use Rattle.settling.proofs.settle.Goals as goal

pub loop-rounds-init : goal.loop-rounds-init
loop-rounds-init g c = settling_begins _

pub returns-then-not-one_round : goal.returns-then-not-one_round
returns-then-not-one_round g c = settling_stops c.loop-rounds.invariant (omega arith) (omega arith) c.one_round.ensures (search (rules, tests))

pub loop-rounds-preserved : goal.loop-rounds-preserved
loop-rounds-preserved g c = settling_goes_on c.loop-rounds.invariant (omega arith) (omega arith) c.one_round.ensures (search (rules, tests)) c.one_round.auto.locals

pub returns-else-not-one_round : goal.returns-else-not-one_round
returns-else-not-one_round g c =
    settling_ends (settling_goes_on c.loop-rounds.invariant (omega arith) (omega arith) c.one_round.ensures (search (rules, tests)) c.one_round.auto.locals) (omega arith) (omega arith)
