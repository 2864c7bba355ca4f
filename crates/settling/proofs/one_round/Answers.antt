-- `one_round` is one round of the rules' loop. The invariant: what is left of the round gives what the whole gives. Assumes nothing.
use Rattle.settling.proofs.Turns.{both_inside, round_goes_on, round_ends}
use Rattle.settling.proofs.one_round.Goals as goal

pub propagate-changed-requires : goal.propagate-changed-requires
propagate-changed-requires g c = both_inside c.loop-k.invariant c.loop-k-test.true _ c.reference_at-r.ensures c.requires

pub loop-k-preserved : goal.loop-k-preserved
loop-k-preserved g c =
    round_goes_on c.loop-k.invariant c.loop-k-test.true _ c.reference_at-r.ensures g.met.L.Propagate.ors c.propagate-changed.auto.locals c.propagate-changed.ensures

pub returns : goal.returns
returns g c = round_ends c.loop-k.invariant c.loop-k-test.false
