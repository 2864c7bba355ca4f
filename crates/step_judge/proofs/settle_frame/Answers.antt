-- `settle_frame` is the rules' `settle_frame` with its loop. Assumes nothing.
use Rattle.step_judge.proofs.Settled.{inside, frame_settled}
use Rattle.step_judge.proofs.settle_frame.Goals as goal

pub settle-rounds-requires : goal.settle-rounds-requires
settle-rounds-requires g c = (c.requires.few_kept, inside c.requires)

pub returns : goal.returns
returns g c = frame_settled c.requires g.L.Propagate.rule c.settle-rounds.auto.locals c.settle-rounds.ensures
