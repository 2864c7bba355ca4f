-- `count_local` gives the frame on top one local more, and what was kept is kept. Assumes nothing.
use Rattle.step_locals.proofs.Defining.{counted}
use Rattle.step_locals.proofs.count_local.Goals as goal

pub returns : goal.returns
returns c =
    counted _ _ _ c.frame_at-top.result c.requires.1 c.requires.2 c.frame_at-top.ensures c.put_frame.ensures.at c.put_frame.ensures.others c.put_frame.auto.frames
