-- `push_in_frame` counts the local in the frame on top and puts it after the others, in either order the same. Assumes nothing.
use Rattle.step_locals.proofs.Defining.{in_frame}
use Rattle.step_locals.proofs.push_in_frame.Goals as goal

pub returns : goal.returns
returns c = in_frame c.count_local.ensures c.push_local.ensures
