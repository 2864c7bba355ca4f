-- `first_in_frame` answers the first local of the frame on top, and 0 where no frame is open. Assumes nothing.
use Rattle.std.proofs.Common.{arith}
use Rattle.step_locals.proofs.Finding.{no_frame_first, top_first}
use Rattle.step_locals.proofs.first_in_frame.Goals as goal

pub returns-then-n-eq0 : goal.returns-then-n-eq0
returns-then-n-eq0 c = no_frame_first _ _ c.if-n-eq0.true

pub returns : goal.returns
returns c = top_first _ _ _ (omega arith) c.frame_at-top.ensures
