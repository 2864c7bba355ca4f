-- `push_frame` puts a new frame on the others. Assumes nothing.
use Rattle.resolver.proofs.Opening.{opened}
use Rattle.resolver.proofs.push_frame.Goals as goal

pub returns : goal.returns
returns c = opened _ _ _ _ c.put_frame.ensures.at c.put_frame.ensures.others c.requires.0 c.put_frame.auto.frames c.requires.1
