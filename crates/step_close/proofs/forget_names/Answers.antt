-- `forget_names` cuts both tables to what they held before the frame on top. Assumes nothing.
use Rattle.step_close.proofs.Forgetting.{names_forgotten}
use Rattle.step_close.proofs.forget_names.Goals as goal

pub returns : goal.returns
returns c = names_forgotten _ c.first_in_frame-first.ensures
