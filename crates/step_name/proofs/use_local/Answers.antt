-- `use_local` is the rules' `touch_local`. Assumes nothing.
use Rattle.step_name.proofs.Using.{local_used}
use Rattle.step_name.proofs.use_local.Goals as goal

pub returns : goal.returns
returns c = local_used c.touch_local-touched.ensures c.touch_local-touched.auto.locals
