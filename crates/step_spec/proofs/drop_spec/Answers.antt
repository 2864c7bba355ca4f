-- `drop_spec` takes the output back, and every local stays as it is. Assumes nothing.
use Rattle.step_spec.proofs.Keeping.{spec_dropped}
use Rattle.step_spec.proofs.drop_spec.Goals as goal

pub returns : goal.returns
returns c = spec_dropped _ _ c.requires
