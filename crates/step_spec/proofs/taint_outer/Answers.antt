-- `taint_outer` is the rules' `taint_outer`. Assumes nothing.
use Rattle.step_spec.proofs.Keeping.{outer_tainted}
use Rattle.step_spec.proofs.taint_outer.Goals as goal

pub returns : goal.returns
returns c = outer_tainted _ _ _ c.taint_by-taint.ensures
