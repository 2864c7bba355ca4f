-- `taint_by_local` depends on the local, and on what the local depends on where that is known. Assumes nothing.
use Rattle.step_touch.proofs.Laws.{taints_too, only_depends}
use Rattle.step_touch.proofs.taint_by_local.Goals as goal

pub returns-then-l : goal.returns-then-l
returns-then-l c = taints_too _ _ c.args.l c.depend_on_local-depends.ensures _ c.if-l.true c.taint_by.ensures

pub returns : goal.returns
returns c = only_depends _ _ c.args.l c.depend_on_local-depends.ensures c.if-l.false
