-- `set_analysis` is the rules'. Assumes nothing.
use Rattle.step_retain.proofs.Keeping.{analysed}
use Rattle.step_retain.proofs.set_analysis.Goals as goal

pub returns : goal.returns
returns c =
    analysed _ _ _ c.local_at-l.result c.requires.1 c.local_at-l.ensures c.put_local.ensures c.with_analysis.ensures
