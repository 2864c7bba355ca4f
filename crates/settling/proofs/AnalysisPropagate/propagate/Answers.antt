-- The first loop's `propagate` does what the rules' does for one reference. Assumes nothing.
use Rattle.value_local.specs.Meaning.{local}
use Rattle.settling.proofs.Propagating.{analysis_propagated}
use Rattle.settling.proofs.AnalysisPropagate.propagate.Goals as goal

pub returns : goal.returns
unfolding local
returns c =
    analysis_propagated c.local_at-user_def.ensures c.local_at-used_def.ensures c.taint_by-tainted.ensures c.depend_on_local-analysis.ensures c.with_analysis.ensures
    c.put_local.ensures c.same.ensures
