-- `accepted` is the rules' report of the state that the buffers hold. Assumes nothing.
use Rattle.call_root.proofs.Laws.{reports}
use Rattle.call_root.proofs.accepted.Goals as goal

pub returns : goal.returns
returns c = reports _
