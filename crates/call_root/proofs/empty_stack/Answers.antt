-- `empty_stack` is the rules' empty state, and fits tables that are long enough. Assumes nothing.
use Rattle.call_root.proofs.Laws.{empty}
use Rattle.call_root.proofs.empty_stack.Goals as goal

pub returns : goal.returns
returns c = empty _ c.no_dependence.ensures
