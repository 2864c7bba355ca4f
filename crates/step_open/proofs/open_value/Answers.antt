-- `step_open::open_value` meets its contract: the value depends on nothing, and its frame uses. Assumes nothing.
use Rattle.step_open.proofs.Laws.{value_opened}
use Rattle.step_open.proofs.open_value.Goals as goal

pub returns : goal.returns
returns c = value_opened _ _ _ c.args.limits c.args.st c.args.at _ c.no_dependence.ensures c.open_frame.ensures
