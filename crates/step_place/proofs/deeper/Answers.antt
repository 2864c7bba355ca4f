-- `step_place::deeper` meets its contract. Assumes nothing.
use Rattle.step_place.proofs.Laws.{gone_deeper}
use Rattle.step_place.proofs.deeper.Goals as goal

pub returns : goal.returns
returns c = gone_deeper c.args.here
