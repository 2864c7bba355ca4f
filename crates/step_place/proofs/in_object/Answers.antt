-- `step_place::in_object` meets its contract: the outermost's `$` stays. Assumes nothing.
use Rattle.step_place.proofs.Laws.{inside_another, inside_first}
use Rattle.step_place.proofs.in_object.Goals as goal

pub returns-then-here : goal.returns-then-here
returns-then-here c = inside_another c.args.here c.args.id c.if-here.true

pub returns-else-here : goal.returns-else-here
returns-else-here c = inside_first c.args.here c.args.id c.if-here.false
