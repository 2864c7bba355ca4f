-- `push_local` puts a local after the others, or refuses with 6. Assumes nothing.
use Rattle.step_locals.proofs.Defining.{no_room, pushed}
use Rattle.step_locals.proofs.push_local.Goals as goal

pub returns-then-limits-n : goal.returns-then-limits-n
returns-then-limits-n c = no_room _ _ _ _ _ c.if-limits-n.true

pub returns : goal.returns
returns c = pushed _ _ _ _ _ _ c.if-limits-n.false c.put_local.ensures
