-- `step_open::enter_object` meets its contract. Assumes nothing.
use Rattle.step_open.proofs.Beginning.{entered_another, entered_first}
use Rattle.step_open.proofs.enter_object.Goals as goal
use Rattle.step_open.proofs.enter_object.Goals.{then-here, else-here}

pub returns : goal.returns
returns c =
    elim c.if-here.branch [
      | then-here w ↦ entered_another c.args.st c.args.here w.if-here.true w.result-is
      | else-here w ↦ entered_first c.args.st c.args.here w.if-here.false w.result-is
    ]
