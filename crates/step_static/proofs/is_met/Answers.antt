-- `step_static::is_met` meets its contract: a name above all others, or not flagged, is none of them. Assumes nothing.
use Rattle.std.proofs.Common.{◌∙◌}
use Rattle.step_static.proofs.Static.{above_none, unflagged_none}
use Rattle.step_static.proofs.is_met.Goals as goal
use Rattle.step_static.proofs.is_met.Goals.{then-name-highest, else-name-highest}

pub returns-else-is_flagged : goal.returns-else-is_flagged
returns-else-is_flagged c =
    c.if-is_flagged.false ∙ elim c.if-name-highest.branch [
      | then-name-highest w ↦ unflagged_none c.args.tree.now c.args.at c.args.n c.args.name c.requires.2 λ e. let set = w.is_flagged.ensures.1 e in cc
      | else-name-highest w ↦ above_none c.args.tree.now c.args.at c.args.n c.requires.1 w.if-name-highest.false
    ]
