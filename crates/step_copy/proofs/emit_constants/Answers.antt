-- `emit_constants` writes the head and copies the values, or refuses. Assumes nothing.
use Rattle.std.proofs.Common.{refl, sym, ◌∙◌}
use Rattle.step_copy.proofs.Laws.{constants_emitted, constants_refused}
use Rattle.step_copy.proofs.emit_constants.Goals as goal

pub returns-then-has_room : goal.returns-then-has_room
returns-then-has_room c =
    constants_emitted c.args.tree.now c.args.out.now c.args.st c.args.at c.args.n _ refl c.put_record.result _ _ c.put_record.ensures c.put_record.auto.out c.copy_values.auto.out c.copy_values.ensures (sym c.has_room.ensures ∙ c.if-has_room.true)

pub returns : goal.returns
returns c =
    rw c.at.ensures (constants_refused c.args.tree.now c.args.out.now c.args.st c.args.at c.args.n _ refl (sym c.has_room.ensures ∙ c.if-has_room.false))
