-- `step_place::bind_naming` meets its contract: `BF` has a name, `BV` has none. Assumes nothing.
use Rattle.step_place.proofs.Laws.{bind_unnamed, bind_named}
use Rattle.step_place.proofs.bind_naming.Goals as goal

pub returns-then-mark_at-ne-BF : goal.returns-then-mark_at-ne-BF
returns-then-mark_at-ne-BF c = bind_unnamed c.args.tree.now c.args.at _ c.mark_at.ensures.0 c.if-mark_at-ne-BF.true

pub returns : goal.returns
returns c =
    bind_named c.args.tree.now c.args.at _ _ _ c.mark_at.ensures.0 c.if-mark_at-ne-BF.false c.number_at-name.ensures c.number_at-span.ensures
