-- `step_place::head_naming` meets its contract: only a method's function has a name, and only where its head's is fixed. Assumes nothing.
use Rattle.step_place.proofs.Laws.{head_unnamed, head_method, head_computed}
use Rattle.step_place.proofs.head_naming.Goals as goal

pub returns-then-number_at-eq0 : goal.returns-then-number_at-eq0
returns-then-number_at-eq0 c = head_unnamed c.args.tree.now c.args.at _ c.number_at.ensures c.if-number_at-eq0.true

pub returns-then-number_at-eq0-2 : goal.returns-then-number_at-eq0-2
returns-then-number_at-eq0-2 c =
    head_method c.args.tree.now c.args.at _ _ _ _ c.number_at.ensures c.if-number_at-eq0.false c.number_at-2.ensures c.if-number_at-eq0-2.true c.number_at-name.ensures c.number_at-span.ensures

pub returns : goal.returns
returns c =
    head_computed c.args.tree.now c.args.at _ _ _ c.number_at.ensures c.if-number_at-eq0.false c.number_at-2.ensures c.if-number_at-eq0-2.false c.number_at-span.ensures
