-- `touch_object` is the rules'. Assumes nothing.
use Rattle.std.proofs.Common.{ap, ◌∙◌}
use Rattle.rules.specs.Depths.{depend_on_object}
use Rattle.step_touch.proofs.Laws.{object_touched}
use Rattle.step_touch.proofs.touch_object.Goals as goal

pub returns : goal.returns
returns c =
    object_touched _ _ _ c.local_at-l.result c.requires.1 c.local_at-l.ensures _ (c.depend_on_object-taint.ensures ∙ ap (depend_on_object c.local_at-l.result.defined_at_depth) c.depend_on_local-depends.ensures)
