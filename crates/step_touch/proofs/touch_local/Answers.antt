-- `touch_local` is the rules'. Assumes nothing.
use Rattle.std.proofs.Common.{rules}
use Rattle.step_touch.proofs.Laws.{touches_only, touched}
use Rattle.step_touch.proofs.touch_local.Goals as goal

pub put_use-requires : goal.put_use-requires
put_use-requires c =
    (search rules, touches_only _ c.args.st c.args.id.0 c.local_at-l.result c.requires.1 c.local_at-l.ensures c.use_at-used.result _ c.args.depth c.note_reference.ensures c.use_at-used.ensures)

pub returns : goal.returns
returns c =
    touched _ c.args.st c.args.id.0 c.local_at-l.result c.requires.1 c.local_at-l.ensures c.use_at-used.result _ _ c.put_use.ensures c.note_reference.ensures c.use_at-used.ensures c.taint_by_local-taint.ensures
