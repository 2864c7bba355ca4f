-- `put_use` stores a local of which only what a use changes differs from its entry, and the other entries stay. Assumes nothing.
use Rattle.table_locals.proofs.Laws.{put_used}
use Rattle.table_locals.proofs.put_use.Goals as goal

pub returns : goal.returns
returns c = put_used c.args.id.0 c.args.locals.now c.args.l c.requires.0 c.requires.1
