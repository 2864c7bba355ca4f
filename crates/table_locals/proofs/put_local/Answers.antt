-- `put_local` stores a local, and the other entries stay. Assumes nothing.
use Rattle.std.proofs.Common.{arith, ◌∙◌}
use Rattle.table_locals.proofs.Laws.{put_entry}
use Rattle.table_locals.proofs.put_local.Goals as goal

pub returns : goal.returns
returns c = put_entry _ _ _ _ c.args.l c.requires (omega arith) (c.copy_from_slice.ensures.after ∙ c.numbers.ensures)
