-- `put_entry` stores four numbers of an entry, and no other entry changes. Assumes nothing.
use Rattle.std.proofs.Common.{arith}
use Rattle.table_rows.proofs.Storing.{stored}
use Rattle.table_rows.proofs.put_entry.Goals as goal

pub returns : goal.returns
returns c = stored _ _ _ _ _ c.requires (omega arith) (omega arith) c.copy_from_slice.ensures.after
