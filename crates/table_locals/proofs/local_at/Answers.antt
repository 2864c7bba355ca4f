-- `local_at` answers an entry's local. Assumes nothing.
use Rattle.std.proofs.Common.{◌∙◌}
use Rattle.table_locals.proofs.Laws.{local_lent}
use Rattle.table_locals.proofs.local_at.Goals as goal

pub returns : goal.returns
returns c = λ n h. c.from_entry.ensures ∙ local_lent n c.args.id.0 c.args.locals.now h
