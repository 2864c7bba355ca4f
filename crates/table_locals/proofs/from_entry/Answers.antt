-- `from_entry` reads each part of a local from its number. Assumes nothing.
use Rattle.value_local.specs.Meaning.{local}
use Rattle.table_locals.specs.Meaning.{local_of_row}
use Rattle.table_locals.proofs.Laws.{not_zero_set, named_read}
use Rattle.table_locals.proofs.from_entry.Goals as goal

pub returns : goal.returns
unfolding local local_of_row
returns c = rw (c.binding.ensures, c.then_some.ensures) (simp (not_zero_set, named_read))
