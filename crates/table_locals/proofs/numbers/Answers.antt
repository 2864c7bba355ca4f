-- `numbers` gives each part of a local as its number. Assumes nothing.
use Rattle.std.proofs.Common.{refl}
use Rattle.table_locals.specs.Meaning.{is_record, place_of, numbers}
use Rattle.table_locals.proofs.numbers.Goals as goal
use Rattle.table_locals.proofs.numbers.Goals.{in-Record, in-External}

pub returns : goal.returns
unfolding numbers is_record place_of
returns c =
    rw (c.is_some.ensures, c.unwrap_or.ensures)
    (elim c.match-l.branch [ in-Record w ↦ rw (w.in-Record.is, w.is_record-is) refl | in-External w ↦ rw (w.in-External.is, w.is_record-is) refl ])
