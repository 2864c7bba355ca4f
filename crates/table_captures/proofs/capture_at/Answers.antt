-- `capture_at` answers the capture of an entry. Assumes nothing.
use Rattle.std.proofs.Common.{arith, sym, ◌∙◌}
use Rattle.table_captures.specs.Meaning.{logged}
use Rattle.table_captures.proofs.Laws.{logged_read, log_at_is, source_small}
use Rattle.table_captures.proofs.capture_at.Goals as goal

pub slot_of-requires : goal.slot_of-requires
slot_of-requires c = omega (arith, c.entry_number-2.ensures, source_small _ _ c.requires.1)

pub returns : goal.returns
unfolding logged
returns c =
    λ n h. rw (c.owner_at.ensures, c.target_at.ensures, c.slot_of.ensures, c.entry_number.ensures, c.entry_number-2.ensures)
    (rw (logged_read c.args.captures.now c.args.i) (sym (log_at_is n c.args.i c.args.captures.now h ∙ logged_read c.args.captures.now c.args.i)))
