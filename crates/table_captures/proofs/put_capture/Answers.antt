-- `put_capture` stores a capture, and the other entries stay. Assumes nothing.
use Rattle.table_captures.proofs.Laws.{capture_stored}
use Rattle.table_captures.proofs.put_capture.Goals as goal

pub returns-clause-at : goal.returns-clause-at
returns-clause-at c = capture_stored _ _ _ _ _ _ c.put_entry.ensures c.slot_kind.ensures c.slot_number.ensures.0
