-- `write_slot` writes the mark and the number of the slot. Assumes nothing.
use Rattle.std.proofs.Common.{ap, refl}
use Rattle.rules.specs.Numbers.{LS, CS, mark_bytes, code}
use Rattle.rules.specs.Writing.{slot_mark}
use Rattle.table_captures.specs.Meaning.{slot}
use Rattle.table_captures.specs.declared.LSlot.{LSlot}
use Rattle.step_name.proofs.Slots.{slot_written}
use Rattle.step_name.proofs.write_slot.Goals as goal

pub returns-in-Local : goal.returns-in-Local
unfolding mark_bytes code slot_mark slot
returns-in-Local c =
    slot_written _ _ _ _ _ _ LS _ _ c.emit.ensures refl (ap (λ (s : LSlot). slot_mark (slot s)) c.in-Local.is) c.slot_number.ensures.0

pub returns-in-Capture : goal.returns-in-Capture
unfolding mark_bytes code slot_mark slot
returns-in-Capture c =
    slot_written _ _ _ _ _ _ CS _ _ c.emit-in-Capture.ensures refl (ap (λ (s : LSlot). slot_mark (slot s)) c.in-Capture.is) c.slot_number.ensures.0
