-- `tree::expect` meets its contract. Assumes nothing.
use Rattle.std.proofs.Common.{length}
use Rattle.bytes_records.proofs.Laws.{room_there, room_missing}
use Rattle.tree.proofs.Leaves.{expect_short, expect_other, expect_first}
use Rattle.tree.proofs.expect.Goals as goal

pub returns-then-not-has_room : goal.returns-then-not-has_room
returns-then-not-has_room c =
    rw c.at.ensures (expect_short c.args.tree.now c.args.mark c.args.at (room_missing c.args.at 2 (length c.args.tree.now) _ c.has_room.ensures c.if-not-has_room.true))

pub returns-then-mark_at-mark : goal.returns-then-mark_at-mark
returns-then-mark_at-mark c =
    rw c.at-then-mark_at-mark.ensures (expect_other c.args.tree.now c.args.mark c.args.at (room_there c.args.at 2 (length c.args.tree.now) _ c.has_room.ensures c.if-not-has_room.false) c.mark_at.ensures.0 c.if-mark_at-mark.true)

pub returns : goal.returns
returns c =
    expect_first c.args.tree.now c.args.mark c.args.at (room_there c.args.at 2 (length c.args.tree.now) _ c.has_room.ensures c.if-not-has_room.false) c.mark_at.ensures.0 c.if-mark_at-mark.false c.judged.ensures
