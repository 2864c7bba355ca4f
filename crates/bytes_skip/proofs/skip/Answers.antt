-- `skip` goes where reading went. Assumes nothing.
use Rattle.std.proofs.Common.{length}
use Rattle.bytes_records.proofs.Laws.{room_missing}
use Rattle.bytes_skip.proofs.Going.{size_seen, children_seen, skip_stuck, skip_crowded, skip_over, skip_next, skip_end}
use Rattle.bytes_skip.proofs.Reading.{reads}
use Rattle.bytes_skip.proofs.skip.Goals as goal

pub returns-then-not-has_room : goal.returns-then-not-has_room
returns-then-not-has_room c =
    λ levels allowed e q h. skip_stuck c.args.tree.now c.loop-left.p c.loop-left.left q (c.loop-left.invariant q (reads c.args.tree.now levels allowed e q h)) c.loop-left-test.true (rw (size_seen c.args.tree.now c.loop-left.p c.mark_at-mark.result c.size_of-size.result c.mark_at-mark.ensures.0 c.size_of-size.ensures.0) at (room_missing c.loop-left.p c.size_of-size.result (length c.args.tree.now) _ c.has_room.ensures c.if-not-has_room.true))

pub returns-then-room-left : goal.returns-then-room-left
returns-then-room-left c =
    λ levels allowed e q h. skip_crowded c.args.tree.now c.loop-left.p c.loop-left.left q (c.loop-left.invariant q (reads c.args.tree.now levels allowed e q h)) c.loop-left-test.true c.if-room-left.true

pub returns-then-room-left-2 : goal.returns-then-room-left-2
returns-then-room-left-2 c =
    λ levels allowed e q h. skip_over c.args.tree.now c.loop-left.p c.loop-left.left q (c.loop-left.invariant q (reads c.args.tree.now levels allowed e q h)) c.loop-left-test.true c.if-room-left.false (rw (children_seen c.args.tree.now c.loop-left.p c.mark_at-mark.result c.children-more.result c.mark_at-mark.ensures.0 c.children-more.ensures) at c.if-room-left-2.true)

pub loop-left-preserved : goal.loop-left-preserved
loop-left-preserved c =
    λ q g. rw ((size_seen c.args.tree.now c.loop-left.p c.mark_at-mark.result c.size_of-size.result c.mark_at-mark.ensures.0 c.size_of-size.ensures.0), (children_seen c.args.tree.now c.loop-left.p c.mark_at-mark.result c.children-more.result c.mark_at-mark.ensures.0 c.children-more.ensures)) (skip_next c.args.tree.now c.loop-left.p c.loop-left.left q (c.loop-left.invariant q g) c.loop-left-test.true)

pub returns : goal.returns
returns c =
    λ levels allowed e q h. skip_end c.args.tree.now c.loop-left.p c.loop-left.left q (c.loop-left.invariant q (reads c.args.tree.now levels allowed e q h)) c.loop-left-test.false
