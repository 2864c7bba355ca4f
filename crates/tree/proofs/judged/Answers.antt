-- `tree::judged` meets its contract. Assumes nothing.
use Rattle.std.proofs.Common.{ap, length, sym, ◌∙◌}
use Rattle.rules.specs.Records.{all_in_range, fields, numbers_of}
use Rattle.bytes_records.specs.Marks.{mark_of}
use Rattle.bytes_records.proofs.Laws.{room_there, room_missing, numbers_part}
use Rattle.tree.proofs.Laws.{judged_short, judged_wrong, judged_right}
use Rattle.tree.proofs.judged.Goals as goal

pub returns-then-not-has_room : goal.returns-then-not-has_room
returns-then-not-has_room c =
    rw c.at.ensures (judged_short c.args.tree.now (mark_of c.args.mark) c.args.at (rw c.size_of-size.ensures.0 at (room_missing c.args.at c.size_of-size.result (length c.args.tree.now) _ c.has_room.ensures c.if-not-has_room.true)))

pub returns-then-not-in_range : goal.returns-then-not-in_range
returns-then-not-in_range c =
    rw c.at-then-not-in_range.ensures (judged_wrong c.args.tree.now (mark_of c.args.mark) c.args.at (rw c.size_of-size.ensures.0 at (room_there c.args.at c.size_of-size.result (length c.args.tree.now) _ c.has_room.ensures c.if-not-has_room.false)) (sym (c.in_range.ensures ∙ ap (all_in_range (fields (mark_of c.args.mark))) (numbers_part c.args.tree.now c.args.at (numbers_of (mark_of c.args.mark)) 2)) ∙ c.if-not-in_range.true))

pub returns : goal.returns
returns c =
    rw c.size_of-size.ensures.0 (judged_right c.args.tree.now (mark_of c.args.mark) c.args.at (rw c.size_of-size.ensures.0 at (room_there c.args.at c.size_of-size.result (length c.args.tree.now) _ c.has_room.ensures c.if-not-has_room.false)) (sym (c.in_range.ensures ∙ ap (all_in_range (fields (mark_of c.args.mark))) (numbers_part c.args.tree.now c.args.at (numbers_of (mark_of c.args.mark)) 2)) ∙ c.if-not-in_range.false))
