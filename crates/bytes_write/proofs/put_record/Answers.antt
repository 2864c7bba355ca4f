-- `put_record` puts a record after what was used, or answers that it has no room. Assumes nothing.
use Rattle.std.proofs.Common.{get_or, refl, ◌∙◌, arith}
use Rattle.bytes_write.proofs.Laws.{length_numbers_bytes, put_stored}
use Rattle.bytes_write.proofs.put_record.Goals as goal

pub returns-then-room-ns : goal.returns-then-room-ns
returns-then-room-ns c =
    (omega (arith, length_numbers_bytes c.args.ns.now, c.in_ok-checked_sub.ensures.1, c.in_ok-room.ensures.1), refl)

pub returns : goal.returns
returns c = (
  omega (arith, length_numbers_bytes c.args.ns.now),
  omega arith,
  c.put_numbers.ensures
      ∙ put_stored c.args.out.now c.args.used (get_or c.args.mark.now 0 0) (get_or c.args.mark.now 1 0) c.args.ns.now
      (omega (arith, length_numbers_bytes c.args.ns.now)),
)
