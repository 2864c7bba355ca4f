-- The invariant: what lies before i is filled, and the length is as it was. Assumes nothing.
use Rattle.std.proofs.Common.{◌≡◌, ◌-◌, length, replicate}
use Rattle.std.proofs.Math.Seq.{paste}
use Rattle.bytes_write.proofs.fill_from.Given as goal

abbrev pub invariant-loop-i : goal.invariant-loop-i
invariant-loop-i g l = (length l.row ≡ length l.fn.row) × (l.row ≡ paste l.fn.row l.from (replicate (l.i - l.from) l.value) (l.i - l.from))
