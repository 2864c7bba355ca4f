-- `copy_bytes` copies a mark and n numbers. The invariant: the mark and the first i numbers are copied, and the length is as it was. Assumes nothing.
use Rattle.std.proofs.Common.{drop, length, take, ◌*◌, ◌+◌, ◌≡◌, ◌≤◌}
use lib.Seq.{sets}
use Rattle.step_copy.proofs.copy_bytes.Given as goal

abbrev pub invariant-loop-i : goal.invariant-loop-i
invariant-loop-i l = (l.i ≤ l.n) × (length l.out ≡ length l.fn.out) × (l.out ≡ sets l.fn.out l.used (take (2 + 4 * l.i) (drop l.at l.tree)))
