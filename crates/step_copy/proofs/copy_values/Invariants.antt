-- `copy_values` copies the values of n constants. The invariant: the first i are copied, and the length is as it was. Assumes nothing.
use Rattle.std.proofs.Common.{length, ◌≡◌, ◌≤◌}
use lib.Seq.{sets}
use Rattle.rules.specs.Numbers.{numbers_bytes}
use Rattle.law_runs.specs.Steps.{values_from}
use Rattle.step_copy.proofs.copy_values.Given as goal

abbrev pub invariant-loop-i : goal.invariant-loop-i
invariant-loop-i l = (l.i ≤ l.n) × (length l.out ≡ length l.initial.out) × (l.out ≡ sets l.initial.out l.used (numbers_bytes (values_from l.tree l.i l.at)))
