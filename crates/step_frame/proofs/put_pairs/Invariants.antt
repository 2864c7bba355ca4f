-- `put_pairs` puts a pair for each of the owner's captures. The loop's invariant is `Pairing`, the measure what is left of the log. Assumes nothing.
use Rattle.std.proofs.Common.{◌-◌}
use Rattle.step_frame.proofs.Closing.{Pairing}
use Rattle.step_frame.proofs.put_pairs.Given as goal

abbrev pub invariant-loop-i : goal.invariant-loop-i
invariant-loop-i l = Pairing l.initial.out l.used l.captures l.count l.owner l.out l.to l.at

abbrev pub decreases-loop-i : goal.decreases-loop-i
decreases-loop-i l = l.count - l.at
