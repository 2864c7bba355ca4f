-- `step_static::is_static` meets its contract. The loop's invariant: the whole is static where the heads left are, beside the names before them, of which none is above the highest and each is flagged. Assumes nothing.
use Rattle.step_static.specs.Answers.{NoneAbove, Flagged}
use Rattle.step_static.proofs.Static.{Static}
use Rattle.step_static.proofs.is_static.Given as goal

abbrev pub invariant-loop-i : goal.invariant-loop-i
invariant-loop-i l = (Static l.tree l.at l.n l.i) × (NoneAbove l.tree l.at l.i l.highest) × (Flagged l.tree l.at l.i l.met)
