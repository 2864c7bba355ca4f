-- `step_static::is_flagged` meets its contract. Assumes nothing.
use Rattle.std.proofs.Common.{rules}
use Rattle.step_static.specs.Answers.{flag_of}
use Rattle.step_static.proofs.is_flagged.Goals as goal

pub returns : goal.returns
unfolding flag_of
returns c = rw c.word_of.ensures.0 (search rules)
