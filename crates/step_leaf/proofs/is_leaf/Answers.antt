-- Whether a record has nothing below it, by its mark. Assumes nothing.
use Rattle.std.proofs.Common.{arith}
use Rattle.std.proofs.lemmas.Grind.{common_steps}
use Rattle.rules.specs.Numbers.{code}
use Rattle.step_leaf.specs.Leaves.{is_leaf}
use Rattle.step_leaf.proofs.is_leaf.Goals as goal

pub returns-in-18756 : goal.returns-in-18756
unfolding code is_leaf
returns-in-18756 c = grind (arith, common_steps)

pub returns-in_default : goal.returns-in_default
unfolding code is_leaf
returns-in_default c = grind (arith, common_steps)
