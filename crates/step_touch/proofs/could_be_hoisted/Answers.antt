-- `could_be_hoisted` tells whether both depths are above the definition's, which isn't 0. Assumes nothing.
use Rattle.std.proofs.Common.{le-ltb, lt-ltb}
use Rattle.value_local.specs.Meaning.{local}
use Rattle.rules.specs.Scoping.{could_be_hoisted}
use Rattle.step_touch.proofs.could_be_hoisted.Goals as goal

pub returns-then-l-depth : goal.returns-then-l-depth
unfolding could_be_hoisted local
returns-then-l-depth c = simp (le-ltb _ _ c.if-l-depth.true)

pub returns-then-l-depth-2 : goal.returns-then-l-depth-2
unfolding could_be_hoisted local
returns-then-l-depth-2 c = simp (lt-ltb _ _ c.if-l-depth.false, le-ltb _ _ c.if-l-depth-2.true)

pub returns : goal.returns
unfolding could_be_hoisted local
returns c = simp (lt-ltb _ _ c.if-l-depth.false, lt-ltb _ _ c.if-l-depth-2.false)
