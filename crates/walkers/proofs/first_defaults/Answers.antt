-- `first_defaults` is whether the first of n parameters has a default. Assumes nothing.
use Rattle.law_joins.proofs.Asking.{defaults_none, defaults_first}
use Rattle.walkers.proofs.first_defaults.Goals as goal

pub returns-then-n-ne0 : goal.returns-then-n-ne0
returns-then-n-ne0 c = defaults_first _ _ _ c.if-n-ne0.true c.number_at.ensures

pub returns-else-n-ne0 : goal.returns-else-n-ne0
returns-else-n-ne0 c = defaults_none _ _ _ c.if-n-ne0.false
