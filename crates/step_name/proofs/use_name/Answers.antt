-- `use_name` is the rules' step of a name, up to the slot. Assumes nothing.
use Rattle.std.proofs.Common.{arith}
use Rattle.rules.specs.Numbers.{code}
use Rattle.step_name.proofs.Using.{identity_name, variable_name}
use Rattle.step_name.proofs.use_name.Goals as goal

pub use_identity-requires : goal.use_identity-requires
unfolding code
use_identity-requires c = (c.requires.0, c.requires.1 c.in-18756.is, c.requires.2, c.requires.3)

pub returns-in-18756 : goal.returns-in-18756
unfolding code
returns-in-18756 c = identity_name _ _ _ c.use_identity.ensures c.in-18756.is

pub returns-in_default : goal.returns-in_default
unfolding code
returns-in_default c = variable_name _ _ _ c.use_variable.ensures (λ e. omega arith)
