-- `define_this` is the rules'. Assumes nothing.
use Rattle.value_local.specs.Meaning.{binding_of, name_of}
use Rattle.step_locals.proofs.Defining.{this_defined}
use Rattle.step_locals.proofs.define_this.Goals as goal

pub returns : goal.returns
unfolding binding_of name_of
returns c = this_defined c.push_in_frame.ensures _ c.new-l.ensures
