-- `write_spec` writes the record of a bind or of a parameter. Assumes nothing.
use Rattle.step_spec.proofs.Keeping.{bind_written, param_written}
use Rattle.step_spec.proofs.write_spec.Goals as goal

pub returns-in-Bind : goal.returns-in-Bind
returns-in-Bind c = bind_written _ _ _ _ _ _ _ c.in-Bind.is c.emit.ensures

pub returns-in-Param : goal.returns-in-Param
returns-in-Param c = param_written _ _ _ _ _ _ _ _ _ c.in-Param.is c.emit-in-Param.ensures
