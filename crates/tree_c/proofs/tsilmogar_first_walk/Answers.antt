-- `tsilmogar_first_walk` answers the number of the first walk's outcome. Assumes nothing.
use Rattle.std.proofs.Common.{◌∙◌}
use Rattle.tree_c.proofs.Laws.{accepted_number, refused_number}
use Rattle.tree_c.proofs.tsilmogar_first_walk.Goals as goal

pub returns-in-Ok : goal.returns-in-Ok
returns-in-Ok c = accepted_number _ _ c.first_walk.ensures c.in-Ok.is

pub returns-in-Err : goal.returns-in-Err
returns-in-Err c = c.number.ensures.number ∙ refused_number _ _ c.first_walk.ensures c.in-Err.is
