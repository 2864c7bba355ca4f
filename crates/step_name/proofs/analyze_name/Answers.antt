-- `analyze_name` is the rules' step of a name and the place after. Assumes nothing.
use Rattle.std.proofs.lemmas.Result.{err_from_is_err_and}
use Rattle.step_emit.proofs.Laws.{placed, refused}
use Rattle.step_name.proofs.Using.{slot_kept, name_slot, name_done, name_refused}
use Rattle.step_name.proofs.analyze_name.Goals as goal

pub emit_slot-requires : goal.emit_slot-requires
emit_slot-requires c = (slot_kept c.use_name.ensures c.in_ok-used.was c.in-Some.is c.requires.kept.0, c.requires.kept.1)

pub returns : goal.returns
returns c = name_slot _ _ c.use_name.ensures c.in_ok-used.was c.in-Some.is c.emit_slot.ensures (placed _ c.in_ok-written.was)

pub returns-in_err-written : goal.returns-in_err-written
returns-in_err-written c =
    let q = err_from_is_err_and c.from_residual-in_err-written.result c.from_residual-in_err-written.ensures.1 in
    rw (q.1, q.2) (name_slot _ _ c.use_name.ensures c.in_ok-used.was c.in-Some.is c.emit_slot.ensures (refused _ c.in_err-written.was))

pub returns-in_default : goal.returns-in_default
returns-in_default c = name_done _ _ c.use_name.ensures c.in_ok-used.was c.in_default.is

pub returns-in_err-used : goal.returns-in_err-used
returns-in_err-used c =
    let q = err_from_is_err_and c.from_residual.result c.from_residual.ensures.1 in
    rw (q.1, q.2) (name_refused _ _ c.use_name.ensures c.in_err-used.was)
