-- `finish_local` is the rules' end of a frame and the record of the local. Assumes nothing.
use Rattle.std.proofs.lemmas.Result.{err_from_is_err_and}
use Rattle.step_close.proofs.Behind.{local_finished, local_refused}
use Rattle.step_emit.proofs.Laws.{placed, refused}
use Rattle.step_close.proofs.finish_local.Goals as goal

pub returns-clause-finished : goal.returns-clause-finished
returns-clause-finished c =
    local_finished _ _ _ _ c.finish_frame.ensures.finished c.in_ok-after.was c.finish_frame.ensures.same_buffers.1 c.finish_frame.ensures.same_buffers.3 c.emit.ensures (placed _ c.in_ok-emit.was)

pub returns-in_err-emit-clause-finished : goal.returns-in_err-emit-clause-finished
returns-in_err-emit-clause-finished c =
    let q = err_from_is_err_and c.from_residual-in_err-emit.result c.from_residual-in_err-emit.ensures.1 in
    rw (q.1, q.2) (local_finished _ _ _ _ c.finish_frame.ensures.finished c.in_ok-after.was c.finish_frame.ensures.same_buffers.1 c.finish_frame.ensures.same_buffers.3 c.emit.ensures (refused _ c.in_err-emit.was))

pub returns-in_err-after-clause-finished : goal.returns-in_err-after-clause-finished
returns-in_err-after-clause-finished c =
    let q = err_from_is_err_and c.from_residual.result c.from_residual.ensures.1 in
    rw (q.1, q.2) (local_refused _ _ _ _ c.finish_frame.ensures.finished c.in_err-after.was)
