-- `finish_object` is the rules' end of a frame and the record of the object. Assumes nothing.
use Rattle.std.proofs.lemmas.Result.{err_from_is_err_and}
use Rattle.step_close.proofs.Behind.{object_finished, object_refused}
use Rattle.step_emit.proofs.Laws.{placed, refused}
use Rattle.step_close.proofs.finish_object.Goals as goal

pub returns-clause-finished : goal.returns-clause-finished
returns-clause-finished c =
    object_finished _ _ _ _ c.finish_frame.ensures.finished c.in_ok-after.was c.finish_frame.ensures.same_buffers.1 c.finish_frame.ensures.same_buffers.3 _ _ _ _ _ _ c.leave_object.ensures (placed _ c.in_ok-leave_object.was)

pub returns-in_err-leave_object-clause-finished : goal.returns-in_err-leave_object-clause-finished
returns-in_err-leave_object-clause-finished c =
    let q = err_from_is_err_and c.from_residual-in_err-leave_object.result c.from_residual-in_err-leave_object.ensures.1 in
    rw (q.1, q.2) (object_finished _ _ _ _ c.finish_frame.ensures.finished c.in_ok-after.was c.finish_frame.ensures.same_buffers.1 c.finish_frame.ensures.same_buffers.3 _ _ _ _ _ _ c.leave_object.ensures (refused _ c.in_err-leave_object.was))

pub returns-in_err-after-clause-finished : goal.returns-in_err-after-clause-finished
returns-in_err-after-clause-finished c =
    let q = err_from_is_err_and c.from_residual.result c.from_residual.ensures.1 in
    rw (q.1, q.2) (λ d. object_refused _ _ _ _ c.finish_frame.ensures.finished _ _ _ _ _ c.in_err-after.was)
