-- `finish_function` is the rules' end of a frame and of a function. Assumes nothing.
use Rattle.std.proofs.lemmas.Result.{err_from_is_err_and}
use Rattle.step_close.proofs.Functions.{function_finished, function_refused}
use Rattle.step_emit.proofs.Laws.{placed, refused}
use Rattle.step_close.proofs.finish_function.Goals as goal

pub returns-clause-finished : goal.returns-clause-finished
returns-clause-finished c =
    function_finished _ _ _ _ _ _ _ _ _ c.gives_argument-gives.ensures c.finish_frame.ensures.finished c.in_ok-after.was c.finish_frame.ensures.same_buffers.1 c.finish_frame.ensures.same_buffers.3 c.name_function.ensures (placed _ c.in_ok-name_function.was)

pub returns-in_err-name_function-clause-finished : goal.returns-in_err-name_function-clause-finished
returns-in_err-name_function-clause-finished c =
    let q = err_from_is_err_and c.from_residual-in_err-name_function.result c.from_residual-in_err-name_function.ensures.1 in
    rw (q.1, q.2) (function_finished _ _ _ _ _ _ _ _ _ c.gives_argument-gives.ensures c.finish_frame.ensures.finished c.in_ok-after.was c.finish_frame.ensures.same_buffers.1 c.finish_frame.ensures.same_buffers.3 c.name_function.ensures (refused _ c.in_err-name_function.was))

pub returns-in_err-after-clause-finished : goal.returns-in_err-after-clause-finished
returns-in_err-after-clause-finished c =
    let q = err_from_is_err_and c.from_residual.result c.from_residual.ensures.1 in
    rw (q.1, q.2) (function_refused _ _ _ _ _ _ _ _ _ c.gives_argument-gives.ensures c.finish_frame.ensures.finished c.in_err-after.was)
