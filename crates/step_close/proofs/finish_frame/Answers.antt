-- `finish_frame` is the rules'. Assumes nothing.
use Rattle.std.proofs.lemmas.Result.{err_from_is_err_and}
use Rattle.step_close.proofs.Finishing.{judgeable, frames_there, fit_judged, closeable, frame_finished, frame_stopped}
use Rattle.step_close.proofs.finish_frame.Goals as goal

pub judge_all-requires : goal.judge_all-requires
judge_all-requires c = judgeable c.requires.1 c.settle_frame-settled.ensures

pub forget_names-forgotten-requires : goal.forget_names-forgotten-requires
forget_names-forgotten-requires c = frames_there (fit_judged c.requires.1 c.settle_frame-settled.ensures _ c.judge_all.ensures c.in_ok-after.was)

pub close_frame-requires : goal.close_frame-requires
close_frame-requires c =
    closeable c.requires.1 c.settle_frame-settled.ensures _ c.judge_all.ensures c.in_ok-after.was c.requires.0.before_there c.forget_names-forgotten.ensures

pub returns-clause-finished : goal.returns-clause-finished
returns-clause-finished c =
    frame_finished c.requires.1 c.settle_frame-settled.ensures _ c.judge_all.ensures c.in_ok-after.was c.requires.0.before_there c.forget_names-forgotten.ensures c.judge_all.auto.diagnostics c.close_frame.ensures

pub returns-in_err-after-clause-finished : goal.returns-in_err-after-clause-finished
returns-in_err-after-clause-finished c =
    let q = err_from_is_err_and c.from_residual.result c.from_residual.ensures.1 in
    rw (q.1, q.2) (frame_stopped c.requires.1 c.settle_frame-settled.ensures _ c.judge_all.ensures c.in_err-after.was)
