-- `judge_all` judges the locals of the frame on top, the last first. The invariant: judging those that are left gives what judging all gives. Assumes nothing.
use Rattle.std.proofs.lemmas.Result.{err_from_is_err_and}
use Rattle.step_judge.proofs.Judging.{judging_begins, judging_goes_on, judging_stops, judging_ends}
use Rattle.step_judge.proofs.judge_all.Goals as goal

pub loop-left-init : goal.loop-left-init
loop-left-init c = judging_begins _ c.first_in_frame-first.ensures

pub returns-in_err-after : goal.returns-in_err-after
returns-in_err-after c =
    let q = err_from_is_err_and c.from_residual.result c.from_residual.ensures.1 in
    rw (q.1, q.2, ← c.in_err-after.was) (judging_stops c.loop-left.invariant c.loop-left-test.true _ c.local_at.ensures c.in_err-after.was c.judge.ensures)

pub loop-left-preserved : goal.loop-left-preserved
loop-left-preserved c =
    judging_goes_on c.loop-left.invariant c.loop-left-test.true _ c.local_at.ensures c.in_ok-after.was c.judge.auto.diagnostics c.judge.ensures

pub returns : goal.returns
returns c = judging_ends c.loop-left.invariant c.loop-left-test.false
