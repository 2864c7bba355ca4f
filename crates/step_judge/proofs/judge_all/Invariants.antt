-- `judge_all` judges the locals of the frame on top, the last first. The invariant: judging those that are left gives what judging all gives. Assumes nothing.
use Rattle.step_judge.proofs.Judging.{Judging}
use Rattle.step_judge.proofs.judge_all.Given as goal

abbrev pub invariant-loop-left : goal.invariant-loop-left
invariant-loop-left l = Judging l.initial.diagnostics l.locals l.frames l.at l.first l.initial.after l.diagnostics l.after l.left
