-- `refused` is the rules' report of a refusal. Assumes nothing.
use Rattle.std.proofs.Common.{refl}
use Rattle.rules.specs.Call.{report_of}
use Rattle.call_root.specs.Answers.{report_meaning}
use Rattle.call_root.proofs.refused.Goals as goal

pub returns : goal.returns
unfolding report_meaning report_of
returns c = refl
