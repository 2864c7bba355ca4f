-- What the static check says of a call that was accepted. Assumes nothing.
use Rattle.std.specs.Prelude.{false, [], ◌≡◌, take}
use Rattle.rules.specs.Outcome.{ok}
use Rattle.rules.specs.Tree.{Tree}
use Rattle.rules.specs.FirstWalk.{tree_at}
use Rattle.rules.specs.State.{AnalysisStack}
use Rattle.rules.specs.Call.{Lent, Left}
use Rattle.claim_scope.specs.StaticCheck.{errors_of, errors_in, any_found}
use Rattle.claim_scope.specs.Judgement.{Passes, PassesByLetter, Surrounds}

-- "exactly those": nothing unbound is missed, nothing bound is reported, in order; none exactly if the judgement holds
pub record Checked (b : Lent) (σ : AnalysisStack) : Type 0 where
  pub tree : Tree
  pub read : tree_at b.tree ≡ ok tree
  pub says : errors_in σ.sink.diagnostics ≡ errors_of tree
  pub errored : σ.sink.errored ≡ any_found (errors_of tree)
  pub quiet_passes : errors_in σ.sink.diagnostics ≡ [] → Passes tree
  pub passing_is_quiet : Passes tree → errors_in σ.sink.diagnostics ≡ []
  pub quiet_passes_by_letter : errors_in σ.sink.diagnostics ≡ [] → PassesByLetter tree
  pub passing_by_letter_is_quiet : Surrounds tree.root → PassesByLetter tree → errors_in σ.sink.diagnostics ≡ []

-- the same of what a call leaves with its caller: the diagnostics are the buffer's bytes up to the length that the report says
pub record CheckedCall (b : Lent) (left : Left) : Type 0 where
  pub tree : Tree
  pub read : tree_at b.tree ≡ ok tree
  pub says : errors_in (take left.report.diagnostics_length left.diagnostics) ≡ errors_of tree
  pub errored : left.report.errored ≡ any_found (errors_of tree)
  pub quiet_passes : left.report.errored ≡ false → Passes tree
  pub passing_is_quiet : Passes tree → left.report.errored ≡ false
