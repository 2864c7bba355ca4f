-- What a call of `analyze` returns and leaves in its buffers, in the words of the user's three demands. Assumes nothing.
use Rattle.std.specs.Prelude.{ℕ, ◌-◌, true, false, List, ◌≡◌, length, take, drop, replicate}
use Rattle.std.proofs.Math.Option.{some}
use Rattle.rules.specs.Outcome.{ok, is_refusal_number}
use Rattle.rules.specs.Tree.{Tree}
use Rattle.rules.specs.FirstWalk.{tree_at}
use Rattle.rules.specs.Call.{call}
use Rattle.state.specs.Seen.{Buffers}
use Rattle.state.specs.declared.Limits.{Limits}
use Rattle.call_root.specs.Answers.{lent, left}
use Rattle.call_root.specs.declared.AnalysisReport.{AnalysisReport}
use Rattle.claim_scope.specs.StaticCheck.{errors_of, errors_in}
use Rattle.claim_scope.specs.Judgement.{Passes}
use Rattle.claim_reach.specs.Lexical.{lexical_read}
use Rattle.claim_reach.specs.Reach.{reaches}

-- the contract of `analyze`: it was lent the tree, the buffers b and the limits, and returned r with the buffers b' left
abbrev pub Called : (tree : List ℕ) → Buffers → Limits → AnalysisReport → Buffers → Type 0
Called tree b limits r b' = left r b' ≡ call (lent tree b limits)

-- zeros, as many as the buffer has entries
abbrev Zero : (before after : List ℕ) → Type 0
Zero before after = after ≡ replicate (length before) 0

-- zeros after so many
abbrev ZeroBehind : ℕ → (before after : List ℕ) → Type 0
ZeroBehind n before after = drop n after ≡ replicate (length before - n) 0

-- demand 1, of every call: the tables are zero, and the byte buffers after the lengths that the report says
pub record LeftBehind (b : Buffers) (r : AnalysisReport) (b' : Buffers) : Type 0 where
  pub out : ZeroBehind r.out_length b.out b'.out
  pub diagnostics : ZeroBehind r.diagnostics_length b.diagnostics b'.diagnostics
  pub locals : Zero b.locals b'.locals
  pub frames : Zero b.frames b'.frames
  pub captures : Zero b.captures b'.captures
  pub references : Zero b.references b'.references

-- and of one that was refused: one of document 01's numbers, and nothing in the byte buffers
pub record Refusal (b : Buffers) (r : AnalysisReport) (b' : Buffers) : Type 0 where
  pub numbered : is_refusal_number r.number ≡ true
  pub out : Zero b.out b'.out
  pub diagnostics : Zero b.diagnostics b'.diagnostics

-- demand 2's scoping, of a call with number 0: the errors in the diagnostics, read from their bytes, are exactly those of lexical scoping, in order; none exactly if the specification's static check holds
pub record Scoped (tree : List ℕ) (r : AnalysisReport) (b' : Buffers) : Type 0 where
  pub parsed : Tree
  pub read : tree_at tree ≡ ok parsed
  pub errors : errors_in (take r.diagnostics_length b'.diagnostics) ≡ errors_of parsed
  pub quiet_passes : r.errored ≡ false → Passes parsed
  pub passing_is_quiet : Passes parsed → r.errored ≡ false

-- demand 3, of a call with number 0 and no error: walk the output; it is walked to its end, every slot lies in its frame, and each place reaches what lexical scoping gives
pub record Reached (tree : List ℕ) (r : AnalysisReport) (b' : Buffers) : Type 0 where
  pub parsed : Tree
  pub read : tree_at tree ≡ ok parsed
  pub reached : reaches parsed (take r.out_length b'.out) ≡ some (lexical_read parsed)
