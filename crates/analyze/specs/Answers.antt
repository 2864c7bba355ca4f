-- What the parts of the call answer and leave, and what a caller in C is told. Assumes nothing.
use Rattle.std.specs.Prelude.{ℕ, List, [], ◌∷◌, ◌≡◌}
use Rattle.rules.specs.Numbers.{bit}
use Rattle.rules.specs.Call as rules
use Rattle.state.specs.Seen.{Buffers, seen, Fits}
use Rattle.state.specs.declared.Limits.{Limits}
use Rattle.call_root.specs.Answers.{lent}
use Rattle.state.specs.Seen.{Step}

-- the rules' run of what was lent
pub record Ran (r : Step) (tree : List ℕ) (b b' : Buffers) (l : Limits) : Type 0 where
  pub same : seen r b' ≡ rules.run (lent tree b l)
  pub fit : Fits l r b'

-- For C

abbrev pub limits_from : (locals frames captures references : ℕ) → Limits
limits_from locals frames captures references = record { max_locals = locals; max_frames = frames; max_captures = captures; max_references = references }

-- "number, place, output length, diagnostics length, errored (0 or 1), rounds, object depth, local depth, greatest local depth"
unfoldable pub report_numbers : rules.AnalysisReport → List ℕ
report_numbers r =
    r.number ∷ r.place ∷ r.out_length ∷ r.diagnostics_length ∷ bit r.errored ∷ r.rounds
    ∷ r.depths.object_dependent_depth ∷ r.depths.local_dependent_depth ∷ r.depths.local_dependent_depth_max ∷ []

pub record Told (report : List ℕ) (b : Buffers) (l : rules.Left) : Type 0 where
  pub report_is : report ≡ report_numbers l.report
  pub out_is : b.out ≡ l.out
  pub diagnostics_is : b.diagnostics ≡ l.diagnostics
  pub locals_are : b.locals ≡ l.locals
  pub frames_are : b.frames ≡ l.frames
  pub captures_are : b.captures ≡ l.captures
  pub references_are : b.references ≡ l.references
