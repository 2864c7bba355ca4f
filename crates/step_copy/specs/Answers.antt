-- What is left where a record of the tree or an array of constants is written, whatever the other buffers hold. A primed list is what is left of a buffer.
-- Assumes nothing.
use Rattle.std.specs.Prelude.{ℕ, List}
use Rattle.law_runs.specs.Steps.{copied, constants_steps}
use Rattle.bytes_records.specs.Marks.{mark_of}
use Rattle.state.specs.Seen.{buffers, Fit}
use Rattle.state.specs.Walks.{Walks}
use Rattle.state.specs.declared.AnalysisStack.{AnalysisStack}
use Rattle.state.specs.declared.Limits.{Limits}
use Rattle.state.specs.Seen.{Walked}

pub record RecordCopied (r : Walked) (tree out out' : List ℕ) (st : AnalysisStack) (at next mark : ℕ) : Type 0 where
  pub walks : (l : Limits) (diagnostics locals frames captures references : List ℕ)
      → Fit l (buffers out diagnostics locals frames captures references) st
      → Walks r l (buffers out diagnostics locals frames captures references) (buffers out' diagnostics locals frames captures references) st
      (λ limits st. copied limits tree (mark_of mark) at next st)

pub record ConstantsEmitted (r : Walked) (tree out out' : List ℕ) (st : AnalysisStack) (at n : ℕ) : Type 0 where
  pub walks : (l : Limits) (diagnostics locals frames captures references : List ℕ)
      → Fit l (buffers out diagnostics locals frames captures references) st
      → Walks r l (buffers out diagnostics locals frames captures references) (buffers out' diagnostics locals frames captures references) st
      (λ limits st. constants_steps limits tree n at st)
