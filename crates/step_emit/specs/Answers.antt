-- What the records of imports and heads answer and leave, whatever the buffers hold that they do not
-- touch. A primed list is what is left of a buffer. Assumes nothing.
use Rattle.std.specs.Prelude.{ℕ, List}
use Rattle.law_runs.specs.Steps.{import_steps, head_written}
use Rattle.state.specs.Seen.{buffers, Fit}
use Rattle.state.specs.Walks.{Walks}
use Rattle.state.specs.declared.AnalysisStack.{AnalysisStack}
use Rattle.state.specs.declared.Limits.{Limits}
use Rattle.state.specs.Seen.{Walked}

-- Imports and heads

pub record ImportAnalyzed (r : Walked) (tree out out' diagnostics diagnostics' : List ℕ) (st : AnalysisStack) (at : ℕ) : Type 0 where
  pub walks : (l : Limits) (locals frames captures references : List ℕ)
      → Fit l (buffers out diagnostics locals frames captures references) st
      → Walks r l (buffers out diagnostics locals frames captures references) (buffers out' diagnostics' locals frames captures references) st
      (λ limits st. import_steps limits tree at st)

pub record HeadEmitted (r : Walked) (tree out out' : List ℕ) (st : AnalysisStack) (at next : ℕ) : Type 0 where
  pub walks : (l : Limits) (diagnostics locals frames captures references : List ℕ)
      → Fit l (buffers out diagnostics locals frames captures references) st
      → Walks r l (buffers out diagnostics locals frames captures references) (buffers out' diagnostics locals frames captures references) st
      (λ limits st. head_written limits tree at next st)
