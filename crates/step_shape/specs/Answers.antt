-- What the ends of frames answer and leave, whatever the buffers hold that a step does not touch. A primed list is what a step leaves of a
-- buffer. Assumes nothing.
use Rattle.std.specs.Prelude.{ℕ, List, [], ◌∷◌, ◌≡◌, get_or}
use Rattle.rules.specs.Outcome.{Outcome, ◌>>=◌}
use Rattle.rules.specs.Numbers.{Mark, mark_bytes}
use Rattle.rules.specs.State as rules
use Rattle.rules.specs.Writing as writing
use Rattle.law_runs.specs.Steps.{and_place, closed_array, closed_value, closed_assertions}
use Rattle.state.specs.Seen.{buffers, Fit}
use Rattle.state.specs.Walks.{Walks}
use Rattle.state.specs.declared.AnalysisStack.{AnalysisStack}
use Rattle.state.specs.declared.Limits.{Limits}
use Rattle.state.specs.Seen.{Walked}

-- a frame closes and a record follows its shape
unfoldable pub closed_with : Mark → List ℕ → (place next : ℕ) → rules.Limits → rules.AnalysisStack → Outcome (rules.AnalysisStack × ℕ)
closed_with m ns place next limits S = writing.close_frame limits place S >>= λ T. and_place next (writing.emit limits place m ns T)

pub record ClosedWith (r : Walked) (out out' frames captures captures' : List ℕ) (st : AnalysisStack) (place : ℕ) (mark ns : List ℕ) (next : ℕ) : Type 0 where
  pub walks : (m : Mark) → get_or mark 0 0 ∷ get_or mark 1 0 ∷ [] ≡ mark_bytes m
      → (l : Limits) (diagnostics locals references : List ℕ) → Fit l (buffers out diagnostics locals frames captures references) st
      → Walks r l (buffers out diagnostics locals frames captures references) (buffers out' diagnostics locals frames captures' references) st
      (closed_with m ns place next)

pub record ArrayClosed (r : Walked) (out out' frames captures captures' : List ℕ) (st : AnalysisStack) (place n next : ℕ) : Type 0 where
  pub walks : (l : Limits) (diagnostics locals references : List ℕ) → Fit l (buffers out diagnostics locals frames captures references) st
      → Walks r l (buffers out diagnostics locals frames captures references) (buffers out' diagnostics locals frames captures' references) st
      (λ limits. closed_array limits place n next)

pub record ValueClosed (r : Walked) (out out' frames captures captures' : List ℕ) (st : AnalysisStack) (place next : ℕ) : Type 0 where
  pub walks : (l : Limits) (diagnostics locals references : List ℕ) → Fit l (buffers out diagnostics locals frames captures references) st
      → Walks r l (buffers out diagnostics locals frames captures references) (buffers out' diagnostics locals frames captures' references) st
      (λ limits. closed_value limits place next)

pub record AssertionsClosed (r : Walked) (out out' frames captures captures' : List ℕ) (st : AnalysisStack) (place next : ℕ) : Type 0 where
  pub walks : (l : Limits) (diagnostics locals references : List ℕ) → Fit l (buffers out diagnostics locals frames captures references) st
      → Walks r l (buffers out diagnostics locals frames captures references) (buffers out' diagnostics locals frames captures' references) st
      (λ limits. closed_assertions limits place next)
