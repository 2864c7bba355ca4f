-- What the steps answer and leave, whatever the buffers hold that a step does not touch. A primed list is what a step leaves of a buffer.
-- Assumes nothing.
use Rattle.std.specs.Prelude.{ℕ, List, ◌≡◌}
use Rattle.rules.specs.Outcome.{choose}
use Rattle.rules.specs.Depths as depths
use Rattle.rules.specs.Locals as locals
use Rattle.rules.specs.Scoping as scoping
use Rattle.state.specs.Seen.{buffers, stack, Fit}
use Rattle.state.specs.declared.AnalysisStack.{AnalysisStack}
use Rattle.state.specs.declared.Limits.{Limits}

-- what a value depends on that uses a local
unfoldable pub tainted_by_local : depths.AnalysisResult → locals.LocalDefinition → depths.AnalysisResult
tainted_by_local a l =
    let taint = depths.depend_on_local l.defined_at_depth a in
    choose l.analyzed (λ _. depths.taint_by taint l.analysis) (λ _. taint)

pub record TouchedLocal (r : AnalysisStack) (locals locals' : List ℕ) (st : AnalysisStack) (depth id : ℕ) : Type 0 where
  pub same : (out diagnostics frames captures references : List ℕ)
      → stack (buffers out diagnostics locals' frames captures references) r ≡ scoping.touch_local depth id (stack (buffers out diagnostics locals frames captures references) st)
  pub fit : (l : Limits) (out diagnostics frames captures references : List ℕ)
      → Fit l (buffers out diagnostics locals frames captures references) st → Fit l (buffers out diagnostics locals' frames captures references) r

pub record TouchedObject (r : AnalysisStack) (locals : List ℕ) (st : AnalysisStack) (id : ℕ) : Type 0 where
  pub same : (out diagnostics frames captures references : List ℕ)
      → stack (buffers out diagnostics locals frames captures references) r ≡ scoping.touch_object id (stack (buffers out diagnostics locals frames captures references) st)
  pub fit : (l : Limits) (out diagnostics frames captures references : List ℕ)
      → Fit l (buffers out diagnostics locals frames captures references) st → Fit l (buffers out diagnostics locals frames captures references) r
