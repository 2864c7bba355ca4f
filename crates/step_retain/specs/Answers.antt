-- What the steps answer and leave, whatever the buffers hold that a step does not touch. A primed list is what a step leaves of a buffer.
-- Assumes nothing.
use Rattle.std.specs.Prelude.{ℕ, ◌*◌, ◌≤◌, ◌<◌, Bool, List, ◌≡◌, length}
use Rattle.table_rows.specs.Entries.{number}
use Rattle.rules.specs.Scoping as scoping
use Rattle.state.specs.Seen.{buffers, stack, seen, limits_of, Fit, Fits}
use Rattle.state.specs.declared.AnalysisStack.{AnalysisStack}
use Rattle.state.specs.declared.Limits.{Limits}
use Rattle.state.specs.Seen.{Step}

-- what keeping a spec asks: the tables are as long as their counts say, references as their limit; each frame's first local is there
pub record Keepable (limits : Limits) (locals frames references : List ℕ) (st : AnalysisStack) : Type 0 where
  pub locals_long : 16 * st.locals ≤ length locals
  pub frames_long : 16 * st.frames ≤ length frames
  pub references_long : 16 * limits.max_references ≤ length references
  pub few_references : st.references ≤ limits.max_references
  pub first_there : (f : ℕ) → f < st.frames → number frames f 1 ≤ st.locals

pub record IsKept (r : Bool) (locals frames : List ℕ) (st : AnalysisStack) (place next : ℕ) : Type 0 where
  pub same : (out diagnostics captures references : List ℕ) → r ≡ scoping.is_kept place next (stack (buffers out diagnostics locals frames captures references) st)

pub record SetAnalysis (r : AnalysisStack) (locals locals' : List ℕ) (st : AnalysisStack) (id : ℕ) : Type 0 where
  pub same : (out diagnostics frames captures references : List ℕ)
      → stack (buffers out diagnostics locals' frames captures references) r ≡ scoping.set_analysis id (stack (buffers out diagnostics locals frames captures references) st)
  pub fit : (l : Limits) (out diagnostics frames captures references : List ℕ)
      → Fit l (buffers out diagnostics locals frames captures references) st → Fit l (buffers out diagnostics locals' frames captures references) r

pub record KeptReferences (r : Step) (locals locals' references references' frames : List ℕ) (limits : Limits) (st : AnalysisStack) (place id : ℕ) : Type 0 where
  pub same : (out diagnostics captures : List ℕ)
      → seen r (buffers out diagnostics locals' frames captures references')
      ≡ scoping.keep_references (limits_of limits out diagnostics) place id (stack (buffers out diagnostics locals frames captures references) st)
  pub fit : (out diagnostics captures : List ℕ)
      → Fit limits (buffers out diagnostics locals frames captures references) st → Fits limits r (buffers out diagnostics locals' frames captures references')
