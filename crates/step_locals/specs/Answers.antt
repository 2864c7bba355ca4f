-- What the steps answer and leave, whatever the buffers hold that a step does not touch. A primed list is what a step leaves of a buffer.
-- Assumes nothing.
use Rattle.std.specs.Prelude.{ℕ, Bool, false, List, ◌∷◌, ◌≡◌}
use Rattle.rules.specs.Frames as frames
use Rattle.rules.specs.State as rules
use Rattle.rules.specs.Scoping as scoping
use Rattle.value_local.specs.Meaning.{local}
use Rattle.value_local.specs.declared.LocalDefinition.{LocalDefinition}
use Rattle.state.specs.Seen.{span_of, buffers, stack, seen, limits_of, Fit, Fits}
use Rattle.state.specs.declared.AnalysisStack.{AnalysisStack}
use Rattle.state.specs.declared.Limits.{Limits}
use Rattle.state.specs.Seen.{Step}

-- the frame on top with one local more
unfoldable pub one_more_local : rules.AnalysisStack → rules.AnalysisStack
one_more_local st = rules.with_frames (frames.with_one_more_local (frames.top st.frames) ∷ frames.beneath st.frames) st

-- Answers that leave all buffers as they are

pub record FirstInFrame (r : ℕ) (frames : List ℕ) (st : AnalysisStack) : Type 0 where
  pub same : (out diagnostics locals captures references : List ℕ) → r ≡ scoping.first_in_frame (stack (buffers out diagnostics locals frames captures references) st)

pub record IsTaken (r : Bool) (locals frames : List ℕ) (st : AnalysisStack) (name : ℕ) : Type 0 where
  pub same : (out diagnostics captures references : List ℕ) → r ≡ scoping.is_taken name (stack (buffers out diagnostics locals frames captures references) st)

-- Defining

-- the frame on top has one local more
pub record CountedLocal (frames frames' : List ℕ) (st : AnalysisStack) : Type 0 where
  pub same : (out diagnostics locals captures references : List ℕ)
      → stack (buffers out diagnostics locals frames' captures references) st ≡ one_more_local (stack (buffers out diagnostics locals frames captures references) st)
  pub fit : (l : Limits) (out diagnostics locals captures references : List ℕ)
      → Fit l (buffers out diagnostics locals frames captures references) st → Fit l (buffers out diagnostics locals frames' captures references) st

pub record PushedLocal (r : Step) (locals locals' : List ℕ) (limits : Limits) (st : AnalysisStack) (place : ℕ) (l : LocalDefinition) : Type 0 where
  pub same : (out diagnostics frames captures references : List ℕ)
      → seen r (buffers out diagnostics locals' frames captures references)
      ≡ scoping.push_local (limits_of limits out diagnostics) place (local l) (stack (buffers out diagnostics locals frames captures references) st)
  pub fit : (out diagnostics frames captures references : List ℕ)
      → Fit limits (buffers out diagnostics locals frames captures references) st → Fits limits r (buffers out diagnostics locals' frames captures references)

pub record PushedInFrame (r : Step) (locals locals' frames frames' : List ℕ) (limits : Limits) (st : AnalysisStack) (place : ℕ) (l : LocalDefinition) : Type 0 where
  pub same : (out diagnostics captures references : List ℕ)
      → seen r (buffers out diagnostics locals' frames' captures references)
      ≡ scoping.push_in_frame (limits_of limits out diagnostics) place (local l) (stack (buffers out diagnostics locals frames captures references) st)
  pub fit : (out diagnostics captures references : List ℕ)
      → Fit limits (buffers out diagnostics locals frames captures references) st → Fits limits r (buffers out diagnostics locals' frames' captures references)

-- where the name isn't taken
pub record DefinedNew (r : Step) (locals locals' frames frames' : List ℕ) (limits : Limits) (st : AnalysisStack) (place name span depth : ℕ) : Type 0 where
  pub same : (out diagnostics captures references : List ℕ)
      → scoping.is_taken name (stack (buffers out diagnostics locals frames captures references) st) ≡ false
      → seen r (buffers out diagnostics locals' frames' captures references)
      ≡ scoping.define_local (limits_of limits out diagnostics) place name (span_of span) depth (stack (buffers out diagnostics locals frames captures references) st)
  pub fit : (out diagnostics captures references : List ℕ)
      → Fit limits (buffers out diagnostics locals frames captures references) st → Fits limits r (buffers out diagnostics locals' frames' captures references)

pub record DefinedThis (r : Step) (locals locals' frames frames' : List ℕ) (limits : Limits) (st : AnalysisStack) (place depth : ℕ) : Type 0 where
  pub same : (out diagnostics captures references : List ℕ)
      → seen r (buffers out diagnostics locals' frames' captures references)
      ≡ scoping.define_this (limits_of limits out diagnostics) place depth (stack (buffers out diagnostics locals frames captures references) st)
  pub fit : (out diagnostics captures references : List ℕ)
      → Fit limits (buffers out diagnostics locals frames captures references) st → Fits limits r (buffers out diagnostics locals' frames' captures references)
