-- What opening a frame and defining its names answer and leave, whatever the buffers hold that a function does not have. A primed list is what
-- a step leaves of a buffer. Assumes nothing.
use Rattle.std.specs.Prelude.{ℕ, ◌+◌, true, List, ◌≡◌}
use Rattle.rules.specs.Outcome.{Outcome, ◌>>=◌}
use Rattle.rules.specs.State as rules
use Rattle.rules.specs.State.{with_object_use}
use Rattle.rules.specs.Writing.{open_frame}
use Rattle.rules.specs.Scoping.{define_this}
use Rattle.rules.specs.Walk as walk
use Rattle.law_runs.specs.Run.{Accepted, binds_at, params_at}
use Rattle.law_runs.specs.Steps.{opened_value, begun_local, begun_function, begun_object}
use Rattle.state.specs.Seen.{Buffers, buffers, stack, Fit}
use Rattle.state.specs.Walks.{place_of, Walks, Steps}
use Rattle.state.specs.declared.AnalysisStack.{AnalysisStack}
use Rattle.state.specs.declared.Limits.{Limits}
use Rattle.state.specs.declared.Place.{Place}
use Rattle.state.specs.Seen.{Step, Walked}

-- the state fits both tables, with some of the other buffers
pub record Opening (limits : Limits) (locals frames : List ℕ) (st : AnalysisStack) : Type 0 where
  pub out : List ℕ
  pub diagnostics : List ℕ
  pub captures : List ℕ
  pub references : List ℕ
  pub fit : Fit limits (buffers out diagnostics locals frames captures references) st

-- Frames

pub record ValueOpened (r : Step) (frames frames' : List ℕ) (limits : Limits) (st : AnalysisStack) (at : ℕ) : Type 0 where
  pub opened : (out diagnostics locals captures references : List ℕ)
      → Fit limits (buffers out diagnostics locals frames captures references) st
      → Steps r limits (buffers out diagnostics locals frames captures references) (buffers out diagnostics locals frames' captures references) st
      (λ limits st. opened_value limits at st)

-- Frames with their names

pub record LocalBegun (r : Walked) (s diagnostics diagnostics' locals locals' frames frames' : List ℕ) (limits : Limits) (st : AnalysisStack) (at n depth : ℕ) : Type 0 where
  pub begun : (levels : ℕ) → Accepted (binds_at s levels n (at + 6))
      → (out captures references : List ℕ)
      → Fit limits (buffers out diagnostics locals frames captures references) st
      → Walks r limits (buffers out diagnostics locals frames captures references) (buffers out diagnostics' locals' frames' captures references) st
      (λ limits st. begun_local limits s levels n at depth st)

pub record FunctionBegun (r : Walked) (s diagnostics diagnostics' locals locals' frames frames' : List ℕ) (limits : Limits) (st : AnalysisStack) (at n depth : ℕ) : Type 0 where
  pub begun : (levels : ℕ) → Accepted (params_at s levels n (at + 10))
      → (out captures references : List ℕ)
      → Fit limits (buffers out diagnostics locals frames captures references) st
      → Walks r limits (buffers out diagnostics locals frames captures references) (buffers out diagnostics' locals' frames' captures references) st
      (λ limits st. begun_function limits s levels n at depth st)

pub record ObjectBegun (r : Walked) (s diagnostics diagnostics' locals locals' frames frames' : List ℕ) (limits : Limits) (st : AnalysisStack) (at binds n : ℕ) (here : Place) : Type 0 where
  pub begun : (levels : ℕ) → Accepted (binds_at s levels n binds)
      → (out captures references : List ℕ)
      → Fit limits (buffers out diagnostics locals frames captures references) st
      → Walks r limits (buffers out diagnostics locals frames captures references) (buffers out diagnostics' locals' frames' captures references) st
      (λ limits st. begun_object limits s levels n at binds (place_of here) st)

-- the state with an object's marks
pub record ObjectEntered (r st : AnalysisStack) (here : Place) : Type 0 where
  pub same : (b : Buffers) → stack b r ≡ with_object_use (walk.entered_use (walk.is_outermost (place_of here)) (stack b st).object_use) (stack b st)
  pub fit : (limits : Limits) (b : Buffers) → Fit limits b st → Fit limits b r

-- the frame of an object with its `this`
unfoldable pub opened_object : rules.Limits → (place : ℕ) → walk.Place → rules.AnalysisStack → Outcome rules.AnalysisStack
opened_object limits p h st = do
  st ← open_frame limits p true (with_object_use (walk.entered_use (walk.is_outermost h) st.object_use) st)
  define_this limits p h.depth st

pub record ObjectOpened (r : Step) (locals locals' frames frames' : List ℕ) (limits : Limits) (st : AnalysisStack) (at : ℕ) (here : Place) : Type 0 where
  pub opened : (out diagnostics captures references : List ℕ)
      → Fit limits (buffers out diagnostics locals frames captures references) st
      → Steps r limits (buffers out diagnostics locals frames captures references) (buffers out diagnostics locals' frames' captures references) st
      (λ limits st. opened_object limits at (place_of here) st)
