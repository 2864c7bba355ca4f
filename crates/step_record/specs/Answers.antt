-- What the steps that write an object's or a function's record answer and leave, whatever the buffers hold that a step does not touch. A primed
-- list is what a step leaves of a buffer. Assumes nothing.
use Rattle.std.specs.Prelude.{ℕ, Bool, true, false, List}
use Rattle.rules.specs.Outcome.{Outcome}
use Rattle.rules.specs.State as rules
use Rattle.rules.specs.Numbers.{OB}
use Rattle.rules.specs.Writing.{emit}
use Rattle.rules.specs.Walk as walk
use Rattle.law_runs.specs.Steps.{object_record}
use Rattle.state.specs.Seen.{span_of, Buffers, buffers, Fit}
use Rattle.state.specs.Walks.{naming_of, Steps, Becomes}
use Rattle.state.specs.declared.AnalysisStack.{AnalysisStack}
use Rattle.state.specs.declared.Limits.{Limits}
use Rattle.state.specs.declared.Naming.{Naming}
use Rattle.state.specs.Seen.{Step}

-- Objects

-- the marks of the object around: `$`'s is not asked for
abbrev pub outer_use : (self_used super_used dollar_used : Bool) → rules.ObjectUse
outer_use self_used super_used dollar_used = record { self_used = self_used; super_used = super_used; dollar_used = dollar_used }

-- the object's record, and the marks are again those of the object around
unfoldable pub leave_object : rules.Limits → (place : ℕ) → (outermost : Bool) → (outer : rules.ObjectUse) → (kept assertions values : ℕ) → (is_static : Bool)
    → rules.AnalysisStack → Outcome rules.AnalysisStack
leave_object limits p outermost outer kept assertions values is_static st =
    emit limits p OB (object_record outermost st.object_use kept assertions values is_static) (rules.with_object_use (walk.left_use outer st.object_use) st)

pub record ObjectLeft (r : Step) (out out' : List ℕ) (st : AnalysisStack) (place : ℕ) (outermost self_used super_used : Bool) (kept assertions values : ℕ) (is_static : Bool) : Type 0 where
  pub steps : (dollar_used : Bool) (l : Limits) (diagnostics locals frames captures references : List ℕ) → Fit l (buffers out diagnostics locals frames captures references) st
      → Steps r l (buffers out diagnostics locals frames captures references) (buffers out' diagnostics locals frames captures references) st
      (λ limits. leave_object limits place outermost (outer_use self_used super_used dollar_used) kept assertions values is_static)

-- Functions

pub record TakenBack (r : AnalysisStack) (st : AnalysisStack) (start : ℕ) : Type 0 where
  pub becomes : (l : Limits) (b : Buffers) → Fit l b st → Becomes r l b b st (rules.taken_back start)

-- a function that gives its argument, whatever it keeps
pub record IdentityNamed (r : Step) (out out' diagnostics diagnostics' : List ℕ) (st : AnalysisStack) (place span start : ℕ) (naming : Naming) : Type 0 where
  pub steps : (kept : ℕ) (l : Limits) (locals frames captures references : List ℕ) → Fit l (buffers out diagnostics locals frames captures references) st
      → Steps r l (buffers out diagnostics locals frames captures references) (buffers out' diagnostics' locals frames captures references) st
      (λ limits. walk.finish_function limits place (span_of span) start kept (naming_of naming) true)

-- any other, wherever it begins
pub record OtherNamed (r : Step) (out out' : List ℕ) (st : AnalysisStack) (place kept : ℕ) (naming : Naming) : Type 0 where
  pub steps : (span start : ℕ) (l : Limits) (diagnostics locals frames captures references : List ℕ) → Fit l (buffers out diagnostics locals frames captures references) st
      → Steps r l (buffers out diagnostics locals frames captures references) (buffers out' diagnostics locals frames captures references) st
      (λ limits. walk.finish_function limits place (span_of span) start kept (naming_of naming) false)

pub record FunctionNamed (r : Step) (out out' diagnostics diagnostics' : List ℕ) (st : AnalysisStack) (place span start kept : ℕ) (naming : Naming) (gives : Bool) : Type 0 where
  pub steps : (l : Limits) (locals frames captures references : List ℕ) → Fit l (buffers out diagnostics locals frames captures references) st
      → Steps r l (buffers out diagnostics locals frames captures references) (buffers out' diagnostics' locals frames captures references) st
      (λ limits. walk.finish_function limits place (span_of span) start kept (naming_of naming) gives)
