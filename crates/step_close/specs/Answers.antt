-- What the steps at a defining frame's end answer and leave, whatever the buffers hold that a step does not touch. A primed list is what a
-- step leaves of a buffer. Assumes nothing.
use Rattle.std.specs.Prelude.{ℕ, ◌≤◌, Bool, List, take}
use Rattle.rules.specs.State as rules
use Rattle.rules.specs.Scoping as scoping
use Rattle.law_runs.specs.Steps.{finished_local, finished_function, finished_object}
use Rattle.state.specs.Seen.{span_of, Buffers, buffers, Fit}
use Rattle.step_record.specs.declared.ObjectEnd.{ObjectEnd}
use Rattle.step_record.specs.declared.FunctionEnd.{FunctionEnd}
use Rattle.state.specs.Walks.{naming_of, Walks, Steps, Becomes}
use Rattle.state.specs.declared.AnalysisStack.{AnalysisStack}
use Rattle.state.specs.declared.Limits.{Limits}
use Rattle.state.specs.declared.Naming.{Naming}
use Rattle.step_judge.specs.Answers.{Settleable}
use Rattle.step_record.specs.Answers.{outer_use}
use Rattle.state.specs.Seen.{Step, Walked}

-- the names of the frame on top are gone, and the references kept since there were `before` of them
unfoldable pub forget_names : (before : ℕ) → rules.AnalysisStack → rules.AnalysisStack
forget_names before st = rules.with_references (take before st.references) (rules.with_locals (take (scoping.first_in_frame st) st.locals) st)

pub record ForgottenNames (r : AnalysisStack) (frames : List ℕ) (st : AnalysisStack) (before : ℕ) : Type 0 where
  pub becomes : (l : Limits) (out diagnostics locals captures references : List ℕ) → Fit l (buffers out diagnostics locals frames captures references) st
      → before ≤ st.references
      → Becomes r l (buffers out diagnostics locals frames captures references) (buffers out diagnostics locals frames captures references) st
      (forget_names before)

-- The end of a frame, over all six buffers

-- the state fits the buffers, and the frame's names can be settled
abbrev pub Finishable : Buffers → Limits → AnalysisStack → (kept before : ℕ) → Type 0
Finishable b l st kept before = Settleable b.locals b.references st kept before × Fit l b st

abbrev pub FrameFinished : Step → (b b' : Buffers) → Limits → AnalysisStack → (place kept before : ℕ) → Type 0
FrameFinished r b b' l st place kept before = Steps r l b b' st (λ limits. scoping.finish_frame limits place kept before)

abbrev pub LocalFinished : Walked → (b b' : Buffers) → Limits → AnalysisStack → (place kept before next : ℕ) → Type 0
LocalFinished r b b' l st place kept before next = Walks r l b b' st (λ limits. finished_local limits place kept before next)

-- whatever the object around has met of `$`
abbrev pub ObjectFinished : Walked → (b b' : Buffers) → Limits → AnalysisStack → (place before : ℕ) → ObjectEnd → (next : ℕ) → Type 0
ObjectFinished r b b' l st place before o next =
    (dollar_used : Bool)
    → Walks r l b b' st
    (λ limits. finished_object limits place o.outermost (outer_use o.self_used o.super_used dollar_used) o.kept before o.assertions o.values o.is_static next)

abbrev pub FunctionFinished : Walked → (b b' : Buffers) → Limits → AnalysisStack → (place before : ℕ) → FunctionEnd → Naming → (next : ℕ) → Type 0
FunctionFinished r b b' l st place before f naming next =
    Walks r l b b' st
    (λ limits. finished_function limits place (span_of f.span) f.start f.body_start f.kept before f.defaults (naming_of naming) next)
