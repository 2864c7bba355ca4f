-- What a spec's record says, and what the ends of specs answer and leave, whatever the buffers hold that a step does not touch.
-- A primed list is what a step leaves of a buffer. Assumes nothing.
use Rattle.std.specs.Prelude.{ℕ, ◌+◌, ◌≤◌, List, [], ◌∷◌, ◌≡◌}
use Rattle.rules.specs.Outcome.{Outcome, ok, ◌>>=◌}
use Rattle.rules.specs.Numbers.{Mark, BV, PA}
use Rattle.rules.specs.Depths as depths
use Rattle.rules.specs.State as rules
use Rattle.rules.specs.Writing as writing
use Rattle.rules.specs.Scoping as scoping
use Rattle.law_runs.specs.Steps.{recorded, closed_spec}
use Rattle.value_depths.specs.Meaning.{result_of}
use Rattle.value_depths.specs.declared.AnalysisResult.{AnalysisResult}
use Rattle.state.specs.Seen.{Buffers, buffers, stack, seen, limits_of, Fit, Fits}
use Rattle.state.specs.Walks.{specs, SpecsFits, WalksSpecs, Becomes}
use Rattle.state.specs.declared.AnalysisStack.{AnalysisStack}
use Rattle.state.specs.declared.Limits.{Limits}
use Rattle.step_spec.specs.declared.Spec.{Spec}
use Rattle.step_spec.specs.declared.Spec.TheVariants.{Bind, Param}
use Rattle.std.specs.Prelude.{Ok, Err}
use Rattle.state.specs.Seen.{Step, Specs}

-- the mark of a spec's record, and its numbers from its slot
unfoldable pub spec_mark : Spec → Mark
spec_mark Bind = BV
spec_mark (Param name flag) = PA

unfoldable pub spec_numbers : Spec → ℕ → List ℕ
spec_numbers Bind = λ slot. slot ∷ []
spec_numbers (Param name flag) = λ slot. name ∷ slot ∷ flag ∷ []

-- Specs whose values are done

pub record OuterTainted (r st : AnalysisStack) (outer : AnalysisResult) : Type 0 where
  pub same : (b : Buffers) → stack b r ≡ scoping.taint_outer (result_of outer) (stack b st)
  pub fit : (l : Limits) (b : Buffers) → Fit l b st → Fit l b r
  pub written : r.out ≡ st.out

-- no buffer is touched: a dropped spec's notes stay where they are
pub record SpecDropped (r st : AnalysisStack) (start : ℕ) : Type 0 where
  pub becomes : (l : Limits) (b : Buffers) → Fit l b st → Becomes r l b b st (scoping.drop_spec start)

pub record SpecWritten (r : Step) (out out' : List ℕ) (st : AnalysisStack) (place : ℕ) (spec : Spec) (slot : ℕ) : Type 0 where
  pub same : (l : Limits) (diagnostics locals frames captures references : List ℕ)
      → seen r (buffers out' diagnostics locals frames captures references)
      ≡ writing.emit (limits_of l out diagnostics) place (spec_mark spec) (spec_numbers spec slot) (stack (buffers out diagnostics locals frames captures references) st)
  pub fit : (l : Limits) (diagnostics locals frames captures references : List ℕ)
      → Fit l (buffers out diagnostics locals frames captures references) st
      → Fits l r (buffers out' diagnostics locals frames captures references)

-- what the rules do with a spec that is kept, whose local is `id`
unfoldable pub kept_spec : rules.Limits → (place id : ℕ) → depths.AnalysisResult → Mark → List ℕ → rules.AnalysisStack → Outcome rules.AnalysisStack
kept_spec limits place id outer m ns st = do
  st ← scoping.keep_references limits place id st
  writing.emit limits place m ns (scoping.taint_outer outer (scoping.set_analysis id st))

pub record SpecKept (r : Step) (out out' locals locals' references references' frames : List ℕ) (limits : Limits) (st : AnalysisStack) (place id slot : ℕ) (outer : AnalysisResult) (spec : Spec) : Type 0 where
  pub same : (diagnostics captures : List ℕ)
      → seen r (buffers out' diagnostics locals' frames captures references')
      ≡ kept_spec (limits_of limits out diagnostics) place id (result_of outer) (spec_mark spec) (spec_numbers spec slot) (stack (buffers out diagnostics locals frames captures references) st)
  pub fit : (diagnostics captures : List ℕ)
      → Fit limits (buffers out diagnostics locals frames captures references) st
      → Fits limits r (buffers out' diagnostics locals' frames captures references')

-- no more than so many are kept
abbrev pub Few : Specs → ℕ → Type 0
Few (Ok (st, next, kept)) n = kept ≤ n
Few (Err why) n = Unit {0}

-- a step's answer, with the place after and how many are kept
pub record Counted (r : Specs) (step : Step) (next kept : ℕ) : Type 0 where
  pub same : (b : Buffers) → specs r b ≡ (seen step b >>= λ st. ok (kept, (st, next)))
  pub fit : (l : Limits) (b : Buffers) → Fits l step b → SpecsFits l r b
  pub few : Few r kept

pub record SpecRecorded (r : Specs) (out out' locals locals' references references' frames : List ℕ) (limits : Limits) (st : AnalysisStack) (place base kept start : ℕ) (outer : AnalysisResult) (spec : Spec) (next : ℕ) : Type 0 where
  pub walks : (diagnostics captures : List ℕ) → Fit limits (buffers out diagnostics locals frames captures references) st
      → WalksSpecs r limits (buffers out diagnostics locals frames captures references) (buffers out' diagnostics locals' frames captures references') st
      (λ x. recorded x place base kept start (result_of outer) (spec_mark spec) (spec_numbers spec) next)
  pub few : Few r (kept + 1)

pub record SpecClosed (r : Specs) (out out' locals locals' references references' frames captures captures' : List ℕ) (limits : Limits) (st : AnalysisStack) (place base kept start : ℕ) (outer : AnalysisResult) (spec : Spec) (next : ℕ) : Type 0 where
  pub walks : (diagnostics : List ℕ) → Fit limits (buffers out diagnostics locals frames captures references) st
      → WalksSpecs r limits (buffers out diagnostics locals frames captures references) (buffers out' diagnostics locals' frames captures' references') st
      (λ x. closed_spec x place base kept start (result_of outer) (spec_mark spec) (spec_numbers spec) next)
  pub few : Few r (kept + 1)
