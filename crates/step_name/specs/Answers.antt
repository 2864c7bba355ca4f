-- What each record's walk answers and leaves, whatever the buffers hold that it does not touch. A primed list is what it leaves of a buffer.
-- Assumes nothing.
use Rattle.std.specs.Prelude.{ℕ, zero, suc, ◌+◌, List, ◌≡◌, eqb, Result, Ok, Err, Option, Some, None}
use Rattle.refusal.specs.declared.Refusal.{Refusal}
use Rattle.value_local.specs.declared.LocalId.{LocalId}
use Rattle.rules.specs.Outcome.{Outcome, choose}
use Rattle.rules.specs.Numbers.{number_at, code, ID}
use Rattle.rules.specs.State as rules
use Rattle.rules.specs.Scoping as scoping
use Rattle.rules.specs.Walk as walk
use Rattle.law_runs.specs.Steps.{and_place, span_at}
use Rattle.state.specs.Seen.{limits_of, buffers, stack, Fit}
use Rattle.state.specs.Walks.{place_of, Walks, Steps}
use Rattle.state.specs.declared.Place.{Place}
use Rattle.state.specs.declared.AnalysisStack.{AnalysisStack}
use Rattle.state.specs.declared.Limits.{Limits}
use Rattle.step_name.specs.declared.Identity.{Identity}
use Rattle.step_name.specs.declared.Identity.TheVariants as identity
use Rattle.state.specs.Seen.{Step, Walked}

-- self, super and $

-- the number that says it in the tree
abbrev pub kind_of : Identity → ℕ
kind_of identity.This = 0
kind_of identity.Super = 1
kind_of identity.Dollar = 2

-- the id of the local that self (0), super (1) or $ (2) stands for inside an object
unfoldable pub identity_id : (which : ℕ) → Place → ℕ
identity_id zero here = here.this_local.0
identity_id (suc zero) here = here.this_local.0
identity_id (suc (suc n)) here = here.dollar_alias.0

-- the state once the object's `this` is used so
unfoldable pub object_used : (which id : ℕ) → rules.AnalysisStack → rules.AnalysisStack
object_used which id st = scoping.touch_object id (rules.with_object_use (walk.mark_used which st.object_use) st)

pub record UsedObject (r : AnalysisStack) (locals : List ℕ) (st : AnalysisStack) (which id : ℕ) : Type 0 where
  pub same : (out diagnostics frames captures references : List ℕ)
      → stack (buffers out diagnostics locals frames captures references) r ≡ object_used which id (stack (buffers out diagnostics locals frames captures references) st)
  pub fit : (l : Limits) (out diagnostics frames captures references : List ℕ)
      → Fit l (buffers out diagnostics locals frames captures references) st → Fit l (buffers out diagnostics locals frames captures references) r
  pub as_many_frames : r.frames ≡ st.frames
  pub as_many_captures : r.captures ≡ st.captures

-- A local

pub record UsedLocal (r : AnalysisStack) (locals locals' : List ℕ) (st : AnalysisStack) (depth id : ℕ) : Type 0 where
  pub same : (out diagnostics frames captures references : List ℕ)
      → stack (buffers out diagnostics locals' frames captures references) r ≡ scoping.touch_local depth id (stack (buffers out diagnostics locals frames captures references) st)
  pub fit : (l : Limits) (out diagnostics frames captures references : List ℕ)
      → Fit l (buffers out diagnostics locals frames captures references) st → Fit l (buffers out diagnostics locals' frames captures references) r
  pub as_many_frames : r.frames ≡ st.frames
  pub as_many_captures : r.captures ≡ st.captures

-- A name: self, super or $, or a variable

unfoldable pub identity_step : rules.Limits → (s : List ℕ) (at : ℕ) → walk.Place → rules.AnalysisStack → Outcome rules.AnalysisStack
identity_step limits s at h st = walk.use_identity limits at (number_at s (at + 2)) (span_at s (at + 6)) h st

unfoldable pub variable_step : rules.Limits → (s : List ℕ) (at : ℕ) → walk.Place → rules.AnalysisStack → Outcome rules.AnalysisStack
variable_step limits s at h st = walk.use_local limits at (number_at s (at + 2)) (span_at s (at + 6)) h st

unfoldable pub name_step : rules.Limits → (s : List ℕ) (mark at : ℕ) → walk.Place → rules.AnalysisStack → Outcome rules.AnalysisStack
name_step limits s mark at h st = choose (eqb mark (code ID)) (λ _. identity_step limits s at h st) (λ _. variable_step limits s at h st)

-- nothing is written yet: the step is to write the slot of that local, from the state after its use
pub record SlotLeft (after : AnalysisStack) (id : ℕ) (out out' diagnostics diagnostics' locals locals' : List ℕ) (st : AnalysisStack) (at : ℕ)
    (step : rules.Limits → rules.AnalysisStack → Outcome rules.AnalysisStack) : Type 0 where
  pub room : (l : Limits) → limits_of l out' diagnostics' ≡ limits_of l out diagnostics
  pub same : (limits : rules.Limits) (frames captures references : List ℕ)
      → scoping.emit_slot limits at id (stack (buffers out' diagnostics' locals' frames captures references) after)
      ≡ step limits (stack (buffers out diagnostics locals frames captures references) st)
  pub fit : (l : Limits) (frames captures references : List ℕ)
      → Fit l (buffers out diagnostics locals frames captures references) st → Fit l (buffers out' diagnostics' locals' frames captures references) after
  pub as_many_frames : after.frames ≡ st.frames
  pub as_many_captures : after.captures ≡ st.captures

pub record StepMade (r : Step) (out out' diagnostics diagnostics' locals locals' : List ℕ) (st : AnalysisStack)
    (step : rules.Limits → rules.AnalysisStack → Outcome rules.AnalysisStack) : Type 0 where
  pub steps : (l : Limits) (frames captures references : List ℕ)
      → Fit l (buffers out diagnostics locals frames captures references) st
      → Steps r l (buffers out diagnostics locals frames captures references) (buffers out' diagnostics' locals' frames captures references) st step

-- the state once a name is used, and the local whose slot is still to be written, by its name in the code
abbrev pub Used : Type 0
Used = Result (AnalysisStack × Option LocalId) Refusal

unfoldable pub Left : Used → (out out' diagnostics diagnostics' locals locals' : List ℕ) → AnalysisStack → (at : ℕ)
    → (rules.Limits → rules.AnalysisStack → Outcome rules.AnalysisStack) → Type 0
Left (Ok (after, Some id)) out out' diagnostics diagnostics' locals locals' st at step = SlotLeft after id.0 out out' diagnostics diagnostics' locals locals' st at step
Left (Ok (after, None)) out out' diagnostics diagnostics' locals locals' st at step = StepMade (Ok after) out out' diagnostics diagnostics' locals locals' st step
Left (Err why) out out' diagnostics diagnostics' locals locals' st at step = StepMade (Err why) out out' diagnostics diagnostics' locals locals' st step

-- what using a name leaves of its step
pub record Uses (r : Used) (out out' diagnostics diagnostics' locals locals' : List ℕ) (st : AnalysisStack) (at : ℕ)
    (step : rules.Limits → rules.AnalysisStack → Outcome rules.AnalysisStack) : Type 0 where
  pub left : Left r out out' diagnostics diagnostics' locals locals' st at step

pub record NameAnalyzed (r : Walked) (tree out out' diagnostics diagnostics' locals locals' frames captures captures' : List ℕ) (limits : Limits) (st : AnalysisStack)
    (at mark : ℕ) (here : Place) : Type 0 where
  pub walks : (references : List ℕ)
      → Fit limits (buffers out diagnostics locals frames captures references) st
      → Walks r limits (buffers out diagnostics locals frames captures references) (buffers out' diagnostics' locals' frames captures' references) st
      (λ limits st. and_place (at + 10) (name_step limits tree mark at (place_of here) st))
