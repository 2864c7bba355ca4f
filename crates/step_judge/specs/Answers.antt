-- What settling and judging a frame's locals answer and leave, whatever the buffers hold that a step does not touch. A primed list is what a
-- step leaves of a buffer. Assumes nothing.
use Rattle.std.specs.Prelude.{ℕ, ◌+◌, ◌*◌, ◌≤◌, ◌<◌, List, reverse, length}
use Rattle.rules.specs.Outcome.{Outcome, ok, given}
use Rattle.rules.specs.Locals as locals
use Rattle.rules.specs.Settling.{Loop}
use Rattle.rules.specs.State as rules
use Rattle.rules.specs.Scoping as scoping
use Rattle.value_local.specs.Meaning.{local}
use Rattle.value_local.specs.declared.LocalDefinition.{LocalDefinition}
use Rattle.table_references.specs.Meaning.{references_of}
use Rattle.settling.specs.Meaning.{Below}
use Rattle.state.specs.Seen.{buffers, Fit}
use Rattle.state.specs.Walks.{Steps, Becomes}
use Rattle.state.specs.declared.AnalysisStack.{AnalysisStack}
use Rattle.state.specs.declared.Limits.{Limits}
use Rattle.state.specs.Seen.{Step}

-- the references kept since there were `before` of them are of locals that are there, and their rounds can be counted
pub record Settleable (locals references : List ℕ) (st : AnalysisStack) (kept before : ℕ) : Type 0 where
  pub below : Below st.locals (references_of st.references references)
  pub before_there : before ≤ st.references
  pub locals_long : 16 * st.locals ≤ length locals
  pub references_long : 16 * st.references ≤ length references
  pub few_kept : kept < 4294967295
  pub few_rounds : st.rounds + kept + 1 < 18446744073709551616

-- one of the settling loops
pub record SettledFrame (r : AnalysisStack) (locals locals' references : List ℕ) (st : AnalysisStack) (loop : Loop) (kept before : ℕ) : Type 0 where
  pub becomes : (l : Limits) (out diagnostics frames captures : List ℕ) → Fit l (buffers out diagnostics locals frames captures references) st
      → Becomes r l (buffers out diagnostics locals frames captures references) (buffers out diagnostics locals' frames captures references) st
      (scoping.settle_frame loop kept before)

-- what judging all does with one local
unfoldable pub judge_one : rules.Limits → (place : ℕ) → locals.LocalDefinition → rules.AnalysisStack → Outcome rules.AnalysisStack
judge_one limits p l st = given l.name (λ _. ok st) (λ name. scoping.judge limits p name l st)

pub record Judged (r : Step) (diagnostics diagnostics' : List ℕ) (st : AnalysisStack) (place : ℕ) (d : LocalDefinition) : Type 0 where
  pub steps : (l : Limits) (out locals frames captures references : List ℕ) → Fit l (buffers out diagnostics locals frames captures references) st
      → Steps r l (buffers out diagnostics locals frames captures references) (buffers out diagnostics' locals frames captures references) st
      (λ limits. judge_one limits place (local d))

-- those of the frame on top, the last first
unfoldable pub judge_frame : rules.Limits → (place : ℕ) → rules.AnalysisStack → Outcome rules.AnalysisStack
judge_frame limits p st = scoping.judge_all limits p (reverse (scoping.frame_locals st)) st

pub record JudgedAll (r : Step) (diagnostics diagnostics' locals frames : List ℕ) (st : AnalysisStack) (place : ℕ) : Type 0 where
  pub steps : (l : Limits) (out captures references : List ℕ) → Fit l (buffers out diagnostics locals frames captures references) st
      → Steps r l (buffers out diagnostics locals frames captures references) (buffers out diagnostics' locals frames captures references) st
      (λ limits. judge_frame limits place)
