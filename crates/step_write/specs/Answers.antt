-- What each step answers and leaves: the rules' step on the state that the buffers hold, whatever stands in those that it doesn't touch.
-- Assumes nothing.
use Rattle.std.specs.Prelude.{ℕ, ◌+◌, ◌≤◌, ◌<◌, List, [], ◌∷◌, ◌++◌, ◌≡◌, length, get_or, take, Option, Some, None}
use Rattle.rules.specs.Numbers.{Mark, mark_bytes}
use Rattle.rules.specs.Writing as rules
use Rattle.state.specs.Seen.{span_of, buffers, stack, seen, limits_of, Fit, Fits}
use Rattle.state.specs.declared.AnalysisStack.{AnalysisStack}
use Rattle.state.specs.declared.Limits.{Limits}
use Rattle.step_write.specs.declared.Level.{Level}
use Rattle.step_write.specs.declared.Level.TheVariants.{Error, Warning}
use Rattle.state.specs.Seen.{Step}

unfoldable pub level_of : Level → rules.Level
level_of Error = rules.error
level_of Warning = rules.warning

-- these bytes stand after those that were used, or had no room; what lies past them may be anything
abbrev pub Behind : Option ℕ → (before after : List ℕ) → (used : ℕ) → (bytes : List ℕ) → Type 0
Behind (Some next) before after used bytes = (next ≡ used + length bytes) × (next ≤ length before) × (take next after ≡ take used before ++ bytes)
Behind None before after used bytes = length before < used + length bytes

-- a record of the output
pub record Emitted (r : Step) (before after : List ℕ) (st : AnalysisStack) (place : ℕ) (mark ns : List ℕ) : Type 0 where
  pub same : (m : Mark) → get_or mark 0 0 ∷ get_or mark 1 0 ∷ [] ≡ mark_bytes m
      → (l : Limits) (diagnostics locals frames captures references : List ℕ)
      → seen r (buffers after diagnostics locals frames captures references)
      ≡ rules.emit (limits_of l before diagnostics) place m ns (stack (buffers before diagnostics locals frames captures references) st)
  pub fit : (l : Limits) (diagnostics locals frames captures references : List ℕ)
      → Fit l (buffers before diagnostics locals frames captures references) st
      → Fits l r (buffers after diagnostics locals frames captures references)

-- a diagnostic
pub record Reported (r : Step) (before after : List ℕ) (st : AnalysisStack) (place : ℕ) (level : Level) (code name span : ℕ) : Type 0 where
  pub same : (l : Limits) (out locals frames captures references : List ℕ)
      → seen r (buffers out after locals frames captures references)
      ≡ rules.report (limits_of l out before) place (level_of level) code name (span_of span)
      (stack (buffers out before locals frames captures references) st)
  pub fit : (l : Limits) (out locals frames captures references : List ℕ)
      → Fit l (buffers out before locals frames captures references) st
      → Fits l r (buffers out after locals frames captures references)

-- a diagnostic and a record of the output
pub record BadPlace (r : Step) (out out' diagnostics diagnostics' : List ℕ) (st : AnalysisStack) (place code name span bad : ℕ) : Type 0 where
  pub same : (l : Limits) (locals frames captures references : List ℕ)
      → seen r (buffers out' diagnostics' locals frames captures references)
      ≡ rules.bad_place (limits_of l out diagnostics) place code name (span_of span) bad
      (stack (buffers out diagnostics locals frames captures references) st)
  pub fit : (l : Limits) (locals frames captures references : List ℕ)
      → Fit l (buffers out diagnostics locals frames captures references) st
      → Fits l r (buffers out' diagnostics' locals frames captures references)
