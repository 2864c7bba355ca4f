-- What writing a slot, and resolving and writing it, answer and leave. A primed list is what a step leaves of a buffer. Assumes nothing.
use Rattle.std.specs.Prelude.{ℕ, List, [], ◌∷◌, ◌≡◌}
use Rattle.rules.specs.Writing as rules
use Rattle.rules.specs.Scoping as scoping
use Rattle.table_captures.specs.Meaning.{slot}
use Rattle.table_captures.specs.declared.LSlot.{LSlot}
use Rattle.state.specs.Seen.{buffers, stack, seen, limits_of, Fit, Fits}
use Rattle.state.specs.declared.AnalysisStack.{AnalysisStack}
use Rattle.state.specs.declared.Limits.{Limits}
use Rattle.state.specs.Seen.{Step}

pub record SlotWritten (r : Step) (out out' : List ℕ) (st : AnalysisStack) (place : ℕ) (s : LSlot) : Type 0 where
  pub same : (l : Limits) (diagnostics locals frames captures references : List ℕ)
      → seen r (buffers out' diagnostics locals frames captures references)
      ≡ rules.emit (limits_of l out diagnostics) place (rules.slot_mark (slot s)) (rules.slot_number (slot s) ∷ [])
      (stack (buffers out diagnostics locals frames captures references) st)
  pub fit : (l : Limits) (diagnostics locals frames captures references : List ℕ)
      → Fit l (buffers out diagnostics locals frames captures references) st
      → Fits l r (buffers out' diagnostics locals frames captures references)

pub record SlotEmitted (r : Step) (out out' frames captures captures' : List ℕ) (limits : Limits) (st : AnalysisStack) (place id : ℕ) : Type 0 where
  pub same : (diagnostics locals references : List ℕ)
      → seen r (buffers out' diagnostics locals frames captures' references)
      ≡ scoping.emit_slot (limits_of limits out diagnostics) place id (stack (buffers out diagnostics locals frames captures references) st)
  pub fit : (diagnostics locals references : List ℕ)
      → Fit limits (buffers out diagnostics locals frames captures references) st
      → Fits limits r (buffers out' diagnostics locals frames captures' references)
