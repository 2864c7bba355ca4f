-- What opening and closing a frame answer and leave: the rules' step on the state that the buffers hold, whatever stands in those that it doesn't
-- touch. Assumes nothing.
use Rattle.std.specs.Prelude.{ℕ, Bool, List, ◌≡◌}
use Rattle.rules.specs.Numbers.{SH, record_bytes}
use Rattle.rules.specs.Frames.{top}
use Rattle.rules.specs.Writing as rules
use Rattle.resolver.specs.Meaning.{frames_of}
use Rattle.state.specs.Seen.{buffers, stack, seen, limits_of, Fit, Fits}
use Rattle.state.specs.declared.AnalysisStack.{AnalysisStack}
use Rattle.state.specs.declared.Limits.{Limits}
use Rattle.state.specs.Seen.{Step}

-- the record of the shape of the top of n frames
abbrev pub shape_bytes : (n : ℕ) → (frames : List ℕ) → (count : ℕ) → (captures : List ℕ) → List ℕ
shape_bytes n frames count captures = record_bytes SH (rules.shape_numbers (top (frames_of n frames count captures)))

-- a frame more
pub record FrameOpened (r : Step) (before after : List ℕ) (l : Limits) (st : AnalysisStack) (place : ℕ) (is_defining : Bool) : Type 0 where
  pub same : (out diagnostics locals captures references : List ℕ)
      → Fit l (buffers out diagnostics locals before captures references) st
      → seen r (buffers out diagnostics locals after captures references)
      ≡ rules.open_frame (limits_of l out diagnostics) place is_defining (stack (buffers out diagnostics locals before captures references) st)
  pub fit : (out diagnostics locals captures references : List ℕ)
      → Fit l (buffers out diagnostics locals before captures references) st
      → Fits l r (buffers out diagnostics locals after captures references)

-- the top frame's shape, and the frame is gone
pub record FrameClosed (r : Step) (out out' frames captures captures' : List ℕ) (st : AnalysisStack) (place : ℕ) : Type 0 where
  pub same : (l : Limits) (diagnostics locals references : List ℕ)
      → seen r (buffers out' diagnostics locals frames captures' references)
      ≡ rules.close_frame (limits_of l out diagnostics) place (stack (buffers out diagnostics locals frames captures references) st)
  pub fit : (l : Limits) (diagnostics locals references : List ℕ)
      → Fit l (buffers out diagnostics locals frames captures references) st
      → Fits l r (buffers out' diagnostics locals frames captures' references)
