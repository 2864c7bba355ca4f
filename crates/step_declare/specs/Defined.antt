-- What defining a name answers and leaves, whatever the buffers hold that it does not touch. A primed list is what it leaves. Assumes nothing.
use Rattle.std.specs.Prelude.{ℕ, List, ◌≡◌}
use Rattle.rules.specs.Scoping as rules
use Rattle.state.specs.Seen.{span_of, buffers, stack, seen, limits_of, Fit, Fits}
use Rattle.state.specs.declared.AnalysisStack.{AnalysisStack}
use Rattle.state.specs.declared.Limits.{Limits}
use Rattle.state.specs.Seen.{Step}

pub record DefinedLocal (r : Step) (diagnostics diagnostics' locals locals' frames frames' : List ℕ) (limits : Limits) (st : AnalysisStack) (place name span depth : ℕ) : Type 0 where
  pub same : (out captures references : List ℕ)
      → seen r (buffers out diagnostics' locals' frames' captures references)
      ≡ rules.define_local (limits_of limits out diagnostics) place name (span_of span) depth
      (stack (buffers out diagnostics locals frames captures references) st)
  pub fit : (out captures references : List ℕ)
      → Fit limits (buffers out diagnostics locals frames captures references) st
      → Fits limits r (buffers out diagnostics' locals' frames' captures references)
