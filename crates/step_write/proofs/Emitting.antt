-- A record of the output that was written, as a step of the walks' statements. Assumes nothing.
use Prim.Native.Nat.{ℕ}
use mathlib.Core.List.{List, [], ◌∷◌}
use mathlib.Core.Path.{◌≡◌, sym, ap, ◌∙◌}
use lib.ListN.{get_or}
use Rattle.rules.specs.Numbers.{Mark, mark_bytes}
use Rattle.rules.specs.State as rules
use Rattle.rules.specs.Writing as writing
use Rattle.state.specs.Seen.{buffers, stack, Fit}
use Rattle.state.specs.Walks.{Steps}
use Rattle.state.specs.declared.AnalysisStack.{AnalysisStack}
use Rattle.state.specs.declared.Limits.{Limits}
use Rattle.step_write.specs.Answers.{Emitted}
use Rattle.state.specs.Seen.{Step}

module _ {r : Step} {out out' : List ℕ} {st : AnalysisStack} {place : ℕ} {mark ns : List ℕ} where
  pub emitted_steps : Emitted r out out' st place mark ns → (m : Mark) → get_or mark 0 0 ∷ get_or mark 1 0 ∷ [] ≡ mark_bytes m
      → (l : Limits) (diagnostics locals frames captures references : List ℕ) → Fit l (buffers out diagnostics locals frames captures references) st
      → Steps r l (buffers out diagnostics locals frames captures references) (buffers out' diagnostics locals frames captures references) st
      (λ limits s. writing.emit limits place m ns s)
  emitted_steps emitted m spelled l ds ls fs cs rs fit = record {
    same = λ limits is.
        emitted.same m spelled l ds ls fs cs rs ∙ ap (λ (L : rules.Limits). writing.emit L place m ns (stack (buffers out ds ls fs cs rs) st)) (sym is);
    fit = emitted.fit l ds ls fs cs rs fit;
  }
