-- Laws of the local that is to be kept next. Assumes nothing.
use Prim.Native.Nat.{ℕ, ◌+◌, ◌≤◌, ◌<◌}
use mathlib.Core.Bool.{Bool, false}
use mathlib.Core.List.{List}
use mathlib.Core.Path.{◌≡◌, sym, ap, ◌∙◌}
use native.Mathlib.Omega.{arith}
use lib.ListN.{length, get_or-eq_default}
use Rattle.rules.specs.Locals as rules
use Rattle.rules.specs.Scoping.{is_at, is_kept}
use Rattle.value_local.specs.Meaning.{local, binding_of}
use Rattle.table_locals.specs.Meaning.{locals_of}
use Rattle.value_local.specs.declared.LocalDefinition.{LocalDefinition}
use Rattle.table_locals.proofs.Laws.{length_locals}
use Rattle.state.specs.Seen.{buffers, stack}
use Rattle.state.specs.declared.AnalysisStack.{AnalysisStack}
use Rattle.step_locals.specs.Answers.{FirstInFrame}
use Rattle.step_retain.specs.Answers.{IsKept}

module _ (locals frames : List ℕ) (st : AnalysisStack) (first : ℕ) (is : FirstInFrame first frames st) (place next : ℕ) where
  kept_told : (out diagnostics captures references : List ℕ)
      → is_kept place next (stack (buffers out diagnostics locals frames captures references) st) ≡ is_at place (rules.local_at (locals_of st.locals locals) (first + next)).stands_for
  unfolding is_kept stack
  kept_told out diagnostics captures references =
      ap (λ (f : ℕ). is_at place (rules.local_at (locals_of st.locals locals) (f + next)).stands_for) (sym (is.same out diagnostics locals captures references))

  pub none_left : st.locals ≤ first + next → IsKept false locals frames st place next
  unfolding is_at rules.local_at rules.no_local rules.new_local
  none_left past =
      let outside : length (locals_of st.locals locals) ≤ first + next = omega (arith, length_locals st.locals locals) in
      record {
        same = λ out diagnostics captures references. sym (kept_told out diagnostics captures references
            ∙ ap (λ (l : rules.LocalDefinition). is_at place l.stands_for) (get_or-eq_default (locals_of st.locals locals) rules.no_local outside));
      }

  pub next_tells : (r : Bool) (l : LocalDefinition) → first + next < st.locals
      → ((n : ℕ) → first + next < n → local l ≡ rules.local_at (locals_of n locals) (first + next))
      → r ≡ is_at place (binding_of l.stands_for) → IsKept r locals frames st place next
  unfolding local
  next_tells r l inside read tells = record {
    same = λ out diagnostics captures references. tells
        ∙ ap (λ (d : rules.LocalDefinition). is_at place d.stands_for) (read st.locals inside)
        ∙ sym (kept_told out diagnostics captures references);
  }
