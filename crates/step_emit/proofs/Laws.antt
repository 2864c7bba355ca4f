-- Steps of the leaves as the walks' statements, and the place after a step. Assumes nothing.
use Prim.Native.Nat.{ℕ, ◌+◌}
use mathlib.Core.List.{List, [], ◌∷◌}
use mathlib.Core.Path.{◌≡◌, refl, sym, ap, ◌∙◌}
use Rattle.rules.specs.Outcome.{Outcome, ◌>>=◌, choose}
use Rattle.rules.specs.Records.{span_numbers}
use Rattle.rules.specs.Numbers.{IM, FH, code, mark_bytes, number_at, is_set}
use Rattle.rules.specs.State as rules
use Rattle.rules.specs.Writing as writing
use Rattle.rules.specs.Walk as walk
use Rattle.law_runs.specs.Steps.{and_place, import_steps, head_written}
use Rattle.state.specs.Seen.{span_of, Buffers, buffers, stack, seen, Fit, Fits}
use Rattle.state.specs.Walks.{walked, WalkedFits, Walks, Steps}
use Rattle.state.specs.declared.AnalysisStack.{AnalysisStack}
use Rattle.state.specs.declared.Limits.{Limits}
use Rattle.step_write.specs.Answers.{Emitted, BadPlace}
use Rattle.step_write.proofs.Emitting.{emitted_steps}
use Rattle.step_emit.specs.Answers.{ImportAnalyzed, HeadEmitted}
use Rattle.std.specs.Prelude.{Ok, Err}
use Rattle.rules.proofs.Flags.{set_of, unset_of}
use Rattle.refusal.specs.declared.Refusal.{Refusal}
use Rattle.state.specs.Seen.{Step, Walked}

-- Steps of the leaves

module _ {r : Step} {out out' diagnostics diagnostics' : List ℕ} {st : AnalysisStack} {place code name span bad : ℕ} where
  pub bad_steps : BadPlace r out out' diagnostics diagnostics' st place code name span bad
      → (l : Limits) (locals frames captures references : List ℕ) → Fit l (buffers out diagnostics locals frames captures references) st
      → Steps r l (buffers out diagnostics locals frames captures references) (buffers out' diagnostics' locals frames captures references) st
      (λ limits s. writing.bad_place limits place code name (span_of span) bad s)
  bad_steps was_bad l ls fs cs rs fit = record {
    same = λ limits is.
        was_bad.same l ls fs cs rs
        ∙ ap (λ (L : rules.Limits). writing.bad_place L place code name (span_of span) bad (stack (buffers out diagnostics ls fs cs rs) st)) (sym is);
    fit = was_bad.fit l ls fs cs rs fit;
  }

-- The place after

-- a step's answer with the place after, whatever the buffers hold
pub record Placed (r : Walked) (step : Step) (next : ℕ) : Type 0 where
  pub same : (b : Buffers) → walked r b ≡ and_place next (seen step b)
  pub fit : (l : Limits) (b : Buffers) → Fits l step b → WalkedFits l r b

-- a state goes on there
pub placed : {step : Step} {st : AnalysisStack} (next : ℕ) → step ≡ Ok st → Placed (Ok (st, next)) step next
unfolding and_place ◌>>=◌
placed next e = rw e record { same = λ b. refl; fit = λ l b fit. fit }

-- a refusal has no place after
pub refused : {step : Step} {why : Refusal} (next : ℕ) → step ≡ Err why → Placed (Err why) step next
unfolding and_place ◌>>=◌
refused next e = rw e record { same = λ b. refl; fit = λ l b fit. tt }

module _ {r : Step} {w : Walked} (next : ℕ) {l : Limits} {b b' : Buffers} {st : AnalysisStack} where
  -- a step with the place after it is a walk, and so is what the rules make of the state by the same step
  pub walks_behind : {f : rules.Limits → rules.AnalysisStack → Outcome rules.AnalysisStack} (g : rules.Limits → rules.AnalysisStack → Outcome (rules.AnalysisStack × ℕ))
      → Placed w r next → Steps r l b b' st f → ((limits : rules.Limits) → and_place next (f limits (stack b st)) ≡ g limits (stack b st)) → Walks w l b b' st g
  walks_behind g ends steps agree = record {
    same = λ limits e. ends.same b' ∙ ap (and_place next) (steps.same limits e) ∙ agree limits;
    fit = ends.fit l b' steps.fit;
  }

-- Heads

-- a head's numbers are the tree's, but for a computed name
pub head_emitted : {r : Step} {w : Walked} {tree out out' : List ℕ} {st : AnalysisStack} {at : ℕ} (next : ℕ) {kind name method visibility : ℕ}
    → Emitted r out out' st at (0x46 ∷ 0x48 ∷ []) (kind ∷ name ∷ method ∷ visibility ∷ []) → Placed w r next
    → kind ≡ number_at tree (at + 2) → name ≡ choose (is_set kind) (λ _. 0) (λ _. number_at tree (at + 6))
    → method ≡ number_at tree (at + 14) → visibility ≡ number_at tree (at + 18) → HeadEmitted w tree out out' st at next
unfolding mark_bytes code head_written
head_emitted {tree = tree} {at = at} next emitted ends is_kind is_name is_method is_visibility = record {
  walks = λ l ds ls fs cs rs fit.
      walks_behind next (λ limits s. head_written limits tree at next s) ends (emitted_steps emitted FH refl l ds ls fs cs rs fit)
      (λ limits. rw (is_name, is_kind, is_method, is_visibility) refl);
}

-- Imports

module _ {r : Step} {w : Walked} {tree out out' : List ℕ} {st : AnalysisStack} {at span flag : ℕ}
    (ends : Placed w r (at + 18)) (is_span : span ≡ number_at tree (at + 6)) (is_flag : flag ≡ number_at tree (at + 10)) where
  pub literal_import : {which path : ℕ} {diagnostics : List ℕ} → Emitted r out out' st at (0x49 ∷ 0x4d ∷ []) (which ∷ span ∷ path ∷ [])
      → which ≡ number_at tree (at + 2) → path ≡ number_at tree (at + 14) → (flag ≡ 0 → ⊥) → ImportAnalyzed w tree out out' diagnostics diagnostics st at
  unfolding mark_bytes code import_steps walk.use_import choose span_numbers
  literal_import {diagnostics = ds} emitted is_which is_path is_literal = record {
    walks = λ l ls fs cs rs fit.
        walks_behind (at + 18) (λ limits s. import_steps limits tree at s) ends (emitted_steps emitted IM refl l ds ls fs cs rs fit)
        (λ limits. rw (← is_flag, set_of is_literal, is_which, is_path, is_span) refl);
  }

  pub bad_import : {diagnostics diagnostics' : List ℕ} → BadPlace r out out' diagnostics diagnostics' st at 6 0 span 4 → flag ≡ 0
      → ImportAnalyzed w tree out out' diagnostics diagnostics' st at
  unfolding import_steps walk.use_import choose
  bad_import was_bad is_literal = record {
    walks = λ l ls fs cs rs fit.
        walks_behind (at + 18) (λ limits s. import_steps limits tree at s) ends (bad_steps was_bad l ls fs cs rs fit)
        (λ limits. rw (← is_flag, unset_of is_literal, is_span) refl);
  }
