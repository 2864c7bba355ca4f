-- A settling loop over the tables is the rules' `settle_frame`, and what fits still fits. Assumes nothing.
use Prim.Native.Nat.{ℕ, zero, suc, ◌+◌}
use mathlib.Core.List.{List, [], ◌∷◌}
use mathlib.Core.Path.{◌≡◌, ap}
use lib.ListN.{length, drop}
use Rattle.rules.specs.Settling.{Reference, Loop, Settled}
use Rattle.rules.specs.State as rules
use Rattle.rules.specs.Scoping.{settle_frame}
use Rattle.settling.specs.Meaning.{references_between, Below, Inside, Settles}
use Rattle.state.specs.Seen.{buffers, stack}
use Rattle.state.specs.declared.AnalysisStack.{AnalysisStack}
use Rattle.state.proofs.Changing.{rounds_to}
use Rattle.state.proofs.Fitting.{fit_values, fit_entries}
use Rattle.step_judge.specs.Answers.{Settleable, SettledFrame}

below_rest : (n k : ℕ) (refs : List Reference) → Below n refs → Below n (drop k refs)
unfolding Below
below_rest n zero refs h = h
below_rest n (suc k) [] h = h
below_rest n (suc k) (ref ∷ refs) h = below_rest n k refs h.2

module _ {locals references : List ℕ} {st : AnalysisStack} {kept before : ℕ} (s : Settleable locals references st kept before) where
  left_below : Below st.locals (references_between before st.references references)
  unfolding references_between
  left_below = below_rest st.locals before _ s.below

  pub inside : Inside locals references before st.references
  inside = record { references_long = s.references_long; entries = st.locals; locals_long = s.locals_long; below = left_below }

  module _ (loop : Loop) {locals' : List ℕ} {rounds : ℕ} (size : length locals' ≡ length locals)
      (settles : Settles loop (references_between before st.references references) locals locals' kept rounds) where
    pub frame_settled : SettledFrame (rounds_to (st.rounds + rounds) st) locals locals' references st loop kept before
    unfolding stack settle_frame rules.with_rounds rules.with_locals rules.with_sink references_between
    frame_settled = record {
      becomes = λ l out diagnostics frames captures f. record {
        same =
            ap (λ (r : Settled). rules.with_rounds (st.rounds + r.rounds) (rules.with_locals r.locals (stack (buffers out diagnostics locals frames captures references) st)))
            (settles.same st.locals left_below);
        fit = fit_values (fit_entries f size);
      };
    }
