-- Laws of the frame on top and of a name in it. Assumes nothing.
use Prim.Native.Nat.{ℕ, ◌+◌, ◌-◌, ◌≤◌, ◌<◌}
use mathlib.Core.Bool.{Bool, true, false}
use mathlib.Core.List.{List, []}
use mathlib.Core.Option as math
use Rattle.std.specs.Prelude.{Option, Some, None, is_some}
use mathlib.Core.Path.{◌≡◌, refl, sym, ap, ◌∙◌}
use native.Mathlib.Decide.{dec_lt}
use native.Mathlib.Omega.{arith}
use lib.ListN.{length}
use Rattle.rules.specs.Outcome.{given}
use Rattle.rules.specs.Locals as rules
use Rattle.rules.specs.Frames.{top, no_frame, new_frame}
use Rattle.rules.specs.Scoping.{first_in_frame, is_taken}
use Rattle.table_locals.specs.Meaning.{locals_of}
use Rattle.find_name.specs.Answers.{found}
use Rattle.value_local.specs.declared.LocalId.{LocalId}
use Rattle.table_locals.proofs.Laws.{length_locals}
use Rattle.table_rows.specs.Entries.{number}
use Rattle.resolver.specs.Meaning.{frame_of, frames_of}
use Rattle.table_frames.specs.Answers.{FrameAt}
use Rattle.table_frames.specs.declared.Frame.{Frame}
use Rattle.resolver.proofs.Laws.{frames_top}
use Rattle.state.specs.Seen.{Buffers, buffers, stack}
use Rattle.state.specs.declared.AnalysisStack.{AnalysisStack}
use Rattle.step_locals.specs.Answers.{FirstInFrame, IsTaken}

-- The frame on top

module _ (b : Buffers) (st : AnalysisStack) (is_open : 0 < st.frames) where
  first_of_top : first_in_frame (stack b st) ≡ number b.frames (st.frames - 1) 1
  unfolding first_in_frame stack frame_of top
  first_of_top = rw (frames_top b.frames st.captures b.captures st.frames is_open)

  pub locals_of_top : (top (stack b st).frames).n_locals ≡ number b.frames (st.frames - 1) 2
  unfolding stack frame_of top
  locals_of_top = rw (frames_top b.frames st.captures b.captures st.frames is_open)

first_of_none : (b : Buffers) (st : AnalysisStack) → st.frames ≡ 0 → first_in_frame (stack b st) ≡ 0
unfolding first_in_frame stack frames_of top no_frame new_frame
first_of_none b st e = rw e

module _ (frames : List ℕ) (st : AnalysisStack) where
  pub no_frame_first : st.frames ≡ 0 → FirstInFrame 0 frames st
  no_frame_first e = record { same = λ out diagnostics locals captures references. sym (first_of_none (buffers out diagnostics locals frames captures references) st e) }

  pub top_first : (f : Frame) → 0 < st.frames → FrameAt frames (st.frames - 1) f → FirstInFrame f.first_local frames st
  top_first f is_open at = record { same = λ out diagnostics locals captures references. at.first ∙ sym (first_of_top (buffers out diagnostics locals frames captures references) st is_open) }

  pub first_within : (first : ℕ) → FirstInFrame first frames st → ((f : ℕ) → f < st.frames → number frames f 1 ≤ st.locals) → first ≤ st.locals
  first_within first is there = by (dec_lt 0 st.frames)
    where
      by : Dec (0 < st.frames) → first ≤ st.locals
      by (yes is_open) = omega (arith, is.same [] [] [] [] [], first_of_top (buffers [] [] [] frames [] []) st is_open, there (st.frames - 1) (omega arith))
      by (no none) = omega (arith, is.same [] [] [] [] [], first_of_none (buffers [] [] [] frames [] []) st (omega arith))

-- A name

module _ (locals frames : List ℕ) (st : AnalysisStack) (first : ℕ) (is : FirstInFrame first frames st) (name : ℕ) where
  abbrev told : math.Option ℕ → Bool
  told o = given o (λ _. false) (λ id. true)

  taken_told : (out diagnostics captures references : List ℕ)
      → is_taken name (stack (buffers out diagnostics locals frames captures references) st) ≡ told (rules.newest name (locals_of st.locals locals) first (st.locals - first))
  unfolding is_taken stack
  taken_told out diagnostics captures references =
      let ls = locals_of st.locals locals in
      ap (λ (f : ℕ). told (rules.newest name ls f (length ls - f))) (sym (is.same out diagnostics locals captures references))
      ∙ ap (λ (n : ℕ). told (rules.newest name ls first (n - first))) (length_locals st.locals locals)

  module _ (f : Option LocalId) (within : first ≤ st.locals)
      (searched : (total : ℕ) → first + (st.locals - first) ≤ total → found f ≡ rules.newest name (locals_of total locals) first (st.locals - first)) where
    told_some : (o : Option LocalId) → told (found o) ≡ is_some o
    unfolding found given
    told_some (Some id) = refl
    told_some None = refl

    pub taken : IsTaken (is_some f) locals frames st name
    taken = record {
      same = λ out diagnostics captures references. sym (taken_told out diagnostics captures references ∙ ap told (sym (searched st.locals (omega arith))) ∙ told_some f);
    }
