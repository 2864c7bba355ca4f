-- A frame more on the open ones is the rules' `open_frame`, and what fits still fits. Assumes nothing.
use Prim.Native.Nat.{ℕ, zero, suc, ◌+◌, ◌≤◌, ◌<◌}
use mathlib.Core.Bool.{Bool}
use mathlib.Core.List.{List, ◌∷◌}
use mathlib.Core.Logic.{⊎_elim}
use mathlib.Core.Path.{◌≡◌, refl, sym, ap, ◌∙◌}
use native.Mathlib.Numerals.{add-one}
use native.Mathlib.Omega.{arith}
use borrow.Author.Tests.{lt-ltb, le-ltb}
use lib.ListN.{length}
use lib.Dec.{ltb}
use Rattle.rules.specs.Outcome.{ok, ◌>>=◌, need}
use Rattle.rules.specs.Frames.{new_frame, top, beneath}
use Rattle.rules.specs.State as rules_state
use Rattle.rules.specs.Writing as rules_writing
use Rattle.table_locals.proofs.Laws.{length_locals}
use Rattle.table_rows.specs.Entries.{number}
use Rattle.resolver.specs.Meaning.{frame_of, frames_of}
use Rattle.resolver.specs.Answers.{Opened}
use Rattle.resolver.proofs.Laws.{below_or_top, length_frames}
use Rattle.state.specs.Seen.{buffers, stack, seen, limits_of, Fit}
use Rattle.state.specs.declared.AnalysisStack.{AnalysisStack}
use Rattle.state.specs.declared.Limits.{Limits}
use Rattle.state.proofs.Changing.{frames_to}
use Rattle.state.proofs.Fitting.{fit_frames}
use Rattle.step_frame.specs.Answers.{FrameOpened}
use Rattle.step_write.proofs.Laws.{passes, fails}
use Rattle.std.specs.Prelude.{Ok, Err}
use Rattle.refusal.specs.Meaning.{refuses}
use Rattle.refusal.specs.declared.Reason.TheVariants as reason

-- the same frames have the same first locals
first_same : (n : ℕ) (frames frames' : List ℕ) (count : ℕ) (captures : List ℕ)
    → frames_of n frames' count captures ≡ frames_of n frames count captures → (f : ℕ) → f < n → number frames' f 1 ≡ number frames f 1
unfolding frames_of frame_of top beneath
first_same zero frames frames' count captures e f lt = absurd (omega arith)
first_same (suc n) frames frames' count captures e f lt = ⊎_elim
    (first_same n frames frames' count captures (ap beneath e) f)
    (λ at. rw at (ap (λ fs. (top fs).first_local) e)) (below_or_top f n lt)

module _ (l : Limits) (st : AnalysisStack) (place : ℕ) (is_defining : Bool) (before : List ℕ) where
  module _ (out diagnostics locals captures references : List ℕ) where
    abbrev S : rules_state.AnalysisStack
    S = stack (buffers out diagnostics locals before captures references) st

    opens : rules_writing.open_frame (limits_of l out diagnostics) place is_defining S
        ≡ (need (ltb st.frames l.max_frames) 7 place >>= λ _. ok (rules_state.with_frames (new_frame is_defining st.locals 0 ∷ S.frames) S))
    unfolding rules_writing.open_frame limits_of stack
    opens = rw (length_frames st.frames before st.captures captures, length_locals st.locals locals) refl

  module _ (after : List ℕ) (lt : st.frames < l.max_frames) (long : length after ≡ length before)
      (opened : Opened before after st.frames is_defining st.locals 0 st.captures) where
    module _ (out diagnostics locals captures references : List ℕ) (fit : Fit l (buffers out diagnostics locals before captures references) st) where
      frames_are : frames_of (suc st.frames) after st.captures captures ≡ new_frame is_defining st.locals 0 ∷ frames_of st.frames before st.captures captures
      frames_are = opened.same captures fit.frames_kept.owned

      first_beneath : (f : ℕ) → f < st.frames → number after f 1 ≡ number before f 1
      unfolding beneath frames_of
      first_beneath = first_same st.frames before after st.captures captures (ap beneath frames_are)

      first_new : number after st.frames 1 ≡ st.locals
      unfolding top frames_of frame_of new_frame
      first_new = ap (λ fs. (top fs).first_local) frames_are

      opened_same : seen (Ok (frames_to (st.frames + 1) st)) (buffers out diagnostics locals after captures references)
          ≡ rules_writing.open_frame (limits_of l out diagnostics) place is_defining (S out diagnostics locals captures references)
      unfolding stack rules_state.with_frames
      opened_same =
          rw (add-one st.frames, frames_are)
          (sym (opens out diagnostics locals captures references
          ∙ passes (ltb st.frames l.max_frames) 7 place _ (lt-ltb st.frames l.max_frames lt)))

      opened_fit : Fit l (buffers out diagnostics locals after captures references) (frames_to (st.frames + 1) st)
      opened_fit = fit_frames fit long refl (omega arith) fit.few_captures (rw (add-one st.frames) (opened.kept captures fit.frames_kept))
          (λ f lt. ⊎_elim
          (λ less. rw (first_beneath f less) (fit.first_there f less))
          (λ at. omega (arith, ap (λ (x : ℕ). number after x 1) at, first_new)) (below_or_top f st.frames (omega arith)))
          (λ f g fg lt. ⊎_elim
          (λ less. rw (first_beneath f (omega arith), first_beneath g less) (fit.first_rises f g fg less))
          (λ at. omega (arith, ap (λ (x : ℕ). number after x 1) at, first_new, first_beneath f (omega arith), fit.first_there f (omega arith)))
          (below_or_top g st.frames (omega arith)))

    pub frame_opened : FrameOpened (Ok (frames_to (st.frames + 1) st)) before after l st place is_defining
    frame_opened = record { same = opened_same; fit = opened_fit }

  pub frame_refused : l.max_frames ≤ st.frames → FrameOpened (Err (refuses reason.FrameLimit place)) before before l st place is_defining
  frame_refused le = record {
    same = λ out ds ls cs rs fit.
        sym (opens out ds ls cs rs ∙ fails (ltb st.frames l.max_frames) 7 place _ (le-ltb st.frames l.max_frames le));
    fit = λ out ds ls cs rs fit. tt;
  }
