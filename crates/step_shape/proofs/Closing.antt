-- A frame that closes, and the record after its shape: one step after another is the rules' step. Assumes nothing.
use Prim.Native.Nat.{ℕ}
use mathlib.Core.List.{List, [], ◌∷◌}
use mathlib.Core.Path.{◌≡◌, refl, sym, ap, ◌∙◌}
use lib.ListN.{length, get_or}
use Rattle.rules.specs.Outcome.{ok, refuse, ◌>>=◌}
use Rattle.rules.specs.Numbers.{Mark, AR, FV, code, mark_bytes}
use Rattle.rules.specs.State as rules
use Rattle.rules.specs.Writing as writing
use Rattle.law_runs.specs.Steps.{and_place, closed_array, closed_value, closed_assertions}
use Rattle.state.specs.Seen.{Buffers, buffers, stack, limits_of, Fit}
use Rattle.state.specs.Walks.{Walks}
use Rattle.state.specs.declared.AnalysisStack.{AnalysisStack}
use Rattle.state.specs.declared.Limits.{Limits}
use Rattle.step_write.specs.Answers.{Emitted}
use Rattle.step_frame.specs.Answers.{FrameClosed}
use Rattle.step_write.proofs.Laws.{limits_same}
use Rattle.step_emit.proofs.Laws.{Placed}
use Rattle.step_shape.specs.Answers.{closed_with, ClosedWith, ArrayClosed, ValueClosed, AssertionsClosed}
use Rattle.std.specs.Prelude.{Ok, Err}
use Rattle.refusal.specs.declared.Refusal.{Refusal}
use Rattle.refusal.specs.Meaning.{number_of}
use Rattle.state.specs.Seen.{Step, Walked}

-- The rules' steps one after another

module _ (m : Mark) (ns : List ℕ) (place next : ℕ) (limits : rules.Limits) (S : rules.AnalysisStack) where
  then_emitted : (T : rules.AnalysisStack) → ok T ≡ writing.close_frame limits place S → closed_with m ns place next limits S ≡ and_place next (writing.emit limits place m ns T)
  unfolding closed_with ◌>>=◌
  then_emitted T e = rw (← e) refl

  then_refused : (number at : ℕ) → refuse number at ≡ writing.close_frame limits place S → closed_with m ns place next limits S ≡ refuse number at
  unfolding closed_with ◌>>=◌
  then_refused number at e = rw (← e) refl

module _ (out out₁ frames captures captures' : List ℕ) (st : AnalysisStack) (place next : ℕ) (l : Limits) (diagnostics locals references : List ℕ)
    (f : Fit l (buffers out diagnostics locals frames captures references) st) where
  abbrev B : Buffers
  B = buffers out diagnostics locals frames captures references

  with_record : (m : Mark) (mark ns : List ℕ) (out' : List ℕ) (after : AnalysisStack) (e : Step) (r : Walked) → length out₁ ≡ length out
      → get_or mark 0 0 ∷ get_or mark 1 0 ∷ [] ≡ mark_bytes m
      → FrameClosed (Ok after) out out₁ frames captures captures' st place → Emitted e out₁ out' after place mark ns → Placed r e next
      → Walks r l B (buffers out' diagnostics locals frames captures' references) st (closed_with m ns place next)
  with_record m mark ns out' after e r long spelled closed emitted ends = record {
    same = λ limits is. rw is
        (ends.same _
        ∙ ap (and_place next) (emitted.same m spelled l diagnostics locals frames captures' references
        ∙ ap (λ (x : rules.Limits). writing.emit x place m ns (stack (buffers out₁ diagnostics locals frames captures' references) after)) (limits_same l out out₁ diagnostics diagnostics long refl))
        ∙ sym (then_emitted m ns place next (limits_of l out diagnostics) (stack B st) _ (closed.same l diagnostics locals references)));
    fit = ends.fit l _ (emitted.fit l diagnostics locals frames captures' references (closed.fit l diagnostics locals references f));
  }

  without_room : (m : Mark) (ns : List ℕ) (why : Refusal) → FrameClosed (Err why) out out₁ frames captures captures' st place
      → Walks (Err why) l B (buffers out₁ diagnostics locals frames captures' references) st (closed_with m ns place next)
  without_room m ns why closed = record {
    same = λ limits is. rw is (sym (then_refused m ns place next (limits_of l out diagnostics) (stack B st) (number_of why.reason) why.place (closed.same l diagnostics locals references)));
    fit = tt;
  }

  assertions_walk : (c : Step) (r : Walked) → FrameClosed c out out₁ frames captures captures' st place → Placed r c next
      → Walks r l B (buffers out₁ diagnostics locals frames captures' references) st (λ limits. closed_assertions limits place next)
  unfolding closed_assertions
  assertions_walk c r closed ends = record {
    same = λ limits is. rw is (ends.same _ ∙ ap (and_place next) (closed.same l diagnostics locals references));
    fit = ends.fit l _ (closed.fit l diagnostics locals references f);
  }

-- The answers

module _ {out out₁ frames captures captures' : List ℕ} {st : AnalysisStack} {place : ℕ} (next : ℕ) {c : Step} (closed : FrameClosed c out out₁ frames captures captures' st place) where
  pub assertions_closed : {r : Walked} → Placed r c next → AssertionsClosed r out out₁ frames captures captures' st place next
  assertions_closed {r} ends = record {
    walks = λ l diagnostics locals references f. assertions_walk out out₁ frames captures captures' st place next l diagnostics locals references f c r closed ends;
  }

  -- the shape has no room
  pub full : {why : Refusal} (mark ns : List ℕ) → c ≡ Err why → ClosedWith (Err why) out out₁ frames captures captures' st place mark ns next
  full {why} mark ns is = record {
    walks = λ m spelled l diagnostics locals references f. without_room out out₁ frames captures captures' st place next l diagnostics locals references f m ns why (rw is at closed);
  }

  -- the record after it, or no room for it
  pub closed_on : {out' mark ns : List ℕ} {after : AnalysisStack} {e : Step} {r : Walked} → c ≡ Ok after → length out₁ ≡ length out → Emitted e out₁ out' after place mark ns → Placed r e next
      → ClosedWith r out out' frames captures captures' st place mark ns next
  closed_on {out'} {mark} {ns} {after} {e} {r} goes long emitted ends = record {
    walks = λ m spelled l diagnostics locals references f.
        with_record out out₁ frames captures captures' st place next l diagnostics locals references f m mark ns out' after e r long spelled (rw goes at closed) emitted ends;
  }

module _ {r : Walked} {out out' frames captures captures' : List ℕ} {st : AnalysisStack} {place next : ℕ} where
  pub array_closed : {n : ℕ} → ClosedWith r out out' frames captures captures' st place (0x41 ∷ 0x52 ∷ []) (n ∷ []) next → ArrayClosed r out out' frames captures captures' st place n next
  unfolding closed_array closed_with mark_bytes code
  array_closed closed = record { walks = closed.walks AR refl }

  pub value_closed : ClosedWith r out out' frames captures captures' st place (0x46 ∷ 0x56 ∷ []) [] next → ValueClosed r out out' frames captures captures' st place next
  unfolding closed_value closed_with mark_bytes code
  value_closed closed = record { walks = closed.walks FV refl }
