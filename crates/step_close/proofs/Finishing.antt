-- Laws of a frame's end: its names settled, judged and forgotten, and its shape written. Assumes nothing.
use Prim.Native.Nat.{ℕ, ◌*◌, ◌≤◌, ◌<◌}
use mathlib.Core.List.{List, [], ◌∷◌}
use mathlib.Core.Path.{◌≡◌, refl, sym, ap, ◌∙◌}
use native.Mathlib.Omega.{arith}
use lib.ListN.{length}
use Rattle.rules.specs.Outcome.{Outcome, ok, refuse, ◌>>=◌}
use Rattle.rules.specs.Locals as rules_locals
use Rattle.rules.specs.Records.{Span}
use Rattle.rules.specs.Settling.{propagate_use}
use Rattle.rules.specs.State as rules
use Rattle.rules.specs.Writing as writing
use Rattle.rules.specs.Scoping as scoping
use Rattle.rules.proofs.After.{After, fine, after_ok, after_weaken, after_bind, after_need, after_choose, after_given}
use Rattle.table_rows.specs.Entries.{number}
use Rattle.resolver.specs.Kept.{Kept}
use Rattle.state.specs.Seen.{Buffers, buffers, stack, seen, limits_of, Fit}
use Rattle.state.specs.Walks.{Steps}
use Rattle.state.specs.declared.AnalysisStack.{AnalysisStack}
use Rattle.state.specs.declared.Limits.{Limits}
use Rattle.step_frame.specs.Answers.{FrameClosed}
use Rattle.step_write.proofs.Laws.{limits_same}
use Rattle.step_judge.specs.Answers.{SettledFrame, judge_frame, JudgedAll}
use Rattle.table_references.proofs.Keeping.{length_references}
use Rattle.step_close.specs.Answers.{forget_names, ForgottenNames}
use Rattle.std.specs.Prelude.{Ok, Err}
use Rattle.refusal.specs.declared.Refusal.{Refusal}
use Rattle.refusal.specs.Meaning.{number_of}
use Rattle.state.specs.Seen.{Step}

-- Judging leaves the references

module _ (limits : rules.Limits) (place : ℕ) where
  report_keeps : (level : writing.Level) (code name : ℕ) (span : Span) (S : rules.AnalysisStack)
      → After (λ T. T.references ≡ S.references) (writing.report limits place level code name span S)
  unfolding writing.report rules.with_sink
  report_keeps level code name span S = after_need _ 10 place _ (λ _. fine refl)

  judge_keeps : (name : ℕ) (d : rules_locals.LocalDefinition) (S : rules.AnalysisStack)
      → After (λ T. T.references ≡ S.references) (scoping.judge limits place name d S)
  unfolding scoping.judge
  judge_keeps name d S =
      after_choose _ _ _
      (λ _. after_choose _ _ _ (λ _. report_keeps writing.warning 8 name d.span S) (λ _. report_keeps writing.warning 7 name d.span S))
      (λ _. after_choose _ _ _ (λ _. report_keeps writing.warning 9 name d.span S) (λ _. fine refl))

  all_keep : (ds : List rules_locals.LocalDefinition) (S : rules.AnalysisStack)
      → After (λ T. T.references ≡ S.references) (scoping.judge_all limits place ds S)
  unfolding scoping.judge_all
  all_keep [] S = fine refl
  all_keep (d ∷ ds) S =
      after_bind {P = λ T. T.references ≡ S.references} _
      (after_given _ _ _ (λ _. fine refl) (λ name _. judge_keeps name d S))
      (λ T e. after_weaken (all_keep ds T) (λ U f. f ∙ e))

-- as many references as there were, where they are the same
as_many : (b c : Buffers) (st st' : AnalysisStack) → (stack c st').references ≡ (stack b st).references → st'.references ≡ st.references
unfolding stack
as_many b c st st' e = sym (length_references st'.references c.references) ∙ ap length e ∙ length_references st.references b.references

-- The rules' step in three

module _ (limits : rules.Limits) (place kept before : ℕ) (S : rules.AnalysisStack) where
  goes_on : (T : rules.AnalysisStack) → ok T ≡ judge_frame limits place (scoping.settle_frame propagate_use kept before S)
      → scoping.finish_frame limits place kept before S ≡ writing.close_frame limits place (forget_names before T)
  unfolding scoping.finish_frame judge_frame forget_names ◌>>=◌
  goes_on T e = ap (λ (o : Outcome rules.AnalysisStack). o >>= λ st. writing.close_frame limits place (forget_names before st)) (sym e)

  stops : (why at : ℕ) → refuse why at ≡ judge_frame limits place (scoping.settle_frame propagate_use kept before S)
      → scoping.finish_frame limits place kept before S ≡ refuse why at
  unfolding scoping.finish_frame judge_frame forget_names ◌>>=◌
  stops why at e = ap (λ (o : Outcome rules.AnalysisStack). o >>= λ st. writing.close_frame limits place (forget_names before st)) (sym e)

-- what fits has its entries

module _ {l : Limits} {b : Buffers} {st : AnalysisStack} (f : Fit l b st) where
  pub locals_there : 16 * st.locals ≤ length b.locals
  locals_there = omega (arith, f.locals_long, f.few_locals)

  pub frames_there : 16 * st.frames ≤ length b.frames
  frames_there = omega (arith, f.frames_long, f.few_frames)

module _ {l : Limits} {out diagnostics locals locals' frames captures references : List ℕ} {st st₁ : AnalysisStack} {kept before : ℕ}
    (f : Fit l (buffers out diagnostics locals frames captures references) st)
    (settled : SettledFrame st₁ locals locals' references st propagate_use kept before) where
  abbrev b : Buffers
  b = buffers out diagnostics locals frames captures references

  abbrev b₁ : Buffers
  b₁ = buffers out diagnostics locals' frames captures references

  pub fit_settled : Fit l b₁ st₁
  fit_settled = (settled.becomes l out diagnostics frames captures f).fit

  pub judgeable : (16 * st₁.locals ≤ length locals') × (16 * st₁.frames ≤ length frames) × ((k : ℕ) → k < st₁.frames → number frames k 1 ≤ st₁.locals)
  judgeable = (locals_there fit_settled, frames_there fit_settled, fit_settled.first_there)

  settled_is : stack b₁ st₁ ≡ scoping.settle_frame propagate_use kept before (stack b st)
  settled_is = (settled.becomes l out diagnostics frames captures f).same

  module _ (place : ℕ) {r : Step} {diagnostics' : List ℕ} (judged : JudgedAll r diagnostics diagnostics' locals' frames st₁ place) where
    abbrev b₂ : Buffers
    b₂ = buffers out diagnostics' locals' frames captures references

    judged_is : (limits : rules.Limits) → limits ≡ limits_of l out diagnostics
        → seen r b₂ ≡ judge_frame limits place (scoping.settle_frame propagate_use kept before (stack b st))
    judged_is limits at = (judged.steps l out captures references fit_settled).same limits at ∙ ap (judge_frame limits place) settled_is

    pub frame_stopped : {why : Refusal} → r ≡ Err why → Steps (Err why) l b b₂ st (λ limits. scoping.finish_frame limits place kept before)
    frame_stopped {why} is = record {
      same = λ limits at. sym (stops limits place kept before (stack b st) (number_of why.reason) why.place (rw is at (judged_is limits at)));
      fit = tt;
    }

    module _ {st₂ : AnalysisStack} (is : r ≡ Ok st₂) where
      pub fit_judged : Fit l b₂ st₂
      fit_judged = rw is at (judged.steps l out captures references fit_settled).fit

      settle_keeps : (scoping.settle_frame propagate_use kept before (stack b st)).references ≡ (stack b st).references
      unfolding scoping.settle_frame rules.with_rounds rules.with_locals rules.with_sink
      settle_keeps = refl

      same_references : st₂.references ≡ st.references
      unfolding judge_frame
      same_references =
          as_many b b₂ st st₂
          (after_ok (all_keep (limits_of l out diagnostics) place _ (scoping.settle_frame propagate_use kept before (stack b st)))
          (sym (rw is at (judged_is (limits_of l out diagnostics) refl)))
          ∙ settle_keeps)

      module _ (there : before ≤ st.references) {st₃ : AnalysisStack} (forgotten : ForgottenNames st₃ frames st₂ before) where
        still_there : before ≤ st₂.references
        still_there = omega (arith, same_references)

        fit_forgotten : Fit l b₂ st₃
        fit_forgotten = (forgotten.becomes l out diagnostics' locals' captures references fit_judged still_there).fit

        pub closeable : Kept st₃.frames frames st₃.captures captures
        closeable = fit_forgotten.frames_kept

        pub frame_finished : {out' captures' : List ℕ} {w : Step} → length diagnostics' ≡ length diagnostics → FrameClosed w out out' frames captures captures' st₃ place
            → Steps w l b (buffers out' diagnostics' locals' frames captures' references) st (λ limits. scoping.finish_frame limits place kept before)
        frame_finished {out'} {captures'} {w} size closed = record {
          same = λ limits at.
              closed.same l diagnostics' locals' references
              ∙ ap (λ (k : rules.Limits). writing.close_frame k place (stack b₂ st₃)) (limits_same l out out diagnostics diagnostics' refl size ∙ sym at)
              ∙ ap (writing.close_frame limits place) (forgotten.becomes l out diagnostics' locals' captures references fit_judged still_there).same
              ∙ sym (goes_on limits place kept before (stack b st) (stack b₂ st₂) (rw is at (judged_is limits at)));
          fit = closed.fit l diagnostics' locals' references fit_forgotten;
        }
