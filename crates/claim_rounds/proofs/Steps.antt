-- The steps that are no settling leave the rounds as they are, and the locals as `Later` says. Assumes nothing.
use Prim.Native.Nat.{ℕ, ◌+◌}
use mathlib.Core.Bool.{Bool}
use mathlib.Core.List.{List, [], ◌∷◌}
use mathlib.Core.Path.{◌≡◌, refl, ◌∙◌}
use Rattle.rules.specs.Outcome.{Outcome}
use Rattle.rules.specs.Numbers.{Name, Mark, IY, FN, BL, SH}
use Rattle.rules.specs.Records.{Span}
use Rattle.rules.specs.Locals.{LocalDefinition}
use Rattle.rules.specs.State.{Limits, AnalysisStack, with_locals, with_frames, with_object_use, with_taint, with_sink, with_out, taken_back}
use Rattle.rules.specs.Writing.{Level, emit, report, bad_place, open_frame, close_frame}
use Rattle.rules.specs.Scoping.{touch_local, touch_object, emit_slot, judge, judge_all}
use Rattle.rules.specs.Walk.{Place, Naming, use_identity, use_local, use_import, finish_function}
use Rattle.rules.proofs.After.{After, fine, after_weaken, after_bind, after_need, after_choose, after_given, after_any}
use Rattle.claim_rounds.proofs.Later.{Later, later_is, later_then, later_set, local_touched}

pub record Still (st st' : AnalysisStack) : Type 0 where
  pub later : Later st.locals st'.locals
  pub same_rounds : st'.sink.rounds ≡ st.sink.rounds

-- only what was written differs
pub record Writes (st st' : AnalysisStack) : Type 0 where
  pub same_locals : st'.locals ≡ st.locals
  pub same_references : st'.references ≡ st.references
  pub same_frames : st'.frames ≡ st.frames
  pub same_rounds : st'.sink.rounds ≡ st.sink.rounds

pub writes_then : {st st' st'' : AnalysisStack} → Writes st st' → Writes st' st'' → Writes st st''
writes_then h k = record {
  same_locals = k.same_locals ∙ h.same_locals;
  same_references = k.same_references ∙ h.same_references;
  same_frames = k.same_frames ∙ h.same_frames;
  same_rounds = k.same_rounds ∙ h.same_rounds;
}

none_written : (st : AnalysisStack) → Writes st st
none_written st = record { same_locals = refl; same_references = refl; same_frames = refl; same_rounds = refl }

pub still_same : (st st' : AnalysisStack) → st'.locals ≡ st.locals → st'.sink.rounds ≡ st.sink.rounds → Still st st'
still_same st st' e r = record { later = later_is st.locals st'.locals e; same_rounds = r }

pub still_written : {st st' : AnalysisStack} → Writes st st' → Still st st'
still_written {st = st} {st' = st'} h = still_same st st' h.same_locals h.same_rounds

pub still_then : {st st' st'' : AnalysisStack} → Still st st' → Still st' st'' → Still st st''
still_then h k = record { later = later_then h.later k.later; same_rounds = k.same_rounds ∙ h.same_rounds }

pub after_still : {st st' : AnalysisStack} {o : Outcome AnalysisStack} → Still st st' → After (Still st') o → After (Still st) o
after_still h k = after_weaken k λ _ last. still_then h last

module _ (L : Limits) where
  -- Writing

  pub emit_writes : (p : ℕ) (m : Mark) (ns : List ℕ) (st : AnalysisStack) → After (Writes st) (emit L p m ns st)
  unfolding emit with_out with_sink
  emit_writes p m ns st = after_need _ 9 p _ λ _. fine (record { same_locals = refl; same_references = refl; same_frames = refl; same_rounds = refl })

  pub report_writes : (p : ℕ) (level : Level) (code : ℕ) (name : Name) (span : Span) (st : AnalysisStack) → After (Writes st) (report L p level code name span st)
  unfolding report with_sink
  report_writes p level code name span st = after_need _ 10 p _ λ _. fine (record { same_locals = refl; same_references = refl; same_frames = refl; same_rounds = refl })

  pub still_emit : (p : ℕ) (m : Mark) (ns : List ℕ) (st : AnalysisStack) → After (Still st) (emit L p m ns st)
  still_emit p m ns st = after_weaken (emit_writes p m ns st) λ _ h. still_written h

  pub still_report : (p : ℕ) (level : Level) (code : ℕ) (name : Name) (span : Span) (st : AnalysisStack) → After (Still st) (report L p level code name span st)
  still_report p level code name span st = after_weaken (report_writes p level code name span st) λ _ h. still_written h

  still_bad_place : (p code : ℕ) (name : Name) (span : Span) (bad : ℕ) (st : AnalysisStack) → After (Still st) (bad_place L p code name span bad st)
  unfolding bad_place
  still_bad_place p code name span bad st = after_bind _ (still_report p _ code name span st) λ st₁ h. after_still h (still_emit p BL (bad ∷ []) st₁)

  -- Frames

  pub still_open : (p : ℕ) (is_defining : Bool) (st : AnalysisStack) → After (Still st) (open_frame L p is_defining st)
  unfolding open_frame with_frames
  still_open p is_defining st = after_need _ 7 p _ λ _. fine (still_same st _ refl refl)

  pub still_close : (p : ℕ) (st : AnalysisStack) → After (Still st) (close_frame L p st)
  unfolding close_frame with_frames
  still_close p st = after_bind _ (still_emit p SH _ st) λ st₁ h. fine (still_then h (still_same st₁ _ refl refl))

  -- Using

  still_slot : (p id : ℕ) (st : AnalysisStack) → After (Still st) (emit_slot L p id st)
  unfolding emit_slot with_frames
  still_slot p id st = after_bind _ (after_any _) λ r _. after_still (still_same st (with_frames r.frames st) refl refl) (still_emit p _ _ _)

  pub still_identity : (p which : ℕ) (span : Span) (h : Place) (st : AnalysisStack) → After (Still st) (use_identity L p which span h st)
  unfolding use_identity touch_object with_taint with_object_use
  still_identity p which span h st = after_given _ _ _
      (λ _. still_bad_place p (3 + which) 0 span which st)
      (λ id _.
      let touched = still_same st (touch_object id (with_object_use _ st)) refl refl in
      after_choose _ _ _ (λ _. after_still touched (still_emit p _ [] _)) (λ _. after_still touched (still_slot p id _)))

  pub still_name : (p : ℕ) (name : Name) (span : Span) (h : Place) (st : AnalysisStack) → After (Still st) (use_local L p name span h st)
  unfolding use_local touch_local with_taint with_locals
  still_name p name span h st = after_given _ _ _ (λ _. still_bad_place p 1 name span 3 st) (λ id _. after_still (touched id) (still_slot p id _))
    where
      touched : (id : ℕ) → Still st (touch_local h.depth id st)
      touched id = record { later = later_set st.locals id _ (local_touched h.depth _); same_rounds = refl }

  pub still_import : (p which : ℕ) (span : Span) (is_literal : Bool) (path : ℕ) (st : AnalysisStack) → After (Still st) (use_import L p which span is_literal path st)
  unfolding use_import
  still_import p which span is_literal path st = after_choose _ _ _ (λ _. still_emit p _ _ st) (λ _. still_bad_place p 6 0 span 4 st)

  -- The end of a frame's names

  judge_writes : (p : ℕ) (name : Name) (l : LocalDefinition) (st : AnalysisStack) → After (Writes st) (judge L p name l st)
  unfolding judge
  judge_writes p name l st = after_choose _ _ _
      (λ _. after_choose _ _ _ (λ _. report_writes p _ 8 name _ st) (λ _. report_writes p _ 7 name _ st))
      (λ _. after_choose _ _ _ (λ _. report_writes p _ 9 name _ st) (λ _. fine (none_written st)))

  pub judging_writes : (p : ℕ) (ls : List LocalDefinition) (st : AnalysisStack) → After (Writes st) (judge_all L p ls st)
  unfolding judge_all
  judging_writes p [] st = fine (none_written st)
  judging_writes p (l ∷ ls) st = after_bind _ (after_given l.name _ _ (λ _. fine (none_written st)) (λ name _. judge_writes p name l st)) λ st₁ h.
      after_weaken (judging_writes p ls st₁) λ _ k. writes_then h k

  pub still_function : (p : ℕ) (span : Span) (start kept : ℕ) (naming : Naming) (gives_argument : Bool) (st : AnalysisStack)
      → After (Still st) (finish_function L p span start kept naming gives_argument st)
  unfolding finish_function taken_back with_out with_sink
  still_function p span start kept naming gives_argument st = after_choose _ _ _
      (λ _. after_bind _ (still_report p _ 10 0 _ st) λ st₁ h. after_still (still_then h (still_same st₁ (taken_back start st₁) refl refl)) (still_emit p IY [] _))
      (λ _. still_emit p FN _ st)
