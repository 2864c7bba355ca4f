-- Settling, judging and keeping references change no local's key. Assumes nothing.
use Prim.Native.Nat.{ℕ, zero, suc}
use mathlib.Core.Bool.{or-false}
use mathlib.Core.List.{List, [], ◌∷◌, ◌++◌}
use mathlib.Core.Path.{◌≡◌, refl, ap, ◌∙◌}
use lib.ListN.{take, drop}
use Rattle.rules.specs.Numbers.{Name}
use Rattle.rules.specs.Records.{Span}
use Rattle.rules.specs.Locals.{LocalDefinition, with_analysis, with_used_at_depth, with_scratch_referenced, without_notes}
use Rattle.rules.specs.Settling.{Reference, Round, Loop, propagate_analysis, propagate_use, one_round, Settled, settle, settled}
use Rattle.rules.specs.State.{Limits, AnalysisStack, with_locals, with_rounds, with_sink, with_references}
use Rattle.rules.specs.Writing.{warning, is_error, report}
use Rattle.rules.specs.Scoping.{settle_frame, judge, judge_all, set_analysis, keep_references, first_in_frame, frame_locals}
use Rattle.rules.proofs.After.{After, fine, after_weaken, after_bind, after_need, after_choose, after_given, chosen}
use Rattle.claim_reach.proofs.Promise.{Key, key, keys}
use Rattle.claim_reach.proofs.Names.{keys_set}

abbrev pub KeepsKeys : Loop → Type 0
KeepsKeys loop = (r : Round) (ref : Reference) → keys (loop r ref).locals ≡ keys r.locals

pub analysis_keeps : KeepsKeys propagate_analysis
unfolding propagate_analysis with_analysis
analysis_keeps r ref = keys_set r.locals ref.user _ refl

pub use_keeps : KeepsKeys propagate_use
unfolding propagate_use with_used_at_depth
use_keeps r ref = chosen (λ (x : Round). keys x.locals ≡ keys r.locals) _ _ _ (λ _. keys_set r.locals ref.used _ refl) (λ _. refl)

-- what a step that only touches what a local depends on, and diagnostics, leaves as it was
pub record Same (a b : AnalysisStack) : Type 0 where
  pub same_keys : keys b.locals ≡ keys a.locals
  pub same_frames : b.frames ≡ a.frames
  pub same_out : b.sink.out ≡ a.sink.out
  pub same_errored : b.sink.errored ≡ a.sink.errored

pub same_none : (a : AnalysisStack) → Same a a
same_none a = record { same_keys = refl; same_frames = refl; same_out = refl; same_errored = refl }

pub same_then : {a b c : AnalysisStack} → Same a b → Same b c → Same a c
same_then h k = record {
  same_keys = k.same_keys ∙ h.same_keys;
  same_frames = k.same_frames ∙ h.same_frames;
  same_out = k.same_out ∙ h.same_out;
  same_errored = k.same_errored ∙ h.same_errored;
}

module _ (loop : Loop) (keeps : KeepsKeys loop) where
  round_keeps : (refs : List Reference) (r : Round) → keys (one_round loop refs r).locals ≡ keys r.locals
  unfolding one_round
  round_keeps [] r = refl
  round_keeps (ref ∷ refs) r = round_keeps refs (loop r ref) ∙ keeps r ref

  settle_keeps : (most : ℕ) (refs : List Reference) (ls : List LocalDefinition) → keys (settle most loop refs ls).locals ≡ keys ls
  unfolding settle
  settle_keeps zero refs ls = refl
  settle_keeps (suc most) refs ls = chosen (λ (x : Settled). keys x.locals ≡ keys ls) _ _ _
      (λ _. settle_keeps most refs _ ∙ round_keeps refs _)
      (λ _. round_keeps refs _)

  pub same_settle : (kept before : ℕ) (st : AnalysisStack) → Same st (settle_frame loop kept before st)
  unfolding settle_frame with_rounds with_locals with_sink settled
  same_settle kept before st = record { same_keys = settle_keeps (suc kept) (drop before st.references) st.locals; same_frames = refl; same_out = refl; same_errored = refl }

module _ (L : Limits) where
  pub same_warning : (p c : ℕ) (name : Name) (span : Span) (st : AnalysisStack) → After (Same st) (report L p warning c name span st)
  unfolding report with_sink is_error
  same_warning p c name span st = after_need _ 10 p _ λ _. fine (record { same_keys = refl; same_frames = refl; same_out = refl; same_errored = or-false st.sink.errored })

  same_judge : (p : ℕ) (name : Name) (l : LocalDefinition) (st : AnalysisStack) → After (Same st) (judge L p name l st)
  unfolding judge
  same_judge p name l st = after_choose _ _ _
      (λ _. after_choose _ _ _ (λ _. same_warning p 8 name l.span st) (λ _. same_warning p 7 name l.span st))
      (λ _. after_choose _ _ _ (λ _. same_warning p 9 name l.span st) (λ _. fine (same_none st)))

  pub same_judge_all : (p : ℕ) (ls : List LocalDefinition) (st : AnalysisStack) → After (Same st) (judge_all L p ls st)
  unfolding judge_all
  same_judge_all p [] st = fine (same_none st)
  same_judge_all p (l ∷ ls) st =
      after_bind _ (after_given _ _ _ (λ _. fine (same_none st)) (λ name _. same_judge p name l st)) λ st₁ h. after_weaken (same_judge_all p ls st₁) λ st₂ k. same_then h k

  keys_notes : (ls : List LocalDefinition) → keys (without_notes ls) ≡ keys ls
  unfolding without_notes with_scratch_referenced
  keys_notes [] = refl
  keys_notes (l ∷ ls) = ap (λ (ks : List Key). key l ∷ ks) (keys_notes ls)

  keys_split : (n : ℕ) (ls : List LocalDefinition) → keys (take n ls ++ without_notes (drop n ls)) ≡ keys ls
  keys_split zero ls = keys_notes ls
  keys_split (suc n) [] = keys_notes []
  keys_split (suc n) (l ∷ ls) = ap (λ (ks : List Key). key l ∷ ks) (keys_split n ls)

  pub same_references_kept : (p id : ℕ) (st : AnalysisStack) → After (Same st) (keep_references L p id st)
  unfolding keep_references with_references with_locals frame_locals
  same_references_kept p id st = after_need _ 17 p _ λ _. fine (record { same_keys = keys_split (first_in_frame st) st.locals; same_frames = refl; same_out = refl; same_errored = refl })

pub same_analysis : (id : ℕ) (st : AnalysisStack) → Same st (set_analysis id st)
unfolding set_analysis with_locals with_analysis
same_analysis id st = record { same_keys = keys_set st.locals id _ refl; same_frames = refl; same_out = refl; same_errored = refl }
