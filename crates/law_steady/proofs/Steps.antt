-- What each step of the analysis leaves as it was. Assumes nothing.
use Prim.Native.Nat.{ℕ, zero, suc, ◌+◌, ◌≤◌, ◌<◌}
use native.Mathlib.Omega.{arith}
use native.Mathlib.Decide.{dec_lt}
use mathlib.Core.Bool.{Bool, true, false, false≢true}
use mathlib.Core.List.{List, [], ◌∷◌, ◌++◌, map}
use mathlib.Core.Path.{◌≡◌, refl, sym, ap, ◌∙◌}
use lib.ListN.{length, take, drop, length-append, length-set, length-take, length-drop, length-map, get_or-eq_default}
use lib.Seq.{length-take-le}
use Rattle.rules.specs.Numbers.{Name, Mark, IY, SH, FN, BL, record_bytes}
use Rattle.rules.specs.Records.{Span}
use Rattle.rules.specs.Depths.{AnalysisResult}
use Rattle.rules.specs.Locals.{LocalDefinition, local_at, no_local, new_local, noted, without_notes, passed_on}
use Rattle.rules.specs.Frames.{ClosureFrame, Resolved, new_frame, top, beneath, with_capture, with_one_more_local, resolve_at, resolve_to_slot}
use Rattle.rules.specs.Settling.{Reference, Round, Loop, propagate_analysis, propagate_use, one_round, Settled, settle, settled}
use Rattle.rules.specs.State.{Limits, ObjectUse, AnalysisStack, with_locals, with_frames, with_references, with_object_use, with_taint, with_sink, with_out, with_rounds, written, taken_back}
use Rattle.rules.specs.Writing.{Level, emit, report, bad_place, open_frame, close_frame}
use Rattle.rules.specs.Scoping.{first_in_frame, frame_locals, is_at, is_kept, touch_local, touch_object, set_analysis, taint_outer, drop_spec, settle_frame, push_local, push_in_frame, define_local, define_this, emit_slot, keep_references, record_spec_init, judge, judge_all, finish_frame}
use Rattle.rules.specs.Walk.{Place, Naming, use_identity, use_local, use_import, finish_function, define_binds, define_params}
use Rattle.rules.specs.Tree.{Binds, Params, no_binds, bind, no_params, param, param_or}
use Rattle.settling.specs.Meaning.{Below}
use Rattle.rules.proofs.After.{After, fine, after_weaken, after_bind, after_need, after_choose, after_given, chosen}
use Rattle.rules.proofs.Rounds.{rounds_at_most}
use Rattle.law_steady.specs.Steady.{frame_head, frame_heads, first_locals, heads_beneath, Sound, Steady, SteadySpecs, Defined}
use Rattle.law_steady.proofs.Keeping.{begins_same, begins_back, below_both, sound_same, steady_none, steady_then, steady_more, after_steady, Opened, opened_then, Within, within_then, specs_then, specs_steady, specs_kept, defined_none, defined_then}

-- The same state but for one part

pub steady_taint : (a : AnalysisResult) (st : AnalysisStack) → Steady 0 st (with_taint a st)
unfolding with_taint frame_heads
steady_taint a st = record { same_count = refl; same_references = refl; same_frames = refl; few_rounds = omega arith; longer = omega arith }

pub steady_object_use : (u : ObjectUse) (st : AnalysisStack) → Steady 0 st (with_object_use u st)
unfolding with_object_use frame_heads
steady_object_use u st = record { same_count = refl; same_references = refl; same_frames = refl; few_rounds = omega arith; longer = omega arith }

pub steady_locals : (ls : List LocalDefinition) (st : AnalysisStack) → length ls ≡ length st.locals → Steady 0 st (with_locals ls st)
unfolding with_locals frame_heads
steady_locals ls st e = record { same_count = e; same_references = refl; same_frames = refl; few_rounds = omega arith; longer = omega arith }

steady_heads : (fs : List ClosureFrame) (st : AnalysisStack) → map frame_head fs ≡ map frame_head st.frames → Steady 0 st (with_frames fs st)
unfolding with_frames frame_heads
steady_heads fs st e = record { same_count = refl; same_references = refl; same_frames = e; few_rounds = omega arith; longer = omega arith }

-- Uses

pub steady_touch : (depth id : ℕ) (st : AnalysisStack) → Steady 0 st (touch_local depth id st)
unfolding touch_local
steady_touch depth id st = steady_then (steady_locals _ st (length-set st.locals id _)) (steady_taint _ _) (omega arith)

pub steady_touch_object : (id : ℕ) (st : AnalysisStack) → Steady 0 st (touch_object id st)
unfolding touch_object
steady_touch_object id st = steady_taint _ st

-- resolving only adds captures
resolved_heads : (most p above id : ℕ) (fs : List ClosureFrame) → After (λ (r : Resolved). map frame_head r.frames ≡ map frame_head fs) (resolve_at most p above id fs)
unfolding resolve_at with_capture frame_head
resolved_heads most p above id [] = fine refl
resolved_heads most p above id (f ∷ fs) = after_choose _ _ _
    (λ _. fine refl)
    (λ _. after_given _ _ _
    (λ _. after_bind _ (resolved_heads most p (above + length f.captures) id fs) λ parent same.
    after_need _ 12 p _ λ _. after_need _ 8 p _ λ _. fine (ap (λ hs. frame_head f ∷ hs) same))
    (λ k _. fine refl))

-- Settling

-- a loop keeps how many locals there are
abbrev pub KeepsCount : Loop → Type 0
KeepsCount loop = (r : Round) (ref : Reference) → length (loop r ref).locals ≡ length r.locals

pub analysis_keeps : KeepsCount propagate_analysis
unfolding propagate_analysis
analysis_keeps r ref = length-set r.locals ref.user _

pub use_keeps : KeepsCount propagate_use
unfolding propagate_use
use_keeps r ref = chosen (λ (x : Round). length x.locals ≡ length r.locals) _ _ _ (λ _. length-set r.locals ref.used _) (λ _. refl)

module _ (loop : Loop) (keeps : KeepsCount loop) where
  round_keeps : (refs : List Reference) (r : Round) → length (one_round loop refs r).locals ≡ length r.locals
  unfolding one_round
  round_keeps [] r = refl
  round_keeps (ref ∷ refs) r = round_keeps refs (loop r ref) ∙ keeps r ref

  settle_keeps : (most : ℕ) (refs : List Reference) (ls : List LocalDefinition) → length (settle most loop refs ls).locals ≡ length ls
  unfolding settle
  settle_keeps zero refs ls = refl
  settle_keeps (suc most) refs ls = chosen (λ (x : Settled). length x.locals ≡ length ls) _ _ _
      (λ _. settle_keeps most refs _ ∙ round_keeps refs _)
      (λ _. round_keeps refs _)

  pub steady_settle : (kept before : ℕ) (st : AnalysisStack) → Steady (kept + 1) st (settle_frame loop kept before st)
  unfolding settle_frame with_rounds with_locals with_sink settled frame_heads
  steady_settle kept before st = record {
    same_count = settle_keeps (suc kept) (drop before st.references) st.locals;
    same_references = refl;
    same_frames = refl;
    few_rounds = omega (arith, rounds_at_most kept loop (drop before st.references) st.locals);
    longer = omega arith;
  }

-- Specs

-- references of one local to noted ones
below_noted : (user n k : ℕ) (ls : List LocalDefinition) → user < n → k + length ls ≤ n → Below n (map (λ used. record { user = user; used = used }) (noted k ls))
unfolding noted Below
below_noted user n k [] lt le = tt
below_noted user n k (l ∷ ls) lt le =
    chosen (λ (ids : List ℕ). Below n (map (λ used. record { user = user; used = used }) ids)) l.scratch_referenced _ _
    (λ _. (lt, omega arith, below_noted user n (suc k) ls lt (omega arith)))
    (λ _. below_noted user n (suc k) ls lt (omega arith))

-- outside the list there is no record's local
kept_inside : (p next : ℕ) (st : AnalysisStack) → is_kept p next st ≡ true → first_in_frame st + next < length st.locals
unfolding is_kept local_at is_at no_local new_local
kept_inside p next st e = by (dec_lt (first_in_frame st + next) (length st.locals))
  where
    outside : (ls : List LocalDefinition) (id : ℕ) → length ls ≤ id → is_at p (local_at ls id).stands_for ≡ false
    outside ls id le = ap (λ (l : LocalDefinition). is_at p l.stands_for) (get_or-eq_default ls no_local le)

    by : Dec (first_in_frame st + next < length st.locals) → first_in_frame st + next < length st.locals
    by (yes lt) = lt
    by (no ge) = absurd (false≢true (sym (outside st.locals (first_in_frame st + next) (omega arith)) ∙ e))

length_split : (i : ℕ) (ls : List LocalDefinition) (ms : List LocalDefinition) → length ms ≡ length (drop i ls) → length (take i ls ++ ms) ≡ length ls
length_split i ls ms e = omega (arith, length-append (take i ls) ms, length-take i ls, length-drop i ls)

module _ (L : Limits) where
  -- Writing

  pub steady_emit : (p : ℕ) (m : Mark) (ns : List ℕ) (st : AnalysisStack) → After (Steady 0 st) (emit L p m ns st)
  unfolding emit with_out with_sink frame_heads
  steady_emit p m ns st = after_need _ 9 p _ λ _. fine (record {
    same_count = refl;
    same_references = refl;
    same_frames = refl;
    few_rounds = omega arith;
    longer = omega (arith, length-append st.sink.out (record_bytes m ns));
  })

  pub steady_report : (p : ℕ) (level : Level) (code : ℕ) (name : Name) (span : Span) (st : AnalysisStack) → After (Steady 0 st) (report L p level code name span st)
  unfolding report with_sink frame_heads
  steady_report p level code name span st = after_need _ 10 p _ λ _. fine (record {
    same_count = refl;
    same_references = refl;
    same_frames = refl;
    few_rounds = omega arith;
    longer = omega arith;
  })

  pub steady_bad_place : (p code : ℕ) (name : Name) (span : Span) (bad : ℕ) (st : AnalysisStack) → After (Steady 0 st) (bad_place L p code name span bad st)
  unfolding bad_place
  steady_bad_place p code name span bad st = after_bind _ (steady_report p _ code name span st) λ st₁ h. after_steady h (steady_emit p BL (bad ∷ []) st₁) (omega arith)

  -- Frames

  pub using_opens : (p : ℕ) (st : AnalysisStack) → After (Opened 0 st) (open_frame L p false st)
  unfolding open_frame with_frames heads_beneath frame_heads beneath
  using_opens p st = after_need _ 7 p _ λ _. fine (record {
    same_count = refl;
    same_references = refl;
    same_beneath = refl;
    few_rounds = omega arith;
    longer = omega arith;
  })

  pub defining_opens : (p : ℕ) (st : AnalysisStack) → After (Within 0 st) (open_frame L p true st)
  unfolding open_frame with_frames heads_beneath frame_heads beneath first_in_frame top new_frame
  defining_opens p st = after_need _ 7 p _ λ _. fine (record {
    more_locals = omega arith;
    first = refl;
    more_references = begins_same st.references st.references refl;
    same_beneath = refl;
    few_rounds = omega arith;
    longer = omega arith;
  })

  pub frame_closes : {most : ℕ} (p : ℕ) (st st' : AnalysisStack) → Opened most st st' → After (Steady most st) (close_frame L p st')
  unfolding close_frame with_frames frame_heads heads_beneath
  frame_closes p st st' h = after_bind _ (steady_emit p SH _ st') λ st'' k.
      let both = opened_then h k in
      fine (record {
        same_count = both.same_count;
        same_references = both.same_references;
        same_frames = both.same_beneath;
        few_rounds = omega (arith, both.few_rounds);
        longer = both.longer;
      })

  -- Using

  pub steady_slot : (p id : ℕ) (st : AnalysisStack) → After (Steady 0 st) (emit_slot L p id st)
  unfolding emit_slot resolve_to_slot
  steady_slot p id st = after_bind _ (resolved_heads L.captures p 0 id st.frames) λ r same.
      after_steady (steady_heads r.frames st same) (steady_emit p _ _ _) (omega arith)

  pub steady_identity : (p which : ℕ) (span : Span) (h : Place) (st : AnalysisStack) → After (Steady 0 st) (use_identity L p which span h st)
  unfolding use_identity
  steady_identity p which span h st = after_given _ _ _
      (λ _. steady_bad_place p (3 + which) 0 span which st)
      (λ id _.
      let touched = steady_then {c = 0} (steady_object_use _ st) (steady_touch_object id _) (omega arith) in
      after_choose _ _ _ (λ _. after_steady {b = 0} {c = 0} touched (steady_emit p _ [] _) (omega arith)) (λ _. after_steady touched (steady_slot p id _) (omega arith)))

  pub steady_name : (p : ℕ) (name : Name) (span : Span) (h : Place) (st : AnalysisStack) → After (Steady 0 st) (use_local L p name span h st)
  unfolding use_local
  steady_name p name span h st = after_given _ _ _
      (λ _. steady_bad_place p 1 name span 3 st)
      (λ id _. after_steady (steady_touch h.depth id st) (steady_slot p id _) (omega arith))

  pub steady_import : (p which : ℕ) (span : Span) (is_literal : Bool) (path : ℕ) (st : AnalysisStack) → After (Steady 0 st) (use_import L p which span is_literal path st)
  unfolding use_import
  steady_import p which span is_literal path st = after_choose _ _ _ (λ _. steady_emit p _ _ st) (λ _. steady_bad_place p 6 0 span 4 st)

  -- Defining

  record Pushed (st st' : AnalysisStack) : Type 0 where
    count : length st'.locals ≡ length st.locals + 1
    references : st'.references ≡ st.references
    frames : st'.frames ≡ st.frames
    sink : st'.sink ≡ st.sink

  pushed : (p : ℕ) (l : LocalDefinition) (st : AnalysisStack) → After (Pushed st) (push_local L p l st)
  unfolding push_local with_locals
  pushed p l st = after_need _ 6 p _ λ _. fine (record { count = length-append st.locals (l ∷ []); references = refl; frames = refl; sink = refl })

  pub defined_in_frame : (p : ℕ) (l : LocalDefinition) (st : AnalysisStack) → After (Defined st) (push_in_frame L p l st)
  unfolding push_in_frame with_frames first_locals heads_beneath first_in_frame top beneath with_one_more_local
  defined_in_frame p l st = after_bind _ (pushed p l st) λ st₁ h. fine (record {
    more_locals = omega (arith, h.count);
    same_references = h.references;
    same_rounds = ap (λ s. s.rounds) h.sink;
    same_out = ap (λ s. s.out) h.sink;
    same_frame_count = λ any. ap (λ fs. length (with_one_more_local (top fs) ∷ beneath fs)) h.frames ∙ one_on_top st.frames any;
    same_firsts = λ any. ap (λ fs. map first (with_one_more_local (top fs) ∷ beneath fs)) h.frames ∙ firsts_on_top st.frames any;
    same_first = ap (λ fs. (top (with_one_more_local (top fs) ∷ beneath fs)).first_local) h.frames ∙ first_on_top st.frames;
    same_beneath = ap (λ fs. map frame_head (beneath (with_one_more_local (top fs) ∷ beneath fs))) h.frames ∙ beneath_top st.frames;
    sound = sound_same st (with_frames (with_one_more_local (top st₁.frames) ∷ beneath st₁.frames) st₁) (omega (arith, h.count)) h.references;
  })
    where
      first : ClosureFrame → ℕ
      first f = f.first_local

      one_on_top : (fs : List ClosureFrame) → 0 < length fs → length (with_one_more_local (top fs) ∷ beneath fs) ≡ length fs
      one_on_top [] any = absurd (omega arith)
      one_on_top (f ∷ fs) any = refl

      firsts_on_top : (fs : List ClosureFrame) → 0 < length fs → map first (with_one_more_local (top fs) ∷ beneath fs) ≡ map first fs
      firsts_on_top [] any = absurd (omega arith)
      firsts_on_top (f ∷ fs) any = refl

      first_on_top : (fs : List ClosureFrame) → (top (with_one_more_local (top fs) ∷ beneath fs)).first_local ≡ (top fs).first_local
      first_on_top fs = refl

      beneath_top : (fs : List ClosureFrame) → map frame_head (beneath (with_one_more_local (top fs) ∷ beneath fs)) ≡ map frame_head (beneath fs)
      beneath_top fs = refl

  report_defines : (p : ℕ) (level : Level) (code : ℕ) (name : Name) (span : Span) (st : AnalysisStack) → After (Defined st) (report L p level code name span st)
  unfolding report with_sink
  report_defines p level code name span st = after_need _ 10 p _ λ _. fine (defined_none st _ refl refl refl refl refl)

  pub defined_local : (p : ℕ) (name : Name) (span : Span) (depth : ℕ) (st : AnalysisStack) → After (Defined st) (define_local L p name span depth st)
  unfolding define_local
  defined_local p name span depth st = after_choose _ _ _
      (λ _. report_defines p _ 2 name span st)
      (λ _. after_need _ 11 p _ λ _. defined_in_frame p _ st)

  pub defined_this : (p depth : ℕ) (st : AnalysisStack) → After (Defined st) (define_this L p depth st)
  unfolding define_this
  defined_this p depth st = defined_in_frame p _ st

  pub defined_binds : (bs : Binds) (depth : ℕ) (st : AnalysisStack) → After (Defined st) (define_binds L bs depth st)
  unfolding define_binds
  defined_binds no_binds depth st = fine (defined_none st st refl refl refl refl refl)
  defined_binds (bind place name span is_function value bs) depth st = after_bind _ (defined_local place name span depth st) λ st₁ h.
      after_weaken (defined_binds bs depth st₁) λ _ k. defined_then h k

  pub defined_params : (ps : Params) (depth : ℕ) (st : AnalysisStack) → After (Defined st) (define_params L ps depth st)
  unfolding define_params
  defined_params no_params depth st = fine (defined_none st st refl refl refl refl refl)
  defined_params (param place name span ps) depth st = after_bind _ (defined_local place name span depth st) λ st₁ h.
      after_weaken (defined_params ps depth st₁) λ _ k. defined_then h k
  defined_params (param_or place name span default ps) depth st = after_bind _ (defined_local place name span depth st) λ st₁ h.
      after_weaken (defined_params ps depth st₁) λ _ k. defined_then h k

  -- Specs

  kept_references : (p id kept : ℕ) (st : AnalysisStack) → id < length st.locals → first_in_frame st ≤ id
      → After (SteadySpecs 0 0 kept kept st) (keep_references L p id st)
  unfolding keep_references with_references with_locals frame_heads frame_locals without_notes Sound
  kept_references p id kept st inside le =
      let first = first_in_frame st in
      let mine = drop first st.locals in
      let more : List Reference = map (λ used. record { user = id; used = used }) (noted first mine) in
      let same : length (take first st.locals ++ map _ mine) ≡ length st.locals = length_split first st.locals _ (length-map mine _) in
      after_need _ 17 p _ λ _. fine (record {
        same_count = same;
        more_references = record { more = more; is = refl };
        same_frames = refl;
        few_rounds = omega arith;
        few_kept = omega arith;
        longer = omega arith;
        sound = λ s. rw same (below_both (length st.locals) st.references more s (below_noted id (length st.locals) first mine inside (omega (arith, length-drop first st.locals))));
      })

  steady_set_analysis : (id : ℕ) (st : AnalysisStack) → Steady 0 st (set_analysis id st)
  unfolding set_analysis
  steady_set_analysis id st = steady_locals _ st (length-set st.locals id _)

  steady_taint_outer : (outer : AnalysisResult) (st : AnalysisStack) → Steady 0 st (taint_outer outer st)
  unfolding taint_outer
  steady_taint_outer outer st = steady_taint _ st

  -- a dropped spec's output is gone, but none that was there before it
  steady_drop : {most : ℕ} (st st' : AnalysisStack) → Steady most st st' → Steady most st (drop_spec (written st) st')
  unfolding drop_spec taken_back with_out with_sink with_locals passed_on frame_locals written frame_heads
  steady_drop st st' h = record {
    same_count = length_split (first_in_frame st') st'.locals (drop (first_in_frame st') st'.locals) refl ∙ h.same_count;
    same_references = h.same_references;
    same_frames = h.same_frames;
    few_rounds = h.few_rounds;
    longer = omega (arith, length-take-le (length st.sink.out) st'.sink.out h.longer);
  }

  -- the end of a spec whose value began at `st`
  pub spec_recorded : {most : ℕ} (p base kept : ℕ) (outer : AnalysisResult) (m : Mark) (numbers : ℕ → List ℕ) (st st' : AnalysisStack) → Steady most st st'
      → After (λ (r : ℕ × AnalysisStack). SteadySpecs most 1 kept r.0 st r.1) (record_spec_init L p base kept (written st) outer m numbers st')
  unfolding record_spec_init
  spec_recorded p base kept outer m numbers st st' h = after_choose _ _ _
      (λ e.
      let id = first_in_frame st' + (base + kept) in
      after_bind _ (kept_references p id kept st' (kept_inside p (base + kept) st' e) (omega arith)) λ st₁ k.
      after_bind _ (steady_emit p m (numbers (base + kept)) (taint_outer outer (set_analysis id st₁))) λ st₂ last.
      let ended : Steady 0 st₁ st₂ = steady_then {c = 0} (steady_then {c = 0} (steady_set_analysis id st₁) (steady_taint_outer outer _) (omega arith)) last (omega arith) in
      fine (specs_kept {m = 0} (specs_then (specs_steady kept h) (specs_then {c = 0} {o = 0} k (specs_steady kept ended) (omega arith) (omega arith)) (omega arith) (omega arith)) (omega arith)))
      (λ _. fine (specs_kept (specs_steady kept (steady_drop st (taint_outer outer st') (steady_then h (steady_taint_outer outer st') (omega arith)))) (omega arith)))

  -- The end of a frame's names

  steady_judge : (p : ℕ) (name : Name) (l : LocalDefinition) (st : AnalysisStack) → After (Steady 0 st) (judge L p name l st)
  unfolding judge
  steady_judge p name l st = after_choose _ _ _
      (λ _. after_choose _ _ _ (λ _. steady_report p _ 8 name _ st) (λ _. steady_report p _ 7 name _ st))
      (λ _. after_choose _ _ _ (λ _. steady_report p _ 9 name _ st) (λ _. fine (steady_none st)))

  steady_judge_all : (p : ℕ) (ls : List LocalDefinition) (st : AnalysisStack) → After (Steady 0 st) (judge_all L p ls st)
  unfolding judge_all
  steady_judge_all p [] st = fine (steady_none st)
  steady_judge_all p (l ∷ ls) st =
      after_bind _ (after_given l.name _ _ (λ _. fine (steady_none st)) (λ name _. steady_judge p name l st)) λ st₁ h.
      after_steady h (steady_judge_all p ls st₁) (omega arith)

  -- the frame's names and references are gone
  taken_away : {most : ℕ} (st st' : AnalysisStack) → Within most st st'
      → Opened most st (with_references (take (length st.references) st'.references) (with_locals (take (first_in_frame st') st'.locals) st'))
  unfolding with_references with_locals heads_beneath
  taken_away st st' h = record {
    same_count = length-take-le (first_in_frame st') st'.locals (omega (arith, h.first, h.more_locals)) ∙ h.first;
    same_references = begins_back h.more_references;
    same_beneath = h.same_beneath;
    few_rounds = h.few_rounds;
    longer = h.longer;
  }

  pub frame_finishes : {most : ℕ} (p kept : ℕ) (st st' : AnalysisStack) → Within most st st'
      → After (Steady (most + (kept + 1)) st) (finish_frame L p kept (length st.references) st')
  unfolding finish_frame
  frame_finishes p kept st st' h =
      let settled = within_then h (steady_settle propagate_use use_keeps kept (length st.references) st') in
      after_bind _ (steady_judge_all p _ _) λ st₁ k.
      after_weaken (frame_closes p st _ (taken_away st st₁ (within_then settled k))) λ _ done. steady_more done (omega arith)

  -- "is taken back, `FN` unwritten": not after where the function began
  steady_back : {most : ℕ} (st st' : AnalysisStack) → Steady most st st' → Steady most st (taken_back (written st) st')
  unfolding taken_back with_out with_sink written frame_heads
  steady_back st st' h = record {
    same_count = h.same_count;
    same_references = h.same_references;
    same_frames = h.same_frames;
    few_rounds = h.few_rounds;
    longer = omega (arith, length-take-le (length st.sink.out) st'.sink.out h.longer);
  }

  pub function_finishes : {most : ℕ} (p : ℕ) (span : Span) (kept : ℕ) (naming : Naming) (gives_argument : Bool) (st st' : AnalysisStack) → Steady most st st'
      → After (Steady most st) (finish_function L p span (written st) kept naming gives_argument st')
  unfolding finish_function
  function_finishes {most = most} p span kept naming gives_argument st st' h = after_choose _ _ _
      (λ _. after_bind _ (steady_report p _ 10 0 _ st') λ st₁ k. after_steady (steady_back {most = most} st st₁ (steady_then h k (omega arith))) (steady_emit p IY [] _) (omega arith))
      (λ _. after_steady h (steady_emit p FN _ st') (omega arith))
