-- What each step of the analysis reports, and that it keeps the names in force. Assumes nothing.
use Prim.Native.Nat.{ℕ, zero, suc, ◌+◌}
use mathlib.Core.Bool.{Bool, ◌||◌}
use mathlib.Core.List.{List, [], ◌∷◌, ◌++◌, map, append-nil}
use mathlib.Core.Path.{◌≡◌, refl, sym, ap, ◌∙◌}
use lib.ListN.{length, take, drop, set, length-map, take-append-drop}
use lib.Seq.{map-set_same, take_at}
use Rattle.rules.specs.Numbers.{Name, Mark, BL, IY, FN, SH}
use Rattle.rules.specs.Records.{Span}
use Rattle.rules.specs.Depths.{AnalysisResult}
use Rattle.rules.specs.Locals.{LocalDefinition, local_at, no_local, use_at, note_reference, with_used_at_depth, with_used_by_sibling, with_scratch_referenced, with_analysis, without_notes, passed_on}
use Rattle.rules.specs.Frames.{ClosureFrame, Resolved, new_frame, top, beneath, with_capture, resolve_at, resolve_to_slot}
use Rattle.rules.specs.Settling.{Reference, Round, Loop, propagate_analysis, propagate_use, one_round, Settled, settle, settled}
use Rattle.rules.specs.State.{Limits, ObjectUse, AnalysisStack, with_locals, with_frames, with_references, with_object_use, with_taint, with_sink, with_out, with_rounds, taken_back}
use Rattle.rules.specs.Writing.{Level, error, warning, is_error, emit, report, bad_place, open_frame, close_frame}
use Rattle.rules.specs.Scoping.{first_in_frame, frame_locals, touch_local, touch_object, set_analysis, taint_outer, drop_spec, settle_frame, emit_slot, keep_references, record_spec_init, judge, judge_all, finish_frame}
use Rattle.rules.specs.Walk.{Naming, finish_function}
use Rattle.rules.proofs.After.{After, fine, after_bind, after_need, after_choose, after_given, chosen}
use Rattle.claim_scope.specs.StaticCheck.{Found, diagnostic_bytes, diagnostics_bytes, if_error, errors_among, any_found}
use Rattle.claim_scope.proofs.Finding.{Key, key, keys}
use Rattle.claim_scope.proofs.Telling.{firsts, firsts_beneath, told_none, Walked, quiet, walked_none, walked_then, after_on, Inside, inside_on}

-- Lists

pub map_append : {A B : Type 0} (f : A → B) (xs ys : List A) → map f (xs ++ ys) ≡ map f xs ++ map f ys
map_append f [] ys = refl
map_append {B = B} f (x ∷ xs) ys = ap (λ (zs : List B). f x ∷ zs) (map_append f xs ys)

map_take : {A B : Type 0} (f : A → B) (n : ℕ) (xs : List A) → map f (take n xs) ≡ take n (map f xs)
map_take f zero xs = refl
map_take f (suc n) [] = refl
map_take {B = B} f (suc n) (x ∷ xs) = ap (λ (zs : List B). f x ∷ zs) (map_take f n xs)

-- Locals

key_used : (depth : ℕ) (l : LocalDefinition) → key (note_reference (use_at depth l)) ≡ key l
unfolding note_reference use_at key with_used_by_sibling with_used_at_depth with_scratch_referenced
key_used depth l = chosen (λ (x : LocalDefinition). key x ≡ key l) _ _ _ (λ _. used) (λ _. used)
  where
    used : key (use_at depth l) ≡ key l
    used = chosen (λ (x : LocalDefinition). key x ≡ key l) _ _ _ (λ _. refl) (λ _. refl)

keys_set : (ls : List LocalDefinition) (id : ℕ) (l : LocalDefinition) → key l ≡ key (local_at ls id) → map key (set ls id l) ≡ map key ls
unfolding local_at
keys_set ls id l e = map-set_same key ls id l no_local e

keys_without_notes : (ls : List LocalDefinition) → map key (without_notes ls) ≡ map key ls
unfolding without_notes with_scratch_referenced key
keys_without_notes [] = refl
keys_without_notes (l ∷ ls) = ap (λ (ks : List Key). key l ∷ ks) (keys_without_notes ls)

-- the same before a place, and after it the same names
keys_split : (n : ℕ) (ls ms : List LocalDefinition) → map key ms ≡ map key (drop n ls) → map key (take n ls ++ ms) ≡ map key ls
keys_split n ls ms e =
    map_append key (take n ls) ms ∙ ap (λ (ks : List Key). map key (take n ls) ++ ks) e ∙ sym (map_append key (take n ls) (drop n ls)) ∙ ap (map key) (take-append-drop n ls)

-- The same state but for one part

pub quiet_taint : (a : AnalysisResult) (st : AnalysisStack) → Walked [] st (with_taint a st)
unfolding with_taint keys firsts
quiet_taint a st = quiet st (with_taint a st) refl refl refl refl

pub quiet_object_use : (u : ObjectUse) (st : AnalysisStack) → Walked [] st (with_object_use u st)
unfolding with_object_use keys firsts
quiet_object_use u st = quiet st (with_object_use u st) refl refl refl refl

quiet_locals : (ls : List LocalDefinition) (st : AnalysisStack) → map key ls ≡ map key st.locals → Walked [] st (with_locals ls st)
unfolding with_locals keys firsts
quiet_locals ls st e = quiet st (with_locals ls st) e refl refl refl

quiet_references : (refs : List Reference) (st : AnalysisStack) → Walked [] st (with_references refs st)
unfolding with_references keys firsts
quiet_references refs st = quiet st (with_references refs st) refl refl refl refl

quiet_frames : (fs : List ClosureFrame) (st : AnalysisStack) → map (λ (f : ClosureFrame). f.first_local) fs ≡ map (λ (f : ClosureFrame). f.first_local) st.frames → Walked [] st (with_frames fs st)
unfolding with_frames keys firsts
quiet_frames fs st e = quiet st (with_frames fs st) refl e refl refl

quiet_back : (n : ℕ) (st : AnalysisStack) → Walked [] st (taken_back n st)
unfolding taken_back with_out with_sink keys firsts
quiet_back n st = quiet st (taken_back n st) refl refl refl refl

-- Uses

pub quiet_touch : (depth id : ℕ) (st : AnalysisStack) → Walked [] st (touch_local depth id st)
unfolding touch_local
quiet_touch depth id st = walked_then (quiet_locals _ st (keys_set st.locals id _ (key_used depth (local_at st.locals id)))) (quiet_taint _ _)

pub quiet_touch_object : (id : ℕ) (st : AnalysisStack) → Walked [] st (touch_object id st)
unfolding touch_object
quiet_touch_object id st = quiet_taint _ st

resolved_firsts : (most p above id : ℕ) (fs : List ClosureFrame)
    → After (λ (r : Resolved). map (λ (f : ClosureFrame). f.first_local) r.frames ≡ map (λ (f : ClosureFrame). f.first_local) fs) (resolve_at most p above id fs)
unfolding resolve_at with_capture
resolved_firsts most p above id [] = fine refl
resolved_firsts most p above id (f ∷ fs) = after_choose _ _ _
    (λ _. fine refl)
    (λ _. after_given _ _ _
    (λ _. after_bind _ (resolved_firsts most p (above + length f.captures) id fs) λ parent same.
    after_need _ 12 p _ λ _. after_need _ 8 p _ λ _. fine (ap (λ (ns : List ℕ). f.first_local ∷ ns) same))
    (λ k _. fine refl))

-- Settling

abbrev pub KeepsKeys : Loop → Type 0
KeepsKeys loop = (r : Round) (ref : Reference) → map key (loop r ref).locals ≡ map key r.locals

pub analysis_keeps : KeepsKeys propagate_analysis
unfolding propagate_analysis with_analysis key
analysis_keeps r ref = keys_set r.locals ref.user _ refl

pub use_keeps : KeepsKeys propagate_use
unfolding propagate_use with_used_at_depth key
use_keeps r ref = chosen (λ (x : Round). map key x.locals ≡ map key r.locals) _ _ _ (λ _. keys_set r.locals ref.used _ refl) (λ _. refl)

module _ (loop : Loop) (keeps : KeepsKeys loop) where
  round_keeps : (refs : List Reference) (r : Round) → map key (one_round loop refs r).locals ≡ map key r.locals
  unfolding one_round
  round_keeps [] r = refl
  round_keeps (ref ∷ refs) r = round_keeps refs (loop r ref) ∙ keeps r ref

  settle_keeps : (most : ℕ) (refs : List Reference) (ls : List LocalDefinition) → map key (settle most loop refs ls).locals ≡ map key ls
  unfolding settle
  settle_keeps zero refs ls = refl
  settle_keeps (suc most) refs ls = chosen (λ (x : Settled). map key x.locals ≡ map key ls) _ _ _
      (λ _. settle_keeps most refs _ ∙ round_keeps refs _)
      (λ _. round_keeps refs _)

  pub quiet_settle : (kept before : ℕ) (st : AnalysisStack) → Walked [] st (settle_frame loop kept before st)
  unfolding settle_frame with_rounds with_locals with_sink settled keys firsts
  quiet_settle kept before st = quiet st (settle_frame loop kept before st) (settle_keeps (suc kept) (drop before st.references) st.locals) refl refl refl

module _ (L : Limits) where
  -- Writing

  pub quiet_emit : (p : ℕ) (m : Mark) (ns : List ℕ) (st : AnalysisStack) → After (Walked [] st) (emit L p m ns st)
  unfolding emit with_out with_sink keys firsts
  quiet_emit p m ns st = after_need _ 9 p _ λ _. fine (quiet st _ refl refl refl refl)

  pub reported : (p : ℕ) (level : Level) (code : ℕ) (name : Name) (span : Span) (st : AnalysisStack)
      → After (Walked (if_error level (record { code = code; name = name; span = span }) []) st) (report L p level code name span st)
  unfolding report with_sink keys firsts diagnostics_bytes diagnostic_bytes errors_among any_found if_error is_error
  reported p level code name span st = after_need _ 10 p _ λ _. fine (record {
    same = refl;
    frames = refl;
    told = record {
      more = record { level = level; found = record { code = code; name = name; span = span } } ∷ [];
      bytes = ap (λ (bs : List ℕ). st.sink.diagnostics ++ bs) (sym (append-nil _));
      among = refl;
      flag = by level;
    };
  })
    where
      by : (l : Level) → (st.sink.errored || is_error l) ≡ (st.sink.errored || any_found (if_error l (record { code = code; name = name; span = span }) []))
      by error = refl
      by warning = refl

  pub warned : (p code : ℕ) (name : Name) (span : Span) (st : AnalysisStack) → After (Walked [] st) (report L p warning code name span st)
  unfolding if_error
  warned p code name span st = reported p warning code name span st

  pub told_bad_place : (p code : ℕ) (name : Name) (span : Span) (bad : ℕ) (st : AnalysisStack)
      → After (Walked (record { code = code; name = name; span = span } ∷ []) st) (bad_place L p code name span bad st)
  unfolding bad_place if_error
  told_bad_place p code name span bad st = after_bind _ (reported p error code name span st) λ st₁ h. after_on h (quiet_emit p BL (bad ∷ []) st₁)

  -- Frames

  pub opens : (p : ℕ) (is_defining : Bool) (st : AnalysisStack) → After (Inside [] [] st) (open_frame L p is_defining st)
  unfolding open_frame with_frames keys firsts firsts_beneath beneath first_in_frame top new_frame
  opens p is_defining st = after_need _ 7 p _ λ _. fine (record { names = sym (append-nil (map key st.locals)); first = refl; frames = refl; told = told_none _ _ refl refl })

  pub closes : {fs : List Found} (p : ℕ) (st st' : AnalysisStack) → Inside fs [] st st' → After (Walked fs st) (close_frame L p st')
  unfolding close_frame with_frames firsts firsts_beneath keys
  closes p st st' h = after_bind _ (quiet_emit p SH _ st') λ st'' k.
      let both = inside_on h k in
      fine (record { same = both.names ∙ append-nil (map key st.locals); frames = both.frames; told = both.told })

  pub quiet_slot : (p id : ℕ) (st : AnalysisStack) → After (Walked [] st) (emit_slot L p id st)
  unfolding emit_slot resolve_to_slot
  quiet_slot p id st = after_bind _ (resolved_firsts L.captures p 0 id st.frames) λ r same. after_on (quiet_frames r.frames st same) (quiet_emit p _ _ _)

  -- Specs

  quiet_keep : (p id : ℕ) (st : AnalysisStack) → After (Walked [] st) (keep_references L p id st)
  unfolding keep_references frame_locals
  quiet_keep p id st = after_need _ 17 p _ λ _.
      fine (walked_then (quiet_locals _ st (keys_split (first_in_frame st) st.locals _ (keys_without_notes (drop (first_in_frame st) st.locals)))) (quiet_references _ _))

  quiet_analysis : (id : ℕ) (st : AnalysisStack) → Walked [] st (set_analysis id st)
  unfolding set_analysis with_analysis key
  quiet_analysis id st = quiet_locals _ st (keys_set st.locals id _ refl)

  quiet_drop : (start : ℕ) (st : AnalysisStack) → Walked [] st (drop_spec start st)
  unfolding drop_spec frame_locals passed_on
  quiet_drop start st = walked_then (quiet_locals _ st (keys_split (first_in_frame st) st.locals _ refl)) (quiet_back start _)

  pub quiet_spec : (p base kept start : ℕ) (outer : AnalysisResult) (m : Mark) (numbers : ℕ → List ℕ) (st : AnalysisStack)
      → After (λ (r : ℕ × AnalysisStack). Walked [] st r.1) (record_spec_init L p base kept start outer m numbers st)
  unfolding record_spec_init taint_outer
  quiet_spec p base kept start outer m numbers st = after_choose _ _ _
      (λ _. after_bind _ (quiet_keep p _ st) λ st₁ h. after_bind _ (quiet_emit p m _ _) λ st₂ k.
      fine (walked_then h (walked_then (quiet_analysis _ st₁) (walked_then (quiet_taint _ _) k))))
      (λ _. fine (walked_then (quiet_taint _ st) (quiet_drop start _)))

  -- The end of a frame

  quiet_judge : (p : ℕ) (name : Name) (l : LocalDefinition) (st : AnalysisStack) → After (Walked [] st) (judge L p name l st)
  unfolding judge
  quiet_judge p name l st = after_choose _ _ _
      (λ _. after_choose _ _ _ (λ _. warned p 8 name _ st) (λ _. warned p 7 name _ st))
      (λ _. after_choose _ _ _ (λ _. warned p 9 name _ st) (λ _. fine (walked_none st)))

  quiet_judge_all : (p : ℕ) (ls : List LocalDefinition) (st : AnalysisStack) → After (Walked [] st) (judge_all L p ls st)
  unfolding judge_all
  quiet_judge_all p [] st = fine (walked_none st)
  quiet_judge_all p (l ∷ ls) st =
      after_bind _ (after_given l.name _ _ (λ _. fine (walked_none st)) (λ name _. quiet_judge p name l st)) λ st₁ h.
      after_on h (quiet_judge_all p ls st₁)

  -- the frame's own names are gone
  own_gone : {fs : List Found} {own : List Key} (refs : List Reference) (st st' : AnalysisStack) → Inside fs own st st'
      → Inside fs [] st (with_references refs (with_locals (take (first_in_frame st') st'.locals) st'))
  unfolding with_references with_locals keys firsts_beneath first_in_frame
  own_gone {own = own} refs st st' h = record {
    names = map_take key (first_in_frame st') st'.locals ∙ ap (take (first_in_frame st')) h.names
        ∙ take_at (map key st.locals) own (first_in_frame st') (length-map st.locals key ∙ sym h.first) ∙ sym (append-nil (map key st.locals));
    first = h.first;
    frames = h.frames;
    told = h.told;
  }

  pub finishes : {fs : List Found} {own : List Key} (p kept before : ℕ) (st st' : AnalysisStack) → Inside fs own st st' → After (Walked fs st) (finish_frame L p kept before st')
  unfolding finish_frame
  finishes p kept before st st' h =
      let settled = inside_on h (quiet_settle propagate_use use_keeps kept before st') in
      after_bind _ (quiet_judge_all p _ _) λ st₁ k. closes p st _ (own_gone _ st st₁ (inside_on settled k))

  pub quiet_function : (p : ℕ) (span : Span) (start kept : ℕ) (naming : Naming) (gives_argument : Bool) (st : AnalysisStack)
      → After (Walked [] st) (finish_function L p span start kept naming gives_argument st)
  unfolding finish_function
  quiet_function p span start kept naming gives_argument st = after_choose _ _ _
      (λ _. after_bind _ (warned p 10 0 _ st) λ st₁ k. after_on (walked_then k (quiet_back start st₁)) (quiet_emit p IY [] _))
      (λ _. quiet_emit p FN _ st)
