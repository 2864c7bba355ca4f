-- The steps on a frame's names: defining, using, keeping a spec, settling, judging at the end. Assumes nothing.
use Rattle.std.specs.Prelude.{ℕ, suc, ◌+◌, ◌-◌, Bool, true, false, ◌&&◌, List, [], ◌∷◌, ◌++◌, map, reverse, length, set, take, drop, ltb, leb, eqb}
use Rattle.std.proofs.Math.Option.{none, some}
use Rattle.rules.specs.Outcome.{choose, given, Outcome, ok, ◌>>=◌, need}
use Rattle.rules.specs.Numbers.{Name, never, Mark}
use Rattle.rules.specs.Records.{Span, no_span}
use Rattle.rules.specs.Depths.{AnalysisResult, taint_by, depend_on_local, depend_on_object}
use Rattle.rules.specs.Tree.{Binding, at_record, external}
use Rattle.rules.specs.Locals.{LocalDefinition, new_local, local_at, newest, use_at, note_reference, noted, without_notes, passed_on, with_analysis}
use Rattle.rules.specs.Frames.{top, beneath, with_one_more_local, resolve_to_slot}
use Rattle.rules.specs.Settling.{Loop, settled, propagate_use}
use Rattle.rules.specs.State.{Limits, AnalysisStack, with_locals, with_frames, with_references, with_taint, with_rounds, taken_back}
use Rattle.rules.specs.Writing.{error, warning, emit, report, close_frame, slot_mark, slot_number}

-- the id of the first local of the frame on top
unfoldable pub first_in_frame : AnalysisStack → ℕ
first_in_frame st = (top st.frames).first_local

-- the frame's own locals
unfoldable pub frame_locals : AnalysisStack → List LocalDefinition
frame_locals st = drop (first_in_frame st) st.locals

-- "A name already defined in the same frame"
unfoldable pub is_taken : Name → AnalysisStack → Bool
is_taken name st =
    let first = first_in_frame st in
    given (newest name st.locals first (length st.locals - first)) (λ _. false) (λ id. true)

-- whether a local is that of the record at this place
unfoldable pub is_at : (place : ℕ) → Binding → Bool
is_at p (at_record place) = eqb p place
is_at p (external position) = false

-- What the steps do to the state where no limit can be met

-- what the use of a local does to it and to the present value
unfoldable pub touch_local : (depth id : ℕ) → AnalysisStack → AnalysisStack
touch_local depth id st =
    let l = local_at st.locals id in
    let taint = depend_on_local l.defined_at_depth st.taint in
    with_taint (choose l.analyzed (λ _. taint_by taint l.analysis) (λ _. taint))
    (with_locals (set st.locals id (note_reference (use_at depth l))) st)

-- what the use of an object's `this` does to the present value
unfoldable pub touch_object : (id : ℕ) → AnalysisStack → AnalysisStack
touch_object id st =
    let depth = (local_at st.locals id).defined_at_depth in
    with_taint (depend_on_object depth (depend_on_local depth st.taint)) st

-- The kept ones have the frame's slots in order, so the next to be kept has the slot `next`; the record at p was dropped where that isn't its own.
unfoldable pub is_kept : (place next : ℕ) → AnalysisStack → Bool
is_kept p next st = is_at p (local_at st.locals (first_in_frame st + next)).stands_for

-- the value's dependence is the local's from now on
unfoldable pub set_analysis : (id : ℕ) → AnalysisStack → AnalysisStack
set_analysis id st = with_locals (set st.locals id (with_analysis st.taint (local_at st.locals id))) st

-- every value taints what encloses it, a dropped one's too (decision 21); `outer` is what that depended on before the value
unfoldable pub taint_outer : AnalysisResult → AnalysisStack → AnalysisStack
taint_outer outer st = with_taint (taint_by outer st.taint) st

-- "A dropped bind's or parameter's output is taken back, its own record never written"; `start` is the output's length before it
unfoldable pub drop_spec : (start : ℕ) → AnalysisStack → AnalysisStack
drop_spec start st = taken_back start (with_locals (take (first_in_frame st) st.locals ++ passed_on (frame_locals st)) st)

-- a loop over the references kept since there were `before` of them
unfoldable pub settle_frame : Loop → (kept before : ℕ) → AnalysisStack → AnalysisStack
settle_frame loop kept before st =
    let r = settled kept loop (drop before st.references) st.locals in
    with_rounds (st.sink.rounds + r.rounds) (with_locals r.locals st)

-- "9 used but could be hoisted (local and object depth both above the definition depth, which isn't 0)"
unfoldable pub could_be_hoisted : LocalDefinition → Bool
could_be_hoisted l =
    let depth = l.defined_at_depth in
    ltb depth l.analysis.local_dependent_depth && ltb depth l.analysis.object_dependent_depth && ltb 0 depth

-- The steps, with their limits

module _ (limits : Limits) where
  -- Defining

  -- a local "beyond L" (6)
  unfoldable pub push_local : (place : ℕ) → LocalDefinition → AnalysisStack → Outcome AnalysisStack
  push_local p l st = do
    _ ← need (ltb (length st.locals) limits.locals) 6 p
    ok (with_locals (st.locals ++ (l ∷ [])) st)

  -- in the frame on top
  unfoldable pub push_in_frame : (place : ℕ) → LocalDefinition → AnalysisStack → Outcome AnalysisStack
  push_in_frame p l st = do
    st ← push_local p l st
    ok (with_frames (with_one_more_local (top st.frames) ∷ beneath st.frames) st)

  -- "Defining: error 2, then 11, then 6"
  unfoldable pub define_local : (place : ℕ) → Name → Span → (depth : ℕ) → AnalysisStack → Outcome AnalysisStack
  define_local p name span depth st = choose (is_taken name st)
      (λ _. report limits p error 2 name span st)
      (λ _. do
        _ ← need (ltb (top st.frames).n_locals 65535) 11 p
        push_in_frame p (new_local (at_record p) (some name) span depth false) st)

  -- "An object's `this` takes slot 0 and no name finds it"
  unfoldable pub define_this : (place depth : ℕ) → AnalysisStack → Outcome AnalysisStack
  define_this p depth st = push_in_frame p (new_local (at_record p) none no_span depth true) st

  -- Using

  -- the local is resolved in the frame on top, and its slot written
  unfoldable pub emit_slot : (place id : ℕ) → AnalysisStack → Outcome AnalysisStack
  emit_slot p id st = do
    r ← resolve_to_slot limits.captures p id st.frames
    emit limits p (slot_mark r.slot) (slot_number r.slot ∷ []) (with_frames r.frames st)

  -- Specs

  -- "A kept spec's references, each sibling once, count (17) after its value's `SH` if any, before its own record"
  unfoldable pub keep_references : (place id : ℕ) → AnalysisStack → Outcome AnalysisStack
  keep_references p id st = do
    let first = first_in_frame st
    let refs = st.references ++ map (λ used. record { user = id; used = used }) (noted first (frame_locals st))
    _ ← need (leb (length refs) limits.references) 17 p
    ok (with_references refs (with_locals (take first st.locals ++ without_notes (frame_locals st)) st))

  -- A spec's value is done: how many of its frame are kept now. The frame's slots before `base` are not for specs; `numbers` are its record's, from its slot
  unfoldable pub record_spec_init : (place base kept start : ℕ) → AnalysisResult → Mark → (ℕ → List ℕ) → AnalysisStack → Outcome (ℕ × AnalysisStack)
  record_spec_init p base kept start outer m numbers st =
      let slot = base + kept in
      choose (is_kept p slot st)
      (λ _. do
        let id = first_in_frame st + slot
        st ← keep_references p id st
        st ← emit limits p m (numbers slot) (taint_outer outer (set_analysis id st))
        ok (suc kept, st))
      (λ _. ok (kept, drop_spec start (taint_outer outer st)))

  -- The end of a frame's names

  -- "7 unused, 8 only used by unused siblings"
  unfoldable pub judge : (place : ℕ) → Name → LocalDefinition → AnalysisStack → Outcome AnalysisStack
  judge p name l st = choose (eqb l.used_at_depth never)
      (λ _. choose l.used_by_sibling (λ _. report limits p warning 8 name l.span st) (λ _. report limits p warning 7 name l.span st))
      (λ _. choose (could_be_hoisted l) (λ _. report limits p warning 9 name l.span st) (λ _. ok st))

  -- these, in order; "`this` never"
  unfoldable pub judge_all : (place : ℕ) → List LocalDefinition → AnalysisStack → Outcome AnalysisStack
  judge_all p [] st = ok st
  judge_all p (l ∷ ls) st = do
    st ← given l.name (λ _. ok st) (λ name. judge p name l st)
    judge_all p ls st

  -- "At a frame's end locals are judged last first"; its names and references are gone, "at a close warnings 7 to 9, `SH`"
  unfoldable pub finish_frame : (place kept before : ℕ) → AnalysisStack → Outcome AnalysisStack
  finish_frame p kept before st = do
    let st = settle_frame propagate_use kept before st
    st ← judge_all p (reverse (frame_locals st)) st
    close_frame limits p (with_references (take before st.references) (with_locals (take (first_in_frame st) st.locals) st))
