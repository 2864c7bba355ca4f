-- Output and diagnostics records, with their limits 9 and 10, and the shape of a frame that closes. Assumes nothing.
use Rattle.std.specs.Prelude.{ℕ, Bool, true, false, ◌||◌, List, [], ◌∷◌, ◌++◌, length, leb, ltb}
use Rattle.rules.specs.Outcome.{Outcome, ok, ◌>>=◌, need}
use Rattle.rules.specs.Numbers.{Name, record_bytes, Mark, LS, CS, BL, SH, DG}
use Rattle.rules.specs.Records.{Span, span_numbers}
use Rattle.rules.specs.Frames.{LSlot, local_slot, capture_slot, Capture, ClosureFrame, new_frame, top, beneath}
use Rattle.rules.specs.State.{Limits, AnalysisStack, with_frames, with_out, with_sink}

-- the two levels of a diagnostic
pub data Level : Type 0 where
  error warning : Level

-- "level (0 error, 1 warning)"
unfoldable pub level_number : Level → ℕ
level_number error = 0
level_number warning = 1

unfoldable pub is_error : Level → Bool
is_error error = true
is_error warning = false

-- "LS slot or CS capture"
unfoldable pub slot_mark : LSlot → Mark
slot_mark (local_slot n) = LS
slot_mark (capture_slot n) = CS

unfoldable pub slot_number : LSlot → ℕ
slot_number (local_slot n) = n
slot_number (capture_slot n) = n

-- "k pairs (0 local or 1 capture, number)"
unfoldable pub pair_of : LSlot → List ℕ
pair_of (local_slot n) = 0 ∷ n ∷ []
pair_of (capture_slot n) = 1 ∷ n ∷ []

unfoldable pub pairs_of : List Capture → List ℕ
pairs_of [] = []
pairs_of (c ∷ cs) = pair_of c.source ++ pairs_of cs

-- "`SH` n_locals k and k pairs"
unfoldable pub shape_numbers : ClosureFrame → List ℕ
shape_numbers f = f.n_locals ∷ length f.captures ∷ pairs_of f.captures

module _ (limits : Limits) where
  -- "an output .. record doesn't fit" (9)
  unfoldable pub emit : (place : ℕ) → Mark → List ℕ → AnalysisStack → Outcome AnalysisStack
  emit p m ns st = do
    let out = st.sink.out ++ record_bytes m ns
    _ ← need (leb (length out) limits.out) 9 p
    ok (with_out out st)

  -- "Diagnostic: `DG` level (0 error, 1 warning) code name span" (10)
  unfoldable pub report : (place : ℕ) → Level → (code : ℕ) → Name → Span → AnalysisStack → Outcome AnalysisStack
  report p level code name span st = do
    let ds = st.sink.diagnostics ++ record_bytes DG (level_number level ∷ code ∷ name ∷ span_numbers span)
    _ ← need (leb (length ds) limits.diagnostics) 10 p
    ok (with_sink (record { out = st.sink.out; diagnostics = ds; errored = st.sink.errored || is_error level; rounds = st.sink.rounds }) st)

  -- "In one record diagnostics come before output". "bad place: `BL` 0 self, 1 super, 2 $, 3 name, 4 import"
  unfoldable pub bad_place : (place code : ℕ) → Name → Span → (bad : ℕ) → AnalysisStack → Outcome AnalysisStack
  bad_place p code name span bad st = do
    st ← report p error code name span st
    emit p BL (bad ∷ []) st

  -- a frame beyond F (7)
  unfoldable pub open_frame : (place : ℕ) → (is_defining : Bool) → AnalysisStack → Outcome AnalysisStack
  open_frame p is_defining st = do
    _ ← need (ltb (length st.frames) limits.frames) 7 p
    ok (with_frames (new_frame is_defining (length st.locals) 0 ∷ st.frames) st)

  -- "When a frame closes, `SH` .. is appended"
  unfoldable pub close_frame : (place : ℕ) → AnalysisStack → Outcome AnalysisStack
  close_frame p st = do
    st ← emit p SH (shape_numbers (top st.frames)) st
    ok (with_frames (beneath st.frames) st)
