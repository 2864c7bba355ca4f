-- A slot that is written, and the captures that resolving leaves: they stay within C. Assumes nothing.
use Prim.Native.Nat.{ℕ, ◌+◌, ◌≤◌, ◌<◌}
use mathlib.Core.List.{List, [], ◌∷◌}
use mathlib.Core.Path.{◌≡◌, sym, ap, ◌∙◌}
use native.Mathlib.Omega.{arith}
use lib.ListN.{length, get_or, length-append}
use borrow.Author.Tests.{ltb-true}
use Rattle.rules.specs.Outcome.{ok, refuse, ◌>>=◌}
use Rattle.rules.specs.Numbers.{Mark, mark_bytes}
use Rattle.rules.specs.Frames as rules
use Rattle.rules.specs.Writing as writing
use Rattle.rules.specs.State as state
use Rattle.rules.specs.Scoping as scoping
use Rattle.rules.proofs.After.{After, fine, after_ok, after_bind, after_need, after_choose, after_given}
use Rattle.std.specs.Prelude.{Ok}
use Rattle.table_captures.specs.Meaning.{slot}
use Rattle.resolver.specs.Meaning.{frames_of}
use Rattle.resolver.specs.Kept.{Kept}
use Rattle.resolver.specs.Answers.{ResolvesToSlot}
use Rattle.table_captures.specs.declared.LSlot.{LSlot}
use Rattle.resolver.proofs.Resolving.{log_is_sum}
use Rattle.state.specs.Seen.{buffers, stack, limits_of}
use Rattle.state.specs.declared.AnalysisStack.{AnalysisStack}
use Rattle.step_write.specs.Answers.{Emitted}
use Rattle.step_name.specs.Slots.{SlotWritten}
use Rattle.state.specs.Seen.{Step}

-- a record with the slot's mark and number is the slot's
pub slot_written : (r : Step) (out out' : List ℕ) (st : AnalysisStack) (place : ℕ) (s : LSlot) (m : Mark) (mark : List ℕ) (n : ℕ)
    → Emitted r out out' st place mark (n ∷ []) → get_or mark 0 0 ∷ get_or mark 1 0 ∷ [] ≡ mark_bytes m
    → writing.slot_mark (slot s) ≡ m → n ≡ writing.slot_number (slot s) → SlotWritten r out out' st place s
slot_written r out out' st place s m mark n emitted spelled is_mark is_number = record {
  same = λ l diagnostics locals frames captures references.
      emitted.same m spelled l diagnostics locals frames captures references
      ∙ ap (λ (k : ℕ). writing.emit (limits_of l out diagnostics) place m (k ∷ []) (stack (buffers out diagnostics locals frames captures references) st)) is_number
      ∙ ap (λ (k : Mark). writing.emit (limits_of l out diagnostics) place k (writing.slot_number (slot s) ∷ []) (stack (buffers out diagnostics locals frames captures references) st)) (sym is_mark);
  fit = emitted.fit;
}

-- a frame captures only where there is room
pub resolve_within : (most place above id : ℕ) (fs : List rules.ClosureFrame) → above + rules.count_captures fs ≤ most
    → After (λ r. above + rules.count_captures r.frames ≤ most) (rules.resolve_at most place above id fs)
unfolding rules.resolve_at rules.count_captures rules.with_capture
resolve_within most place above id [] h = fine h
resolve_within most place above id (f ∷ fs) h =
    after_choose _ _ _ (λ _. fine h)
    (λ _. after_given _ _ _
    (λ _. after_bind _ (resolve_within most place (above + length f.captures) id fs (omega arith))
    (λ parent _. after_need _ 12 place _
    (λ _. after_need _ 8 place _
    (λ room. fine (let lt : above + length f.captures + rules.count_captures parent.frames < most = ltb-true _ _ room in
    omega (arith, length-append f.captures (record { target = id; source = parent.slot } ∷ [])))))))
    (λ k _. fine h))

-- the step goes on with what was resolved, or ends
pub slot_resolved : (l : state.Limits) (place id : ℕ) (st : state.AnalysisStack) (r : rules.Resolved) → rules.resolve_to_slot l.captures place id st.frames ≡ ok r
    → scoping.emit_slot l place id st ≡ writing.emit l place (writing.slot_mark r.slot) (writing.slot_number r.slot ∷ []) (state.with_frames r.frames st)
unfolding scoping.emit_slot ◌>>=◌
slot_resolved l place id st r e = rw (e, scoping.emit_slot)

pub slot_refused : (l : state.Limits) (place id : ℕ) (st : state.AnalysisStack) (why : ℕ) → rules.resolve_to_slot l.captures place id st.frames ≡ refuse why place
    → scoping.emit_slot l place id st ≡ refuse why place
unfolding scoping.emit_slot ◌>>=◌
slot_refused l place id st why e = rw (e, scoping.emit_slot)

-- the log stays within C
pub log_within : (n : ℕ) (frames : List ℕ) (count : ℕ) (before after : List ℕ) (most id : ℕ) (s : LSlot) (count' : ℕ)
    → ResolvesToSlot (Ok (s, count')) n frames count before after most id → Kept n frames count before → count ≤ most → count' ≤ most
unfolding rules.resolve_to_slot
log_within n frames count before after most id s count' res kept few =
    let fits : 0 + rules.count_captures (frames_of n frames count before) ≤ most = omega (arith, log_is_sum n frames count before kept.owned) in
    let within = after_ok (resolve_within most 0 0 id (frames_of n frames count before) fits) (sym (res.same 0)) in
    omega (arith, within, log_is_sum n frames count' after res.kept.owned)
