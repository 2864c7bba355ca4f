-- The shape of the top frame after what was written, pair by pair, and then the frame closed, are the rules' `close_frame`. Assumes nothing.
use Prim.Native.Nat.{ℕ, suc, ◌+◌, ◌*◌, ◌-◌, ◌≤◌, ◌<◌}
use mathlib.Core.Bool.{Bool, true, false}
use mathlib.Core.List.{List, [], ◌∷◌, ◌++◌, append_assoc, append-nil}
use mathlib.Core.Path.{◌≡◌, refl, sym, ap, ◌∙◌}
use native.Mathlib.Nat.{add-zero}
use native.Mathlib.Numerals.{add-one}
use native.Mathlib.Omega.{arith}
use lib.ListN.{length, take, get_or, length-append}
use lib.Seq.{take-suc}
use lib.Dec.{leb}
use Rattle.rules.specs.Outcome.{ok, refuse, ◌>>=◌, need}
use Rattle.rules.specs.Numbers.{SH, code, mark_bytes, number_bytes, numbers_bytes, record_bytes}
use Rattle.rules.specs.Frames.{LSlot, local_slot, capture_slot, Capture, ClosureFrame, new_frame, no_frame, top, beneath, count_captures}
use Rattle.rules.specs.State as rules_state
use Rattle.rules.specs.Writing.{pair_of, pairs_of, slot_number, shape_numbers}
use Rattle.rules.specs.Writing as rules_writing
use Rattle.bytes_write.proofs.Laws.{length_numbers_bytes}
use Rattle.bytes_write.specs.Put.{Put}
use Rattle.std.specs.Prelude.{Option, Some, None}
use Rattle.table_rows.specs.Entries.{number}
use Rattle.table_captures.specs.Meaning.{slot_kind, captures_of}
use Rattle.resolver.specs.Meaning.{frame_of, frames_of}
use Rattle.resolver.specs.Kept.{Kept}
use Rattle.resolver.specs.Answers.{Closed}
use Rattle.table_captures.proofs.Laws.{captures_more}
use Rattle.resolver.proofs.Laws.{frames_top}
use Rattle.resolver.proofs.Resolving.{log_is_sum, none_before}
use Rattle.state.specs.Seen.{buffers, stack, seen, limits_of}
use Rattle.state.specs.declared.AnalysisStack.{AnalysisStack}
use Rattle.state.specs.declared.Limits.{Limits}
use Rattle.state.proofs.Changing.{tables_to, out_to}
use Rattle.state.proofs.Fitting.{fit_beside, fit_frames}
use Rattle.step_write.specs.Answers.{Behind, Emitted}
use Rattle.step_frame.specs.Answers.{shape_bytes, FrameClosed}
use Rattle.step_write.proofs.Laws.{put_behind, behind_more, emit_wrote, emit_full}
use Rattle.std.specs.Prelude.{Ok, Err}
use Rattle.refusal.specs.Meaning.{refuses}
use Rattle.refusal.specs.declared.Reason.TheVariants as reason
use Rattle.state.specs.Seen.{Step}

-- Two numbers: the two bytes before them are put again

two_more : (l : List ℕ) (from : ℕ) → from + 2 ≤ length l → take (from + 2) l ≡ take from l ++ (get_or l from 0 ∷ get_or l (from + 1) 0 ∷ [])
two_more l from h =
    let one : from < length l = omega arith in
    let two : suc from < length l = omega arith in
    let e : from + 2 ≡ suc (suc from) = omega arith in
    rw (e, add-one from) (take-suc l (suc from) 0 two ∙ ap (λ bs. bs ++ (get_or l (suc from) 0 ∷ [])) (take-suc l from 0 one)
    ∙ append_assoc (take from l) (get_or l from 0 ∷ []) (get_or l (suc from) 0 ∷ []))

pub pair_behind : (r : Option ℕ) (before after : List ℕ) (used : ℕ) (bytes : List ℕ) → 2 ≤ used → used ≤ length before
    → Put r before after (used - 2) (get_or before (used - 2) 0 ∷ get_or before (used - 2 + 1) 0 ∷ bytes) → Behind r before after used bytes
pair_behind (Some next) before after used bytes two within p =
    let e : used - 2 + 2 ≡ used = omega arith in (
      omega (arith, p.0),
      p.1,
      (put_behind (Some next) before after (used - 2) _ p).2
          ∙ sym (append_assoc (take (used - 2) before) (get_or before (used - 2) 0 ∷ get_or before (used - 2 + 1) 0 ∷ []) bytes)
          ∙ ap (λ bs. bs ++ bytes) (sym (two_more before (used - 2) (omega arith)) ∙ ap (λ n. take n before) e),
    )
pair_behind None before after used bytes two within p = omega (arith, p.0)

-- Pairs

numbers_bytes_append : (ms ns : List ℕ) → numbers_bytes (ms ++ ns) ≡ numbers_bytes ms ++ numbers_bytes ns
unfolding numbers_bytes
numbers_bytes_append [] ns = refl
numbers_bytes_append (m ∷ ms) ns = ap (λ bs. number_bytes m ++ bs) (numbers_bytes_append ms ns) ∙ sym (append_assoc (number_bytes m) (numbers_bytes ms) (numbers_bytes ns))

pair_is : (s : LSlot) → pair_of s ≡ slot_kind s ∷ slot_number s ∷ []
unfolding pair_of slot_kind slot_number
pair_is (local_slot n) = refl
pair_is (capture_slot n) = refl

pairs_snoc : (cs : List Capture) (c : Capture) → pairs_of (cs ++ (c ∷ [])) ≡ pairs_of cs ++ pair_of c.source
unfolding pairs_of
pairs_snoc [] c = append-nil (pair_of c.source)
pairs_snoc (d ∷ cs) c = ap (λ ps. pair_of d.source ++ ps) (pairs_snoc cs c) ∙ sym (append_assoc (pair_of d.source) (pairs_of cs) (pair_of c.source))

length_pairs : (cs : List Capture) → length (pairs_of cs) ≡ 2 * length cs
unfolding pairs_of
length_pairs [] = refl
length_pairs (c ∷ cs) = omega (arith, length-append (pair_of c.source) (pairs_of cs), ap length (pair_is c.source), length_pairs cs)

-- the owner's pairs in bytes, up to an entry of the log
abbrev pub pairs_bytes : (owner i : ℕ) → (captures : List ℕ) → List ℕ
pairs_bytes owner i captures = numbers_bytes (pairs_of (captures_of owner i captures))

length_pairs_bytes : (owner i : ℕ) (captures : List ℕ) → length (pairs_bytes owner i captures) ≡ 8 * length (captures_of owner i captures)
length_pairs_bytes owner i captures =
    omega (arith, length_numbers_bytes (pairs_of (captures_of owner i captures)), length_pairs (captures_of owner i captures))

-- the pairs of the log's first entries stand after the bytes that were used
pub record Pairing (before : List ℕ) (used : ℕ) (captures : List ℕ) (count owner : ℕ) (now : List ℕ) (to at : ℕ) : Type 0 where
  pub within : at ≤ count
  pub long : length now ≡ length before
  pub written : Behind (Some to) before now used (pairs_bytes owner at captures)

module _ (before : List ℕ) (used : ℕ) (captures : List ℕ) (count owner : ℕ) where
  pub pairing_begin : (from : ℕ) → used ≤ length before → from ≤ count → captures_of owner from captures ≡ []
      → Pairing before used captures count owner before used from
  unfolding numbers_bytes pairs_of
  pairing_begin from within le none = record {
    within = le;
    long = refl;
    written = rw none (sym (add-zero used), within, sym (append-nil (take used before)));
  }

  module _ (now : List ℕ) (to at : ℕ) (p : Pairing before used captures count owner now to at) where
    module _ (i target kind own : ℕ) (s : LSlot) (le : i ≤ count)
        (follows : captures_of owner i captures ≡ captures_of owner at captures ++ (record { target = target; source = s } ∷ []))
        (kind_is : kind ≡ slot_kind s) (own_is : own ≡ slot_number s) where
      one_more : pairs_bytes owner i captures ≡ pairs_bytes owner at captures ++ numbers_bytes (kind ∷ own ∷ [])
      one_more =
          ap numbers_bytes (ap pairs_of follows ∙ pairs_snoc (captures_of owner at captures) (record { target = target; source = s })
          ∙ ap (λ ns. pairs_of (captures_of owner at captures) ++ ns) (pair_is s ∙ rw (kind_is, own_is) refl))
          ∙ numbers_bytes_append (pairs_of (captures_of owner at captures)) (kind ∷ own ∷ [])

      pub pairing_next : (after : List ℕ) (end : ℕ) → length after ≡ length now → Behind (Some end) now after to (numbers_bytes (kind ∷ own ∷ []))
          → Pairing before used captures count owner after end i
      pairing_next after end long q = record {
        within = le;
        long = long ∙ p.long;
        written = rw one_more (behind_more (Some end) before now after used to (pairs_bytes owner at captures) (numbers_bytes (kind ∷ own ∷ [])) p.long p.written q);
      }

      -- where one pair has no room, all have none
      pub pairing_full : length now < to + length (numbers_bytes (kind ∷ own ∷ [])) → length before < used + length (pairs_bytes owner count captures)
      pairing_full q =
          omega (
            arith,
            p.long,
            p.written.0,
            q,
            ap length one_more,
            length-append (pairs_bytes owner at captures) (numbers_bytes (kind ∷ own ∷ [])),
            length_pairs_bytes owner i captures,
            length_pairs_bytes owner count captures,
            captures_more owner i count captures le,
          )

-- of the top frame's captures none stands before where they begin
pub none_earlier : {n : ℕ} {frames : List ℕ} {count : ℕ} {captures : List ℕ} {from : ℕ} → Kept n frames count captures → 0 < n → from ≡ number frames (n - 1) 3
    → (16 * count ≤ length captures) × (from ≤ count) × (captures_of (n - 1) from captures ≡ [])
none_earlier {n = n} kept some is =
    let top : n - 1 < n = omega (arith, some) in
    (kept.below.captures_fit, rw is (kept.below.from_within _ top), none_before _ _ _ _ _ _ kept.below top is)

-- The shape: its record's first two numbers, and then the pairs

module _ (n : ℕ) (frames : List ℕ) (count : ℕ) (captures : List ℕ) (pos : 0 < n) (n_locals k : ℕ)
    (locals_are : n_locals ≡ number frames (n - 1) 2) (counted : k ≡ length (captures_of (n - 1) count captures)) where
  abbrev head : List ℕ
  head = 0x53 ∷ 0x48 ∷ numbers_bytes (n_locals ∷ k ∷ [])

  shape_is : shape_bytes n frames count captures ≡ head ++ pairs_bytes (n - 1) count captures
  unfolding record_bytes mark_bytes code shape_numbers top frame_of numbers_bytes number_bytes
  shape_is = rw (frames_top frames count captures n pos, locals_are, counted) refl

  pub shape_behind : (r : Option ℕ) (before middle after : List ℕ) (used next : ℕ) → length middle ≡ length before → Put (Some next) before middle used head
      → Behind r middle after next (pairs_bytes (n - 1) count captures)
      → Behind r before after used (shape_bytes n frames count captures)
  shape_behind r before middle after used next long p q =
      rw shape_is (behind_more r before middle after used next head (pairs_bytes (n - 1) count captures) long (put_behind (Some next) before middle used head p) q)

  pub shape_full : (before middle : List ℕ) (used : ℕ) → Put None before middle used head
      → length before < used + length (shape_bytes n frames count captures)
  shape_full before middle used p = omega (arith, p.0, ap length shape_is, length-append head (pairs_bytes (n - 1) count captures))

-- The rules' step in two

module _ (limits : rules_state.Limits) (place : ℕ) (S : rules_state.AnalysisStack) where
  then_closed : (T : rules_state.AnalysisStack) → ok T ≡ rules_writing.emit limits place SH (shape_numbers (top S.frames)) S
      → rules_writing.close_frame limits place S ≡ ok (rules_state.with_frames (beneath T.frames) T)
  unfolding rules_writing.close_frame ◌>>=◌
  then_closed T e = rw (← e) refl

  then_refused : (number at : ℕ) → refuse number at ≡ rules_writing.emit limits place SH (shape_numbers (top S.frames)) S
      → rules_writing.close_frame limits place S ≡ refuse number at
  unfolding rules_writing.close_frame ◌>>=◌
  then_refused number at e = rw (← e) refl

  -- where no frame is open, none is closed
  none_beneath : (b : Bool) (bytes : List ℕ) → S.frames ≡ []
      → ((need b 9 place >>= λ _. ok (rules_state.with_out bytes S)) >>= λ T. ok (rules_state.with_frames (beneath T.frames) T))
      ≡ (need b 9 place >>= λ _. ok (rules_state.with_out bytes S))
  unfolding ◌>>=◌ need rules_state.with_frames rules_state.with_out rules_state.with_sink beneath
  none_beneath true bytes none = rw none refl
  none_beneath false bytes none = refl

  none_open : S.frames ≡ [] → rules_writing.close_frame limits place S ≡ rules_writing.emit limits place SH (0 ∷ 0 ∷ []) S
  unfolding rules_writing.close_frame rules_writing.emit shape_numbers pairs_of top no_frame new_frame
  none_open none =
      let bytes = S.sink.out ++ record_bytes SH (0 ∷ 0 ∷ []) in
      ap (λ fs. rules_writing.emit limits place SH (shape_numbers (top fs)) S >>= λ T. ok (rules_state.with_frames (beneath T.frames) T)) none
      ∙ none_beneath (leb (length bytes) limits.out) bytes none

-- What the step leaves

abbrev closed_to : (next count : ℕ) → AnalysisStack → AnalysisStack
closed_to next count st = out_to next (tables_to st.locals (st.frames - 1) count st.references st)

fewer_beneath : (fs : List ClosureFrame) → count_captures (beneath fs) ≤ count_captures fs
unfolding count_captures beneath
fewer_beneath [] = omega arith
fewer_beneath (f ∷ fs) = omega arith

module _ (out out' frames captures captures' : List ℕ) (st : AnalysisStack) (place : ℕ) where
  abbrev numbers : List ℕ
  numbers = shape_numbers (top (frames_of st.frames frames st.captures captures))

  abbrev shape : List ℕ
  shape = shape_bytes st.frames frames st.captures captures

  module _ (next count : ℕ) (kept : Kept st.frames frames st.captures captures) (pos : 0 < st.frames)
      (long : length out' ≡ length out) (captures_long : length captures' ≡ length captures)
      (written : Behind (Some next) out out' st.out shape)
      (closed : Closed st.frames frames st.captures captures count captures') where
    fewer : count ≤ st.captures
    fewer =
        omega (
          arith,
          log_is_sum st.frames frames st.captures captures kept.owned,
          log_is_sum (st.frames - 1) frames count captures' closed.kept.owned,
          ap count_captures closed.same,
          fewer_beneath (frames_of st.frames frames st.captures captures),
        )

    closed_same : (l : Limits) (diagnostics locals references : List ℕ)
        → seen (Ok (closed_to next count st)) (buffers out' diagnostics locals frames captures' references)
        ≡ rules_writing.close_frame (limits_of l out diagnostics) place (stack (buffers out diagnostics locals frames captures references) st)
    unfolding stack rules_state.with_frames
    closed_same l ds ls rs =
        rw closed.same
        (sym (then_closed (limits_of l out ds) place (stack (buffers out ds ls frames captures rs) st) (stack (buffers out' ds ls frames captures rs) (out_to next st))
        (emit_wrote out out' st place shape numbers SH refl l ds ls frames captures rs next written)))

    pub frame_closed : FrameClosed (Ok (closed_to next count st)) out out' frames captures captures' st place
    frame_closed = record {
      same = closed_same;
      fit = λ l ds ls rs fit. fit_beside
          (fit_frames fit refl captures_long (omega (arith, fit.few_frames)) (omega (arith, fewer, fit.few_captures)) closed.kept
          (λ f lt. fit.first_there f (omega arith)) (λ f g fg lt. fit.first_rises f g fg (omega arith)))
          (omega (arith, written.1)) fit.diagnostics_long;
    }

  pub frame_full : length out < st.out + length shape
      → FrameClosed (Err (refuses reason.OutputFull place)) out out' frames captures captures' st place
  unfolding stack
  frame_full full = record {
    same = λ l ds ls rs.
        sym (then_refused (limits_of l out ds) place (stack (buffers out ds ls frames captures rs) st) 9 place
        (emit_full out out' st place shape numbers SH refl l ds ls frames captures rs full));
    fit = λ l ds ls rs fit. tt;
  }

-- where no frame is open only a shape is written
pub none_closed : (out out' frames captures : List ℕ) (st : AnalysisStack) (place : ℕ) (r : Step) → st.frames ≡ 0
    → Emitted r out out' st place (0x53 ∷ 0x48 ∷ []) (0 ∷ 0 ∷ []) → FrameClosed r out out' frames captures captures st place
unfolding mark_bytes code stack frames_of
none_closed out out' frames captures st place r none emitted = record {
  same = λ l ds ls rs.
      emitted.same SH refl l ds ls frames captures rs
      ∙ sym (none_open (limits_of l out ds) place (stack (buffers out ds ls frames captures rs) st) (ap (λ n. frames_of n frames st.captures captures) none));
  fit = λ l ds ls rs. emitted.fit l ds ls frames captures rs;
}
