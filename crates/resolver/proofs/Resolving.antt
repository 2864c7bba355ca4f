-- Resolving an id: what the definition answers in each case, and what a capture appended to the log leaves. Assumes nothing.
use mathlib.Core.Path.{◌≡◌, refl, sym, ap, ◌∙◌}
use mathlib.Core.Logic.{⊎_elim, inl, inr}
use mathlib.Core.Bool.{true, false}
use mathlib.Core.Option.{none, some}
use mathlib.Core.List.{List, [], ◌∷◌, ◌++◌}
use Prim.Native.Nat.{ℕ, zero, suc, ◌+◌, ◌*◌, ◌-◌, ◌≤◌, ◌<◌}
use native.Mathlib.Omega.{arith}
use native.Mathlib.Decide.{dec_lt}
use lib.ListN.{length, length-append}
use lib.Dec.{ltb}
use borrow.Author.Tests.{lt-ltb, le-ltb, le-leb, lt-leb, ltb-true, ltb-false}
use Rattle.rules.specs.Outcome.{ok, refuse, ◌>>=◌, need, choose, given}
use Rattle.rules.specs.Frames as rules
use Rattle.rules.specs.Writing.{slot_number}
use Rattle.std.specs.Prelude.{Option, Some, None, is_some, IfSome, Ok, Err}
use Rattle.refusal.specs.Meaning.{number_of}
use Rattle.refusal.specs.declared.Reason.{Reason}
use Rattle.table_rows.specs.Entries.{number}
use Rattle.table_frames.specs.declared.Frame.{Frame}
use Rattle.table_captures.specs.Meaning.{slot, Logged, taking, logged_at, captures_of}
use Rattle.table_captures.specs.Answers.{PutCapture}
use Rattle.table_captures.specs.declared.CaptureSlot.{CaptureSlot}
use Rattle.table_captures.specs.declared.LocalSlot.{LocalSlot}
use Rattle.table_captures.specs.declared.LSlot.TheVariants.{Local, Capture}
use Rattle.table_captures.specs.declared.LSlot.{LSlot}
use Rattle.resolver.specs.Meaning.{frame_of, frames_of}
use Rattle.resolver.specs.Kept.{KeptBelow, Kept, Owned}
use Rattle.resolver.specs.Answers.{Home, HeldBy, Resolves, NoHome, ResolvesToSlot, Resolved, KeptAfter, Grown, Left, CapturedFrom}
use Rattle.table_captures.proofs.Laws.{logged_here, logged_beside, captures_start, captures_none, captures_other, captures_put, captures_put_other, length_mine, eq_or_not}
use Rattle.resolver.proofs.Laws.{frames_top, frames_agree, below_or_top}

-- the definition, a case at a time

module _ (most p above id : ℕ) (frames : List rules.ClosureFrame) (f : rules.ClosureFrame) (fs : List rules.ClosureFrame) (split : frames ≡ f ∷ fs) where
  resolve_held : rules.holds (rules.defining frames) id ≡ true
      → rules.resolve_at most p above id frames ≡ ok (record { slot = rules.local_slot (rules.slot_in (rules.defining frames) id); frames = frames })
  unfolding rules.resolve_at choose
  resolve_held h = rw split (rw (rw split at h))

  module _ (h : rules.holds (rules.defining frames) id ≡ false) where
    resolve_found : (k : ℕ) → rules.capture_of id 0 f.captures ≡ some k
        → rules.resolve_at most p above id frames ≡ ok (record { slot = rules.capture_slot k; frames = frames })
    unfolding rules.resolve_at choose given
    resolve_found k e = rw split (rw (rw split at h, e))

    module _ (e : rules.capture_of id 0 f.captures ≡ none) where
      resolve_refused : (why q : ℕ) → rules.resolve_at most p (above + length f.captures) id fs ≡ refuse why q → rules.resolve_at most p above id frames ≡ refuse why q
      unfolding rules.resolve_at choose given ◌>>=◌
      resolve_refused why q r = rw split (rw (rw split at h, e, r))

      module _ (parent : rules.Resolved) (r : rules.resolve_at most p (above + length f.captures) id fs ≡ ok parent) where
        resolve_12 : 65536 ≤ length f.captures → rules.resolve_at most p above id frames ≡ refuse 12 p
        unfolding rules.resolve_at choose given ◌>>=◌ need
        resolve_12 big = rw split (rw (rw split at h, e, r, le-ltb (length f.captures) 65536 big))

        resolve_8 : length f.captures < 65536 → most ≤ above + length f.captures + rules.count_captures parent.frames → rules.resolve_at most p above id frames ≡ refuse 8 p
        unfolding rules.resolve_at choose given ◌>>=◌ need
        resolve_8 small full = rw split (rw (
          rw split at h,
          e,
          r,
          lt-ltb (length f.captures) 65536 small,
          le-ltb (above + length f.captures + rules.count_captures parent.frames) most full,
        ))

        resolve_captured : length f.captures < 65536 → above + length f.captures + rules.count_captures parent.frames < most
            → rules.resolve_at most p above id frames
            ≡ ok (record { slot = rules.capture_slot (length f.captures); frames = rules.with_capture id parent.slot f ∷ parent.frames })
        unfolding rules.resolve_at choose given ◌>>=◌ need
        resolve_captured small room = rw split (rw (
          rw split at h,
          e,
          r,
          lt-ltb (length f.captures) 65536 small,
          lt-ltb (above + length f.captures + rules.count_captures parent.frames) most room,
        ))

-- where the frames define the id

module _ (frames : List ℕ) (n id : ℕ) where
  module _ (home : Frame) (is : Home frames n home) where
    -- a frame with locals is there
    some_frame : (m : ℕ) → Home frames m home → 0 < home.n_locals → 0 < m
    unfolding frames_of rules.defining rules.no_frame rules.new_frame
    some_frame zero there any = let no_locals : 0 ≡ home.n_locals = there.locals 0 [] in absurd (omega (arith, no_locals, any))
    some_frame (suc m) there any = omega arith

    pub held_before : id < home.first_local → HeldBy None frames n id
    unfolding rules.holds
    held_before lt count captures = rw (is.first count captures, is.locals count captures, lt-leb home.first_local id lt)

    pub held_from : home.first_local ≤ id → (r : Option LocalSlot) → is_some r ≡ ltb (id - home.first_local) home.n_locals
        → {P : LocalSlot → Type 0} → IfSome r P → ((s : LocalSlot) → P s → s.0 ≡ id - home.first_local) → HeldBy r frames n id
    unfolding rules.holds rules.slot_in
    held_from low (Some s) few met own =
        let lt : id - home.first_local < home.n_locals = ltb-true _ _ (sym few) in (
          some_frame n is (omega arith),
          (λ count captures. rw (is.first count captures, is.locals count captures, le-leb home.first_local id low, lt-ltb id (home.first_local + home.n_locals) (omega arith))),
          (λ count captures. rw (is.first count captures) (own s met)),
        )
    held_from low None many met own = λ count captures.
        let ge : home.n_locals ≤ id - home.first_local = ltb-false _ _ (sym many) in
        rw (is.first count captures, is.locals count captures, le-leb home.first_local id low, le-ltb id (home.first_local + home.n_locals) (omega arith))

  pub held_nowhere : NoHome frames n → HeldBy None frames n id
  unfolding rules.holds rules.no_frame rules.new_frame
  held_nowhere no_home count captures = rw (no_home count captures, le-leb 0 id (omega arith), le-ltb id 0 (omega arith))

-- what is kept of n frames, of one less

pub kept_down : (n : ℕ) (frames : List ℕ) (count : ℕ) (captures : List ℕ) → KeptBelow n frames count captures → KeptBelow (n - 1) frames count captures
kept_down n frames count captures kept = record {
  frames_fit = omega (arith, kept.frames_fit);
  captures_fit = kept.captures_fit;
  from_within = λ f lt. kept.from_within f (omega arith);
  from_rises = λ f g fg lt. kept.from_rises f g fg (omega arith);
  from_first = λ f i lt. kept.from_first f i (omega arith);
  few_locals = λ f lt. kept.few_locals f (omega arith);
  few_captures = λ f lt. kept.few_captures f (omega arith);
  small_sources = kept.small_sources;
}

pub none_before : (n : ℕ) (frames : List ℕ) (count : ℕ) (captures : List ℕ) (f from : ℕ) → KeptBelow n frames count captures → f < n → from ≡ number frames f 3
    → captures_of f from captures ≡ []
none_before n frames count captures f from kept lt e =
    captures_none f from captures (λ i il o. omega (arith, kept.from_first f i lt (omega (arith, kept.from_within f lt)) o))

-- nothing is captured

unchanged : (n : ℕ) (frames : List ℕ) (count : ℕ) (captures : List ℕ) → KeptBelow n frames count captures → Grown n frames count count captures captures
unchanged n frames count captures kept = record {
  kept = kept;
  more = omega arith;
  others = λ f le. refl;
  theirs = λ f i le lt e. (lt, e);
  summed = refl;
}

module _ (n : ℕ) (frames : List ℕ) (count : ℕ) (captures : List ℕ) (most id : ℕ) (kept : KeptBelow n frames count captures) where
  pub resolves_none : n ≡ 0 → Resolves (Ok (Local (record { 0 = 0 }), count)) n frames count captures captures most id
  unfolding frames_of rules.resolve_at slot
  resolves_none z = record {
    same = λ p above sum. rw z;
    left = unchanged n frames count captures kept;
  }

  pub resolves_held : (own : LocalSlot) → HeldBy (Some own) frames n id → Resolves (Ok (Local own, count)) n frames count captures captures most id
  unfolding slot
  resolves_held own (pos, held, is) = record {
    same = λ p above sum. sym (resolve_held most p above id (frames_of n frames count captures) _ _ (frames_top frames count captures n pos) (held count captures) ∙ rw (is count captures));
    left = unchanged n frames count captures kept;
  }

  pub resolves_found : rules.holds (rules.defining (frames_of n frames count captures)) id ≡ false → 0 < n → (k : CaptureSlot)
      → some k.0 ≡ rules.capture_of id 0 (captures_of (n - 1) count captures) → Resolves (Ok (Capture k, count)) n frames count captures captures most id
  unfolding frame_of slot
  resolves_found unheld pos k found = record {
    same = λ p above sum. sym (resolve_found most p above id (frames_of n frames count captures) _ _ (frames_top frames count captures n pos) unheld k.0 (sym found));
    left = unchanged n frames count captures kept;
  }

-- a capture appended to the log

module _ (before after : List ℕ) (count : ℕ) (e : Logged) (put : PutCapture before after count e) where
  owner_before : (i : ℕ) → i < count → (logged_at after i).owner ≡ (logged_at before i).owner
  owner_before i lt = ap (λ (l : Logged). l.owner) (logged_beside before after count e put i (λ e. omega arith))

  kept_appended : (n : ℕ) (frames : List ℕ) → e.owner < n → length (captures_of e.owner count before) ≤ 65535 → slot_number e.capture.source ≤ 65535 → 16 * suc count ≤ length before
      → KeptBelow n frames count before → KeptBelow n frames (suc count) after
  kept_appended n frames mine few small room kept = record {
    frames_fit = kept.frames_fit;
    captures_fit = omega (arith, put.size);
    from_within = λ f lt. omega (arith, kept.from_within f lt);
    from_rises = kept.from_rises;
    from_first = λ f i lt il o. ⊎_elim
        (λ l. kept.from_first f i lt l (sym (owner_before i l) ∙ o))
        (λ e. omega (arith, kept.from_within f lt)) (below_or_top i count il);
    few_locals = kept.few_locals;
    few_captures = λ f lt. ⊎_elim
        (λ same. rw (captures_put before after count e put f same, length-append) (omega (arith, few, ap (λ (o : ℕ). length (captures_of o count before)) same)))
        (λ ne. rw (captures_put_other before after count e put f ne) (kept.few_captures f lt)) (eq_or_not e.owner f);
    small_sources = λ i lt. ⊎_elim
        (λ l. rw (logged_beside before after count e put i (λ e. omega arith)) (kept.small_sources i l))
        (λ last. omega (arith, small, ap (λ (l : Logged). slot_number l.capture.source) (ap (logged_at after) last ∙ logged_here before after count e put))) (below_or_top i count lt);
  }

-- what resolving beneath leaves of the frame above
kept_above : (n : ℕ) (frames : List ℕ) (count count' : ℕ) (before after : List ℕ) → 0 < n → KeptBelow n frames count before → Grown (n - 1) frames count count' before after
    → KeptBelow n frames count' after
kept_above n frames count count' before after pos kept grown = record {
  frames_fit = kept.frames_fit;
  captures_fit = grown.kept.captures_fit;
  from_within = λ f lt. omega (arith, kept.from_within f lt, grown.more);
  from_rises = kept.from_rises;
  from_first = λ f i lt il o. by_place f i lt il o (dec_lt f (n - 1));
  few_locals = kept.few_locals;
  few_captures = λ f lt. by_few f lt (dec_lt f (n - 1));
  small_sources = grown.kept.small_sources;
}
  where
    by_place : (f i : ℕ) → f < n → i < count' → (logged_at after i).owner ≡ f → Dec (f < n - 1) → number frames f 3 ≤ i
    by_place f i lt il o (yes l) = grown.kept.from_first f i l il o
    by_place f i lt il o (no ge) = let t : (i < count) × ((logged_at before i).owner ≡ f) = grown.theirs f i (omega arith) il o in kept.from_first f i lt t.0 t.1

    by_few : (f : ℕ) → f < n → Dec (f < n - 1) → length (captures_of f count' after) ≤ 65536
    by_few f lt (yes l) = grown.kept.few_captures f l
    by_few f lt (no ge) = rw (grown.others f (omega arith)) (kept.few_captures f lt)

module _ (n : ℕ) (frames : List ℕ) (count : ℕ) (before : List ℕ) (most id : ℕ) (kept : KeptBelow n frames count before) (pos : 0 < n)
    (unheld : rules.holds (rules.defining (frames_of n frames count before)) id ≡ false) (k : ℕ) (counted : k ≡ length (captures_of (n - 1) count before))
    (missing : none ≡ rules.capture_of id 0 (captures_of (n - 1) count before)) where
  split : frames_of n frames count before ≡ frame_of frames count before (n - 1) ∷ frames_of (n - 1) frames count before
  split = frames_top frames count before n pos

  -- the captures of the frames above the one beneath
  above_too : (above : ℕ) → above + rules.count_captures (frames_of n frames count before) ≡ count
      → above + length (captures_of (n - 1) count before) + rules.count_captures (frames_of (n - 1) frames count before) ≡ count
  unfolding rules.count_captures frame_of
  above_too above sum = let s : above + (length (captures_of (n - 1) count before) + rules.count_captures (frames_of (n - 1) frames count before)) ≡ count = rw split at sum in omega arith

  pub resolves_refused : (why : Reason) (middle after : List ℕ) → Resolves (Err why) (n - 1) frames count before middle most id → Resolves (Err why) n frames count before after most id
  unfolding frame_of
  resolves_refused why middle after r = record {
    same = λ p above sum. sym (resolve_refused most p above id (frames_of n frames count before) _ _ split unheld (sym missing) (number_of why) p
        (sym (r.same p (above + length (captures_of (n - 1) count before)) (above_too above sum))));
    left = tt;
  }

  module _ (source : LSlot) (count' : ℕ) (middle : List ℕ) (r : Resolves (Ok (source, count')) (n - 1) frames count before middle most id) (room : 16 * most ≤ length middle) where
    abbrev taken : rules.Capture
    taken = record { target = id; source = slot source }

    abbrev parent : rules.Resolved
    parent = record { slot = slot source; frames = frames_of (n - 1) frames count' middle }

    -- the log's length is what the frames have captured
    now_too : (above : ℕ) → above + rules.count_captures (frames_of n frames count before) ≡ count
        → above + length (captures_of (n - 1) count before) + rules.count_captures (frames_of (n - 1) frames count' middle) ≡ count'
    now_too above sum = omega (arith, above_too above sum, r.left.summed)

    module _ (after : List ℕ) (few : k ≤ 65535) (fit : count' < most) (small : slot_number (slot source) ≤ 65535)
        (put : PutCapture middle after count' (taking (n - 1) id (slot source))) where
      one_more : captures_of (n - 1) (suc count') after ≡ captures_of (n - 1) count before ++ (taken ∷ [])
      one_more = captures_put middle after count' (taking (n - 1) id (slot source)) put (n - 1) refl
          ∙ ap (λ (l : List rules.Capture). l ++ (taken ∷ [])) (r.left.others (n - 1) (omega arith))

      beneath_same : frames_of (n - 1) frames (suc count') after ≡ frames_of (n - 1) frames count' middle
      beneath_same = frames_agree (n - 1) frames frames count' (suc count') middle after (λ f j lt l. refl)
          (λ f lt. captures_put_other middle after count' (taking (n - 1) id (slot source)) put f (λ e. omega arith))

      captured : frames_of n frames (suc count') after ≡ rules.with_capture id (slot source) (frame_of frames count before (n - 1)) ∷ frames_of (n - 1) frames count' middle
      unfolding frame_of rules.with_capture
      captured = frames_top frames (suc count') after n pos ∙ rw (one_more, beneath_same)

      sum_now : rules.count_captures (frames_of n frames (suc count') after)
          ≡ length (captures_of (n - 1) count before ++ (taken ∷ [])) + rules.count_captures (frames_of (n - 1) frames count' middle)
      unfolding rules.count_captures frame_of rules.with_capture
      sum_now = ap rules.count_captures captured

      sum_before : rules.count_captures (frames_of n frames count before) ≡ length (captures_of (n - 1) count before) + rules.count_captures (frames_of (n - 1) frames count before)
      unfolding rules.count_captures frame_of
      sum_before = ap rules.count_captures split

      grown : Grown n frames count (suc count') before after
      grown = record {
        kept = kept_appended middle after count' (taking (n - 1) id (slot source)) put n frames (omega arith) (rw (r.left.others (n - 1) (omega arith)) (omega arith)) small (omega arith)
            (kept_above n frames count count' before middle pos kept r.left);
        more = omega (arith, r.left.more);
        others = λ f le. captures_put_other middle after count' (taking (n - 1) id (slot source)) put f (λ e. omega arith) ∙ r.left.others f (omega arith);
        theirs = λ f i le lt o. ⊎_elim
            (λ l. r.left.theirs f i (omega arith) l (sym (owner_before middle after count' (taking (n - 1) id (slot source)) put i l) ∙ o))
            (λ last. absurd (omega (
              arith,
              o,
              ap (λ (x : ℕ). (logged_at after x).owner) last,
              ap (λ (l : Logged). l.owner) (logged_here middle after count' (taking (n - 1) id (slot source)) put),
            ))) (below_or_top i count' lt);
        summed = omega (arith, sum_now, sum_before, r.left.summed, length-append (captures_of (n - 1) count before) (taken ∷ []));
      }

    pub resolves_captured : (a : Resolved) (after : List ℕ) → CapturedFrom source count' a middle after most (n - 1) k id → Resolves a n frames count before after most id
    unfolding frame_of
    resolves_captured (Ok (s, count'')) after (is, few, fit, one, small, put) = rw one record {
      same = λ p above sum. rw (is, counted, captured after few fit small put)
          (sym (resolve_captured most p above id (frames_of n frames count before) _ _ split unheld (sym missing) parent
          (sym (r.same p (above + length (captures_of (n - 1) count before)) (above_too above sum))) (omega (arith, counted)) (omega (arith, now_too above sum))));
      left = grown after few fit small put;
    }
    resolves_captured (Err why) after (inl (big, twelve)) = record {
      same = λ p above sum. rw twelve (sym (resolve_12 most p above id (frames_of n frames count before) _ _ split unheld (sym missing) parent
          (sym (r.same p (above + length (captures_of (n - 1) count before)) (above_too above sum))) (omega (arith, counted))));
      left = tt;
    }
    resolves_captured (Err why) after (inr (few, full, eight)) = record {
      same = λ p above sum. rw eight (sym (resolve_8 most p above id (frames_of n frames count before) _ _ split unheld (sym missing) parent
          (sym (r.same p (above + length (captures_of (n - 1) count before)) (above_too above sum))) (omega (arith, counted)) (omega (arith, now_too above sum))));
      left = tt;
    }

-- the log's length is the sum of the frames' captures

module _ (frames : List ℕ) (i : ℕ) (captures : List ℕ) where
  none_owns : (n : ℕ) → n ≤ (logged_at captures i).owner → rules.count_captures (frames_of n frames (suc i) captures) ≡ rules.count_captures (frames_of n frames i captures)
  none_owns n le = ap rules.count_captures (frames_agree n frames frames i (suc i) captures captures (λ f j lt l. refl) (λ f lt. captures_other f i captures (λ e. omega arith)))

  one_owns : (n : ℕ) → (logged_at captures i).owner < n → rules.count_captures (frames_of n frames (suc i) captures) ≡ suc (rules.count_captures (frames_of n frames i captures))
  unfolding frames_of frame_of rules.count_captures
  one_owns zero lt = absurd (omega arith)
  one_owns (suc n) lt = ⊎_elim
      (λ l. let same : length (captures_of n (suc i) captures) ≡ length (captures_of n i captures) = ap length (captures_other n i captures (λ e. omega arith)) in omega (arith, one_owns n l))
      (λ e. omega (arith, length_mine n i captures e, none_owns n (omega arith))) (below_or_top (logged_at captures i).owner n lt)

nothing_yet : (n : ℕ) (frames captures : List ℕ) → rules.count_captures (frames_of n frames 0 captures) ≡ 0
unfolding frames_of frame_of rules.count_captures
nothing_yet zero frames captures = refl
nothing_yet (suc n) frames captures = omega (arith, nothing_yet n frames captures, ap length (captures_start n captures))

pub log_is_sum : (n : ℕ) (frames : List ℕ) (count : ℕ) (captures : List ℕ) → Owned n count captures → rules.count_captures (frames_of n frames count captures) ≡ count
log_is_sum n frames zero captures owned = nothing_yet n frames captures
log_is_sum n frames (suc i) captures owned = one_owns frames i captures n (owned i (omega arith)) ∙ ap suc (log_is_sum n frames i captures (λ j lt. owned j (omega arith)))

module _ (n : ℕ) (frames : List ℕ) (count : ℕ) (before after : List ℕ) (most id : ℕ) (kept : Kept n frames count before) where
  owned_still : (count' : ℕ) → Grown n frames count count' before after → Owned n count' after
  owned_still count' grown i lt = by (dec_lt (logged_at after i).owner n)
    where
      by : Dec ((logged_at after i).owner < n) → (logged_at after i).owner < n
      by (yes l) = l
      by (no ge) = let t : (i < count) × ((logged_at before i).owner ≡ (logged_at after i).owner) = grown.theirs (logged_at after i).owner i (omega arith) lt refl in omega (arith, kept.owned i t.0, t.1)

  kept_still : (r : Resolved) → Left r n frames count before after → KeptAfter r n frames after
  kept_still (Ok (s, count')) grown = record { below = grown.kept; owned = owned_still count' grown }
  kept_still (Err why) left = tt

  pub resolves_to_slot : (r : Resolved) → Resolves r n frames count before after most id → ResolvesToSlot r n frames count before after most id
  unfolding rules.resolve_to_slot
  resolves_to_slot r res = record {
    same = λ p. res.same p 0 (omega (arith, log_is_sum n frames count before kept.owned));
    kept = kept_still r res.left;
  }
