-- Laws of a local after the others and of the frame that counts it. Assumes nothing.
use Prim.Native.Nat.{ℕ, suc, ◌+◌, ◌-◌, ◌≤◌, ◌<◌}
use mathlib.Core.Bool.{Bool, true, false}
use mathlib.Core.List.{List, [], ◌∷◌, ◌++◌, map-append}
use mathlib.Core.Logic.{⊎_elim}
use mathlib.Core.Option.{none, some}
use mathlib.Core.Path.{◌≡◌, refl, sym, ap, ◌∙◌}
use native.Mathlib.Numerals.{add-one}
use native.Mathlib.Omega.{arith}
use lib.ListN.{length, set}
use lib.Seq.{set_at}
use lib.Dec.{ltb, eqb}
use borrow.Author.Tests.{lt-ltb, le-ltb}
use Rattle.rules.specs.Outcome.{ok, refuse, ◌>>=◌, need, choose}
use Rattle.rules.specs.Numbers.{Name}
use Rattle.rules.specs.Records.{Span, no_span}
use Rattle.rules.specs.Tree.{at_record}
use Rattle.rules.specs.Locals as rules
use Rattle.rules.specs.Frames.{ClosureFrame, top, beneath, with_one_more_local}
use Rattle.rules.specs.State as state
use Rattle.rules.specs.State.{with_locals, with_frames}
use Rattle.rules.specs.Scoping.{is_taken, push_local, push_in_frame, define_local, define_this}
use Rattle.table_rows.specs.Rows.{row, rows}
use Rattle.value_local.specs.Meaning.{local}
use Rattle.table_locals.specs.Meaning.{local_of_row, locals_of}
use Rattle.table_locals.specs.Tables.{PutLocal}
use Rattle.value_local.specs.declared.LocalDefinition.{LocalDefinition}
use Rattle.table_locals.proofs.Laws.{length_locals}
use Rattle.table_rows.specs.Entries.{number}
use Rattle.resolver.specs.Meaning.{frame_of, frames_of}
use Rattle.resolver.specs.Kept.{Kept}
use Rattle.table_frames.specs.Answers.{FrameAt}
use Rattle.table_frames.specs.declared.Frame.{Frame}
use Rattle.table_captures.proofs.Laws.{eq_or_not}
use Rattle.resolver.proofs.Laws.{frames_top, frames_agree}
use Rattle.state.specs.Seen.{buffers, stack, limits_of, span_of}
use Rattle.state.specs.declared.AnalysisStack.{AnalysisStack}
use Rattle.state.specs.declared.Limits.{Limits}
use Rattle.step_locals.specs.Answers.{PushedLocal, CountedLocal, PushedInFrame, DefinedNew, DefinedThis, one_more_local}
use Rattle.state.proofs.Changing.{locals_to}
use Rattle.state.proofs.Fitting.{fit_names, fit_frames}
use Rattle.step_locals.proofs.Finding.{locals_of_top}
use Rattle.std.specs.Prelude.{Ok, Err}
use Rattle.refusal.specs.Meaning.{refuses}
use Rattle.refusal.specs.declared.Reason.TheVariants as reason
use Rattle.state.specs.Seen.{Step}

-- A local after the others

locals_one_more : (n : ℕ) (t : List ℕ) → locals_of (suc n) t ≡ locals_of n t ++ (local_of_row (row n t) ∷ [])
unfolding locals_of rows
locals_one_more n t = map-append local_of_row (rows n t) (row n t ∷ [])

locals_pushed : (n : ℕ) (t u : List ℕ) (l : rules.LocalDefinition) → PutLocal t u n l → locals_of (suc n) u ≡ locals_of n t ++ (l ∷ [])
locals_pushed n t u l put =
    put.held (suc n) (omega arith)
    ∙ ap (λ (ls : List rules.LocalDefinition). set ls n l) (locals_one_more n t)
    ∙ set_at (locals_of n t) (local_of_row (row n t)) [] l n (length_locals n t)

module _ (locals : List ℕ) (limits : Limits) (st : AnalysisStack) (place : ℕ) (l : LocalDefinition) where
  pub no_room : limits.max_locals ≤ st.locals → PushedLocal (Err (refuses reason.LocalLimit place)) locals locals limits st place l
  unfolding push_local ◌>>=◌ need stack limits_of
  no_room full = record {
    same = λ out diagnostics frames captures references. rw (length_locals st.locals locals, le-ltb st.locals limits.max_locals full);
    fit = λ out diagnostics frames captures references fit. tt;
  }

  pub pushed : (locals' : List ℕ) → st.locals < limits.max_locals → PutLocal locals locals' st.locals (local l)
      → PushedLocal (Ok (locals_to (st.locals + 1) st)) locals locals' limits st place l
  unfolding push_local ◌>>=◌ need stack limits_of with_locals
  pushed locals' room put = record {
    same = λ out diagnostics frames captures references.
        rw (length_locals st.locals locals, lt-ltb st.locals limits.max_locals room, add-one st.locals, locals_pushed st.locals locals locals' (local l) put);
    fit = λ out diagnostics frames captures references fit. fit_names fit put.size refl (omega arith) fit.few_references (λ f h. omega (arith, fit.first_there f h));
  }

-- The frame that counts it

-- with one local more
abbrev counting : Frame → Frame
counting f = record { is_defining = f.is_defining; first_local = f.first_local; n_locals = f.n_locals + 1; captures_from = f.captures_from }

module _ (frames frames' : List ℕ) (st : AnalysisStack) (f : Frame) (is_open : 0 < st.frames) (few : number frames (st.frames - 1) 2 < 65535)
    (before : FrameAt frames (st.frames - 1) f) (after : FrameAt frames' (st.frames - 1) (counting f))
    (others : (k j : ℕ) → (k ≡ st.frames - 1 → ⊥) → j < 16 → number frames' k j ≡ number frames k j) (size : length frames' ≡ length frames) where
  frames_counted : (count : ℕ) (captures : List ℕ)
      → frames_of st.frames frames' count captures ≡ with_one_more_local (top (frames_of st.frames frames count captures)) ∷ beneath (frames_of st.frames frames count captures)
  unfolding frame_of with_one_more_local top beneath
  frames_counted count captures =
      let below : frames_of (st.frames - 1) frames' count captures ≡ frames_of (st.frames - 1) frames count captures =
      frames_agree (st.frames - 1) frames frames' count count captures captures (λ k j h small. others k j (λ e. omega arith) (omega arith)) (λ k h. refl) in
      let defines : eqb (number frames' (st.frames - 1) 0) 1 ≡ eqb (number frames (st.frames - 1) 0) 1 = sym after.defining ∙ before.defining in
      let first : number frames' (st.frames - 1) 1 ≡ number frames (st.frames - 1) 1 = sym after.first ∙ before.first in
      let more : number frames' (st.frames - 1) 2 ≡ suc (number frames (st.frames - 1) 2) = omega (arith, after.locals, before.locals) in
      rw (frames_top frames' count captures st.frames is_open, frames_top frames count captures st.frames is_open, below, defines, first, more)

  first_same : (k : ℕ) → number frames' k 1 ≡ number frames k 1
  first_same k = ⊎_elim (λ e. rw e (sym after.first ∙ before.first)) (λ differs. others k 1 differs (omega arith)) (eq_or_not k (st.frames - 1))

  from_same : (k : ℕ) → number frames' k 3 ≡ number frames k 3
  from_same k = ⊎_elim (λ e. rw e (sym after.from ∙ before.from)) (λ differs. others k 3 differs (omega arith)) (eq_or_not k (st.frames - 1))

  still_kept : (count : ℕ) (captures : List ℕ) → Kept st.frames frames count captures → Kept st.frames frames' count captures
  still_kept count captures kept = record {
    below = record {
      frames_fit = omega (arith, size, kept.below.frames_fit);
      captures_fit = kept.below.captures_fit;
      from_within = λ k h. rw (from_same k) (kept.below.from_within k h);
      from_rises = λ k g kg h. omega (arith, from_same k, from_same g, kept.below.from_rises k g kg h);
      from_first = λ k i h inside owner. rw (from_same k) (kept.below.from_first k i h inside owner);
      few_locals = λ k h. ⊎_elim
          (λ e. omega (arith, after.locals, before.locals, ap (λ (x : ℕ). number frames' x 2) e))
          (λ differs. rw (others k 2 differs (omega arith)) (kept.below.few_locals k h)) (eq_or_not k (st.frames - 1));
      few_captures = kept.below.few_captures;
      small_sources = kept.below.small_sources;
    };
    owned = kept.owned;
  }

  pub counted : CountedLocal frames frames' st
  unfolding stack one_more_local with_frames
  counted = record {
    same = λ out diagnostics locals captures references.
        ap (λ (fs : List ClosureFrame). with_frames fs (stack (buffers out diagnostics locals frames captures references) st)) (frames_counted st.captures captures);
    fit = λ l out diagnostics locals captures references fit. fit_frames fit size refl fit.few_frames fit.few_captures (still_kept st.captures captures fit.frames_kept)
        (λ k h. rw (first_same k) (fit.first_there k h)) (λ k g kg h. omega (arith, first_same k, first_same g, fit.first_rises k g kg h));
  }

-- The definition one step at a time

module _ (limits : state.Limits) (place : ℕ) (st : state.AnalysisStack) where
  -- counting before the push is counting after it
  counted_first : (l : rules.LocalDefinition) → push_local limits place l (one_more_local st) ≡ push_in_frame limits place l st
  unfolding push_local push_in_frame one_more_local with_frames with_locals ◌>>=◌ need
  counted_first l = by (ltb (length st.locals) limits.locals)
    where
      by : (room : Bool)
          → (need room 6 place >>= λ _. ok (with_locals (st.locals ++ (l ∷ [])) (one_more_local st)))
          ≡ ((need room 6 place >>= λ _. ok (with_locals (st.locals ++ (l ∷ [])) st)) >>= λ now. ok (one_more_local now))
      by true = refl
      by false = refl

  module _ (name : Name) (span : Span) (depth : ℕ) (free : is_taken name st ≡ false) where
    defines_full : 65535 ≤ (top st.frames).n_locals → define_local limits place name span depth st ≡ refuse 11 place
    unfolding define_local choose ◌>>=◌ need
    defines_full full = rw (free, le-ltb (top st.frames).n_locals 65535 full)

    defines_new : (top st.frames).n_locals < 65535 → define_local limits place name span depth st ≡ push_in_frame limits place (rules.new_local (at_record place) (some name) span depth false) st
    unfolding define_local choose ◌>>=◌ need
    defines_new few = rw (free, lt-ltb (top st.frames).n_locals 65535 few)

-- The steps

module _ {r : Step} {locals locals' frames frames' : List ℕ} {limits : Limits} {st : AnalysisStack} {place : ℕ} {l : LocalDefinition} where
  pub in_frame : CountedLocal frames frames' st → PushedLocal r locals locals' limits st place l → PushedInFrame r locals locals' frames frames' limits st place l
  in_frame counted pushed = record {
    same = λ out diagnostics captures references.
        pushed.same out diagnostics frames' captures references
        ∙ ap (push_local (limits_of limits out diagnostics) place (local l)) (counted.same out diagnostics locals captures references)
        ∙ counted_first (limits_of limits out diagnostics) place (stack (buffers out diagnostics locals frames captures references) st) (local l);
    fit = λ out diagnostics captures references fit. pushed.fit out diagnostics frames' captures references (counted.fit limits out diagnostics locals captures references fit);
  }

  module _ (pushed : PushedInFrame r locals locals' frames frames' limits st place l) where
    pub new_defined : (name span depth : ℕ) → 0 < st.frames → number frames (st.frames - 1) 2 < 65535 → local l ≡ rules.new_local (at_record place) (some name) (span_of span) depth false
        → DefinedNew r locals locals' frames frames' limits st place name span depth
    new_defined name span depth is_open few is = record {
      same = λ out diagnostics captures references free.
          let b = buffers out diagnostics locals frames captures references in
          let rules_limits = limits_of limits out diagnostics in
          pushed.same out diagnostics captures references
          ∙ ap (λ (d : rules.LocalDefinition). push_in_frame rules_limits place d (stack b st)) is
          ∙ sym (defines_new rules_limits place (stack b st) name (span_of span) depth free (omega (arith, locals_of_top b st is_open)));
      fit = pushed.fit;
    }

    pub this_defined : (depth : ℕ) → local l ≡ rules.new_local (at_record place) none (span_of 0) depth true → DefinedThis r locals locals' frames frames' limits st place depth
    unfolding define_this no_span
    this_defined depth is = record {
      same = λ out diagnostics captures references.
          pushed.same out diagnostics captures references
          ∙ ap (λ (d : rules.LocalDefinition). push_in_frame (limits_of limits out diagnostics) place d (stack (buffers out diagnostics locals frames captures references) st)) is;
      fit = pushed.fit;
    }

pub frame_full : {locals frames : List ℕ} {limits : Limits} {st : AnalysisStack} {place name span depth : ℕ} → 0 < st.frames → 65535 ≤ number frames (st.frames - 1) 2
    → DefinedNew (Err (refuses reason.TooManyNames place)) locals locals frames frames limits st place name span depth
frame_full {locals} {frames} {limits} {st} {place} {name} {span} {depth} is_open full = record {
  same = λ out diagnostics captures references free.
      let b = buffers out diagnostics locals frames captures references in
      sym (defines_full (limits_of limits out diagnostics) place (stack b st) name (span_of span) depth free (omega (arith, locals_of_top b st is_open)));
  fit = λ out diagnostics captures references fit. tt;
}
