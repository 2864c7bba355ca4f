-- What a record after the bytes that were used means: the rules' state with one record more, or a refusal. Assumes nothing.
use Prim.Native.Nat.{ℕ, ◌+◌, ◌≤◌, ◌<◌}
use mathlib.Core.Bool.{Bool, true, false, ◌||◌}
use mathlib.Core.List.{List, [], ◌∷◌, ◌++◌, append_assoc}
use mathlib.Core.Path.{◌≡◌, refl, sym, ap, ◌∙◌}
use native.Mathlib.Decide.{dec_lt}
use native.Mathlib.Omega.{arith}
use borrow.Author.Tests.{le-leb, lt-leb}
use lib.ListN.{length, take, drop, get_or, length-append}
use lib.Seq.{length-take-le, take_at, take_all}
use lib.Dec.{leb}
use Rattle.rules.specs.Outcome.{Outcome, ok, refuse, ◌>>=◌, need}
use Rattle.rules.specs.Numbers.{Mark, BL, code, mark_bytes, numbers_bytes, record_bytes}
use Rattle.rules.specs.Records.{Span, span_numbers}
use Rattle.rules.specs.State as rules_state
use Rattle.rules.specs.Writing as rules_writing
use Rattle.bytes_write.specs.Put.{put, Put}
use Rattle.std.specs.Prelude.{Option, Some, None}
use Rattle.state.specs.Seen.{buffers, stack, seen, limits_of, span_of}
use Rattle.state.specs.declared.AnalysisStack.{AnalysisStack}
use Rattle.state.specs.declared.Limits.{Limits}
use Rattle.step_write.specs.Answers.{level_of, Behind, Emitted, Reported, BadPlace}
use Rattle.state.proofs.Changing.{out_to, diagnostics_to}
use Rattle.state.proofs.Fitting.{fit_beside}
use Rattle.step_write.specs.declared.Level.{Level}
use Rattle.step_write.specs.declared.Level.TheVariants.{Error}
use Rattle.std.specs.Prelude.{Ok, Err}
use Rattle.refusal.specs.declared.Refusal.{Refusal}
use Rattle.refusal.specs.Meaning.{refuses, number_of}
use Rattle.refusal.specs.declared.Reason.TheVariants as reason
use Rattle.state.specs.Seen.{Step}

-- Bytes after those that were used

-- a record that was put stands after them
pub put_behind : (r : Option ℕ) (before after : List ℕ) (used : ℕ) (bytes : List ℕ) → Put r before after used bytes → Behind r before after used bytes
unfolding put
put_behind (Some next) before after used bytes p =
    let within : used ≤ length before = omega (arith, p.0, p.1) in
    let long : length (take used before ++ bytes) ≡ next = length-append (take used before) bytes ∙ omega (arith, length-take-le used before within, p.0) in
    (p.0, p.1, ap (take next) p.2 ∙ take_at (take used before ++ bytes) (drop (used + length bytes) before) next long)
put_behind None before after used bytes p = p.0

-- what stands after the bytes that stand after those that were used
pub behind_more : (r : Option ℕ) (before middle after : List ℕ) (used next : ℕ) (bytes more : List ℕ) → length middle ≡ length before
    → Behind (Some next) before middle used bytes → Behind r middle after next more → Behind r before after used (bytes ++ more)
behind_more (Some end) before middle after used next bytes more long p q = (
  omega (arith, p.0, q.0, length-append bytes more),
  omega (arith, q.1),
  q.2 ∙ ap (λ bs. bs ++ more) p.2 ∙ append_assoc (take used before) bytes more,
)
behind_more None before middle after used next bytes more long p q = omega (arith, p.0, q, length-append bytes more)

module _ (before after : List ℕ) (used : ℕ) (bytes : List ℕ) where
  -- where they stand there was room
  pub room : (next : ℕ) → Behind (Some next) before after used bytes → leb (length (take used before ++ bytes)) (length before) ≡ true
  room next p =
      le-leb (length (take used before ++ bytes)) (length before)
      (omega (arith, length-append (take used before) bytes, length-take-le used before (omega (arith, p.0, p.1)), p.0, p.1))

  -- and where they had none, there was none; nor is there any where more is used than there is
  pub no_room : 0 < length bytes → Behind None before after used bytes → leb (length (take used before ++ bytes)) (length before) ≡ false
  no_room some p =
      lt-leb (length (take used before ++ bytes)) (length before) (by (dec_lt (length before) used))
    where
      by : Dec (length before < used) → length before < length (take used before ++ bytes)
      by (yes past) = omega (arith, length-append (take used before) bytes, ap length (take_all used before (omega arith)))
      by (no le) = omega (arith, length-append (take used before) bytes, length-take-le used before (omega arith))

-- A test that passes, and one that doesn't

pub passes : {A : Type 0} (b : Bool) (number place : ℕ) (f : Unit {0} → Outcome A) → b ≡ true → (need b number place >>= f) ≡ f tt
unfolding ◌>>=◌ need
passes b number place f e = rw e refl

pub fails : {A : Type 0} (b : Bool) (number place : ℕ) (f : Unit {0} → Outcome A) → b ≡ false → (need b number place >>= f) ≡ refuse number place
unfolding ◌>>=◌ need
fails b number place f e = rw e refl

-- A record of the output

some_bytes : (m : Mark) (ns bytes : List ℕ) → bytes ≡ record_bytes m ns → 0 < length bytes
unfolding record_bytes mark_bytes
some_bytes m ns bytes e = omega (arith, ap length e)

module _ (before after : List ℕ) (st : AnalysisStack) (place : ℕ) (bytes ns : List ℕ) (m : Mark) (spelt : bytes ≡ record_bytes m ns)
    (l : Limits) (diagnostics locals frames captures references : List ℕ) where
  pub emit_wrote : (next : ℕ) → Behind (Some next) before after st.out bytes
      → seen (Ok (out_to next st)) (buffers after diagnostics locals frames captures references)
      ≡ rules_writing.emit (limits_of l before diagnostics) place m ns (stack (buffers before diagnostics locals frames captures references) st)
  unfolding rules_writing.emit limits_of stack rules_state.with_out rules_state.with_sink
  emit_wrote next p =
      rw (p.2, ← spelt)
      (sym (passes (leb (length (take st.out before ++ bytes)) (length before)) 9 place
      (λ _. ok (rules_state.with_out (take st.out before ++ bytes) (stack (buffers before diagnostics locals frames captures references) st)))
      (room before after st.out bytes next p)))

  pub emit_full : Behind None before after st.out bytes
      → refuse 9 place ≡ rules_writing.emit (limits_of l before diagnostics) place m ns (stack (buffers before diagnostics locals frames captures references) st)
  unfolding rules_writing.emit limits_of stack
  emit_full p =
      rw (← spelt)
      (sym (fails (leb (length (take st.out before ++ bytes)) (length before)) 9 place
      (λ _. ok (rules_state.with_out (take st.out before ++ bytes) (stack (buffers before diagnostics locals frames captures references) st)))
      (no_room before after st.out bytes (some_bytes m ns bytes spelt) p)))

module _ (before after : List ℕ) (st : AnalysisStack) (place : ℕ) (mark ns : List ℕ) where
  abbrev bytes : List ℕ
  bytes = get_or mark 0 0 ∷ get_or mark 1 0 ∷ numbers_bytes ns

  spells : (m : Mark) → get_or mark 0 0 ∷ get_or mark 1 0 ∷ [] ≡ mark_bytes m → bytes ≡ record_bytes m ns
  unfolding record_bytes
  spells m e = ap (λ bs. bs ++ numbers_bytes ns) e

  pub emitted_to : (next : ℕ) → length after ≡ length before → Put (Some next) before after st.out bytes
      → Emitted (Ok (out_to next st)) before after st place mark ns
  emitted_to next long p = record {
    same = λ m e l ds ls fs cs rs.
        emit_wrote before after st place bytes ns m (spells m e) l ds ls fs cs rs next (put_behind (Some next) before after st.out bytes p);
    fit = λ l ds ls fs cs rs fit.
        fit_beside fit (omega (arith, p.1)) fit.diagnostics_long;
  }

  pub emitted_nothing : Put None before after st.out bytes → Emitted (Err (refuses reason.OutputFull place)) before after st place mark ns
  emitted_nothing p = record {
    same = λ m e l ds ls fs cs rs.
        emit_full before after st place bytes ns m (spells m e) l ds ls fs cs rs (put_behind None before after st.out bytes p);
    fit = λ l ds ls fs cs rs h. tt;
  }

-- A diagnostic

module _ (before after : List ℕ) (st : AnalysisStack) (place : ℕ) (level : Level) (number code name span : ℕ)
    (numbered : number ≡ rules_writing.level_number (level_of level)) where
  abbrev diagnostic : List ℕ
  diagnostic = 0x44 ∷ 0x47 ∷ numbers_bytes (number ∷ code ∷ name ∷ span ∷ [])

  module _ (l : Limits) (out locals frames captures references : List ℕ) where
    abbrev whole : List ℕ
    whole = take st.diagnostics before ++ diagnostic

    abbrev S : rules_state.AnalysisStack
    S = stack (buffers out before locals frames captures references) st

    made : rules_state.AnalysisStack
    made =
        rules_state.with_sink (record {
          out = S.sink.out;
          diagnostics = whole;
          errored = S.sink.errored || rules_writing.is_error (level_of level);
          rounds = S.sink.rounds;
        }) S

    abbrev reported : Outcome rules_state.AnalysisStack
    reported = rules_writing.report (limits_of l out before) place (level_of level) code name (span_of span) S

    report_is : reported ≡ (need (leb (length whole) (length before)) 10 place >>= λ _. ok made)
    unfolding rules_writing.report limits_of stack record_bytes mark_bytes code span_numbers made
    report_is = rw (← numbered) refl

    report_wrote : (next : ℕ) (errored : Bool) → Behind (Some next) before after st.diagnostics diagnostic
        → st.errored || rules_writing.is_error (level_of level) ≡ errored
        → seen (Ok (diagnostics_to next errored st)) (buffers out after locals frames captures references) ≡ reported
    unfolding stack rules_state.with_sink made
    report_wrote next errored p e =
        rw (p.2, ← e)
        (sym (report_is ∙ passes (leb (length whole) (length before)) 10 place (λ _. ok made) (room before after st.diagnostics diagnostic next p)))

    report_full : Behind None before after st.diagnostics diagnostic → refuse 10 place ≡ reported
    report_full p =
        sym (report_is
        ∙ fails (leb (length whole) (length before)) 10 place (λ _. ok made) (no_room before after st.diagnostics diagnostic (omega arith) p))

  pub reported_to : (next : ℕ) (errored : Bool) → length after ≡ length before → Put (Some next) before after st.diagnostics diagnostic
      → st.errored || rules_writing.is_error (level_of level) ≡ errored
      → Reported (Ok (diagnostics_to next errored st)) before after st place level code name span
  reported_to next errored long p e = record {
    same = λ l out ls fs cs rs.
        report_wrote l out ls fs cs rs next errored (put_behind (Some next) before after st.diagnostics diagnostic p) e;
    fit = λ l out ls fs cs rs fit. fit_beside fit fit.out_long (omega (arith, p.1));
  }

  pub reported_nothing : Put None before after st.diagnostics diagnostic → Reported (Err (refuses reason.DiagnosticsFull place)) before after st place level code name span
  reported_nothing p = record {
    same = λ l out ls fs cs rs. report_full l out ls fs cs rs (put_behind None before after st.diagnostics diagnostic p);
    fit = λ l out ls fs cs rs h. tt;
  }

-- One step after another

-- the limits are those of any buffers as long
pub limits_same : (l : Limits) (out out' diagnostics diagnostics' : List ℕ) → length out' ≡ length out → length diagnostics' ≡ length diagnostics
    → limits_of l out' diagnostics' ≡ limits_of l out diagnostics
unfolding limits_of
limits_same l out out' diagnostics diagnostics' e d = rw (e, d) refl

module _ (limits : rules_state.Limits) (place code name : ℕ) (span : Span) (bad : ℕ) (S : rules_state.AnalysisStack) where
  then_written : (T : rules_state.AnalysisStack) → ok T ≡ rules_writing.report limits place rules_writing.error code name span S
      → rules_writing.bad_place limits place code name span bad S ≡ rules_writing.emit limits place BL (bad ∷ []) T
  unfolding rules_writing.bad_place ◌>>=◌
  then_written T e = rw (← e) refl

  then_refused : (number at : ℕ) → refuse number at ≡ rules_writing.report limits place rules_writing.error code name span S
      → rules_writing.bad_place limits place code name span bad S ≡ refuse number at
  unfolding rules_writing.bad_place ◌>>=◌
  then_refused number at e = rw (← e) refl

module _ (out diagnostics diagnostics' : List ℕ) (st : AnalysisStack) (place code name span bad : ℕ) where
  pub bad_written : (out' : List ℕ) (next : AnalysisStack) (r : Step) → length diagnostics' ≡ length diagnostics
      → Reported (Ok next) diagnostics diagnostics' st place Error code name span → Emitted r out out' next place (0x42 ∷ 0x4c ∷ []) (bad ∷ [])
      → BadPlace r out out' diagnostics diagnostics' st place code name span bad
  unfolding level_of mark_bytes code
  bad_written out' next r long reported emitted = record {
    same = λ l ls fs cs rs.
        emitted.same BL refl l diagnostics' ls fs cs rs
        ∙ ap (λ L. rules_writing.emit L place BL (bad ∷ []) (stack (buffers out diagnostics' ls fs cs rs) next)) (limits_same l out out diagnostics diagnostics' refl long)
        ∙ sym (then_written (limits_of l out diagnostics) place code name (span_of span) bad (stack (buffers out diagnostics ls fs cs rs) st)
        (stack (buffers out diagnostics' ls fs cs rs) next) (reported.same l out ls fs cs rs));
    fit = λ l ls fs cs rs h. emitted.fit l diagnostics' ls fs cs rs (reported.fit l out ls fs cs rs h);
  }

  pub bad_refused : (why : Refusal) → Reported (Err why) diagnostics diagnostics' st place Error code name span
      → BadPlace (Err why) out out diagnostics diagnostics' st place code name span bad
  unfolding level_of
  bad_refused why reported = record {
    same = λ l ls fs cs rs.
        sym (then_refused (limits_of l out diagnostics) place code name (span_of span) bad (stack (buffers out diagnostics ls fs cs rs) st) (number_of why.reason) why.place
        (reported.same l out ls fs cs rs));
    fit = λ l ls fs cs rs h. tt;
  }
