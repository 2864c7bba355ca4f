-- A spec that is kept or dropped is the rules' `recorded`, and after a frame that closes it is `closed_spec`. Assumes nothing.
use Prim.Native.Nat.{ℕ, suc, ◌+◌, ◌≤◌, ◌<◌}
use mathlib.Core.Bool.{Bool, true, false, false≢true}
use mathlib.Core.List.{List, [], ◌∷◌}
use mathlib.Core.Path.{◌≡◌, refl, sym, ap, ◌∙◌}
use native.Mathlib.Decide.{dec_lt}
use native.Mathlib.Numerals.{add-one}
use native.Mathlib.Omega.{arith}
use lib.ListN.{length, take, drop, length-append, length-map, length-take, take-append-drop, get_or-eq_default}
use lib.Seq.{length-take-le, take-take}
use Rattle.rules.specs.Outcome.{Outcome, ok, refuse, ◌>>=◌, choose}
use Rattle.rules.specs.Numbers.{Mark, BV, PA, SH, code, mark_bytes, record_bytes}
use Rattle.rules.specs.Depths as depths
use Rattle.rules.specs.Frames.{ClosureFrame, top, beneath}
use Rattle.rules.specs.Locals.{LocalDefinition, no_local, new_local, local_at, passed_on, without_notes, with_scratch_referenced}
use Rattle.rules.specs.State as rules
use Rattle.rules.specs.Writing as writing
use Rattle.rules.specs.Scoping as scoping
use Rattle.rules.proofs.After.{After, fine, after_ok, after_bind, after_need}
use Rattle.rules.proofs.Outcomes.{bind_assoc}
use Rattle.law_runs.specs.Steps.{recorded, closed_spec}
use Rattle.value_depths.specs.Meaning.{result_of}
use Rattle.value_depths.specs.declared.AnalysisResult.{AnalysisResult}
use Rattle.table_locals.proofs.Laws.{length_locals}
use Rattle.table_rows.specs.Entries.{number}
use Rattle.state.specs.Seen.{Buffers, buffers, stack, limits_of, Fit}
use Rattle.state.specs.declared.AnalysisStack.{AnalysisStack}
use Rattle.state.specs.declared.Limits.{Limits}
use Rattle.state.proofs.Changing.{out_to, taint_to}
use Rattle.state.proofs.Fitting.{fit_values, fit_back}
use Rattle.step_write.specs.Answers.{Emitted}
use Rattle.step_frame.specs.Answers.{FrameClosed}
use Rattle.step_write.proofs.Laws.{limits_same}
use Rattle.step_locals.specs.Answers.{FirstInFrame}
use Rattle.step_retain.specs.Answers.{Keepable, IsKept, SetAnalysis, KeptReferences}
use Rattle.table_references.proofs.Keeping.{length_references}
use Rattle.resolver.proofs.Laws.{length_frames}
use Rattle.step_spec.specs.Answers.{spec_mark, spec_numbers, kept_spec, OuterTainted, SpecDropped, SpecWritten, SpecKept, Counted, SpecRecorded, SpecClosed}
use Rattle.step_spec.specs.declared.Spec.{Spec}
use Rattle.step_spec.specs.declared.Spec.TheVariants.{Bind, Param}
use Rattle.std.specs.Prelude.{Ok, Err}
use Rattle.refusal.specs.declared.Refusal.{Refusal}
use Rattle.refusal.specs.Meaning.{number_of}
use Rattle.state.specs.Seen.{Step, Specs}

-- What encloses the value, and the output taken back

pub outer_tainted : (st : AnalysisStack) (outer taint : AnalysisResult) → result_of taint ≡ depths.taint_by (result_of outer) (result_of st.taint)
    → OuterTainted (taint_to taint st) st outer
unfolding stack scoping.taint_outer rules.with_taint
outer_tainted st outer taint taints = record {
  same = λ b. ap (λ (a : depths.AnalysisResult). rules.with_taint a (stack b st)) taints;
  fit = λ l b f. fit_values f;
  written = refl;
}

pub spec_dropped : (st : AnalysisStack) (start : ℕ) → start ≤ st.out → SpecDropped (out_to start st) st start
unfolding stack scoping.drop_spec scoping.frame_locals passed_on rules.taken_back rules.with_out rules.with_sink rules.with_locals
spec_dropped st start le = record {
  becomes = λ l b f. record {
    same =
        let S = stack b st in
        ap (λ (o : List ℕ). rules.with_out o S) (sym (take-take start st.out b.out le))
        ∙ ap (λ (ls : List LocalDefinition). rules.taken_back start (rules.with_locals ls S)) (sym (take-append-drop (scoping.first_in_frame S) S.locals));
    fit = fit_back f le;
  };
}

-- A spec's record

module _ (r : Step) (out out' : List ℕ) (st : AnalysisStack) (place : ℕ) (spec : Spec) (slot : ℕ) where
  pub bind_written : spec ≡ Bind → Emitted r out out' st place (0x42 ∷ 0x56 ∷ []) (slot ∷ []) → SpecWritten r out out' st place spec slot
  unfolding spec_mark spec_numbers mark_bytes code
  bind_written e emitted = rw e (record { same = λ l ds ls fs cs rs. emitted.same BV refl l ds ls fs cs rs; fit = emitted.fit })

  pub param_written : (name flag : ℕ) → spec ≡ Param name flag → Emitted r out out' st place (0x50 ∷ 0x41 ∷ []) (name ∷ slot ∷ flag ∷ []) → SpecWritten r out out' st place spec slot
  unfolding spec_mark spec_numbers mark_bytes code
  param_written name flag e emitted = rw e (record { same = λ l ds ls fs cs rs. emitted.same PA refl l ds ls fs cs rs; fit = emitted.fit })

-- A spec that is kept

-- keeping references leaves as many locals
module _ (limits : rules.Limits) (place id : ℕ) (S : rules.AnalysisStack) where
  as_many : After (λ T. length T.locals ≡ length S.locals) (scoping.keep_references limits place id S)
  unfolding scoping.keep_references scoping.frame_locals without_notes rules.with_references rules.with_locals
  as_many = after_need _ 17 place _ (λ _. fine (
      length-append (take (scoping.first_in_frame S) S.locals) _
      ∙ ap (λ (n : ℕ). length (take (scoping.first_in_frame S) S.locals) + n) (length-map (drop (scoping.first_in_frame S) S.locals) (with_scratch_referenced false))
      ∙ sym (length-append (take (scoping.first_in_frame S) S.locals) (drop (scoping.first_in_frame S) S.locals))
      ∙ ap length (take-append-drop (scoping.first_in_frame S) S.locals)))

  module _ (outer : depths.AnalysisResult) (m : Mark) (ns : List ℕ) where
    then_kept : (T : rules.AnalysisStack) → ok T ≡ scoping.keep_references limits place id S
        → kept_spec limits place id outer m ns S ≡ writing.emit limits place m ns (scoping.taint_outer outer (scoping.set_analysis id T))
    unfolding kept_spec ◌>>=◌
    then_kept T e = rw (← e) refl

    then_not : (number at : ℕ) → refuse number at ≡ scoping.keep_references limits place id S → kept_spec limits place id outer m ns S ≡ refuse number at
    unfolding kept_spec ◌>>=◌
    then_not number at e = rw (← e) refl

module _ (locals locals₁ references references' frames : List ℕ) (limits : Limits) (st : AnalysisStack) (place id : ℕ) (noted : Step)
    (kept : KeptReferences noted locals locals₁ references references' frames limits st place id) where
  module _ (after : AnalysisStack) (goes : noted ≡ Ok after) where
    pub locals_stay : after.locals ≡ st.locals
    unfolding stack
    locals_stay =
        let k = rw goes at kept in
        sym (length_locals after.locals locals₁)
        ∙ after_ok (as_many (limits_of limits [] []) place id (stack (buffers [] [] locals frames [] references) st)) (sym (k.same [] [] []))
        ∙ length_locals st.locals locals

    pub spec_kept : (out out' locals' : List ℕ) (slot : ℕ) (outer : AnalysisResult) (spec : Spec) (analysed tainted : AnalysisStack) (r : Step)
        → SetAnalysis analysed locals₁ locals' after id → OuterTainted tainted analysed outer → SpecWritten r out out' tainted place spec slot
        → SpecKept r out out' locals locals' references references' frames limits st place id slot outer spec
    spec_kept out out' locals' slot outer spec analysed tainted r sets taints written =
        let k = rw goes at kept in
        record {
          same = λ ds cs.
              written.same limits ds locals' frames cs references'
              ∙ ap (writing.emit (limits_of limits out ds) place (spec_mark spec) (spec_numbers spec slot))
              (taints.same (buffers out ds locals' frames cs references') ∙ ap (scoping.taint_outer (result_of outer)) (sets.same out ds frames cs references'))
              ∙ sym (then_kept (limits_of limits out ds) place id (stack (buffers out ds locals frames cs references) st) (result_of outer) (spec_mark spec) (spec_numbers spec slot) _ (k.same out ds cs));
          fit = λ ds cs f.
              written.fit limits ds locals' frames cs references'
              (taints.fit limits (buffers out ds locals' frames cs references') (sets.fit limits out ds frames cs references' (k.fit out ds cs f)));
        }

  pub spec_not_kept : (out : List ℕ) (slot : ℕ) (outer : AnalysisResult) (spec : Spec) (why : Refusal) → noted ≡ Err why
      → SpecKept (Err why) out out locals locals₁ references references' frames limits st place id slot outer spec
  spec_not_kept out slot outer spec why goes =
      let k = rw goes at kept in
      record {
        same = λ ds cs.
            sym (then_not (limits_of limits out ds) place id (stack (buffers out ds locals frames cs references) st) (result_of outer) (spec_mark spec) (spec_numbers spec slot) (number_of why.reason) why.place (k.same out ds cs));
        fit = λ ds cs f. tt;
      }

-- a state that fits is one from which a spec can be kept
pub keepable : {l : Limits} {b : Buffers} {st : AnalysisStack} → Fit l b st → Keepable l b.locals b.frames b.references st
keepable f = record {
  locals_long = omega (arith, f.locals_long, f.few_locals);
  frames_long = omega (arith, f.frames_long, f.few_frames);
  references_long = f.references_long;
  few_references = f.few_references;
  first_there = f.first_there;
}

-- An answer with the place after it and how many are kept

pub counted : {step : Step} {st : AnalysisStack} {next kept : ℕ} → step ≡ Ok st → Counted (Ok (st, next, kept)) step next kept
unfolding ◌>>=◌
counted e = rw e (record { same = λ b. refl; fit = λ l b f. f; few = omega arith })

pub not_counted : {step : Step} {why : Refusal} {next kept : ℕ} → step ≡ Err why → Counted (Err why) step next kept
unfolding ◌>>=◌
not_counted e = rw e (record { same = λ b. refl; fit = λ l b f. f; few = tt })

-- The rules' step

-- past the last local nothing is kept
is_kept_outside : (place next : ℕ) (S : rules.AnalysisStack) → length S.locals ≤ scoping.first_in_frame S + next → scoping.is_kept place next S ≡ false
unfolding scoping.is_kept scoping.is_at local_at no_local new_local
is_kept_outside place next S past = rw (get_or-eq_default S.locals no_local past) refl

long_locals : (b : Buffers) (st : AnalysisStack) → length (stack b st).locals ≡ st.locals
unfolding stack
long_locals b st = length_locals st.locals b.locals

-- what is kept has its local
pub kept_there : (locals frames : List ℕ) (st : AnalysisStack) (place next first : ℕ) (k : Bool) → IsKept k locals frames st place next → k ≡ true → FirstInFrame first frames st
    → first + next < st.locals
kept_there locals frames st place next first k is e starts = by (dec_lt (first + next) st.locals)
  where
    by : Dec (first + next < st.locals) → first + next < st.locals
    by (yes lt) = lt
    by (no past) =
        let b = buffers [] [] locals frames [] [] in
        absurd (false≢true (sym (is_kept_outside place next (stack b st) (omega (arith, long_locals b st, starts.same [] [] locals [] []))) ∙ sym (is.same [] [] [] []) ∙ e))

abbrev with_place : ℕ → ℕ × rules.AnalysisStack → Outcome (ℕ × (rules.AnalysisStack × ℕ))
with_place next x = ok (x.0, (x.1, next))

after_two : {A B C D : Type 0} (o : Outcome A) (f : A → Outcome B) (g : B → Outcome C) (h : C → Outcome D) → ((o >>= λ a. f a >>= g) >>= h) ≡ ((o >>= f) >>= λ b. g b >>= h)
unfolding ◌>>=◌
after_two (ok a) f g h = bind_assoc (f a) g h
after_two (refuse number place) f g h = refl

module _ (limits : rules.Limits) (place base kept start : ℕ) (outer : depths.AnalysisResult) (m : Mark) (numbers : ℕ → List ℕ) (next : ℕ) (S : rules.AnalysisStack) where
  abbrev step : Outcome (ℕ × (rules.AnalysisStack × ℕ))
  step = recorded limits place base kept start outer m numbers next S

  module _ (id : ℕ) (is : id ≡ scoping.first_in_frame S + (base + kept)) (kept_now : scoping.is_kept place (base + kept) S ≡ true) where
    keeps : step ≡ (kept_spec limits place id outer m (numbers (base + kept)) S >>= λ T. ok (suc kept, (T, next)))
    unfolding recorded scoping.record_spec_init choose kept_spec ◌>>=◌
    keeps = rw (kept_now, is) (after_two (scoping.keep_references limits place (scoping.first_in_frame S + (base + kept)) S)
        (λ T. writing.emit limits place m (numbers (base + kept)) (scoping.taint_outer outer (scoping.set_analysis (scoping.first_in_frame S + (base + kept)) T)))
        (λ U. ok (suc kept, U)) (with_place next))

  drops : scoping.is_kept place (base + kept) S ≡ false → step ≡ ok (kept, (scoping.drop_spec start (scoping.taint_outer outer S), next))
  unfolding recorded scoping.record_spec_init choose ◌>>=◌
  drops not_kept = rw not_kept refl

module _ (out locals references frames : List ℕ) (limits : Limits) (st : AnalysisStack) (place base kept start : ℕ) (outer : AnalysisResult) (spec : Spec) (next : ℕ)
    (k : Bool) (is_kept : IsKept k locals frames st place (base + kept)) where
  module _ (is : k ≡ true) (first : ℕ) (starts : FirstInFrame first frames st) (id : ℕ) (is_id : id ≡ first + (base + kept)) (out' locals' references' : List ℕ) (done : Step)
      (keeps_it : SpecKept done out out' locals locals' references references' frames limits st place id (base + kept) outer spec) where
    pub recorded_kept : (r : Specs) → Counted r done next (kept + 1)
        → SpecRecorded r out out' locals locals' references references' frames limits st place base kept start outer spec next
    recorded_kept r ends = record {
      walks = λ ds cs f. record {
        same = λ x e. rw e
            (ends.same (buffers out' ds locals' frames cs references')
            ∙ ap (λ (o : Outcome rules.AnalysisStack). o >>= λ T. ok (kept + 1, (T, next))) (keeps_it.same ds cs)
            ∙ ap (λ (n : ℕ). kept_spec (limits_of limits out ds) place id (result_of outer) (spec_mark spec) (spec_numbers spec (base + kept)) (stack (buffers out ds locals frames cs references) st) >>= λ T. ok (n, (T, next))) (add-one kept)
            ∙ sym (keeps (limits_of limits out ds) place base kept start (result_of outer) (spec_mark spec) (spec_numbers spec) next (stack (buffers out ds locals frames cs references) st)
            id (is_id ∙ ap (λ (n : ℕ). n + (base + kept)) (starts.same out ds locals cs references)) (sym (is_kept.same out ds cs references) ∙ is)));
        fit = ends.fit limits (buffers out' ds locals' frames cs references') (keeps_it.fit ds cs f);
      };
      few = ends.few;
    }

  pub recorded_dropped : k ≡ false → (tainted dropped : AnalysisStack) → OuterTainted tainted st outer → SpecDropped dropped tainted start
      → SpecRecorded (Ok (dropped, next, kept)) out out locals locals references references frames limits st place base kept start outer spec next
  recorded_dropped is tainted dropped taints drops_it = record {
    walks = λ ds cs f.
        let b = buffers out ds locals frames cs references in
        let it = drops_it.becomes limits b (taints.fit limits b f) in
        record {
          same = λ x e. rw e
              (ap (λ (S : rules.AnalysisStack). ok (kept, (S, next))) (it.same ∙ ap (scoping.drop_spec start) (taints.same b))
              ∙ sym (drops (limits_of limits out ds) place base kept start (result_of outer) (spec_mark spec) (spec_numbers spec) next (stack b st) (sym (is_kept.same out ds cs references) ∙ is)));
          fit = it.fit;
        };
    few = omega arith;
  }

-- After a frame that closes

-- as many locals and references as before, no more frames and no less output
pub record Leaves (S T : rules.AnalysisStack) : Type 0 where
  pub locals : length T.locals ≡ length S.locals
  pub references : length T.references ≡ length S.references
  pub frames : length T.frames ≤ length S.frames
  pub out : length S.sink.out ≤ length T.sink.out

fewer_frames : (fs : List ClosureFrame) → length (beneath fs) ≤ length fs
unfolding beneath
fewer_frames [] = omega arith
fewer_frames (f ∷ fs) = omega arith

closing_leaves : (limits : rules.Limits) (place : ℕ) (S : rules.AnalysisStack) → After (Leaves S) (writing.close_frame limits place S)
unfolding writing.close_frame writing.emit rules.with_frames rules.with_out rules.with_sink
closing_leaves limits place S =
    after_bind {P = λ T. (T.locals ≡ S.locals) × (T.references ≡ S.references) × (T.frames ≡ S.frames) × (length S.sink.out ≤ length T.sink.out)} _
    (after_need _ 9 place _ (λ _. fine (refl, refl, refl, omega (arith, length-append S.sink.out (record_bytes SH (writing.shape_numbers (top S.frames)))))))
    (λ T same. fine (record {
      locals = ap length same.0;
      references = ap length same.1;
      frames = omega (arith, fewer_frames T.frames, ap length same.2);
      out = same.3;
    }))

then_recorded : (limits : rules.Limits) (place base kept start : ℕ) (outer : depths.AnalysisResult) (m : Mark) (numbers : ℕ → List ℕ) (next : ℕ) (S T : rules.AnalysisStack)
    → ok T ≡ writing.close_frame limits place S
    → closed_spec limits place base kept start outer m numbers next S ≡ recorded limits place base kept start outer m numbers next T
unfolding closed_spec ◌>>=◌
then_recorded limits place base kept start outer m numbers next S T e = rw (← e) refl

then_stopped : (limits : rules.Limits) (place base kept start : ℕ) (outer : depths.AnalysisResult) (m : Mark) (numbers : ℕ → List ℕ) (next : ℕ) (S : rules.AnalysisStack) (number at : ℕ)
    → refuse number at ≡ writing.close_frame limits place S
    → closed_spec limits place base kept start outer m numbers next S ≡ refuse number at
unfolding closed_spec ◌>>=◌
then_stopped limits place base kept start outer m numbers next S number at e = rw (← e) refl

-- the same of the code's state: as many locals and references, no more frames, and the output reaches `start` at least
pub record Counts (st after : AnalysisStack) (start : ℕ) : Type 0 where
  pub locals : after.locals ≡ st.locals
  pub references : after.references ≡ st.references
  pub frames : after.frames ≤ st.frames
  pub out : start ≤ after.out

module _ (out out₁ frames captures captures' : List ℕ) (st : AnalysisStack) (place : ℕ) (c : Step) (closed : FrameClosed c out out₁ frames captures captures' st place) where
  pub counts_left : (l : Limits) (after : AnalysisStack) (start : ℕ) → c ≡ Ok after → start ≤ st.out → st.out ≤ length out → Counts st after start
  unfolding stack
  counts_left l after start goes before long =
      let k = rw goes at closed in
      let left = after_ok (closing_leaves (limits_of l out []) place (stack (buffers out [] [] frames captures []) st)) (sym (k.same l [] [] [])) in
      record {
        locals = omega (arith, left.locals, length_locals after.locals [], length_locals st.locals []);
        references = omega (arith, left.references, length_references after.references [], length_references st.references []);
        frames = omega (arith, left.frames, length_frames after.frames frames after.captures captures', length_frames st.frames frames st.captures captures);
        out = omega (arith, left.out, length-take-le st.out out long, length-take after.out out₁);
      }

  module _ (locals references : List ℕ) (limits : Limits) (base kept start : ℕ) (outer : AnalysisResult) (spec : Spec) (next : ℕ) where
    pub spec_closed : (after : AnalysisStack) (out' locals' references' : List ℕ) (r : Specs) → c ≡ Ok after → length out₁ ≡ length out
        → SpecRecorded r out₁ out' locals locals' references references' frames limits after place base kept start outer spec next
        → SpecClosed r out out' locals locals' references references' frames captures captures' limits st place base kept start outer spec next
    spec_closed after out' locals' references' r goes long ends =
        let k = rw goes at closed in
        record {
          walks = λ ds f.
              let w = ends.walks ds captures' (k.fit limits ds locals references f) in
              record {
                same = λ x e. rw e
                    (w.same (limits_of limits out ds) (sym (limits_same limits out out₁ ds ds long refl))
                    ∙ sym (then_recorded (limits_of limits out ds) place base kept start (result_of outer) (spec_mark spec) (spec_numbers spec) next
                    (stack (buffers out ds locals frames captures references) st) _ (k.same limits ds locals references)));
                fit = w.fit;
              };
          few = ends.few;
        }

    pub spec_stopped : (why : Refusal) → c ≡ Err why
        → SpecClosed (Err why) out out₁ locals locals references references frames captures captures' limits st place base kept start outer spec next
    spec_stopped why goes =
        let k = rw goes at closed in
        record {
          walks = λ ds f. record {
            same = λ x e. rw e
                (sym (then_stopped (limits_of limits out ds) place base kept start (result_of outer) (spec_mark spec) (spec_numbers spec) next
                (stack (buffers out ds locals frames captures references) st) (number_of why.reason) why.place (k.same limits ds locals references)));
            fit = tt;
          };
          few = tt;
        }
