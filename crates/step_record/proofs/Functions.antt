-- Laws of a function's record: output taken back, and what the record tells. Assumes nothing.
use Prim.Native.Nat.{ℕ, ◌≤◌, ◌<◌}
use mathlib.Core.Bool.{Bool, true, false}
use mathlib.Core.List.{List, [], ◌∷◌, ◌++◌}
use mathlib.Core.Path.{◌≡◌, refl, sym, ap, ◌∙◌}
use native.Mathlib.Omega.{arith}
use lib.ListN.{length, take}
use lib.Seq.{length-take-le, take_all, take-take}
use Rattle.rules.specs.Outcome.{Outcome, ok, refuse, ◌>>=◌, choose}
use Rattle.rules.specs.Numbers.{IY, FN, code, mark_bytes}
use Rattle.rules.specs.Records.{Span}
use Rattle.rules.specs.State as rules
use Rattle.rules.specs.Writing as writing
use Rattle.rules.specs.Walk as walk
use Rattle.state.specs.Seen.{span_of, buffers, stack, seen, limits_of}
use Rattle.state.specs.Walks.{naming_of}
use Rattle.state.specs.declared.AnalysisStack.{AnalysisStack}
use Rattle.state.specs.declared.Limits.{Limits}
use Rattle.state.specs.declared.Naming.{Naming}
use Rattle.state.proofs.Changing.{out_to}
use Rattle.state.proofs.Fitting.{fit_back}
use Rattle.step_write.specs.Answers.{level_of, Emitted, Reported}
use Rattle.step_write.specs.declared.Level.TheVariants.{Warning}
use Rattle.step_write.proofs.Laws.{limits_same}
use Rattle.step_write.proofs.Emitting.{emitted_steps}
use Rattle.step_record.specs.Answers.{TakenBack, IdentityNamed, OtherNamed, FunctionNamed}
use Rattle.std.specs.Prelude.{Ok, Err}
use Rattle.refusal.specs.declared.Refusal.{Refusal}
use Rattle.refusal.specs.Meaning.{number_of}
use Rattle.state.specs.Seen.{Step}

-- Output taken back

module _ (st : AnalysisStack) (start : ℕ) where
  pub not_so_far : st.out ≤ start → TakenBack st st start
  unfolding stack rules.taken_back rules.with_out rules.with_sink
  not_so_far h = record {
    becomes = λ l b f. record {
      same = ap (λ bytes. rules.with_out bytes (stack b st)) (sym (take_all start (take st.out b.out) (omega (arith, length-take-le st.out b.out f.out_long))));
      fit = f;
    };
  }

  pub so_far : start < st.out → TakenBack (out_to start st) st start
  unfolding stack rules.taken_back rules.with_out rules.with_sink
  so_far h = record {
    becomes = λ l b f. record {
      same = ap (λ bytes. rules.with_out bytes (stack b st)) (sym (take-take start st.out b.out (omega arith)));
      fit = fit_back f (omega arith);
    };
  }

-- The record

module _ (limits : rules.Limits) (place : ℕ) (span : Span) (start kept : ℕ) (naming : walk.Naming) (S : rules.AnalysisStack) where
  goes_on : (T : rules.AnalysisStack) → ok T ≡ writing.report limits place writing.warning 10 0 (walk.naming_span naming span) S
      → walk.finish_function limits place span start kept naming true S ≡ writing.emit limits place IY [] (rules.taken_back start T)
  unfolding walk.finish_function choose ◌>>=◌
  goes_on T e = ap (λ (o : Outcome rules.AnalysisStack). o >>= λ st. writing.emit limits place IY [] (rules.taken_back start st)) (sym e)

  stops : (number at : ℕ) → refuse number at ≡ writing.report limits place writing.warning 10 0 (walk.naming_span naming span) S
      → walk.finish_function limits place span start kept naming true S ≡ refuse number at
  unfolding walk.finish_function choose ◌>>=◌
  stops number at e = ap (λ (o : Outcome rules.AnalysisStack). o >>= λ st. writing.emit limits place IY [] (rules.taken_back start st)) (sym e)

module _ (out : List ℕ) {diagnostics diagnostics' : List ℕ} (st : AnalysisStack) (place span start : ℕ) (naming : Naming) {shown : ℕ}
    (shows : span_of shown ≡ walk.naming_span (naming_of naming) (span_of span)) {r₁ : Step}
    (reported : Reported r₁ diagnostics diagnostics' st place Warning 10 0 shown) where
  reported_is : (l : Limits) (ls fs cs rs : List ℕ) (limits : rules.Limits) → limits ≡ limits_of l out diagnostics
      → seen r₁ (buffers out diagnostics' ls fs cs rs)
      ≡ writing.report limits place writing.warning 10 0 (walk.naming_span (naming_of naming) (span_of span)) (stack (buffers out diagnostics ls fs cs rs) st)
  unfolding level_of
  reported_is l ls fs cs rs limits at =
      reported.same l out ls fs cs rs
      ∙ ap (λ (k : rules.Limits). writing.report k place writing.warning 10 0 (span_of shown) (stack (buffers out diagnostics ls fs cs rs) st)) (sym at)
      ∙ ap (λ (s : Span). writing.report limits place writing.warning 10 0 s (stack (buffers out diagnostics ls fs cs rs) st)) shows

  pub identity_refused : {why : Refusal} → r₁ ≡ Err why → IdentityNamed (Err why) out out diagnostics diagnostics' st place span start naming
  identity_refused {why} is = record {
    steps = λ kept l ls fs cs rs f. record {
      same = λ limits at.
          sym (stops limits place (span_of span) start kept (naming_of naming) (stack (buffers out diagnostics ls fs cs rs) st) (number_of why.reason) why.place (rw is at (reported_is l ls fs cs rs limits at)));
      fit = tt;
    };
  }

  pub identity_named : {st₁ st₂ : AnalysisStack} {out' : List ℕ} {r : Step} → r₁ ≡ Ok st₁ → length diagnostics' ≡ length diagnostics → TakenBack st₂ st₁ start
      → Emitted r out out' st₂ place (0x49 ∷ 0x59 ∷ []) [] → IdentityNamed r out out' diagnostics diagnostics' st place span start naming
  unfolding mark_bytes code
  identity_named {st₁} {st₂} {out'} {r} is size taken emitted = record {
    steps = λ kept l ls fs cs rs f.
        let b₁ = buffers out diagnostics' ls fs cs rs in
        let became = taken.becomes l b₁ (rw is at (reported.fit l out ls fs cs rs f)) in
        let wrote = emitted_steps emitted IY refl l diagnostics' ls fs cs rs became.fit in
        record {
          same = λ limits at.
              wrote.same limits (at ∙ sym (limits_same l out out diagnostics diagnostics' refl size))
              ∙ ap (writing.emit limits place IY []) became.same
              ∙ sym (goes_on limits place (span_of span) start kept (naming_of naming) (stack (buffers out diagnostics ls fs cs rs) st) (stack b₁ st₁)
              (rw is at (reported_is l ls fs cs rs limits at)));
          fit = wrote.fit;
        };
  }

pub other_named : {r : Step} {out out' : List ℕ} {st : AnalysisStack} {place : ℕ} {ns : List ℕ} (kept : ℕ) (naming : Naming)
    → Emitted r out out' st place (0x46 ∷ 0x4e ∷ []) ns → ns ≡ walk.naming_numbers (naming_of naming) ++ (kept ∷ []) → OtherNamed r out out' st place kept naming
unfolding walk.finish_function choose mark_bytes code
other_named {r} {out} {out'} {st} {place} {ns} kept naming emitted numbered = record {
  steps = λ span start l ds ls fs cs rs f.
      let wrote = emitted_steps emitted FN refl l ds ls fs cs rs f in
      record {
        same = λ limits at.
            wrote.same limits at ∙ ap (λ (k : List ℕ). writing.emit limits place FN k (stack (buffers out ds ls fs cs rs) st)) numbered;
        fit = wrote.fit;
      };
}

module _ {r : Step} {out out' diagnostics : List ℕ} {st : AnalysisStack} {place : ℕ} (span start kept : ℕ) {naming : Naming} {gives : Bool} where
  pub by_identity : {diagnostics' : List ℕ} → gives ≡ true → IdentityNamed r out out' diagnostics diagnostics' st place span start naming
      → FunctionNamed r out out' diagnostics diagnostics' st place span start kept naming gives
  by_identity is named = rw is record { steps = named.steps kept }

  pub by_other : gives ≡ false → OtherNamed r out out' st place kept naming → FunctionNamed r out out' diagnostics diagnostics st place span start kept naming gives
  by_other is named = rw is record { steps = λ l ls fs cs rs f. named.steps span start l diagnostics ls fs cs rs f }
