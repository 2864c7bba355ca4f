-- Laws of judging one local, and of the turns of judging all. Assumes nothing.
use Prim.Native.Nat.{ℕ, suc, ◌-◌, ◌≤◌, ◌<◌}
use mathlib.Core.Bool.{true, false}
use mathlib.Core.List.{List, [], ◌∷◌, ◌++◌, reverse}
use mathlib.Core.Path.{◌≡◌, refl, sym, ap, ◌∙◌}
use native.Mathlib.Omega.{arith}
use Rattle.std.specs.Prelude.{Some, None}
use Rattle.std.proofs.Math.Option.{Option, none, some}
use lib.Dec.{eqb}
use lib.ListN.{length, drop, drop_of_length-le}
use lib.Seq.{drop-append-le}
use Rattle.std.proofs.lemmas.List.{map-append, reverse-append}
use borrow.Author.Tests.{eq-eqb, ne_eqb}
use Rattle.rules.specs.Outcome.{Outcome, ok, refuse, ◌>>=◌, choose, given}
use Rattle.rules.specs.Numbers.{never}
use Rattle.rules.specs.Locals as rules_locals
use Rattle.rules.specs.State as rules
use Rattle.rules.specs.Writing as writing
use Rattle.rules.specs.Scoping as scoping
use Rattle.table_rows.specs.Rows.{row, rows}
use Rattle.value_local.specs.Meaning.{local, name_of}
use Rattle.table_locals.specs.Meaning.{local_of_row, locals_of}
use Rattle.value_local.specs.declared.LocalDefinition.{LocalDefinition}
use Rattle.table_locals.proofs.Laws.{length_locals, locals_at}
use Rattle.state.specs.Seen.{span_of, buffers, stack, limits_of, Fit}
use Rattle.state.specs.declared.AnalysisStack.{AnalysisStack}
use Rattle.state.specs.declared.Limits.{Limits}
use Rattle.step_write.specs.Answers.{level_of, Reported}
use Rattle.step_write.specs.declared.Level.TheVariants.{Warning}
use Rattle.step_write.proofs.Laws.{limits_same}
use Rattle.step_locals.specs.Answers.{FirstInFrame}
use Rattle.step_judge.specs.Answers.{judge_one, Judged, judge_frame, JudgedAll}
use Rattle.std.specs.Prelude.{Ok, Err}
use Rattle.refusal.specs.declared.Refusal.{Refusal}
use Rattle.refusal.specs.Meaning.{number_of}
use Rattle.state.specs.Seen.{Step}

-- One local

module _ (st : AnalysisStack) (place : ℕ) (d : LocalDefinition) (diagnostics : List ℕ) where
  pub judged_unnamed : d.name ≡ None → Judged (Ok st) diagnostics diagnostics st place d
  unfolding judge_one local name_of given
  judged_unnamed e = record { steps = λ l out ls fs cs rs f. record { same = λ limits at. rw e refl; fit = f } }

  is_used : (d.used_at_depth ≡ 4294967295 → ⊥) → eqb (local d).used_at_depth never ≡ false
  unfolding local
  is_used h = ne_eqb _ _ h

  module _ (name : ℕ) (e : d.name ≡ Some name) where
    by_name : (limits : rules.Limits) (S : rules.AnalysisStack) → judge_one limits place (local d) S ≡ scoping.judge limits place name (local d) S
    unfolding judge_one local name_of given
    by_name limits S = rw e refl

    module _ {r : Step} {diagnostics' : List ℕ} where
      warned : (code : ℕ) → Reported r diagnostics diagnostics' st place Warning code name d.span
          → ((limits : rules.Limits) (S : rules.AnalysisStack)
          → scoping.judge limits place name (local d) S ≡ writing.report limits place writing.warning code name (span_of d.span) S)
          → Judged r diagnostics diagnostics' st place d
      unfolding level_of
      warned code reported warns = record {
        steps = λ l out ls fs cs rs f. record {
          same = λ limits at.
              reported.same l out ls fs cs rs
              ∙ ap (λ (k : rules.Limits). writing.report k place writing.warning code name (span_of d.span) (stack (buffers out diagnostics ls fs cs rs) st)) (sym at)
              ∙ sym (by_name limits (stack (buffers out diagnostics ls fs cs rs) st) ∙ warns limits (stack (buffers out diagnostics ls fs cs rs) st));
          fit = reported.fit l out ls fs cs rs f;
        };
      }

      pub judged_sibling : d.used_at_depth ≡ 4294967295 → d.used_by_sibling ≡ true → Reported r diagnostics diagnostics' st place Warning 8 name d.span → Judged r diagnostics diagnostics' st place d
      unfolding scoping.judge local choose
      judged_sibling unused sibling reported = warned 8 reported (λ limits S. rw (eq-eqb _ _ unused, sibling) refl)

      pub judged_unused : d.used_at_depth ≡ 4294967295 → d.used_by_sibling ≡ false → Reported r diagnostics diagnostics' st place Warning 7 name d.span → Judged r diagnostics diagnostics' st place d
      unfolding scoping.judge local choose
      judged_unused unused sibling reported = warned 7 reported (λ limits S. rw (eq-eqb _ _ unused, sibling) refl)

      pub judged_hoisted : (d.used_at_depth ≡ 4294967295 → ⊥) → scoping.could_be_hoisted (local d) ≡ true → Reported r diagnostics diagnostics' st place Warning 9 name d.span → Judged r diagnostics diagnostics' st place d
      unfolding scoping.judge choose local
      judged_hoisted used hoisted reported = warned 9 reported (λ limits S. rw (is_used used, hoisted) refl)

  -- with a name or with none
  none_warns : (name : Option ℕ) → (d.used_at_depth ≡ 4294967295 → ⊥) → scoping.could_be_hoisted (local d) ≡ false → (limits : rules.Limits) (S : rules.AnalysisStack)
      → given name (λ _. ok S) (λ n. scoping.judge limits place n (local d) S) ≡ ok S
  unfolding given scoping.judge choose
  none_warns none used hoisted limits S = refl
  none_warns (some n) used hoisted limits S = rw (is_used used, hoisted) refl

  pub judged_fine : (d.used_at_depth ≡ 4294967295 → ⊥) → scoping.could_be_hoisted (local d) ≡ false → Judged (Ok st) diagnostics diagnostics st place d
  unfolding judge_one
  judged_fine used hoisted = record {
    steps = λ l out ls fs cs rs f. record {
      same = λ limits at. sym (none_warns (local d).name used hoisted limits (stack (buffers out diagnostics ls fs cs rs) st));
      fit = f;
    };
  }

-- All, the last first

-- what is left of the frame's locals, the last first
abbrev left_of : (first left : ℕ) → (locals : List ℕ) → List rules_locals.LocalDefinition
left_of first left locals = reverse (drop first (locals_of left locals))

one_more : (n : ℕ) (t : List ℕ) → locals_of (suc n) t ≡ locals_of n t ++ (local_of_row (row n t) ∷ [])
unfolding locals_of rows
one_more n t = map-append local_of_row (rows n t) (row n t ∷ [])

last_first : (first left : ℕ) (t : List ℕ) → first < left → left_of first left t ≡ local_of_row (row (left - 1) t) ∷ left_of first (left - 1) t
last_first first left t more =
    let one_less : left ≡ suc (left - 1) = omega arith in
    let within : first ≤ length (locals_of (left - 1) t) = omega (arith, length_locals (left - 1) t) in
    ap (λ (n : ℕ). left_of first n t) one_less
    ∙ ap (λ ls. reverse (drop first ls)) (one_more (left - 1) t)
    ∙ ap reverse (drop-append-le first (locals_of (left - 1) t) _ within)
    ∙ reverse-append (drop first (locals_of (left - 1) t)) _

none_left : (first left : ℕ) (t : List ℕ) → left ≤ first → left_of first left t ≡ []
none_left first left t h = let past : length (locals_of left t) ≤ first = omega (arith, length_locals left t) in ap reverse (drop_of_length-le (locals_of left t) past)

module _ (limits : rules.Limits) (place : ℕ) (d : rules_locals.LocalDefinition) (ds : List rules_locals.LocalDefinition) (S : rules.AnalysisStack) where
  goes_on : (T : rules.AnalysisStack) → ok T ≡ judge_one limits place d S → scoping.judge_all limits place (d ∷ ds) S ≡ scoping.judge_all limits place ds T
  unfolding scoping.judge_all judge_one ◌>>=◌
  goes_on T e = ap (λ (o : Outcome rules.AnalysisStack). o >>= λ st. scoping.judge_all limits place ds st) (sym e)

  stops : (number at : ℕ) → refuse number at ≡ judge_one limits place d S → scoping.judge_all limits place (d ∷ ds) S ≡ refuse number at
  unfolding scoping.judge_all judge_one ◌>>=◌
  stops number at e = ap (λ (o : Outcome rules.AnalysisStack). o >>= λ st. scoping.judge_all limits place ds st) (sym e)

-- with so many locals left, and st and the diagnostics as they are now: judging those that are left gives what judging all gives
pub record Judging (diagnostics₀ locals frames : List ℕ) (place first : ℕ) (st₀ : AnalysisStack) (diagnostics : List ℕ) (st : AnalysisStack) (left : ℕ) : Type 0 where
  pub within : left ≤ st₀.locals
  pub size : length diagnostics ≡ length diagnostics₀
  pub fit : (l : Limits) (out captures references : List ℕ) → Fit l (buffers out diagnostics₀ locals frames captures references) st₀
      → Fit l (buffers out diagnostics locals frames captures references) st
  pub same : (l : Limits) (out captures references : List ℕ) → Fit l (buffers out diagnostics₀ locals frames captures references) st₀
      → (limits : rules.Limits) → limits ≡ limits_of l out diagnostics₀
      → scoping.judge_all limits place (left_of first left locals) (stack (buffers out diagnostics locals frames captures references) st)
      ≡ judge_frame limits place (stack (buffers out diagnostics₀ locals frames captures references) st₀)

pub judging_begins : {diagnostics locals frames : List ℕ} {first : ℕ} {st : AnalysisStack} (place : ℕ) → FirstInFrame first frames st
    → Judging diagnostics locals frames place first st diagnostics st st.locals
unfolding judge_frame scoping.frame_locals stack
judging_begins {diagnostics} {locals} {frames} {first} {st} place is_first = record {
  within = omega arith;
  size = refl;
  fit = λ l out cs rs f. f;
  same = λ l out cs rs f limits at.
      ap (λ (k : ℕ). scoping.judge_all limits place (reverse (drop k (locals_of st.locals locals))) (stack (buffers out diagnostics locals frames cs rs) st))
      (is_first.same out diagnostics locals cs rs);
}

module _ {diagnostics₀ locals frames : List ℕ} {place first : ℕ} {st₀ : AnalysisStack} {diagnostics : List ℕ} {st : AnalysisStack} {left : ℕ}
    (now : Judging diagnostics₀ locals frames place first st₀ diagnostics st left) where
  pub judging_ends : left ≤ first → JudgedAll (Ok st) diagnostics₀ diagnostics locals frames st₀ place
  unfolding scoping.judge_all
  judging_ends h = record {
    steps = λ l out cs rs f. record {
      same = λ limits at. rw (none_left first left locals h) at (now.same l out cs rs f limits at);
      fit = now.fit l out cs rs f;
    };
  }

  module _ (more : first < left) (d : LocalDefinition) (is_last : (n : ℕ) → left - 1 < n → local d ≡ rules_locals.local_at (locals_of n locals) (left - 1)) where
    is_row : local d ≡ local_of_row (row (left - 1) locals)
    is_row = let h : left - 1 < left = omega arith in is_last left h ∙ locals_at left (left - 1) locals h

    split : left_of first left locals ≡ local d ∷ left_of first (left - 1) locals
    split = last_first first left locals more ∙ ap (λ x. x ∷ left_of first (left - 1) locals) (sym is_row)

    module _ (l : Limits) (out : List ℕ) (limits : rules.Limits) (at : limits ≡ limits_of l out diagnostics₀) where
      limits_now : limits ≡ limits_of l out diagnostics
      limits_now = at ∙ sym (limits_same l out out diagnostics₀ diagnostics refl now.size)

    pub judging_goes_on : {r : Step} {diagnostics' : List ℕ} {next : AnalysisStack} → r ≡ Ok next → length diagnostics' ≡ length diagnostics → Judged r diagnostics diagnostics' st place d
        → Judging diagnostics₀ locals frames place first st₀ diagnostics' next (left - 1)
    judging_goes_on {r} {diagnostics'} {next} is size whole = let judged = rw is at whole in record {
      within = omega (arith, now.within);
      size = size ∙ now.size;
      fit = λ l out cs rs f. (judged.steps l out locals frames cs rs (now.fit l out cs rs f)).fit;
      same = λ l out cs rs f limits at.
          sym (goes_on limits place (local d) (left_of first (left - 1) locals) (stack (buffers out diagnostics locals frames cs rs) st) (stack (buffers out diagnostics' locals frames cs rs) next)
          ((judged.steps l out locals frames cs rs (now.fit l out cs rs f)).same limits (limits_now l out limits at)))
          ∙ ap (λ ds. scoping.judge_all limits place ds (stack (buffers out diagnostics locals frames cs rs) st)) (sym split)
          ∙ now.same l out cs rs f limits at;
    }

    pub judging_stops : {r : Step} {diagnostics' : List ℕ} {why : Refusal} → r ≡ Err why → Judged r diagnostics diagnostics' st place d
        → JudgedAll r diagnostics₀ diagnostics' locals frames st₀ place
    judging_stops {r} {diagnostics'} {why} is whole = let judged = rw is at whole in rw is record {
      steps = λ l out cs rs f. record {
        same = λ limits at.
            sym (stops limits place (local d) (left_of first (left - 1) locals) (stack (buffers out diagnostics locals frames cs rs) st) (number_of why.reason) why.place
            ((judged.steps l out locals frames cs rs (now.fit l out cs rs f)).same limits (limits_now l out limits at)))
            ∙ ap (λ ds. scoping.judge_all limits place ds (stack (buffers out diagnostics locals frames cs rs) st)) (sym split)
            ∙ now.same l out cs rs f limits at;
        fit = tt;
      };
    }
