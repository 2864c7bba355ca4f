-- What the steps ask of a walker that calls them, from what the walker itself was asked. Assumes nothing.
use Prim.Native.Nat.{ℕ, zero, suc, ◌+◌, ◌<◌, ◌≤◌}
use native.Mathlib.Omega.{arith}
use mathlib.Core.Bool.{Bool, not}
use mathlib.Core.List.{List}
use mathlib.Core.Path.{◌≡◌, refl, sym, ◌∙◌, ap, subst}
use lib.ListN.{length, length-take}
use lib.Dec.{eqb}
use borrow.Author.Tests.{ne_eqb}
use Rattle.rules.specs.Numbers.{number_at, is_set}
use Rattle.rules.specs.State as rules
use Rattle.rules.specs.Writing.{open_frame}
use Rattle.table_locals.proofs.Laws.{length_locals}
use Rattle.table_references.specs.Meaning.{references_of}
use Rattle.table_references.proofs.Keeping.{length_references}
use Rattle.settling.specs.Meaning.{Below}
use Rattle.law_steady.specs.Steady.{Sound}
use Rattle.law_runs.specs.Steps.{first_defaults}
use Rattle.state.specs.Seen.{Buffers, buffers, stack, Fit}
use Rattle.state.specs.Walks.{place_of, id_if, Stands, Steps}
use Rattle.state.specs.declared.AnalysisStack.{AnalysisStack}
use Rattle.state.specs.declared.Limits.{Limits}
use Rattle.state.specs.declared.Place.{Place}
use Rattle.step_frame.specs.Answers.{FrameOpened}
use Rattle.step_declare.specs.Answers.{Fitting}
use Rattle.step_judge.specs.Answers.{Settleable}
use Rattle.law_joins.specs.Ready.{Ready}
use Rattle.state.specs.Seen.{Step}

-- an opened frame as a step
pub opened : {r : Step} {l : Limits} {out diagnostics locals frames frames' captures references : List ℕ} {st : AnalysisStack} {place : ℕ} {is_defining : Bool}
    → FrameOpened r frames frames' l st place is_defining → Fit l (buffers out diagnostics locals frames captures references) st
    → Steps r l (buffers out diagnostics locals frames captures references) (buffers out diagnostics locals frames' captures references) st (λ L σ. open_frame L place is_defining σ)
opened {l = l} {out = out} {diagnostics = diagnostics} {locals = locals} {frames = frames} {captures = captures} {references = references} {st = st} {place = place} {is_defining = is_defining} w f = record {
  same = λ L e. w.same out diagnostics locals captures references f
      ∙ ap (λ (L : rules.Limits). open_frame L place is_defining (stack (buffers out diagnostics locals frames captures references) st)) (sym e);
  fit = w.fit out diagnostics locals captures references f;
}

-- the counts are those of the rules' lists
pub locals_counted : (b : Buffers) (st : AnalysisStack) → length (stack b st).locals ≡ st.locals
unfolding stack
locals_counted b st = length_locals st.locals b.locals

pub references_counted : (b : Buffers) (st : AnalysisStack) → length (stack b st).references ≡ st.references
unfolding stack
references_counted b st = length_references st.references b.references

pub written_counted : {l : Limits} (b : Buffers) (st : AnalysisStack) → Fit l b st → st.out ≡ rules.written (stack b st)
unfolding stack rules.written
written_counted b st f = omega (arith, length-take st.out b.out, f.out_long)

-- both loops
pub settleable : {l : Limits} {b : Buffers} {st : AnalysisStack} {s : List ℕ} {at nest kept before : ℕ} {h : Place} → Ready l b st s at nest h → at ≤ length s → before ≤ length (stack b st).references → kept ≤ length s
    → Settleable b.locals b.references st kept before
unfolding stack Sound
settleable {b = b} {st = st} r le there few = record {
  below = subst (λ (n : ℕ). Below n (references_of st.references b.references)) (length_locals st.locals b.locals) r.sturdy.sound;
  before_there = omega (arith, there, length_references st.references b.references);
  locals_long = omega (arith, r.fit.locals_long, r.fit.few_locals);
  references_long = omega (arith, r.fit.references_long, r.fit.few_references);
  few_kept = omega (arith, few, r.short);
  few_rounds = omega (arith, few, r.short, le, r.sturdy.few_rounds);
}

-- an object's two ids
pub stands : {l : Limits} {b : Buffers} {st : AnalysisStack} {s : List ℕ} {at nest : ℕ} {h : Place} → Ready l b st s at nest h → Stands h st
unfolding place_of id_if
stands {b = b} {st = st} {h = h} r = record {
  this_there = λ e. subst (λ (n : ℕ). h.this_local.0 < n) (locals_counted b st) (r.sturdy.within.this_there _ (ap (λ (t : Bool). id_if t h.this_local.0) e));
  dollar_there = λ e. subst (λ (n : ℕ). h.dollar_alias.0 < n) (locals_counted b st) (r.sturdy.within.dollar_there _ (ap (λ (t : Bool). id_if t h.dollar_alias.0) e));
}

pub fitting : {l : Limits} {out diagnostics locals frames captures references : List ℕ} {st : AnalysisStack} → Fit l (buffers out diagnostics locals frames captures references) st → Fitting l diagnostics locals frames st
fitting {out = out} {captures = captures} {references = references} f = record { out = out; captures = captures; references = references; fit = f }

-- whether the first parameter has a default, as the code tells it

pub defaults_none : (s : List ℕ) (n p : ℕ) → n ≡ 0 → not (eqb n 0) ≡ first_defaults s n p
unfolding first_defaults
defaults_none s n p e = rw e refl

told_set : (k : ℕ) → not (eqb k 0) ≡ is_set k
unfolding is_set
told_set zero = refl
told_set (suc k) = rw (ne_eqb (suc k) 0 (λ z. omega arith)) refl

pub defaults_first : (s : List ℕ) (n p : ℕ) {set : ℕ} → (n ≡ 0 → ⊥) → set ≡ number_at s (p + 10) → not (eqb set 0) ≡ first_defaults s n p
unfolding first_defaults
defaults_first s zero p some e = absurd (some refl)
defaults_first s (suc n) p {set = set} some e = told_set set ∙ ap is_set e
