-- Walks and steps one after another: the second goes on where the first ended, and the first refusal is the whole's. Assumes nothing.
use Prim.Native.Nat.{ℕ}
use mathlib.Core.Path.{◌≡◌, sym, ◌∙◌, ap, ap₂, subst}
use lib.ListN.{length}
use Rattle.rules.specs.Outcome.{Outcome, ok, ◌>>=◌}
use Rattle.rules.specs.State as rules
use Rattle.rules.proofs.Outcomes.{bind_fine, bind_refused}
use Rattle.state.specs.Seen.{Buffers, stack, seen, limits_of, Fit, Fits}
use Rattle.state.specs.Walks.{walked, specs, WalkedFits, SpecsFits, Walks, WalksSpecs, Steps, Becomes}
use Rattle.state.specs.declared.AnalysisStack.{AnalysisStack}
use Rattle.state.specs.declared.Limits.{Limits}
use Rattle.std.specs.Prelude.{Ok, Err, IsErrAnd}
use Rattle.std.proofs.lemmas.Result.{err_from_is_err_and}
use Rattle.refusal.specs.declared.Refusal.{Refusal}
use Rattle.state.specs.Seen.{Step, Walked, Specs}

-- both buffers whose lengths are limits are as long as before
pub record Long (b b' : Buffers) : Type 0 where
  pub out : length b'.out ≡ length b.out
  pub diagnostics : length b'.diagnostics ≡ length b.diagnostics

pub limits_kept : (l : Limits) {b b' : Buffers} → Long b b' → limits_of l b.out b.diagnostics ≡ limits_of l b'.out b'.diagnostics
unfolding limits_of
limits_kept l k =
    ap₂ (λ (o d : ℕ). record { locals = l.max_locals; frames = l.max_frames; captures = l.max_captures; references = l.max_references; out = o; diagnostics = d })
    (sym k.out) (sym k.diagnostics)

abbrev Going : Type 0 → Type 0
Going A = rules.Limits → rules.AnalysisStack → Outcome A

-- what an answer gives, by the rules
abbrev pub Answer : Type 0
Answer = rules.AnalysisStack × ℕ

abbrev pub KeptAnswer : Type 0
KeptAnswer = ℕ × (rules.AnalysisStack × ℕ)

module _ {l : Limits} {b b₁ : Buffers} {st : AnalysisStack} where
  -- Another way to say the same

  pub walks_as : {r : Walked} {f g : Going Answer} → Walks r l b b₁ st f → ((L : rules.Limits) (σ : rules.AnalysisStack) → f L σ ≡ g L σ) → Walks r l b b₁ st g
  walks_as w e = record { same = λ L eL. w.same L eL ∙ e L (stack b st); fit = w.fit }

  pub specs_as_well : {r : Specs} {f g : Going KeptAnswer} → WalksSpecs r l b b₁ st f → ((L : rules.Limits) (σ : rules.AnalysisStack) → f L σ ≡ g L σ) → WalksSpecs r l b b₁ st g
  specs_as_well w e = record { same = λ L eL. w.same L eL ∙ e L (stack b st); fit = w.fit }

  -- What a `?` returns is the refusal that it met

  pub walks_on : {r : Walked} {why : Refusal} {f : Going Answer} → IsErrAnd r (λ e. e ≡ why) → Walks (Err why) l b b₁ st f → Walks r l b b₁ st f
  walks_on {r} k w = let q = err_from_is_err_and r k in rw (q.1, q.2) w

  pub specs_on : {r : Specs} {why : Refusal} {f : Going KeptAnswer} → IsErrAnd r (λ e. e ≡ why) → WalksSpecs (Err why) l b b₁ st f → WalksSpecs r l b b₁ st f
  specs_on {r} k w = let q = err_from_is_err_and r k in rw (q.1, q.2) w

  -- What an answer says of the rules

  pub stepped : {r : Step} {f : Going rules.AnalysisStack} {st₁ : AnalysisStack} → Steps r l b b₁ st f → r ≡ Ok st₁ → (L : rules.Limits) → L ≡ limits_of l b.out b.diagnostics → f L (stack b st) ≡ ok (stack b₁ st₁)
  stepped w e L eL = sym (w.same L eL) ∙ ap (λ (r : Step). seen r b₁) e

  pub went : {r : Walked} {f : Going Answer} {st₁ : AnalysisStack} {q : ℕ} → Walks r l b b₁ st f → r ≡ Ok (st₁, q) → (L : rules.Limits) → L ≡ limits_of l b.out b.diagnostics → f L (stack b st) ≡ ok (stack b₁ st₁, q)
  went w e L eL = sym (w.same L eL) ∙ ap (λ (r : Walked). walked r b₁) e

  pub kept_on : {r : Specs} {f : Going KeptAnswer} {st₁ : AnalysisStack} {q kept : ℕ} → WalksSpecs r l b b₁ st f → r ≡ Ok (st₁, q, kept) → (L : rules.Limits) → L ≡ limits_of l b.out b.diagnostics → f L (stack b st) ≡ ok (kept, (stack b₁ st₁, q))
  kept_on w e L eL = sym (w.same L eL) ∙ ap (λ (r : Specs). specs r b₁) e

  -- its state fits

  pub stepped_fit : {r : Step} {f : Going rules.AnalysisStack} {st₁ : AnalysisStack} → Steps r l b b₁ st f → r ≡ Ok st₁ → Fit l b₁ st₁
  stepped_fit w e = subst (λ (r : Step). Fits l r b₁) e w.fit

  pub went_fit : {r : Walked} {f : Going Answer} {st₁ : AnalysisStack} {q : ℕ} → Walks r l b b₁ st f → r ≡ Ok (st₁, q) → Fit l b₁ st₁
  went_fit w e = subst (λ (r : Walked). WalkedFits l r b₁) e w.fit

  pub kept_fit : {r : Specs} {f : Going KeptAnswer} {st₁ : AnalysisStack} {q kept : ℕ} → WalksSpecs r l b b₁ st f → r ≡ Ok (st₁, q, kept) → Fit l b₁ st₁
  kept_fit w e = subst (λ (r : Specs). SpecsFits l r b₁) e w.fit

  -- The first refusal

  pub step_stops : (g : rules.Limits → rules.AnalysisStack → rules.AnalysisStack → Outcome Answer) {r : Step} {f : Going rules.AnalysisStack} {why : Refusal}
      → Steps r l b b₁ st f → r ≡ Err why → Walks (Err why) l b b₁ st (λ L σ. f L σ >>= g L σ)
  step_stops g w e = record {
    same = λ L eL. sym (bind_refused (g L (stack b st)) (sym (w.same L eL) ∙ ap (λ (r : Step). seen r b₁) e));
    fit = tt;
  }

  pub step_stops_specs : (g : rules.Limits → rules.AnalysisStack → rules.AnalysisStack → Outcome KeptAnswer) {r : Step} {f : Going rules.AnalysisStack} {why : Refusal}
      → Steps r l b b₁ st f → r ≡ Err why → WalksSpecs (Err why) l b b₁ st (λ L σ. f L σ >>= g L σ)
  step_stops_specs g w e = record {
    same = λ L eL. sym (bind_refused (g L (stack b st)) (sym (w.same L eL) ∙ ap (λ (r : Step). seen r b₁) e));
    fit = tt;
  }

  pub walk_stops : (g : rules.Limits → rules.AnalysisStack → Answer → Outcome Answer) {r : Walked} {f : Going Answer} {why : Refusal}
      → Walks r l b b₁ st f → r ≡ Err why → Walks (Err why) l b b₁ st (λ L σ. f L σ >>= g L σ)
  walk_stops g w e = record {
    same = λ L eL. sym (bind_refused (g L (stack b st)) (sym (w.same L eL) ∙ ap (λ (r : Walked). walked r b₁) e));
    fit = tt;
  }

  pub walk_stops_specs : (g : rules.Limits → rules.AnalysisStack → Answer → Outcome KeptAnswer) {r : Walked} {f : Going Answer} {why : Refusal}
      → Walks r l b b₁ st f → r ≡ Err why → WalksSpecs (Err why) l b b₁ st (λ L σ. f L σ >>= g L σ)
  walk_stops_specs g w e = record {
    same = λ L eL. sym (bind_refused (g L (stack b st)) (sym (w.same L eL) ∙ ap (λ (r : Walked). walked r b₁) e));
    fit = tt;
  }

  pub specs_stop : (g : rules.Limits → rules.AnalysisStack → KeptAnswer → Outcome Answer) {r : Specs} {f : Going KeptAnswer} {why : Refusal}
      → WalksSpecs r l b b₁ st f → r ≡ Err why → Walks (Err why) l b b₁ st (λ L σ. f L σ >>= g L σ)
  specs_stop g w e = record {
    same = λ L eL. sym (bind_refused (g L (stack b st)) (sym (w.same L eL) ∙ ap (λ (r : Specs). specs r b₁) e));
    fit = tt;
  }

  -- One after another

  module _ {b₂ : Buffers} {st₁ : AnalysisStack} where
    pub step_then : (g : rules.Limits → rules.AnalysisStack → rules.AnalysisStack → Outcome Answer) {r : Step} {r' : Walked} {f : Going rules.AnalysisStack}
        → Steps r l b b₁ st f → r ≡ Ok st₁ → Long b b₁ → Walks r' l b₁ b₂ st₁ (λ L σ. g L (stack b st) σ) → Walks r' l b b₂ st (λ L σ. f L σ >>= g L σ)
    step_then g w e k v = record {
      same = λ L eL. v.same L (eL ∙ limits_kept l k) ∙ sym (bind_fine (g L (stack b st)) (stepped w e L eL));
      fit = v.fit;
    }

    pub step_then_specs : (g : rules.Limits → rules.AnalysisStack → rules.AnalysisStack → Outcome KeptAnswer) {r : Step} {r' : Specs} {f : Going rules.AnalysisStack}
        → Steps r l b b₁ st f → r ≡ Ok st₁ → Long b b₁ → WalksSpecs r' l b₁ b₂ st₁ (λ L σ. g L (stack b st) σ) → WalksSpecs r' l b b₂ st (λ L σ. f L σ >>= g L σ)
    step_then_specs g w e k v = record {
      same = λ L eL. v.same L (eL ∙ limits_kept l k) ∙ sym (bind_fine (g L (stack b st)) (stepped w e L eL));
      fit = v.fit;
    }

    pub walk_then : (g : rules.Limits → rules.AnalysisStack → Answer → Outcome Answer) {r r' : Walked} {f : Going Answer} {q : ℕ}
        → Walks r l b b₁ st f → r ≡ Ok (st₁, q) → Long b b₁ → Walks r' l b₁ b₂ st₁ (λ L σ. g L (stack b st) (σ, q)) → Walks r' l b b₂ st (λ L σ. f L σ >>= g L σ)
    walk_then g w e k v = record {
      same = λ L eL. v.same L (eL ∙ limits_kept l k) ∙ sym (bind_fine (g L (stack b st)) (went w e L eL));
      fit = v.fit;
    }

    pub walk_then_specs : (g : rules.Limits → rules.AnalysisStack → Answer → Outcome KeptAnswer) {r : Walked} {r' : Specs} {f : Going Answer} {q : ℕ}
        → Walks r l b b₁ st f → r ≡ Ok (st₁, q) → Long b b₁ → WalksSpecs r' l b₁ b₂ st₁ (λ L σ. g L (stack b st) (σ, q)) → WalksSpecs r' l b b₂ st (λ L σ. f L σ >>= g L σ)
    walk_then_specs g w e k v = record {
      same = λ L eL. v.same L (eL ∙ limits_kept l k) ∙ sym (bind_fine (g L (stack b st)) (went w e L eL));
      fit = v.fit;
    }

    pub specs_then : (g : rules.Limits → rules.AnalysisStack → KeptAnswer → Outcome Answer) {r : Specs} {r' : Walked} {f : Going KeptAnswer} {q kept : ℕ}
        → WalksSpecs r l b b₁ st f → r ≡ Ok (st₁, q, kept) → Long b b₁ → Walks r' l b₁ b₂ st₁ (λ L σ. g L (stack b st) (kept, (σ, q))) → Walks r' l b b₂ st (λ L σ. f L σ >>= g L σ)
    specs_then g w e k v = record {
      same = λ L eL. v.same L (eL ∙ limits_kept l k) ∙ sym (bind_fine (g L (stack b st)) (kept_on w e L eL));
      fit = v.fit;
    }

    -- a step that cannot be refused
    pub becomes_then : (g : rules.Limits → rules.AnalysisStack → rules.AnalysisStack → Outcome Answer) {r' : Walked} {f : rules.AnalysisStack → rules.AnalysisStack}
        → Becomes st₁ l b b₁ st f → Long b b₁ → Walks r' l b₁ b₂ st₁ (λ L σ. g L (stack b st) σ) → Walks r' l b b₂ st (λ L σ. g L σ (f σ))
    becomes_then g w k v = record {
      same = λ L eL. v.same L (eL ∙ limits_kept l k) ∙ ap (λ (σ : rules.AnalysisStack). g L (stack b st) σ) w.same;
      fit = v.fit;
    }
