-- Where one walk ends the next may begin: what a walker asks of the state and of the place goes on from step to step. Assumes nothing.
use Prim.Native.Nat.{ℕ, ◌+◌, ◌-◌, ◌*◌, ◌<◌, ◌≤◌}
use native.Mathlib.Omega.{arith}
use mathlib.Core.Bool.{Bool, true}
use mathlib.Core.List.{List, [], ◌∷◌, ◌++◌}
use mathlib.Core.Path.{◌≡◌, refl, sym, ◌∙◌, subst}
use lib.ListN.{length, length-append}
use Rattle.rules.specs.Outcome.{ok}
use Rattle.rules.specs.State as rules
use Rattle.rules.specs.Depths.{AnalysisResult}
use Rattle.rules.specs.Locals.{LocalDefinition}
use Rattle.rules.specs.Frames.{ClosureFrame, top, beneath, with_one_more_local}
use Rattle.rules.specs.Settling.{propagate_analysis}
use Rattle.rules.specs.Scoping.{settle_frame, define_this, push_in_frame, push_local}
use Rattle.rules.specs.Writing.{open_frame}
use Rattle.law_runs.specs.Steps.{begun_local, begun_function, begun_object}
use Rattle.law_steady.proofs.Keeping.{steady_sound}
use Rattle.law_steady.proofs.Steps.{steady_settle, analysis_keeps, defined_this}
use Rattle.law_steady.proofs.Places.{defined_binds_at, defined_params_at}
use Rattle.rules.specs.Walk as walk
use Rattle.rules.proofs.After.{After, fine, after_ok, after_bind, after_need, after_weaken, after_both}
use Rattle.law_steady.specs.Steady.{Sound, Defined}
use Rattle.law_steady.specs.Passed.{Passed, PassedSpecs}
use Rattle.state.specs.Seen.{Buffers, stack, Fit}
use Rattle.state.specs.Walks.{place_of}
use Rattle.state.specs.declared.AnalysisStack.{AnalysisStack}
use Rattle.state.specs.declared.Limits.{Limits}
use Rattle.state.specs.declared.Place.{Place}
use Rattle.law_joins.specs.Ready.{Within, Sturdy, Ready}

-- By the rules

pub within_more : {h : walk.Place} {n m : ℕ} → n ≤ m → Within h n → Within h m
within_more le w = record { this_there = λ id e. omega (arith, w.this_there id e); dollar_there = λ id e. omega (arith, w.dollar_there id e) }

pub sturdy_passed : {p q : ℕ} {h : walk.Place} {σ σ' : rules.AnalysisStack} → Passed p q σ σ' → Sturdy p h σ → Sturdy q h σ'
sturdy_passed k w = record {
  sound = k.sound w.sound;
  within = within_more (omega (arith, k.same_count)) w.within;
  few_rounds = omega (arith, k.few_rounds, w.few_rounds);
}

-- the same names, references and rounds, or more names
pub record Alike (σ σ' : rules.AnalysisStack) : Type 0 where
  pub more_locals : length σ.locals ≤ length σ'.locals
  pub same_references : σ'.references ≡ σ.references
  pub same_rounds : σ'.sink.rounds ≡ σ.sink.rounds
  pub same_out : σ'.sink.out ≡ σ.sink.out
  pub sound : Sound σ → Sound σ'

pub alike_then : {σ σ' σ'' : rules.AnalysisStack} → Alike σ σ' → Alike σ' σ'' → Alike σ σ''
alike_then a c = record {
  more_locals = omega (arith, a.more_locals, c.more_locals);
  same_references = c.same_references ∙ a.same_references;
  same_rounds = c.same_rounds ∙ a.same_rounds;
  same_out = c.same_out ∙ a.same_out;
  sound = λ x. c.sound (a.sound x);
}

pub alike_defined : {σ σ' : rules.AnalysisStack} → Defined σ σ' → Alike σ σ'
alike_defined d = record { more_locals = d.more_locals; same_references = d.same_references; same_rounds = d.same_rounds; same_out = d.same_out; sound = d.sound }

pub sturdy_alike : {p : ℕ} {h : walk.Place} {σ σ' : rules.AnalysisStack} → Alike σ σ' → Sturdy p h σ → Sturdy p h σ'
sturdy_alike a w = record { sound = a.sound w.sound; within = within_more a.more_locals w.within; few_rounds = omega (arith, a.same_rounds, w.few_rounds) }

pub sturdy_on : {p q : ℕ} {h : walk.Place} {σ : rules.AnalysisStack} → p ≤ q → Sturdy p h σ → Sturdy q h σ
sturdy_on le w = record { sound = w.sound; within = w.within; few_rounds = omega (arith, w.few_rounds) }

-- what the present value depends on does not matter
pub alike_taint : (a : AnalysisResult) (σ : rules.AnalysisStack) {σ' : rules.AnalysisStack} → Alike (rules.with_taint a σ) σ' → Alike σ σ'
unfolding rules.with_taint Sound
alike_taint a σ k = record { more_locals = k.more_locals; same_references = k.same_references; same_rounds = k.same_rounds; same_out = k.same_out; sound = k.sound }

-- an open frame leaves all that as it is

alike_frames : (fs : List ClosureFrame) (σ : rules.AnalysisStack) → Alike σ (rules.with_frames fs σ)
unfolding rules.with_frames Sound
alike_frames fs σ = record { more_locals = omega arith; same_references = refl; same_rounds = refl; same_out = refl; sound = λ x. x }

opened_told : (L : rules.Limits) (p : ℕ) (is_defining : Bool) (σ : rules.AnalysisStack) → After (Alike σ) (open_frame L p is_defining σ)
unfolding open_frame
opened_told L p is_defining σ = after_need _ _ _ _ λ _. fine (alike_frames _ σ)

pub opened_alike : (L : rules.Limits) (p : ℕ) (is_defining : Bool) {σ σ' : rules.AnalysisStack} → open_frame L p is_defining σ ≡ ok σ' → Alike σ σ'
opened_alike L p is_defining {σ = σ} e = after_ok (opened_told L p is_defining σ) e

-- a frame opened and its names defined

pub begun_local_alike : (s : List ℕ) (L : rules.Limits) (levels n p depth : ℕ) {σ : rules.AnalysisStack} {x : rules.AnalysisStack × ℕ} → begun_local L s levels n p depth σ ≡ ok x → Alike σ x.0
unfolding begun_local
begun_local_alike s L levels n p depth {σ = σ} e = after_ok (after_bind _ (opened_told L p true σ) λ σ₁ a. after_weaken (defined_binds_at s L levels n (p + 6) depth σ₁) λ x d. alike_then a (alike_defined d)) e

pub begun_function_alike : (s : List ℕ) (L : rules.Limits) (levels n p depth : ℕ) {σ : rules.AnalysisStack} {x : rules.AnalysisStack × ℕ} → begun_function L s levels n p depth σ ≡ ok x → Alike σ x.0
unfolding begun_function
begun_function_alike s L levels n p depth {σ = σ} e = after_ok (after_bind _ (opened_told L p true σ) λ σ₁ a. after_weaken (defined_params_at s L levels n (p + 10) depth σ₁) λ x d. alike_then a (alike_defined d)) e

-- an object's `this` is one local more
pub record AlikeInside (σ σ' : rules.AnalysisStack) : Type 0 where
  pub alike : Alike σ σ'
  pub one_more : length σ.locals < length σ'.locals

pushed_told : (L : rules.Limits) (p : ℕ) (l : LocalDefinition) (σ : rules.AnalysisStack) → After (λ σ'. length σ.locals < length σ'.locals) (push_local L p l σ)
unfolding push_local rules.with_locals
pushed_told L p l σ = after_need _ _ _ _ λ _. fine {a = rules.with_locals (σ.locals ++ (l ∷ [])) σ} (one_longer σ.locals l)
  where
    one_longer : (ls : List LocalDefinition) (l : LocalDefinition) → length ls < length (rules.with_locals (ls ++ (l ∷ [])) σ).locals
    one_longer ls l = omega (arith, length-append ls (l ∷ []))

this_told : (L : rules.Limits) (p depth : ℕ) (σ : rules.AnalysisStack) → After (λ σ'. length σ.locals < length σ'.locals) (define_this L p depth σ)
unfolding define_this push_in_frame rules.with_frames
this_told L p depth σ = after_bind _ (pushed_told L p _ σ) λ σ₁ lt. fine {a = rules.with_frames (with_one_more_local (top σ₁.frames) ∷ beneath σ₁.frames) σ₁} lt

pub begun_object_alike : (s : List ℕ) (L : rules.Limits) (levels n p binds : ℕ) (h : walk.Place) {σ : rules.AnalysisStack} {x : rules.AnalysisStack × ℕ} → begun_object L s levels n p binds h σ ≡ ok x → AlikeInside σ x.0
unfolding begun_object rules.with_object_use Sound
begun_object_alike s L levels n p binds h {σ = σ} e = after_ok {P = λ x. AlikeInside σ x.0} (after_bind _ (opened_told L p true _) λ σ₁ a. after_bind _ (after_both (defined_this L p h.depth σ₁) (this_told L p h.depth σ₁)) λ σ₂ d.
    after_weaken (defined_binds_at s L levels n binds h.depth σ₂) λ x d'. record {
      alike = alike_then (used a) (alike_then (alike_defined d.0) (alike_defined d'));
      one_more = omega (arith, (used a).more_locals, d.1, d'.more_locals);
    }) e
  where
    used : {σ' : rules.AnalysisStack} → Alike (rules.with_object_use (walk.entered_use (walk.is_outermost h) σ.object_use) σ) σ' → Alike σ σ'
    used a = record { more_locals = a.more_locals; same_references = a.same_references; same_rounds = a.same_rounds; same_out = a.same_out; sound = a.sound }

-- The stages of a frame: its specs are walked, settled, and its body follows

-- rounds that the records of n specs and of their frame pay for are still to come
pub record Specced (n kept q : ℕ) (h : walk.Place) (σ : rules.AnalysisStack) : Type 0 where
  pub sound : Sound σ
  pub within : Within h (length σ.locals)
  pub paid : σ.sink.rounds + 2 * n + 6 ≤ q
  pub few : kept ≤ n

pub specced : {n p q at kept : ℕ} {h : walk.Place} {σ σ' : rules.AnalysisStack} → at + 6 ≤ p → Sturdy at h σ → PassedSpecs n p q 0 kept σ σ' → Specced n kept q h σ'
specced le w k = record {
  sound = k.sound w.sound;
  within = within_more (omega (arith, k.same_count)) w.within;
  paid = omega (arith, k.few_rounds, w.few_rounds);
  few = omega (arith, k.few_kept);
}

-- the first loop adds at most kept + 1 rounds
pub settled_sturdy : (before : ℕ) {n kept q : ℕ} {h : walk.Place} {σ : rules.AnalysisStack} → Specced n kept q h σ → Sturdy q h (settle_frame propagate_analysis kept before σ)
settled_sturdy before {kept = kept} {σ = σ} w =
    let k = steady_settle propagate_analysis analysis_keeps kept before σ in
    record {
      sound = steady_sound k w.sound;
      within = within_more (omega (arith, k.same_count)) w.within;
      few_rounds = omega (arith, k.few_rounds, w.paid, w.few);
    }

-- By the code

module _ {l : Limits} {s : List ℕ} {h : Place} {b b₁ : Buffers} {st st₁ : AnalysisStack} where
  pub ready_passed : {p q nest : ℕ} → Ready l b st s p nest h → Passed p q (stack b st) (stack b₁ st₁) → Fit l b₁ st₁ → Ready l b₁ st₁ s q nest h
  ready_passed r k f = record { fit = f; sturdy = sturdy_passed k r.sturdy; shallow = r.shallow; short = r.short }

  pub ready_alike : {p nest : ℕ} → Ready l b st s p nest h → Alike (stack b st) (stack b₁ st₁) → Fit l b₁ st₁ → Ready l b₁ st₁ s p nest h
  ready_alike r a f = record { fit = f; sturdy = sturdy_alike a r.sturdy; shallow = r.shallow; short = r.short }

  pub ready_specs : {n p q kept kept' nest : ℕ} → Ready l b st s p nest h → PassedSpecs n p q kept kept' (stack b st) (stack b₁ st₁) → Fit l b₁ st₁ → Ready l b₁ st₁ s q nest h
  ready_specs r k f = record {
    fit = f;
    sturdy = record { sound = k.sound r.sturdy.sound; within = within_more (omega (arith, k.same_count)) r.sturdy.within; few_rounds = omega (arith, k.few_rounds, r.sturdy.few_rounds) };
    shallow = r.shallow;
    short = r.short;
  }

module _ {l : Limits} {s : List ℕ} {h : Place} {b : Buffers} {st : AnalysisStack} where
  -- further on, with fewer levels
  pub ready_on : {p q nest nest' : ℕ} → p ≤ q → nest' ≤ nest → Ready l b st s p nest h → Ready l b st s q nest' h
  ready_on le fewer r = record { fit = r.fit; sturdy = sturdy_on le r.sturdy; shallow = omega (arith, r.shallow); short = r.short }

-- the body of a frame is one deeper and has a level less
pub ready_body : (before : ℕ) {l : Limits} {s : List ℕ} {b b₁ : Buffers} {st st₁ : AnalysisStack} {n kept q p nest : ℕ} {h h' : Place}
    → Ready l b st s p nest h → 0 < nest → place_of h' ≡ walk.deeper (place_of h) → h'.depth ≡ h.depth + 1
    → Specced n kept q (place_of h) (stack b st) → stack b₁ st₁ ≡ settle_frame propagate_analysis kept before (stack b st) → Fit l b₁ st₁
    → Ready l b₁ st₁ s q (nest - 1) h'
unfolding walk.deeper
ready_body before {b₁ = b₁} {st₁ = st₁} {q = q} {h = h} r level e d w same f = record {
  fit = f;
  sturdy = subst (λ (h : walk.Place). Sturdy q h (stack b₁ st₁)) (sym e) (deeper_sturdy (subst (λ (σ : rules.AnalysisStack). Sturdy q (place_of h) σ) (sym same) (settled_sturdy before w)));
  shallow = omega (arith, r.shallow, d);
  short = r.short;
}
  where
    deeper_sturdy : {q : ℕ} {h : walk.Place} {σ : rules.AnalysisStack} → Sturdy q h σ → Sturdy q (walk.deeper h) σ
    deeper_sturdy w = record { sound = w.sound; within = record { this_there = w.within.this_there; dollar_there = w.within.dollar_there }; few_rounds = w.few_rounds }
