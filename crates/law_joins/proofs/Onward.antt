-- From a walk's answer to what the next walk asks: the state it leaves is ready at the place after. Assumes nothing.
use Prim.Native.Nat.{ℕ, ◌+◌, ◌-◌, ◌<◌, ◌≤◌}
use native.Mathlib.Omega.{arith}
use mathlib.Core.Bool.{Bool, false}
use mathlib.Core.List.{List}
use mathlib.Core.Option.{Option, none, some}
use mathlib.Core.Path.{◌≡◌, refl, sym, ◌∙◌, ap, subst}
use lib.ListN.{length, length-append, length-take}
use Rattle.rules.specs.Outcome.{given}
use Rattle.rules.specs.Depths.{no_dependence}
use Rattle.rules.specs.Settling.{Reference, propagate_analysis}
use Rattle.rules.specs.State as rules
use Rattle.rules.specs.Writing.{open_frame}
use Rattle.rules.specs.Scoping.{settle_frame}
use Rattle.rules.specs.Walk as walk
use Rattle.rules.proofs.After.{After, after_ok, after_bind, after_weaken}
use Rattle.law_runs.specs.Run.{run_expr, run_assertions, run_heads, run_binds, run_params}
use Rattle.law_runs.specs.Steps.{begun_local, begun_function, begun_object, opened_value}
use Rattle.law_steady.specs.Steady.{Begins}
use Rattle.law_steady.specs.Passed.{Passed, PassedSpecs}
use Rattle.law_steady.proofs.Places.{passed_expr, passed_assertions, passed_values, passed_heads, passed_binds, passed_params}
use Rattle.law_steady.proofs.Steps.{steady_settle, analysis_keeps}
use Rattle.state.specs.Seen.{Buffers, stack, Fit}
use Rattle.state.specs.Walks.{place_of, Walks, WalksSpecs, Steps, Becomes}
use Rattle.state.specs.declared.AnalysisStack.{AnalysisStack}
use Rattle.state.specs.declared.Limits.{Limits}
use Rattle.state.specs.declared.Place.{Place}
use Rattle.law_joins.specs.Ready.{Within, Ready, fields_steps}
use Rattle.law_joins.proofs.Joining.{stepped, stepped_fit, went, went_fit, kept_on, kept_fit}
use Rattle.law_joins.proofs.Readiness.{alike_taint, within_more, opened_alike, begun_local_alike, begun_function_alike, begun_object_alike, ready_passed, ready_specs, ready_alike, ready_on, ready_body, Specced, specced}
use Rattle.std.specs.Prelude.{Ok}
use Rattle.state.specs.Seen.{Step, Walked, Specs}

some_same : {m n : ℕ} → some m ≡ some n → m ≡ n
unfolding given
some_same {m = m} e = ap (λ (o : Option ℕ). given o (λ _. m) (λ k. k)) e

-- an object's own `this` is there once it is defined
inside_object : (h : walk.Place) {id n : ℕ} → id < n → Within h n → Within (walk.in_object id h) n
unfolding walk.in_object given
inside_object h {id = id} {n = n} lt w = record { this_there = λ k e. subst (λ (k : ℕ). k < n) (some_same e) lt; dollar_there = by_alias h.dollar_alias refl }
  where
    by_alias : (o : Option ℕ) → h.dollar_alias ≡ o → (k : ℕ) → given o (λ _. some id) (λ outermost. some outermost) ≡ some k → k < n
    by_alias none e k eq = subst (λ (k : ℕ). k < n) (some_same eq) lt
    by_alias (some j) e k eq = w.dollar_there k (e ∙ eq)

module _ {l : Limits} {s : List ℕ} {nest : ℕ} {h : Place} {b b₁ : Buffers} {st : AnalysisStack} where
  -- Walks

  module _ {p : ℕ} (ready : Ready l b st s p nest h) {r : Walked} {st₁ : AnalysisStack} {q : ℕ} where
    pub ready_expr : (levels : ℕ) (ν : walk.Naming) (at : walk.Place) → Walks r l b b₁ st (λ L σ. run_expr s L levels p ν at σ) → r ≡ Ok (st₁, q) → Ready l b₁ st₁ s q nest h
    ready_expr levels ν at w e = ready_passed ready (after_ok (passed_expr s _ levels p ν at (stack b st)) (went w e _ refl)) (went_fit w e)

    pub ready_assertions : (levels n : ℕ) (at : walk.Place) → Walks r l b b₁ st (λ L σ. run_assertions s L levels n p at σ) → r ≡ Ok (st₁, q) → Ready l b₁ st₁ s q nest h
    ready_assertions levels n at w e = ready_passed ready (after_ok (passed_assertions s _ levels n p at (stack b st)) (went w e _ refl)) (went_fit w e)

  -- Frames

  pub ready_opened : {p : ℕ} (place : ℕ) (is_defining : Bool) → Ready l b st s p nest h → {r : Step} {st₁ : AnalysisStack} → Steps r l b b₁ st (λ L σ. open_frame L place is_defining σ) → r ≡ Ok st₁ → Ready l b₁ st₁ s p nest h
  ready_opened place is_defining ready w e = ready_alike ready (opened_alike _ place is_defining (stepped w e _ refl)) (stepped_fit w e)

  pub ready_value : {p : ℕ} (place : ℕ) → Ready l b st s p nest h → {r : Step} {st₁ : AnalysisStack} → Steps r l b b₁ st (λ L σ. opened_value L place σ) → r ≡ Ok st₁ → Ready l b₁ st₁ s p nest h
  unfolding opened_value
  ready_value place ready w e = ready_alike ready (alike_taint no_dependence (stack b st) (opened_alike _ place false (stepped w e _ refl))) (stepped_fit w e)

  pub ready_local : {p : ℕ} (levels n depth : ℕ) → Ready l b st s p nest h → {r : Walked} {st₁ : AnalysisStack} {q : ℕ} → Walks r l b b₁ st (λ L σ. begun_local L s levels n p depth σ) → r ≡ Ok (st₁, q) → Ready l b₁ st₁ s p nest h
  ready_local {p = p} levels n depth ready w e = ready_alike ready (begun_local_alike s _ levels n p depth (went w e _ refl)) (went_fit w e)

  pub ready_function : {p : ℕ} (levels n depth : ℕ) → Ready l b st s p nest h → {r : Walked} {st₁ : AnalysisStack} {q : ℕ} → Walks r l b b₁ st (λ L σ. begun_function L s levels n p depth σ) → r ≡ Ok (st₁, q) → Ready l b₁ st₁ s p nest h
  ready_function {p = p} levels n depth ready w e = ready_alike ready (begun_function_alike s _ levels n p depth (went w e _ refl)) (went_fit w e)

  -- inside an object, whose `this` is the local that came first
  pub ready_object : {at : ℕ} (levels n p binds : ℕ) {i : Place} → place_of i ≡ walk.in_object (length (stack b st).locals) (place_of h) → i.depth ≡ h.depth → Ready l b st s at nest h → {r : Walked} {st₁ : AnalysisStack} {q : ℕ}
      → Walks r l b b₁ st (λ L σ. begun_object L s levels n p binds (place_of h) σ) → r ≡ Ok (st₁, q) → Ready l b₁ st₁ s at nest i
  ready_object levels n p binds ei ed ready {st₁ = st₁} w e =
      let a = begun_object_alike s _ levels n p binds (place_of h) (went w e _ refl) in
      let same = ready_alike ready a.alike (went_fit w e) in
      record {
        fit = same.fit;
        sturdy = record { sound = same.sturdy.sound; within = subst (λ (i : walk.Place). Within i (length (stack b₁ st₁).locals)) (sym ei) (inside_object (place_of h) a.one_more same.sturdy.within); few_rounds = same.sturdy.few_rounds };
        shallow = omega (arith, same.shallow, ed);
        short = same.short;
      }

-- A frame: its specs, the first loop, its body

-- the output's length is counted
written_there : {l : Limits} (b : Buffers) (st : AnalysisStack) → Fit l b st → length (stack b st).sink.out ≡ st.out
unfolding stack
written_there b st f = omega (arith, length-take st.out b.out, f.out_long)

-- no reference is lost
pub more_there : {refs refs' : List Reference} → Begins refs refs' → length refs ≤ length refs'
more_there {refs = refs} k = omega (arith, length-append refs k.more, ap length k.is)

-- where a frame's specs were walked: what the loops and the body ask
pub record Framed (l : Limits) (s : List ℕ) (nest : ℕ) (h : Place) (n kept q before : ℕ) (b : Buffers) (st : AnalysisStack) : Type 0 where
  pub ready : Ready l b st s q nest h
  pub specs : Specced n kept q (place_of h) (stack b st)
  pub before_there : before ≤ length (stack b st).references

module _ {l : Limits} {s : List ℕ} {nest : ℕ} {h : Place} {b₁ b₂ : Buffers} {st₁ st₂ : AnalysisStack} {at p n q kept before : ℕ} (begun : Ready l b₁ st₁ s at nest h) (behind : at + 6 ≤ p) (same : before ≡ length (stack b₁ st₁).references) where
  framed : PassedSpecs n p q 0 kept (stack b₁ st₁) (stack b₂ st₂) → Fit l b₂ st₂ → Framed l s nest h n kept q before b₂ st₂
  framed k f = record { ready = ready_specs (ready_on (omega arith) (omega arith) begun) k f; specs = specced behind begun.sturdy k; before_there = omega (arith, more_there k.more_references, same) }

  pub framed_binds : (levels base : ℕ) → {r : Specs} → WalksSpecs r l b₁ b₂ st₁ (λ L σ. run_binds s L levels n p base 0 (place_of h) σ) → r ≡ Ok (st₂, q, kept) → Framed l s nest h n kept q before b₂ st₂
  framed_binds levels base w e = framed (after_ok (passed_binds s _ levels n p base 0 (place_of h) (stack b₁ st₁)) (kept_on w e _ refl)) (kept_fit w e)

  pub framed_params : (levels : ℕ) → {r : Specs} → WalksSpecs r l b₁ b₂ st₁ (λ L σ. run_params s L levels n p 0 (place_of h) σ) → r ≡ Ok (st₂, q, kept) → Framed l s nest h n kept q before b₂ st₂
  framed_params levels w e = framed (after_ok (passed_params s _ levels n p 0 (place_of h) (stack b₁ st₁)) (kept_on w e _ refl)) (kept_fit w e)

-- the body, after the first loop
module _ {l : Limits} {s : List ℕ} {nest : ℕ} {h : Place} {b₂ b₃ : Buffers} {st₂ st₃ : AnalysisStack} {n q kept before : ℕ} (f : Framed l s nest h n kept q before b₂ st₂) (settled : Becomes st₃ l b₂ b₃ st₂ (settle_frame propagate_analysis kept before)) where
  pub ready_settled : {h' : Place} → 0 < nest → place_of h' ≡ walk.deeper (place_of h) → h'.depth ≡ h.depth + 1 → Ready l b₃ st₃ s q (nest - 1) h'
  ready_settled level same depth = ready_body before f.ready level same depth f.specs settled.same settled.fit

  settled_before : before ≤ length (stack b₃ st₃).references
  settled_before = omega (arith, f.before_there, ap length (ap (λ (σ : rules.AnalysisStack). σ.references) settled.same ∙ (steady_settle propagate_analysis analysis_keeps kept before (stack b₂ st₂)).same_references))

  -- the references are those of the frame until it ends
  pub kept_before : {q' : ℕ} {σ : rules.AnalysisStack} → Passed q q' (stack b₃ st₃) σ → before ≤ length σ.references
  kept_before k = omega (arith, settled_before, ap length k.same_references)

-- one walk after another
pub passed_then : {p q r : ℕ} {σ σ' σ'' : rules.AnalysisStack} → Passed p q σ σ' → Passed q r σ' σ'' → Passed p r σ σ''
passed_then j k = record {
  onward = omega (arith, j.onward, k.onward);
  same_count = k.same_count ∙ j.same_count;
  same_references = k.same_references ∙ j.same_references;
  same_frames = k.same_frames ∙ j.same_frames;
  longer = omega (arith, j.longer, k.longer);
  few_rounds = omega (arith, j.few_rounds, k.few_rounds);
  sound = λ x. k.sound (j.sound x);
}

pub passed_fields : (s : List ℕ) (L : rules.Limits) (levels object p : ℕ) (h : walk.Place) (σ : rules.AnalysisStack) → After (λ r. Passed p r.1 σ r.0) (fields_steps s L levels object p h σ)
unfolding fields_steps
passed_fields s L levels object p h σ = after_bind _ (passed_assertions s L levels _ p h σ) λ x j. after_weaken (passed_values s L levels _ (object + 14) x.1 h x.0) λ y k. passed_then j k

-- an object's heads are after its record of 14 bytes
pub ready_heads : {l : Limits} {s : List ℕ} {nest p : ℕ} {h : Place} {b b₁ : Buffers} {st : AnalysisStack} → Ready l b st s p nest h → (levels n : ℕ) (at : walk.Place) {r : Walked} {st₁ : AnalysisStack} {q : ℕ}
    → Walks r l b b₁ st (λ L σ. run_heads s L levels n (p + 14) at σ) → r ≡ Ok (st₁, q) → Ready l b₁ st₁ s (q - 14) nest h
ready_heads {s = s} {p = p} {b = b} {st = st} ready levels n at w e =
    let k = after_ok (passed_heads s _ levels n (p + 14) at (stack b st)) (went w e _ refl) in
    record {
      fit = went_fit w e;
      sturdy = record { sound = k.sound ready.sturdy.sound; within = within_more (omega (arith, k.same_count)) ready.sturdy.within; few_rounds = omega (arith, k.few_rounds, ready.sturdy.few_rounds) };
      shallow = ready.shallow;
      short = ready.short;
    }

-- a value's output comes after what was there
pub longer_value : (s : List ℕ) (levels p at : ℕ) (ν : walk.Naming) (h : walk.Place) {l : Limits} {b b₁ b₂ : Buffers} {st st₁ st₂ : AnalysisStack} {r : Step} {r' : Walked} {q : ℕ} → Fit l b st
    → Steps r l b b₁ st (λ L σ. opened_value L at σ) → r ≡ Ok st₁ → Walks r' l b₁ b₂ st₁ (λ L σ. run_expr s L levels p ν h σ) → r' ≡ Ok (st₂, q) → st.out ≤ st₂.out
unfolding opened_value
longer_value s levels p at ν h {b = b} {b₁ = b₁} {b₂ = b₂} {st = st} {st₁ = st₁} {st₂ = st₂} f opened e w e' =
    let k = after_ok (passed_expr s _ levels p ν h (stack b₁ st₁)) (went w e' _ refl) in
    let a = alike_taint no_dependence (stack b st) (opened_alike _ at false (stepped opened e _ refl)) in
    omega (arith, k.longer, ap length a.same_out, written_there b st f, written_there b₂ st₂ (went_fit w e'))
