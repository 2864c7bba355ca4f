-- Each record's walk from the walks and steps that it is made of, up to the first refusal or to its end. Assumes nothing.
use Prim.Native.Nat.{ℕ, ◌+◌, ◌-◌}
use mathlib.Core.Bool.{true, false}
use mathlib.Core.List.{List, [], ◌∷◌}
use mathlib.Core.Path.{◌≡◌, sym}
use lib.ListN.{length}
use Rattle.rules.specs.Outcome.{Outcome, ◌>>=◌}
use Rattle.rules.specs.Depths.{no_dependence}
use Rattle.rules.specs.Numbers.{number_at, is_set, Mark, BV, PA}
use Rattle.rules.specs.Settling.{propagate_analysis}
use Rattle.rules.specs.State as rules
use Rattle.rules.specs.Writing.{open_frame}
use Rattle.rules.specs.Scoping.{settle_frame}
use Rattle.rules.specs.Walk as walk
use Rattle.rules.proofs.Outcomes.{bind_ext, bind_assoc, chosen_true, chosen_false}
use Rattle.law_runs.specs.Run.{run_expr, run_items, run_assertions, run_values, run_heads, run_binds, run_params, heads_at}
use Rattle.law_runs.specs.Steps.{begun_local, finished_local, local_steps, array_steps, closed_array, assertions_steps, closed_assertions, value_steps, closed_value, head_naming_at, opened_value, closed_spec, recorded, bind_steps, bind_naming_at, param_steps, begun_function, finished_function, function_steps, span_at, first_defaults, begun_object, finished_object, object_steps, plain_steps, copied, head_steps, head_written}
use Rattle.law_joins.specs.Ready.{static_of, members_steps, fields_steps}
use Rattle.state.specs.Seen.{Buffers, stack}
use Rattle.state.specs.Walks.{Walks, WalksSpecs, Steps, Becomes}
use Rattle.state.specs.declared.AnalysisStack.{AnalysisStack}
use Rattle.state.specs.declared.Limits.{Limits}
use Rattle.law_joins.proofs.Joining.{Long, walks_as, step_stops, walk_stops, specs_stop, step_then, walk_then, specs_then, becomes_then, specs_as_well, step_stops_specs, walk_stops_specs, step_then_specs, walk_then_specs}
use Rattle.std.specs.Prelude.{Ok, Err}
use Rattle.refusal.specs.declared.Refusal.{Refusal}
use Rattle.state.specs.Seen.{Step, Walked, Specs}

-- which way a parameter, a head and an object's members go

module _ (s : List ℕ) where
  -- how a parameter with a default ends, by the state at its begin
  abbrev param_end : (p kept : ℕ) → rules.Limits → rules.AnalysisStack → rules.AnalysisStack × ℕ → Outcome (ℕ × (rules.AnalysisStack × ℕ))
  param_end p kept L σ x = closed_spec L p 0 kept (rules.written σ) σ.taint PA (λ slot. number_at s (p + 2) ∷ slot ∷ 1 ∷ []) x.1 x.0

  abbrev param_tail : (levels p kept : ℕ) → walk.Place → rules.Limits → rules.AnalysisStack → rules.AnalysisStack → Outcome (ℕ × (rules.AnalysisStack × ℕ))
  param_tail levels p kept h L σ σ₁ = run_expr s L levels (p + 14) walk.unnamed h σ₁ >>= param_end p kept L σ

  param_defaults : (levels p kept : ℕ) (h : walk.Place) (L : rules.Limits) (σ : rules.AnalysisStack) → is_set (number_at s (p + 10)) ≡ true → param_steps L s levels p kept h σ ≡ (opened_value L p σ >>= param_tail levels p kept h L σ)
  unfolding param_steps
  param_defaults levels p kept h L σ set = chosen_true _ _ set

  pub param_plain : (levels p kept : ℕ) (h : walk.Place) (L : rules.Limits) (σ : rules.AnalysisStack) → is_set (number_at s (p + 10)) ≡ false
      → param_steps L s levels p kept h σ ≡ recorded L p 0 kept (rules.written σ) σ.taint PA (λ slot. number_at s (p + 2) ∷ slot ∷ 0 ∷ []) (p + 14) (rules.with_taint no_dependence σ)
  unfolding param_steps
  param_plain levels p kept h L σ set = chosen_false _ _ set

  head_computed : (levels p : ℕ) (h : walk.Place) (L : rules.Limits) (σ : rules.AnalysisStack) → is_set (number_at s (p + 2)) ≡ true
      → head_steps L s levels p h σ ≡ (run_expr s L levels (p + 26) walk.unnamed h σ >>= λ x. head_written L s p x.1 x.0)
  unfolding head_steps
  head_computed levels p h L σ set = chosen_true _ _ set

  head_alone : (levels p : ℕ) (h : walk.Place) (L : rules.Limits) (σ : rules.AnalysisStack) → is_set (number_at s (p + 2)) ≡ false → head_steps L s levels p h σ ≡ head_written L s p (p + 26) σ
  unfolding head_steps
  head_alone levels p h L σ set = chosen_false _ _ set

  -- an object's assertions and values as one step, or as two
  members_are : (nest binds p : ℕ) (h : walk.Place) (L : rules.Limits) (σ : rules.AnalysisStack)
      → let inside = walk.in_object (length σ.locals) h in
      members_steps s L nest binds p h σ
      ≡ (begun_object L s (nest - 1) (number_at s (p + 2)) p binds h σ >>= λ x.
      run_binds s L (nest - 1) (number_at s (p + 2)) binds 1 0 inside x.0 >>= λ y.
      run_assertions s L (nest - 1) (number_at s (p + 6)) y.1.1 (walk.deeper inside) (settle_frame propagate_analysis y.0 (length σ.references) y.1.0) >>= λ z.
      run_values s L (nest - 1) (number_at s (p + 10)) (p + 14) z.1 (walk.deeper inside) z.0 >>= λ w.
      finished_object L p (walk.is_outermost h) σ.object_use y.0 (length σ.references) (number_at s (p + 6)) (number_at s (p + 10)) (static_of (heads_at s (nest - 1) (number_at s (p + 10)) (p + 14))) w.1 w.0)
  unfolding members_steps fields_steps
  members_are nest binds p h L σ = bind_ext _ _ _ λ x. bind_ext _ _ _ λ y. bind_assoc _ _ _

-- an `AR` that isn't constant, and the assertions of an object: a using frame, items and what closes it
module _ (s : List ℕ) (levels p : ℕ) (h : walk.Place) {l : Limits} {b b₁ : Buffers} {st : AnalysisStack} {r₁ : Step} (opened : Steps r₁ l b b₁ st (λ L σ. open_frame L p false σ)) where
  pub array_not_opened : {why : Refusal} → r₁ ≡ Err why → Walks (Err why) l b b₁ st (λ L σ. array_steps L s levels p h σ)
  unfolding array_steps
  array_not_opened e = step_stops _ opened e

  pub assertions_not_opened : (n : ℕ) {why : Refusal} → r₁ ≡ Err why → Walks (Err why) l b b₁ st (λ L σ. assertions_steps L s levels n p h σ)
  unfolding assertions_steps
  assertions_not_opened n e = step_stops _ opened e

  pub value_not_opened : (head : ℕ) {why : Refusal} → r₁ ≡ Err why → Walks (Err why) l b b₁ st (λ L σ. value_steps L s levels head p h σ)
  unfolding value_steps
  value_not_opened head e = step_stops _ opened e

  module _ {st₁ : AnalysisStack} (e₁ : r₁ ≡ Ok st₁) (k₁ : Long b b₁) {b₂ : Buffers} {r₂ : Walked} where
    module _ (items : Walks r₂ l b₁ b₂ st₁ (λ L σ. run_items s L levels (number_at s (p + 2)) (p + 6) h σ)) where
      pub array_stops : {why : Refusal} → r₂ ≡ Err why → Walks (Err why) l b b₂ st (λ L σ. array_steps L s levels p h σ)
      unfolding array_steps
      array_stops e = step_then _ opened e₁ k₁ (walk_stops _ items e)

      pub array_ends : {st₂ : AnalysisStack} {q : ℕ} → r₂ ≡ Ok (st₂, q) → Long b₁ b₂ → {b₃ : Buffers} {r₃ : Walked} → Walks r₃ l b₂ b₃ st₂ (λ L σ. closed_array L p (number_at s (p + 2)) q σ) → Walks r₃ l b b₃ st (λ L σ. array_steps L s levels p h σ)
      unfolding array_steps
      array_ends e k closed = step_then _ opened e₁ k₁ (walk_then _ items e k closed)

    module _ (n : ℕ) (items : Walks r₂ l b₁ b₂ st₁ (λ L σ. run_items s L levels n p h σ)) where
      pub assertions_stop : {why : Refusal} → r₂ ≡ Err why → Walks (Err why) l b b₂ st (λ L σ. assertions_steps L s levels n p h σ)
      unfolding assertions_steps
      assertions_stop e = step_then _ opened e₁ k₁ (walk_stops _ items e)

      pub assertions_end : {st₂ : AnalysisStack} {q : ℕ} → r₂ ≡ Ok (st₂, q) → Long b₁ b₂ → {b₃ : Buffers} {r₃ : Walked} → Walks r₃ l b₂ b₃ st₂ (λ L σ. closed_assertions L p q σ) → Walks r₃ l b b₃ st (λ L σ. assertions_steps L s levels n p h σ)
      unfolding assertions_steps
      assertions_end e k closed = step_then _ opened e₁ k₁ (walk_then _ items e k closed)

    module _ (head : ℕ) (value : Walks r₂ l b₁ b₂ st₁ (λ L σ. run_expr s L levels p (head_naming_at s head) h σ)) where
      pub value_stops : {why : Refusal} → r₂ ≡ Err why → Walks (Err why) l b b₂ st (λ L σ. value_steps L s levels head p h σ)
      unfolding value_steps
      value_stops e = step_then _ opened e₁ k₁ (walk_stops _ value e)

      pub value_ends : {st₂ : AnalysisStack} {q : ℕ} → r₂ ≡ Ok (st₂, q) → Long b₁ b₂ → {b₃ : Buffers} {r₃ : Walked} → Walks r₃ l b₂ b₃ st₂ (λ L σ. closed_value L p q σ) → Walks r₃ l b b₃ st (λ L σ. value_steps L s levels head p h σ)
      unfolding value_steps
      value_ends e k closed = step_then _ opened e₁ k₁ (walk_then _ value e k closed)

-- a bind and a parameter with a default: a using frame, the value and its spec
module _ (s : List ℕ) (levels p kept : ℕ) (h : walk.Place) {l : Limits} {b b₁ : Buffers} {st : AnalysisStack} {r₁ : Step} (opened : Steps r₁ l b b₁ st (λ L σ. opened_value L p σ)) where
  pub bind_not_opened : (base : ℕ) {why : Refusal} → r₁ ≡ Err why → WalksSpecs (Err why) l b b₁ st (λ L σ. bind_steps L s levels p base kept h σ)
  unfolding bind_steps
  bind_not_opened base e = step_stops_specs _ opened e

  pub param_not_opened : is_set (number_at s (p + 10)) ≡ true → {why : Refusal} → r₁ ≡ Err why → WalksSpecs (Err why) l b b₁ st (λ L σ. param_steps L s levels p kept h σ)
  param_not_opened set e = specs_as_well (step_stops_specs (λ L σ x. param_tail s levels p kept h L σ x) opened e) λ L σ. sym (param_defaults s levels p kept h L σ set)

  module _ {st₁ : AnalysisStack} (e₁ : r₁ ≡ Ok st₁) (k₁ : Long b b₁) {b₂ : Buffers} {r₂ : Walked} where
    module _ (base : ℕ) (value : Walks r₂ l b₁ b₂ st₁ (λ L σ. run_expr s L levels (p + 10) (bind_naming_at s p) h σ)) where
      pub bind_stops : {why : Refusal} → r₂ ≡ Err why → WalksSpecs (Err why) l b b₂ st (λ L σ. bind_steps L s levels p base kept h σ)
      unfolding bind_steps
      bind_stops e = step_then_specs _ opened e₁ k₁ (walk_stops_specs _ value e)

      pub bind_ends : {st₂ : AnalysisStack} {q : ℕ} → r₂ ≡ Ok (st₂, q) → Long b₁ b₂ → {b₃ : Buffers} {r₃ : Specs}
          → WalksSpecs r₃ l b₂ b₃ st₂ (λ L σ. closed_spec L p base kept (rules.written (stack b st)) (stack b st).taint BV (λ slot. slot ∷ []) q σ) → WalksSpecs r₃ l b b₃ st (λ L σ. bind_steps L s levels p base kept h σ)
      unfolding bind_steps
      bind_ends e k closed = step_then_specs _ opened e₁ k₁ (walk_then_specs _ value e k closed)

    module _ (set : is_set (number_at s (p + 10)) ≡ true) (value : Walks r₂ l b₁ b₂ st₁ (λ L σ. run_expr s L levels (p + 14) walk.unnamed h σ)) where
      pub param_stops : {why : Refusal} → r₂ ≡ Err why → WalksSpecs (Err why) l b b₂ st (λ L σ. param_steps L s levels p kept h σ)
      param_stops e = specs_as_well (step_then_specs (λ L σ x. param_tail s levels p kept h L σ x) opened e₁ k₁ (walk_stops_specs (λ L σ x. param_end s p kept L (stack b st) x) value e)) λ L σ. sym (param_defaults s levels p kept h L σ set)

      pub param_ends : {st₂ : AnalysisStack} {q : ℕ} → r₂ ≡ Ok (st₂, q) → Long b₁ b₂ → {b₃ : Buffers} {r₃ : Specs}
          → WalksSpecs r₃ l b₂ b₃ st₂ (λ L σ. closed_spec L p 0 kept (rules.written (stack b st)) (stack b st).taint PA (λ slot. number_at s (p + 2) ∷ slot ∷ 1 ∷ []) q σ) → WalksSpecs r₃ l b b₃ st (λ L σ. param_steps L s levels p kept h σ)
      param_ends e k closed = specs_as_well (step_then_specs (λ L σ x. param_tail s levels p kept h L σ x) opened e₁ k₁ (walk_then_specs (λ L σ x. param_end s p kept L (stack b st) x) value e k closed)) λ L σ. sym (param_defaults s levels p kept h L σ set)

-- `LO`
module _ (s : List ℕ) (levels p : ℕ) (h : walk.Place) {l : Limits} {b b₁ : Buffers} {st : AnalysisStack} {r₁ : Walked} (begun : Walks r₁ l b b₁ st (λ L σ. begun_local L s levels (number_at s (p + 2)) p h.depth σ)) where
  pub local_not_begun : {why : Refusal} → r₁ ≡ Err why → Walks (Err why) l b b₁ st (λ L σ. local_steps L s levels p h σ)
  unfolding local_steps
  local_not_begun e = walk_stops _ begun e

  module _ {st₁ : AnalysisStack} {q₁ : ℕ} (e₁ : r₁ ≡ Ok (st₁, q₁)) (k₁ : Long b b₁) {b₂ : Buffers} {r₂ : Specs}
      (binds : WalksSpecs r₂ l b₁ b₂ st₁ (λ L σ. run_binds s L levels (number_at s (p + 2)) (p + 6) 0 0 h σ)) where
    pub local_binds_stop : {why : Refusal} → r₂ ≡ Err why → Walks (Err why) l b b₂ st (λ L σ. local_steps L s levels p h σ)
    unfolding local_steps
    local_binds_stop e = walk_then _ begun e₁ k₁ (specs_stop _ binds e)

    module _ {st₂ st₃ : AnalysisStack} {body kept : ℕ} (e₂ : r₂ ≡ Ok (st₂, body, kept)) (k₂ : Long b₁ b₂) {b₃ : Buffers}
        (settled : Becomes st₃ l b₂ b₃ st₂ (settle_frame propagate_analysis kept (length (stack b st).references))) (k₃ : Long b₂ b₃)
        {b₄ : Buffers} {r₄ : Walked} (within : Walks r₄ l b₃ b₄ st₃ (λ L σ. run_expr s L levels body walk.unnamed (walk.deeper h) σ)) where
      -- how the local ends
      abbrev pub local_ending : rules.Limits → rules.AnalysisStack × ℕ → Outcome (rules.AnalysisStack × ℕ)
      local_ending L x = finished_local L p kept (length (stack b st).references) x.1 x.0

      pub local_body_stops : {why : Refusal} → r₄ ≡ Err why → Walks (Err why) l b b₄ st (λ L σ. local_steps L s levels p h σ)
      unfolding local_steps
      local_body_stops e = walk_then _ begun e₁ k₁ (specs_then _ binds e₂ k₂ (becomes_then (λ L σ σ₁. run_expr s L levels body walk.unnamed (walk.deeper h) σ₁ >>= local_ending L) settled k₃ (walk_stops (λ L σ. local_ending L) within e)))

      pub local_ends : {st₄ : AnalysisStack} {q : ℕ} → r₄ ≡ Ok (st₄, q) → Long b₃ b₄ → {b₅ : Buffers} {r₅ : Walked}
          → Walks r₅ l b₄ b₅ st₄ (λ L σ. finished_local L p kept (length (stack b st).references) q σ) → Walks r₅ l b b₅ st (λ L σ. local_steps L s levels p h σ)
      unfolding local_steps
      local_ends e k finished = walk_then _ begun e₁ k₁ (specs_then _ binds e₂ k₂ (becomes_then (λ L σ σ₁. run_expr s L levels body walk.unnamed (walk.deeper h) σ₁ >>= local_ending L) settled k₃ (walk_then (λ L σ. local_ending L) within e k finished)))

-- `FN`
module _ (s : List ℕ) (levels p : ℕ) (ν : walk.Naming) (h : walk.Place) {l : Limits} {b b₁ : Buffers} {st : AnalysisStack} {r₁ : Walked} (begun : Walks r₁ l b b₁ st (λ L σ. begun_function L s levels (number_at s (p + 6)) p h.depth σ)) where
  pub function_not_begun : {why : Refusal} → r₁ ≡ Err why → Walks (Err why) l b b₁ st (λ L σ. function_steps L s levels p ν h σ)
  unfolding function_steps
  function_not_begun e = walk_stops _ begun e

  module _ {st₁ : AnalysisStack} {q₁ : ℕ} (e₁ : r₁ ≡ Ok (st₁, q₁)) (k₁ : Long b b₁) {b₂ : Buffers} {r₂ : Specs}
      (params : WalksSpecs r₂ l b₁ b₂ st₁ (λ L σ. run_params s L levels (number_at s (p + 6)) (p + 10) 0 h σ)) where
    pub function_params_stop : {why : Refusal} → r₂ ≡ Err why → Walks (Err why) l b b₂ st (λ L σ. function_steps L s levels p ν h σ)
    unfolding function_steps
    function_params_stop e = walk_then _ begun e₁ k₁ (specs_stop _ params e)

    module _ {st₂ st₃ : AnalysisStack} {body kept : ℕ} (e₂ : r₂ ≡ Ok (st₂, body, kept)) (k₂ : Long b₁ b₂) {b₃ : Buffers}
        (settled : Becomes st₃ l b₂ b₃ st₂ (settle_frame propagate_analysis kept (length (stack b st).references))) (k₃ : Long b₂ b₃)
        {b₄ : Buffers} {r₄ : Walked} (within : Walks r₄ l b₃ b₄ st₃ (λ L σ. run_expr s L levels body walk.unnamed (walk.deeper h) σ)) where
      -- how the function ends, by the state before its body
      abbrev pub function_ending : rules.Limits → rules.AnalysisStack → rules.AnalysisStack × ℕ → Outcome (rules.AnalysisStack × ℕ)
      function_ending L σ x = finished_function L p (span_at s (p + 2)) (rules.written (stack b st)) (rules.written σ) kept (length (stack b st).references) (first_defaults s (number_at s (p + 6)) (p + 10)) ν x.1 x.0

      pub function_body_stops : {why : Refusal} → r₄ ≡ Err why → Walks (Err why) l b b₄ st (λ L σ. function_steps L s levels p ν h σ)
      unfolding function_steps
      function_body_stops e = walk_then _ begun e₁ k₁ (specs_then _ params e₂ k₂ (becomes_then (λ L σ σ₁. run_expr s L levels body walk.unnamed (walk.deeper h) σ₁ >>= function_ending L σ) settled k₃ (walk_stops (λ L σ. function_ending L (stack b₂ st₂)) within e)))

      pub function_ends : {st₄ : AnalysisStack} {q : ℕ} → r₄ ≡ Ok (st₄, q) → Long b₃ b₄ → {b₅ : Buffers} {r₅ : Walked}
          → Walks r₅ l b₄ b₅ st₄ (λ L σ. function_ending L (stack b₂ st₂) (σ, q)) → Walks r₅ l b b₅ st (λ L σ. function_steps L s levels p ν h σ)
      unfolding function_steps
      function_ends e k finished = walk_then _ begun e₁ k₁ (specs_then _ params e₂ k₂ (becomes_then (λ L σ σ₁. run_expr s L levels body walk.unnamed (walk.deeper h) σ₁ >>= function_ending L σ) settled k₃ (walk_then (λ L σ. function_ending L (stack b₂ st₂)) within e k finished)))

-- `OB`: its heads, and what stands after them
module _ (s : List ℕ) (nest p : ℕ) (h : walk.Place) {l : Limits} {b b₁ : Buffers} {st : AnalysisStack} {r₁ : Walked} (heads : Walks r₁ l b b₁ st (λ L σ. run_heads s L (nest - 1) (number_at s (p + 10)) (p + 14) h σ)) where
  abbrev pub whole_object : rules.Limits → rules.AnalysisStack → Outcome (rules.AnalysisStack × ℕ)
  whole_object L σ = object_steps L s (static_of (heads_at s (nest - 1) (number_at s (p + 10)) (p + 14))) (nest - 1) p h σ

  pub object_heads_stop : {why : Refusal} → r₁ ≡ Err why → Walks (Err why) l b b₁ st whole_object
  unfolding object_steps
  object_heads_stop e = walk_stops _ heads e

  pub object_ends : {st₁ : AnalysisStack} {binds : ℕ} → r₁ ≡ Ok (st₁, binds) → Long b b₁ → {b₂ : Buffers} {r₂ : Walked} → Walks r₂ l b₁ b₂ st₁ (λ L σ. members_steps s L nest binds p h σ) → Walks r₂ l b b₂ st whole_object
  unfolding object_steps
  object_ends {binds = binds} e k members = walk_then _ heads e k (walks_as members λ L σ. members_are s nest binds p h L σ)

module _ (s : List ℕ) (nest binds p : ℕ) (h : walk.Place) {l : Limits} {b b₁ : Buffers} {st : AnalysisStack} {r₁ : Walked} (begun : Walks r₁ l b b₁ st (λ L σ. begun_object L s (nest - 1) (number_at s (p + 2)) p binds h σ)) where
  pub members_not_begun : {why : Refusal} → r₁ ≡ Err why → Walks (Err why) l b b₁ st (λ L σ. members_steps s L nest binds p h σ)
  unfolding members_steps
  members_not_begun e = walk_stops _ begun e

  -- the place inside the object
  abbrev pub inside : walk.Place
  inside = walk.in_object (length (stack b st).locals) h

  module _ {st₁ : AnalysisStack} {q₁ : ℕ} (e₁ : r₁ ≡ Ok (st₁, q₁)) (k₁ : Long b b₁) {b₂ : Buffers} {r₂ : Specs}
      (specs : WalksSpecs r₂ l b₁ b₂ st₁ (λ L σ. run_binds s L (nest - 1) (number_at s (p + 2)) binds 1 0 inside σ)) where
    pub members_binds_stop : {why : Refusal} → r₂ ≡ Err why → Walks (Err why) l b b₂ st (λ L σ. members_steps s L nest binds p h σ)
    unfolding members_steps
    members_binds_stop e = walk_then _ begun e₁ k₁ (specs_stop _ specs e)

    module _ {st₂ st₃ : AnalysisStack} {q kept : ℕ} (e₂ : r₂ ≡ Ok (st₂, q, kept)) (k₂ : Long b₁ b₂) {b₃ : Buffers}
        (settled : Becomes st₃ l b₂ b₃ st₂ (settle_frame propagate_analysis kept (length (stack b st).references))) (k₃ : Long b₂ b₃)
        {b₄ : Buffers} {r₄ : Walked} (fields : Walks r₄ l b₃ b₄ st₃ (λ L σ. fields_steps s L (nest - 1) p q (walk.deeper inside) σ)) where
      abbrev pub object_ending : rules.Limits → rules.AnalysisStack × ℕ → Outcome (rules.AnalysisStack × ℕ)
      object_ending L x = finished_object L p (walk.is_outermost h) (stack b st).object_use kept (length (stack b st).references) (number_at s (p + 6)) (number_at s (p + 10))
          (static_of (heads_at s (nest - 1) (number_at s (p + 10)) (p + 14))) x.1 x.0

      pub members_fields_stop : {why : Refusal} → r₄ ≡ Err why → Walks (Err why) l b b₄ st (λ L σ. members_steps s L nest binds p h σ)
      unfolding members_steps
      members_fields_stop e = walk_then _ begun e₁ k₁ (specs_then _ specs e₂ k₂ (becomes_then (λ L σ σ₁. fields_steps s L (nest - 1) p q (walk.deeper inside) σ₁ >>= object_ending L) settled k₃ (walk_stops (λ L σ. object_ending L) fields e)))

      pub members_end : {st₄ : AnalysisStack} {q : ℕ} → r₄ ≡ Ok (st₄, q) → Long b₃ b₄ → {b₅ : Buffers} {r₅ : Walked}
          → Walks r₅ l b₄ b₅ st₄ (λ L σ. object_ending L (σ, q)) → Walks r₅ l b b₅ st (λ L σ. members_steps s L nest binds p h σ)
      unfolding members_steps
      members_end e k finished = walk_then _ begun e₁ k₁ (specs_then _ specs e₂ k₂ (becomes_then (λ L σ σ₁. fields_steps s L (nest - 1) p q (walk.deeper inside) σ₁ >>= object_ending L) settled k₃ (walk_then (λ L σ. object_ending L) fields e k finished)))

-- its assertions and its values
module _ (s : List ℕ) (levels object p : ℕ) (h : walk.Place) {l : Limits} {b b₁ : Buffers} {st : AnalysisStack} {r₁ : Walked}
    (assertions : Walks r₁ l b b₁ st (λ L σ. run_assertions s L levels (number_at s (object + 6)) p h σ)) where
  pub fields_stop : {why : Refusal} → r₁ ≡ Err why → Walks (Err why) l b b₁ st (λ L σ. fields_steps s L levels object p h σ)
  unfolding fields_steps
  fields_stop e = walk_stops _ assertions e

  pub fields_end : {st₁ : AnalysisStack} {q : ℕ} → r₁ ≡ Ok (st₁, q) → Long b b₁ → {b₂ : Buffers} {r₂ : Walked}
      → Walks r₂ l b₁ b₂ st₁ (λ L σ. run_values s L levels (number_at s (object + 10)) (object + 14) q h σ) → Walks r₂ l b b₂ st (λ L σ. fields_steps s L levels object p h σ)
  unfolding fields_steps
  fields_end e k values = walk_then _ assertions e k values

-- a record that opens no frame, and the head of a computed field
module _ (s : List ℕ) (m : Mark) (levels n next p : ℕ) (h : walk.Place) {l : Limits} {b b₁ : Buffers} {st : AnalysisStack} {r₁ : Walked} (items : Walks r₁ l b b₁ st (λ L σ. run_items s L levels n next h σ)) where
  pub plain_stops : {why : Refusal} → r₁ ≡ Err why → Walks (Err why) l b b₁ st (λ L σ. plain_steps L s m levels n next p h σ)
  unfolding plain_steps
  plain_stops e = walk_stops _ items e

  pub plain_ends : {st₁ : AnalysisStack} {q : ℕ} → r₁ ≡ Ok (st₁, q) → Long b b₁ → {b₂ : Buffers} {r₂ : Walked} → Walks r₂ l b₁ b₂ st₁ (λ L σ. copied L s m p q σ) → Walks r₂ l b b₂ st (λ L σ. plain_steps L s m levels n next p h σ)
  unfolding plain_steps
  plain_ends e k own = walk_then _ items e k own

module _ (s : List ℕ) (levels p : ℕ) (h : walk.Place) {l : Limits} {b b₁ : Buffers} {st : AnalysisStack} where
  pub head_fixed : is_set (number_at s (p + 2)) ≡ false → {r : Walked} → Walks r l b b₁ st (λ L σ. head_written L s p (p + 26) σ) → Walks r l b b₁ st (λ L σ. head_steps L s levels p h σ)
  head_fixed set own = walks_as own λ L σ. sym (head_alone s levels p h L σ set)

  module _ (set : is_set (number_at s (p + 2)) ≡ true) {r₁ : Walked} (name : Walks r₁ l b b₁ st (λ L σ. run_expr s L levels (p + 26) walk.unnamed h σ)) where
    pub head_stops : {why : Refusal} → r₁ ≡ Err why → Walks (Err why) l b b₁ st (λ L σ. head_steps L s levels p h σ)
    head_stops e = walks_as (walk_stops (λ L σ x. head_written L s p x.1 x.0) name e) λ L σ. sym (head_computed s levels p h L σ set)

    pub head_ends : {st₁ : AnalysisStack} {q : ℕ} → r₁ ≡ Ok (st₁, q) → Long b b₁ → {b₂ : Buffers} {r₂ : Walked} → Walks r₂ l b₁ b₂ st₁ (λ L σ. head_written L s p q σ) → Walks r₂ l b b₂ st (λ L σ. head_steps L s levels p h σ)
    head_ends e k own = walks_as (walk_then (λ L σ x. head_written L s p x.1 x.0) name e k own) λ L σ. sym (head_computed s levels p h L σ set)
