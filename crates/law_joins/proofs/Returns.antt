-- What each walker returns: the walk of the expression or the list that stands there, from the walks and steps before it. `n`, `h'`, `ν'` and
-- `before` are what the code holds, with what they are equal to. Assumes nothing.
use Prim.Native.Nat.{ℕ, ◌+◌, ◌-◌}
use native.Mathlib.Omega.{arith}
use mathlib.Core.Bool.{Bool, true, false}
use mathlib.Core.List.{List, [], ◌∷◌}
use mathlib.Core.Path.{◌≡◌, refl, sym, ◌∙◌, ap, subst}
use lib.ListN.{length}
use lib.Dec.{eqb}
use borrow.Author.Tests.{eqb-true, eqb-false}
use Rattle.rules.specs.Outcome.{Outcome, ◌>>=◌}
use Rattle.rules.specs.Numbers.{Mark, number_at, numbers_at, code, code_at, ID, TV, VA, AR, IM, LO, FN, OB, NA, PT, AT, BV, PA}
use Rattle.rules.specs.Records.{size_of, numbers_of}
use Rattle.rules.specs.Depths.{AnalysisResult, no_dependence}
use Rattle.rules.specs.FirstWalk.{any_expression, expr_at, constants_at}
use Rattle.rules.specs.Settling.{propagate_analysis}
use Rattle.rules.specs.State as rules
use Rattle.rules.specs.Tree.{Heads}
use Rattle.rules.specs.Writing.{open_frame}
use Rattle.rules.specs.Scoping.{settle_frame}
use Rattle.rules.specs.Walk as walk
use Rattle.bytes_records.specs.Marks.{mark_of, children}
use Rattle.bytes_records.specs.Constants.{is_some}
use Rattle.law_runs.specs.Run.{Accepted, run_expr, run_items, run_assertions, run_values, run_heads, run_binds, run_params, items_at, binds_at, params_at, heads_at, values_at}
use Rattle.law_runs.specs.Steps.{identity_steps, variable_steps, import_steps, constants_steps, copied, closed_array, closed_assertions, closed_value, head_naming_at, bind_naming_at, opened_value, closed_spec, recorded, begun_local, begun_function, begun_object, finished_local, finished_function, finished_object, span_at, first_defaults, plain_steps, head_written, array_steps, local_steps, function_steps, object_steps, assertions_steps, value_steps, head_steps, bind_steps, param_steps}
use Rattle.law_runs.proofs.Expressions.{identity_run, constant_run, variable_run, import_run, constants_run, array_run, plain_run, local_none, local_run, function_run, object_run, object_heads}
use Rattle.law_runs.proofs.Lists.{bind_run, param_run, head_run, value_run, assertions_none, assertions_run}
use Rattle.state.specs.Seen.{Buffers, stack, Fit}
use Rattle.state.specs.Walks.{Walks, WalksSpecs, Steps, Becomes}
use Rattle.state.specs.declared.AnalysisStack.{AnalysisStack}
use Rattle.state.specs.declared.Limits.{Limits}
use Rattle.rules.proofs.Flags.{set_of, unset_of}
use Rattle.law_joins.specs.Ready.{There, PlainThere, Holder, an_argument, a_part, an_assertion, static_of, members_steps, fields_steps}
use Rattle.law_runs.proofs.Holders.{held_one, held_two, not_held_run}
use Rattle.law_runs.proofs.Expressions as found
use Rattle.law_joins.proofs.Joining.{Long, walks_as, specs_as_well, walk_then, walk_stops}
use Rattle.law_joins.proofs.Constructs as made
use Rattle.std.specs.Prelude.{Ok, Err}
use Rattle.refusal.specs.declared.Refusal.{Refusal}
use Rattle.state.specs.Seen.{Step, Walked, Specs}

-- what a settled frame was settled with
settled_with : (kept : ℕ) {l : Limits} {b b₁ : Buffers} {st st₁ : AnalysisStack} {before before' : ℕ} → before ≡ before'
    → Becomes st₁ l b b₁ st (settle_frame propagate_analysis kept before) → Becomes st₁ l b b₁ st (settle_frame propagate_analysis kept before')
settled_with kept {l = l} {b = b} {b₁ = b₁} {st = st} {st₁ = st₁} e w = subst (λ (k : ℕ). Becomes st₁ l b b₁ st (settle_frame propagate_analysis kept k)) e w

-- Records with nothing below them

module _ (s : List ℕ) (nest p : ℕ) (a : Accepted (expr_at s nest any_expression p)) (ν : walk.Naming) (h : walk.Place) {l : Limits} {b b₁ : Buffers} {st : AnalysisStack} {r : Walked} where
  pub identity_returns : code_at s p ≡ code ID → Walks r l b b₁ st (λ L σ. identity_steps L s p h σ) → Walks r l b b₁ st (λ L σ. run_expr s L nest p ν h σ)
  identity_returns e w = walks_as w λ L σ. sym (identity_run s L nest p a e ν h σ)

  pub constant_returns : code_at s p ≡ code TV → Walks r l b b₁ st (λ L σ. copied L s TV p (p + 6) σ) → Walks r l b b₁ st (λ L σ. run_expr s L nest p ν h σ)
  constant_returns e w = walks_as w λ L σ. sym (constant_run s L nest p a e ν h σ)

  pub variable_returns : code_at s p ≡ code VA → Walks r l b b₁ st (λ L σ. variable_steps L s p h σ) → Walks r l b b₁ st (λ L σ. run_expr s L nest p ν h σ)
  variable_returns e w = walks_as w λ L σ. sym (variable_run s L nest p a e ν h σ)

  pub import_returns : code_at s p ≡ code IM → Walks r l b b₁ st (λ L σ. import_steps L s p σ) → Walks r l b b₁ st (λ L σ. run_expr s L nest p ν h σ)
  import_returns e w = walks_as w λ L σ. sym (import_run s L nest p a e ν h σ)

-- `AR`

pub told : (s : List ℕ) (p : ℕ) {n : ℕ} {t x : Bool} → n ≡ number_at s (p + 2) → t ≡ is_some (constants_at s n (p + 6)) → t ≡ x → is_some (constants_at s (number_at s (p + 2)) (p + 6)) ≡ x
told s p en et e = ap (λ (n : ℕ). is_some (constants_at s n (p + 6))) (sym en) ∙ sym et ∙ e

module _ {s : List ℕ} {nest p : ℕ} (a : There s nest AR p) (ν : walk.Naming) (h : walk.Place) {l : Limits} {b b₁ : Buffers} {st : AnalysisStack} {n : ℕ} (en : n ≡ number_at s (p + 2)) {t : Bool} (et : t ≡ is_some (constants_at s n (p + 6))) where
  pub array_constant : t ≡ true → {r : Walked} → Walks r l b b₁ st (λ L σ. constants_steps L s n p σ) → Walks r l b b₁ st (λ L σ. run_expr s L nest p ν h σ)
  array_constant e w = walks_as w λ L σ. ap (λ (n : ℕ). constants_steps L s n p σ) en ∙ sym (constants_run s L nest p a.read a.marked (told s p en et e) ν h σ)

  module _ (e : t ≡ false) {r₁ : Step} (opened : Steps r₁ l b b₁ st (λ L σ. open_frame L p false σ)) where
    whole : {b' : Buffers} {r : Walked} → Walks r l b b' st (λ L σ. array_steps L s (nest - 1) p h σ) → Walks r l b b' st (λ L σ. run_expr s L nest p ν h σ)
    whole w = walks_as w λ L σ. sym (array_run s L nest p a.read a.marked (told s p en et e) ν h σ)

    pub array_unopened : {why : Refusal} → r₁ ≡ Err why → Walks (Err why) l b b₁ st (λ L σ. run_expr s L nest p ν h σ)
    array_unopened e = whole (made.array_not_opened s (nest - 1) p h opened e)

    module _ {st₁ : AnalysisStack} (e₁ : r₁ ≡ Ok st₁) (k₁ : Long b b₁) {b₂ : Buffers} {r₂ : Walked} (items : Walks r₂ l b₁ b₂ st₁ (λ L σ. run_items s L (nest - 1) n (p + 6) h σ)) where
      all : Walks r₂ l b₁ b₂ st₁ (λ L σ. run_items s L (nest - 1) (number_at s (p + 2)) (p + 6) h σ)
      all = walks_as items λ L σ. ap (λ (n : ℕ). run_items s L (nest - 1) n (p + 6) h σ) en

      pub array_stopped : {why : Refusal} → r₂ ≡ Err why → Walks (Err why) l b b₂ st (λ L σ. run_expr s L nest p ν h σ)
      array_stopped e₂ = whole (made.array_stops s (nest - 1) p h opened e₁ k₁ all e₂)

      pub array_ended : {st₂ : AnalysisStack} {q : ℕ} → r₂ ≡ Ok (st₂, q) → Long b₁ b₂ → {b₃ : Buffers} {r₃ : Walked} → Walks r₃ l b₂ b₃ st₂ (λ L σ. closed_array L p n q σ) → Walks r₃ l b b₃ st (λ L σ. run_expr s L nest p ν h σ)
      array_ended {q = q} e₂ k closed = whole (made.array_ends s (nest - 1) p h opened e₁ k₁ all e₂ k (walks_as closed λ L σ. ap (λ (n : ℕ). closed_array L p n q σ) en))

-- Records that open no frame

module _ {s : List ℕ} {nest mark p : ℕ} (a : PlainThere s nest mark p) (ν : walk.Naming) (h : walk.Place) {l : Limits} {b b₁ : Buffers} {st : AnalysisStack}
    {n size : ℕ} (en : n ≡ children (mark_of mark) (numbers_at s (numbers_of (mark_of mark)) (p + 2))) (es : size ≡ size_of (mark_of mark))
    {r₁ : Walked} (items : Walks r₁ l b b₁ st (λ L σ. run_items s L (nest - 1) n (p + size) h σ)) where
  plain_whole : {b' : Buffers} {r : Walked} → Walks r l b b' st (λ L σ. plain_steps L s (mark_of mark) (nest - 1) n (p + size) p h σ) → Walks r l b b' st (λ L σ. run_expr s L nest p ν h σ)
  plain_whole w = walks_as w λ L σ.
      ap (λ (k : ℕ). plain_steps L s (mark_of mark) (nest - 1) k (p + size) p h σ) en
      ∙ ap (λ (k : ℕ). plain_steps L s (mark_of mark) (nest - 1) (children (mark_of mark) (numbers_at s (numbers_of (mark_of mark)) (p + 2))) (p + k) p h σ) es
      ∙ ap (λ (c : ℕ). plain_steps L s (mark_of c) (nest - 1) (children (mark_of c) (numbers_at s (numbers_of (mark_of c)) (p + 2))) (p + size_of (mark_of c)) p h σ) (sym a.marked)
      ∙ sym (plain_run s L nest p a.read (λ e. a.not_identity (sym a.marked ∙ e)) (λ e. a.not_constant (sym a.marked ∙ e)) (λ e. a.not_variable (sym a.marked ∙ e))
      (λ e. a.not_array (sym a.marked ∙ e)) (λ e. a.not_import (sym a.marked ∙ e)) (λ e. a.not_local (sym a.marked ∙ e)) (λ e. a.not_function (sym a.marked ∙ e)) (λ e. a.not_object (sym a.marked ∙ e)) ν h σ)

  pub plain_stopped : {why : Refusal} → r₁ ≡ Err why → Walks (Err why) l b b₁ st (λ L σ. run_expr s L nest p ν h σ)
  plain_stopped e = plain_whole (made.plain_stops s (mark_of mark) (nest - 1) n (p + size) p h items e)

  pub plain_ended : {st₁ : AnalysisStack} {q : ℕ} → r₁ ≡ Ok (st₁, q) → Long b b₁ → {b₂ : Buffers} {r₂ : Walked} → Walks r₂ l b₁ b₂ st₁ (λ L σ. copied L s (mark_of mark) p q σ) → Walks r₂ l b b₂ st (λ L σ. run_expr s L nest p ν h σ)
  plain_ended e k own = plain_whole (made.plain_ends s (mark_of mark) (nest - 1) n (p + size) p h items e k own)

-- `LO`

module _ {s : List ℕ} {nest p : ℕ} (a : There s nest LO p) (ν : walk.Naming) (h : walk.Place) {l : Limits} {b b₁ : Buffers} {st : AnalysisStack} {n : ℕ} (en : n ≡ number_at s (p + 2)) where
  pub local_only : n ≡ 0 → {r : Walked} → Walks r l b b₁ st (λ L σ. run_expr s L (nest - 1) (p + 6) walk.unnamed h σ) → Walks r l b b₁ st (λ L σ. run_expr s L nest p ν h σ)
  local_only e w = walks_as w λ L σ. sym (local_none s L nest p a.read a.marked (sym en ∙ e) ν h σ)

  module _ (some : n ≡ 0 → ⊥) {r₁ : Walked} (begun : Walks r₁ l b b₁ st (λ L σ. begun_local L s (nest - 1) n p h.depth σ)) where
    local_whole : {b' : Buffers} {r : Walked} → Walks r l b b' st (λ L σ. local_steps L s (nest - 1) p h σ) → Walks r l b b' st (λ L σ. run_expr s L nest p ν h σ)
    local_whole w = walks_as w λ L σ. sym (local_run s L nest p a.read a.marked (omega (arith, some, en)) ν h σ)

    begun_all : Walks r₁ l b b₁ st (λ L σ. begun_local L s (nest - 1) (number_at s (p + 2)) p h.depth σ)
    begun_all = walks_as begun λ L σ. ap (λ (n : ℕ). begun_local L s (nest - 1) n p h.depth σ) en

    pub local_unbegun : {why : Refusal} → r₁ ≡ Err why → Walks (Err why) l b b₁ st (λ L σ. run_expr s L nest p ν h σ)
    local_unbegun e = local_whole (made.local_not_begun s (nest - 1) p h begun_all e)

    module _ {st₁ : AnalysisStack} {q₁ : ℕ} (e₁ : r₁ ≡ Ok (st₁, q₁)) (k₁ : Long b b₁) {b₂ : Buffers} {r₂ : Specs} (binds : WalksSpecs r₂ l b₁ b₂ st₁ (λ L σ. run_binds s L (nest - 1) n (p + 6) 0 0 h σ)) where
      binds_all : WalksSpecs r₂ l b₁ b₂ st₁ (λ L σ. run_binds s L (nest - 1) (number_at s (p + 2)) (p + 6) 0 0 h σ)
      binds_all = specs_as_well binds λ L σ. ap (λ (n : ℕ). run_binds s L (nest - 1) n (p + 6) 0 0 h σ) en

      pub local_binds_stopped : {why : Refusal} → r₂ ≡ Err why → Walks (Err why) l b b₂ st (λ L σ. run_expr s L nest p ν h σ)
      local_binds_stopped e = local_whole (made.local_binds_stop s (nest - 1) p h begun_all e₁ k₁ binds_all e)

      module _ {st₂ st₃ : AnalysisStack} {body kept : ℕ} (e₂ : r₂ ≡ Ok (st₂, body, kept)) (k₂ : Long b₁ b₂) {b₃ : Buffers} {before : ℕ} (eb : before ≡ length (stack b st).references)
          (settled : Becomes st₃ l b₂ b₃ st₂ (settle_frame propagate_analysis kept before)) (k₃ : Long b₂ b₃) {h' : walk.Place} (eh : h' ≡ walk.deeper h)
          {b₄ : Buffers} {r₄ : Walked} (within : Walks r₄ l b₃ b₄ st₃ (λ L σ. run_expr s L (nest - 1) body walk.unnamed h' σ)) where
        within_all : Walks r₄ l b₃ b₄ st₃ (λ L σ. run_expr s L (nest - 1) body walk.unnamed (walk.deeper h) σ)
        within_all = walks_as within λ L σ. ap (λ (h : walk.Place). run_expr s L (nest - 1) body walk.unnamed h σ) eh

        pub local_body_stopped : {why : Refusal} → r₄ ≡ Err why → Walks (Err why) l b b₄ st (λ L σ. run_expr s L nest p ν h σ)
        local_body_stopped e = local_whole (made.local_body_stops s (nest - 1) p h begun_all e₁ k₁ binds_all e₂ k₂ (settled_with kept eb settled) k₃ within_all e)

        pub local_ended : {st₄ : AnalysisStack} {q : ℕ} → r₄ ≡ Ok (st₄, q) → Long b₃ b₄ → {b₅ : Buffers} {r₅ : Walked} → Walks r₅ l b₄ b₅ st₄ (λ L σ. finished_local L p kept before q σ) → Walks r₅ l b b₅ st (λ L σ. run_expr s L nest p ν h σ)
        local_ended {q = q} e k finished = local_whole (made.local_ends s (nest - 1) p h begun_all e₁ k₁ binds_all e₂ k₂ (settled_with kept eb settled) k₃ within_all e k (walks_as finished λ L σ. ap (λ (k : ℕ). finished_local L p kept k q σ) eb))

-- `FN`

module _ {s : List ℕ} {nest p : ℕ} (a : There s nest FN p) (ν : walk.Naming) (h : walk.Place) {l : Limits} {b b₁ : Buffers} {st : AnalysisStack} {n : ℕ} (en : n ≡ number_at s (p + 6))
    {r₁ : Walked} (begun : Walks r₁ l b b₁ st (λ L σ. begun_function L s (nest - 1) n p h.depth σ)) where
  function_whole : {b' : Buffers} {r : Walked} → Walks r l b b' st (λ L σ. function_steps L s (nest - 1) p ν h σ) → Walks r l b b' st (λ L σ. run_expr s L nest p ν h σ)
  function_whole w = walks_as w λ L σ. sym (function_run s L nest p a.read a.marked ν h σ)

  function_begun : Walks r₁ l b b₁ st (λ L σ. begun_function L s (nest - 1) (number_at s (p + 6)) p h.depth σ)
  function_begun = walks_as begun λ L σ. ap (λ (n : ℕ). begun_function L s (nest - 1) n p h.depth σ) en

  pub function_unbegun : {why : Refusal} → r₁ ≡ Err why → Walks (Err why) l b b₁ st (λ L σ. run_expr s L nest p ν h σ)
  function_unbegun e = function_whole (made.function_not_begun s (nest - 1) p ν h function_begun e)

  module _ {st₁ : AnalysisStack} {q₁ : ℕ} (e₁ : r₁ ≡ Ok (st₁, q₁)) (k₁ : Long b b₁) {b₂ : Buffers} {r₂ : Specs} (params : WalksSpecs r₂ l b₁ b₂ st₁ (λ L σ. run_params s L (nest - 1) n (p + 10) 0 h σ)) where
    params_all : WalksSpecs r₂ l b₁ b₂ st₁ (λ L σ. run_params s L (nest - 1) (number_at s (p + 6)) (p + 10) 0 h σ)
    params_all = specs_as_well params λ L σ. ap (λ (n : ℕ). run_params s L (nest - 1) n (p + 10) 0 h σ) en

    pub function_params_stopped : {why : Refusal} → r₂ ≡ Err why → Walks (Err why) l b b₂ st (λ L σ. run_expr s L nest p ν h σ)
    function_params_stopped e = function_whole (made.function_params_stop s (nest - 1) p ν h function_begun e₁ k₁ params_all e)

    module _ {st₂ st₃ : AnalysisStack} {body kept : ℕ} (e₂ : r₂ ≡ Ok (st₂, body, kept)) (k₂ : Long b₁ b₂) {b₃ : Buffers} {before : ℕ} (eb : before ≡ length (stack b st).references)
        (settled : Becomes st₃ l b₂ b₃ st₂ (settle_frame propagate_analysis kept before)) (k₃ : Long b₂ b₃) {h' : walk.Place} (eh : h' ≡ walk.deeper h)
        {b₄ : Buffers} {r₄ : Walked} (within : Walks r₄ l b₃ b₄ st₃ (λ L σ. run_expr s L (nest - 1) body walk.unnamed h' σ)) where
      function_within : Walks r₄ l b₃ b₄ st₃ (λ L σ. run_expr s L (nest - 1) body walk.unnamed (walk.deeper h) σ)
      function_within = walks_as within λ L σ. ap (λ (h : walk.Place). run_expr s L (nest - 1) body walk.unnamed h σ) eh

      pub function_body_stopped : {why : Refusal} → r₄ ≡ Err why → Walks (Err why) l b b₄ st (λ L σ. run_expr s L nest p ν h σ)
      function_body_stopped e = function_whole (made.function_body_stops s (nest - 1) p ν h function_begun e₁ k₁ params_all e₂ k₂ (settled_with kept eb settled) k₃ function_within e)

      pub function_ended : {st₄ : AnalysisStack} {q span start body_start : ℕ} {defaults : Bool} → r₄ ≡ Ok (st₄, q) → Long b₃ b₄
          → span ≡ number_at s (p + 2) → start ≡ rules.written (stack b st) → body_start ≡ rules.written (stack b₂ st₂) → defaults ≡ first_defaults s n (p + 10) → {b₅ : Buffers} {r₅ : Walked}
          → Walks r₅ l b₄ b₅ st₄ (λ L σ. finished_function L p (record { number = span }) start body_start kept before defaults ν q σ) → Walks r₅ l b b₅ st (λ L σ. run_expr s L nest p ν h σ)
      function_ended {q = q} {span = span} {start = start} {body_start = body_start} {defaults = defaults} e k es et eo ed finished =
          function_whole (made.function_ends s (nest - 1) p ν h function_begun e₁ k₁ params_all e₂ k₂ (settled_with kept eb settled) k₃ function_within e k (walks_as finished λ L σ.
          ap (λ (x : ℕ). finished_function L p (record { number = x }) start body_start kept before defaults ν q σ) es
          ∙ ap (λ (x : ℕ). finished_function L p (span_at s (p + 2)) x body_start kept before defaults ν q σ) et
          ∙ ap (λ (x : ℕ). finished_function L p (span_at s (p + 2)) (rules.written (stack b st)) x kept before defaults ν q σ) eo
          ∙ ap (λ (x : ℕ). finished_function L p (span_at s (p + 2)) (rules.written (stack b st)) (rules.written (stack b₂ st₂)) kept x defaults ν q σ) eb
          ∙ ap (λ (x : Bool). finished_function L p (span_at s (p + 2)) (rules.written (stack b st)) (rules.written (stack b₂ st₂)) kept (length (stack b st).references) x ν q σ) (ed ∙ ap (λ (n : ℕ). first_defaults s n (p + 10)) en)))

-- `OB`

module _ {s : List ℕ} {nest p : ℕ} (a : There s nest OB p) (ν : walk.Naming) (h : walk.Place) {l : Limits} {b b₁ : Buffers} {st : AnalysisStack} {f : ℕ} (ef : f ≡ number_at s (p + 10))
    {r₁ : Walked} (heads : Walks r₁ l b b₁ st (λ L σ. run_heads s L (nest - 1) f (p + 14) h σ)) where
  heads_all : Walks r₁ l b b₁ st (λ L σ. run_heads s L (nest - 1) (number_at s (p + 10)) (p + 14) h σ)
  heads_all = walks_as heads λ L σ. ap (λ (n : ℕ). run_heads s L (nest - 1) n (p + 14) h σ) ef

  object_whole : {b' : Buffers} {r : Walked} → Walks r l b b' st (λ L σ. object_steps L s (static_of (heads_at s (nest - 1) (number_at s (p + 10)) (p + 14))) (nest - 1) p h σ) → Walks r l b b' st (λ L σ. run_expr s L nest p ν h σ)
  unfolding static_of
  object_whole w = walks_as w λ L σ.
      let hs = object_heads s nest p a.read a.marked in
      ap (λ (o : Outcome (Heads × ℕ)). object_steps L s (static_of o) (nest - 1) p h σ) hs.there
      ∙ sym (object_run s L nest p a.read a.marked hs ν h σ)

  pub object_heads_stopped : {why : Refusal} → r₁ ≡ Err why → Walks (Err why) l b b₁ st (λ L σ. run_expr s L nest p ν h σ)
  object_heads_stopped e = object_whole (made.object_heads_stop s nest p h heads_all e)

  pub object_ended : {st₁ : AnalysisStack} {binds : ℕ} → r₁ ≡ Ok (st₁, binds) → Long b b₁ → {b₂ : Buffers} {r₂ : Walked} → Walks r₂ l b₁ b₂ st₁ (λ L σ. members_steps s L nest binds p h σ) → Walks r₂ l b b₂ st (λ L σ. run_expr s L nest p ν h σ)
  object_ended e k members = object_whole (made.object_ends s nest p h heads_all e k members)

-- after the heads

module _ (s : List ℕ) (nest binds p : ℕ) (h : walk.Place) {l : Limits} {b b₁ : Buffers} {st : AnalysisStack} {n : ℕ} (en : n ≡ number_at s (p + 2))
    {r₁ : Walked} (begun : Walks r₁ l b b₁ st (λ L σ. begun_object L s (nest - 1) n p binds h σ)) where
  object_begun : Walks r₁ l b b₁ st (λ L σ. begun_object L s (nest - 1) (number_at s (p + 2)) p binds h σ)
  object_begun = walks_as begun λ L σ. ap (λ (n : ℕ). begun_object L s (nest - 1) n p binds h σ) en

  pub members_unbegun : {why : Refusal} → r₁ ≡ Err why → Walks (Err why) l b b₁ st (λ L σ. members_steps s L nest binds p h σ)
  members_unbegun e = made.members_not_begun s nest binds p h object_begun e

  module _ {st₁ : AnalysisStack} {q₁ : ℕ} (e₁ : r₁ ≡ Ok (st₁, q₁)) (k₁ : Long b b₁) {i : walk.Place} (ei : i ≡ walk.in_object (length (stack b st).locals) h) {b₂ : Buffers} {r₂ : Specs}
      (specs : WalksSpecs r₂ l b₁ b₂ st₁ (λ L σ. run_binds s L (nest - 1) n binds 1 0 i σ)) where
    object_binds : WalksSpecs r₂ l b₁ b₂ st₁ (λ L σ. run_binds s L (nest - 1) (number_at s (p + 2)) binds 1 0 (walk.in_object (length (stack b st).locals) h) σ)
    object_binds = specs_as_well specs λ L σ. ap (λ (n : ℕ). run_binds s L (nest - 1) n binds 1 0 i σ) en ∙ ap (λ (h : walk.Place). run_binds s L (nest - 1) (number_at s (p + 2)) binds 1 0 h σ) ei

    pub members_binds_stopped : {why : Refusal} → r₂ ≡ Err why → Walks (Err why) l b b₂ st (λ L σ. members_steps s L nest binds p h σ)
    members_binds_stopped e = made.members_binds_stop s nest binds p h object_begun e₁ k₁ object_binds e

    module _ {st₂ st₃ : AnalysisStack} {q kept : ℕ} (e₂ : r₂ ≡ Ok (st₂, q, kept)) (k₂ : Long b₁ b₂) {b₃ : Buffers} {before : ℕ} (eb : before ≡ length (stack b st).references)
        (settled : Becomes st₃ l b₂ b₃ st₂ (settle_frame propagate_analysis kept before)) (k₃ : Long b₂ b₃) {i' : walk.Place} (ed : i' ≡ walk.deeper i)
        {b₄ : Buffers} {r₄ : Walked} (fields : Walks r₄ l b₃ b₄ st₃ (λ L σ. fields_steps s L (nest - 1) p q i' σ)) where
      object_fields : Walks r₄ l b₃ b₄ st₃ (λ L σ. fields_steps s L (nest - 1) p q (walk.deeper (walk.in_object (length (stack b st).locals) h)) σ)
      object_fields = walks_as fields λ L σ. ap (λ (h : walk.Place). fields_steps s L (nest - 1) p q h σ) (ed ∙ ap walk.deeper ei)

      pub members_fields_stopped : {why : Refusal} → r₄ ≡ Err why → Walks (Err why) l b b₄ st (λ L σ. members_steps s L nest binds p h σ)
      members_fields_stopped e = made.members_fields_stop s nest binds p h object_begun e₁ k₁ object_binds e₂ k₂ (settled_with kept eb settled) k₃ object_fields e

      pub members_ended : {st₄ : AnalysisStack} {q₄ assertions fields : ℕ} {outermost is_static : Bool} {outer : rules.ObjectUse} → r₄ ≡ Ok (st₄, q₄) → Long b₃ b₄ → outer ≡ (stack b st).object_use
          → outermost ≡ walk.is_outermost h → assertions ≡ number_at s (p + 6) → fields ≡ number_at s (p + 10) → is_static ≡ static_of (heads_at s (nest - 1) (number_at s (p + 10)) (p + 14)) → {b₅ : Buffers} {r₅ : Walked}
          → Walks r₅ l b₄ b₅ st₄ (λ L σ. finished_object L p outermost outer kept before assertions fields is_static q₄ σ) → Walks r₅ l b b₅ st (λ L σ. members_steps s L nest binds p h σ)
      members_ended {q₄ = q₄} {assertions = assertions} {fields = fields} {outermost = outermost} {is_static = is_static} e k eu eo ea ef es finished =
          made.members_end s nest binds p h object_begun e₁ k₁ object_binds e₂ k₂ (settled_with kept eb settled) k₃ object_fields e k (walks_as finished λ L σ.
          ap (λ (x : rules.ObjectUse). finished_object L p outermost x kept before assertions fields is_static q₄ σ) eu
          ∙ ap (λ (x : Bool). finished_object L p x (stack b st).object_use kept before assertions fields is_static q₄ σ) eo
          ∙ ap (λ (x : ℕ). finished_object L p (walk.is_outermost h) (stack b st).object_use kept x assertions fields is_static q₄ σ) eb
          ∙ ap (λ (x : ℕ). finished_object L p (walk.is_outermost h) (stack b st).object_use kept (length (stack b st).references) x fields is_static q₄ σ) ea
          ∙ ap (λ (x : ℕ). finished_object L p (walk.is_outermost h) (stack b st).object_use kept (length (stack b st).references) (number_at s (p + 6)) x is_static q₄ σ) ef
          ∙ ap (λ (x : Bool). finished_object L p (walk.is_outermost h) (stack b st).object_use kept (length (stack b st).references) (number_at s (p + 6)) (number_at s (p + 10)) x q₄ σ) es)

-- assertions and values

module _ (s : List ℕ) (levels object p : ℕ) (h : walk.Place) {l : Limits} {b b₁ : Buffers} {st : AnalysisStack} {n : ℕ} (en : n ≡ number_at s (object + 6))
    {r₁ : Walked} (assertions : Walks r₁ l b b₁ st (λ L σ. run_assertions s L levels n p h σ)) where
  assertions_all : Walks r₁ l b b₁ st (λ L σ. run_assertions s L levels (number_at s (object + 6)) p h σ)
  assertions_all = walks_as assertions λ L σ. ap (λ (n : ℕ). run_assertions s L levels n p h σ) en

  pub fields_stopped : {why : Refusal} → r₁ ≡ Err why → Walks (Err why) l b b₁ st (λ L σ. fields_steps s L levels object p h σ)
  fields_stopped e = made.fields_stop s levels object p h assertions_all e

  pub fields_ended : {st₁ : AnalysisStack} {q f : ℕ} → r₁ ≡ Ok (st₁, q) → Long b b₁ → f ≡ number_at s (object + 10) → {b₂ : Buffers} {r₂ : Walked}
      → Walks r₂ l b₁ b₂ st₁ (λ L σ. run_values s L levels f (object + 14) q h σ) → Walks r₂ l b b₂ st (λ L σ. fields_steps s L levels object p h σ)
  fields_ended {q = q} e k ef values = made.fields_end s levels object p h assertions_all e k (walks_as values λ L σ. ap (λ (n : ℕ). run_values s L levels n (object + 14) q h σ) ef)

module _ (s : List ℕ) (nest n p : ℕ) (h : walk.Place) {l : Limits} where
  pub assertions_nothing : {b : Buffers} {st : AnalysisStack} → n ≡ 0 → Fit l b st → Walks (Ok (st, p)) l b b st (λ L σ. run_assertions s L nest n p h σ)
  assertions_nothing {b = b} {st = st} e f = record { same = λ L eL. sym (ap (λ (n : ℕ). run_assertions s L nest n p h (stack b st)) e ∙ assertions_none s L nest p h (stack b st)); fit = f }

  module _ (a : Accepted (items_at s nest n p)) (some : n ≡ 0 → ⊥) {b b₁ : Buffers} {st : AnalysisStack} {r₁ : Step} (opened : Steps r₁ l b b₁ st (λ L σ. open_frame L p false σ)) where
    assertions_whole : {b' : Buffers} {r : Walked} → Walks r l b b' st (λ L σ. assertions_steps L s nest n p h σ) → Walks r l b b' st (λ L σ. run_assertions s L nest n p h σ)
    assertions_whole w = walks_as w λ L σ. sym (assertions_run s L nest n p h σ (omega (arith, some)) a)

    pub assertions_unopened : {why : Refusal} → r₁ ≡ Err why → Walks (Err why) l b b₁ st (λ L σ. run_assertions s L nest n p h σ)
    assertions_unopened e = assertions_whole (made.assertions_not_opened s nest p h opened n e)

    module _ {st₁ : AnalysisStack} (e₁ : r₁ ≡ Ok st₁) (k₁ : Long b b₁) {b₂ : Buffers} {r₂ : Walked} (items : Walks r₂ l b₁ b₂ st₁ (λ L σ. run_items s L nest n p h σ)) where
      pub assertions_stopped : {why : Refusal} → r₂ ≡ Err why → Walks (Err why) l b b₂ st (λ L σ. run_assertions s L nest n p h σ)
      assertions_stopped e = assertions_whole (made.assertions_stop s nest p h opened e₁ k₁ n items e)

      pub assertions_ended : {st₂ : AnalysisStack} {q : ℕ} → r₂ ≡ Ok (st₂, q) → Long b₁ b₂ → {b₃ : Buffers} {r₃ : Walked} → Walks r₃ l b₂ b₃ st₂ (λ L σ. closed_assertions L p q σ) → Walks r₃ l b b₃ st (λ L σ. run_assertions s L nest n p h σ)
      assertions_ended e k closed = assertions_whole (made.assertions_end s nest p h opened e₁ k₁ n items e k closed)

module _ (s : List ℕ) (nest head p : ℕ) (a : Accepted (values_at s nest 1 head p)) (h : walk.Place) {l : Limits} {b b₁ : Buffers} {st : AnalysisStack} {r₁ : Step} (opened : Steps r₁ l b b₁ st (λ L σ. open_frame L p false σ)) where
  value_whole : {b' : Buffers} {r : Walked} → Walks r l b b' st (λ L σ. value_steps L s nest head p h σ) → Walks r l b b' st (λ L σ. run_values s L nest 1 head p h σ)
  value_whole w = walks_as w λ L σ. sym (value_run s L nest head p h σ a)

  pub value_unopened : {why : Refusal} → r₁ ≡ Err why → Walks (Err why) l b b₁ st (λ L σ. run_values s L nest 1 head p h σ)
  value_unopened e = value_whole (made.value_not_opened s nest p h opened head e)

  module _ {st₁ : AnalysisStack} (e₁ : r₁ ≡ Ok st₁) (k₁ : Long b b₁) {ν : walk.Naming} (eν : ν ≡ head_naming_at s head) {b₂ : Buffers} {r₂ : Walked} (value : Walks r₂ l b₁ b₂ st₁ (λ L σ. run_expr s L nest p ν h σ)) where
    value_all : Walks r₂ l b₁ b₂ st₁ (λ L σ. run_expr s L nest p (head_naming_at s head) h σ)
    value_all = walks_as value λ L σ. ap (λ (ν : walk.Naming). run_expr s L nest p ν h σ) eν

    pub value_stopped : {why : Refusal} → r₂ ≡ Err why → Walks (Err why) l b b₂ st (λ L σ. run_values s L nest 1 head p h σ)
    value_stopped e = value_whole (made.value_stops s nest p h opened e₁ k₁ head value_all e)

    pub value_ended : {st₂ : AnalysisStack} {q : ℕ} → r₂ ≡ Ok (st₂, q) → Long b₁ b₂ → {b₃ : Buffers} {r₃ : Walked} → Walks r₃ l b₂ b₃ st₂ (λ L σ. closed_value L p q σ) → Walks r₃ l b b₃ st (λ L σ. run_values s L nest 1 head p h σ)
    value_ended e k closed = value_whole (made.value_ends s nest p h opened e₁ k₁ head value_all e k closed)

-- heads

module _ (s : List ℕ) (nest p : ℕ) (a : Accepted (heads_at s nest 1 p)) (h : walk.Place) {l : Limits} {b : Buffers} {st : AnalysisStack} {n : ℕ} (en : n ≡ number_at s (p + 2)) where
  head_whole : {b' : Buffers} {r : Walked} → Walks r l b b' st (λ L σ. head_steps L s nest p h σ) → Walks r l b b' st (λ L σ. run_heads s L nest 1 p h σ)
  head_whole w = walks_as w λ L σ. sym (head_run s L nest p h σ a)

  pub head_alone : n ≡ 0 → {b₁ : Buffers} {r : Walked} → Walks r l b b₁ st (λ L σ. head_written L s p (p + 26) σ) → Walks r l b b₁ st (λ L σ. run_heads s L nest 1 p h σ)
  head_alone e own = head_whole (made.head_fixed s nest p h (unset_of (sym en ∙ e)) own)

  module _ (computed : n ≡ 0 → ⊥) {b₁ : Buffers} {r₁ : Walked} (name : Walks r₁ l b b₁ st (λ L σ. run_expr s L nest (p + 26) walk.unnamed h σ)) where
    pub head_stopped : {why : Refusal} → r₁ ≡ Err why → Walks (Err why) l b b₁ st (λ L σ. run_heads s L nest 1 p h σ)
    head_stopped e = head_whole (made.head_stops s nest p h (set_of (λ z. computed (en ∙ z))) name e)

    pub head_ended : {st₁ : AnalysisStack} {q : ℕ} → r₁ ≡ Ok (st₁, q) → Long b b₁ → {b₂ : Buffers} {r₂ : Walked} → Walks r₂ l b₁ b₂ st₁ (λ L σ. head_written L s p q σ) → Walks r₂ l b b₂ st (λ L σ. run_heads s L nest 1 p h σ)
    head_ended e k own = head_whole (made.head_ends s nest p h (set_of (λ z. computed (en ∙ z))) name e k own)

-- binds and parameters

module _ (s : List ℕ) (nest p base kept : ℕ) (a : Accepted (binds_at s nest 1 p)) (h : walk.Place) {l : Limits} {b b₁ : Buffers} {st : AnalysisStack} {r₁ : Step} (opened : Steps r₁ l b b₁ st (λ L σ. opened_value L p σ)) where
  bind_whole : {b' : Buffers} {r : Specs} → WalksSpecs r l b b' st (λ L σ. bind_steps L s nest p base kept h σ) → WalksSpecs r l b b' st (λ L σ. run_binds s L nest 1 p base kept h σ)
  bind_whole w = specs_as_well w λ L σ. sym (bind_run s L nest p base kept h σ a)

  pub bind_unopened : {why : Refusal} → r₁ ≡ Err why → WalksSpecs (Err why) l b b₁ st (λ L σ. run_binds s L nest 1 p base kept h σ)
  bind_unopened e = bind_whole (made.bind_not_opened s nest p kept h opened base e)

  module _ {st₁ : AnalysisStack} (e₁ : r₁ ≡ Ok st₁) (k₁ : Long b b₁) {ν : walk.Naming} (eν : ν ≡ bind_naming_at s p) {b₂ : Buffers} {r₂ : Walked} (value : Walks r₂ l b₁ b₂ st₁ (λ L σ. run_expr s L nest (p + 10) ν h σ)) where
    bind_all : Walks r₂ l b₁ b₂ st₁ (λ L σ. run_expr s L nest (p + 10) (bind_naming_at s p) h σ)
    bind_all = walks_as value λ L σ. ap (λ (ν : walk.Naming). run_expr s L nest (p + 10) ν h σ) eν

    pub bind_stopped : {why : Refusal} → r₂ ≡ Err why → WalksSpecs (Err why) l b b₂ st (λ L σ. run_binds s L nest 1 p base kept h σ)
    bind_stopped e = bind_whole (made.bind_stops s nest p kept h opened e₁ k₁ base bind_all e)

    pub bind_ended : {st₂ : AnalysisStack} {q start : ℕ} {outer : AnalysisResult} {m : Mark} {numbers : ℕ → List ℕ} → r₂ ≡ Ok (st₂, q) → Long b₁ b₂ → start ≡ rules.written (stack b st) → outer ≡ (stack b st).taint → m ≡ BV → numbers ≡ (λ slot. slot ∷ []) → {b₃ : Buffers} {r₃ : Specs}
        → WalksSpecs r₃ l b₂ b₃ st₂ (λ L σ. closed_spec L p base kept start outer m numbers q σ) → WalksSpecs r₃ l b b₃ st (λ L σ. run_binds s L nest 1 p base kept h σ)
    bind_ended {q = q} {start = start} {outer = outer} {m = m} {numbers = numbers} e k et eo em en closed = bind_whole (made.bind_ends s nest p kept h opened e₁ k₁ base bind_all e k (specs_as_well closed λ L σ.
        ap (λ (x : ℕ). closed_spec L p base kept x outer m numbers q σ) et
        ∙ ap (λ (x : AnalysisResult). closed_spec L p base kept (rules.written (stack b st)) x m numbers q σ) eo
        ∙ ap (λ (x : Mark). closed_spec L p base kept (rules.written (stack b st)) (stack b st).taint x numbers q σ) em
        ∙ ap (λ (x : ℕ → List ℕ). closed_spec L p base kept (rules.written (stack b st)) (stack b st).taint BV x q σ) en))

module _ (s : List ℕ) (nest p kept : ℕ) (a : Accepted (params_at s nest 1 p)) (h : walk.Place) {l : Limits} {b : Buffers} {st : AnalysisStack} {n name : ℕ} (en : n ≡ number_at s (p + 10)) (em : name ≡ number_at s (p + 2)) where
  param_whole : {b' : Buffers} {r : Specs} → WalksSpecs r l b b' st (λ L σ. param_steps L s nest p kept h σ) → WalksSpecs r l b b' st (λ L σ. run_params s L nest 1 p kept h σ)
  param_whole w = specs_as_well w λ L σ. sym (param_run s L nest p kept h σ a)

  -- `fresh` is the state with a value that depends on nothing yet
  pub param_alone : n ≡ 0 → {fresh : AnalysisStack} {start : ℕ} {outer : AnalysisResult} {m : Mark} {numbers : ℕ → List ℕ} → stack b fresh ≡ rules.with_taint no_dependence (stack b st) → start ≡ rules.written (stack b st)
      → outer ≡ (stack b st).taint → m ≡ PA → numbers ≡ (λ slot. name ∷ slot ∷ 0 ∷ []) → {b₁ : Buffers} {r : Specs}
      → WalksSpecs r l b b₁ fresh (λ L σ. recorded L p 0 kept start outer m numbers (p + 14) σ) → WalksSpecs r l b b₁ st (λ L σ. run_params s L nest 1 p kept h σ)
  param_alone e {start = start} {outer = outer} {m = m} {numbers = numbers} ef et eo ek ens w = param_whole (record {
    same = λ L eL. w.same L eL
        ∙ ap (λ (σ : rules.AnalysisStack). recorded L p 0 kept start outer m numbers (p + 14) σ) ef
        ∙ ap (λ (x : ℕ). recorded L p 0 kept x outer m numbers (p + 14) (rules.with_taint no_dependence (stack b st))) et
        ∙ ap (λ (x : AnalysisResult). recorded L p 0 kept (rules.written (stack b st)) x m numbers (p + 14) (rules.with_taint no_dependence (stack b st))) eo
        ∙ ap (λ (x : Mark). recorded L p 0 kept (rules.written (stack b st)) (stack b st).taint x numbers (p + 14) (rules.with_taint no_dependence (stack b st))) ek
        ∙ ap (λ (x : ℕ → List ℕ). recorded L p 0 kept (rules.written (stack b st)) (stack b st).taint PA x (p + 14) (rules.with_taint no_dependence (stack b st))) ens
        ∙ ap (λ (x : ℕ). recorded L p 0 kept (rules.written (stack b st)) (stack b st).taint PA (λ slot. x ∷ slot ∷ 0 ∷ []) (p + 14) (rules.with_taint no_dependence (stack b st))) em
        ∙ sym (made.param_plain s nest p kept h L (stack b st) (unset_of (sym en ∙ e)));
    fit = w.fit;
  })

  module _ (defaults : n ≡ 0 → ⊥) {b₁ : Buffers} {r₁ : Step} (opened : Steps r₁ l b b₁ st (λ L σ. opened_value L p σ)) where
    pub param_unopened : {why : Refusal} → r₁ ≡ Err why → WalksSpecs (Err why) l b b₁ st (λ L σ. run_params s L nest 1 p kept h σ)
    param_unopened e = param_whole (made.param_not_opened s nest p kept h opened (set_of (λ z. defaults (en ∙ z))) e)

    module _ {st₁ : AnalysisStack} (e₁ : r₁ ≡ Ok st₁) (k₁ : Long b b₁) {b₂ : Buffers} {r₂ : Walked} (value : Walks r₂ l b₁ b₂ st₁ (λ L σ. run_expr s L nest (p + 14) walk.unnamed h σ)) where
      pub param_stopped : {why : Refusal} → r₂ ≡ Err why → WalksSpecs (Err why) l b b₂ st (λ L σ. run_params s L nest 1 p kept h σ)
      param_stopped e = param_whole (made.param_stops s nest p kept h opened e₁ k₁ (set_of (λ z. defaults (en ∙ z))) value e)

      pub param_ended : {st₂ : AnalysisStack} {q start : ℕ} {outer : AnalysisResult} {m : Mark} {numbers : ℕ → List ℕ} → r₂ ≡ Ok (st₂, q) → Long b₁ b₂ → start ≡ rules.written (stack b st) → outer ≡ (stack b st).taint → m ≡ PA → numbers ≡ (λ slot. name ∷ slot ∷ 1 ∷ [])
          → {b₃ : Buffers} {r₃ : Specs} → WalksSpecs r₃ l b₂ b₃ st₂ (λ L σ. closed_spec L p 0 kept start outer m numbers q σ) → WalksSpecs r₃ l b b₃ st (λ L σ. run_params s L nest 1 p kept h σ)
      param_ended {q = q} {outer = outer} {m = m} {numbers = numbers} e k et eo ek ens closed = param_whole (made.param_ends s nest p kept h opened e₁ k₁ (set_of (λ z. defaults (en ∙ z))) value e k (specs_as_well closed λ L σ.
          ap (λ (x : ℕ). closed_spec L p 0 kept x outer m numbers q σ) et
          ∙ ap (λ (x : AnalysisResult). closed_spec L p 0 kept (rules.written (stack b st)) x m numbers q σ) eo
          ∙ ap (λ (x : Mark). closed_spec L p 0 kept (rules.written (stack b st)) (stack b st).taint x numbers q σ) ek
          ∙ ap (λ (x : ℕ → List ℕ). closed_spec L p 0 kept (rules.written (stack b st)) (stack b st).taint PA x q σ) ens
          ∙ ap (λ (x : ℕ). closed_spec L p 0 kept (rules.written (stack b st)) (stack b st).taint PA (λ slot. x ∷ slot ∷ 1 ∷ []) q σ) em))

-- items: an expression, or a record that holds one or two

pub the_holder : {c : ℕ} → Holder c → found.Holder c
the_holder (an_argument e) = found.an_argument e
the_holder (a_part e) = found.a_part e
the_holder (an_assertion e) = found.an_assertion e

module _ (s : List ℕ) (nest p : ℕ) (a : Accepted (items_at s nest 1 p)) {c : ℕ} (ec : code_at s p ≡ c) (h : walk.Place) {l : Limits} {b b₁ : Buffers} {st : AnalysisStack} where
  pub item_plain : (c ≡ code NA → ⊥) → (c ≡ code PT → ⊥) → (c ≡ code AT → ⊥) → {r : Walked} → Walks r l b b₁ st (λ L σ. run_expr s L nest p walk.unnamed h σ) → Walks r l b b₁ st (λ L σ. run_items s L nest 1 p h σ)
  item_plain no_na no_pt no_at w = walks_as w λ L σ. sym (not_held_run s L nest p a c ec no_na no_pt no_at h σ)

  module _ (hold : Holder c) {n : ℕ} (en : n ≡ children (mark_of c) (numbers_at s (numbers_of (mark_of c)) (p + 2))) {r₁ : Walked} (first : Walks r₁ l b b₁ st (λ L σ. run_expr s L nest (p + 6) walk.unnamed h σ)) where
    module _ (one : n ≡ 1) where
      one_whole : {b' : Buffers} {r : Walked} → Walks r l b b' st (λ L σ. run_expr s L nest (p + 6) walk.unnamed h σ >>= λ x. copied L s (mark_of c) p x.1 x.0) → Walks r l b b' st (λ L σ. run_items s L nest 1 p h σ)
      one_whole w = walks_as w λ L σ. sym (held_one s L nest p a c ec (the_holder hold) (sym en ∙ one) h σ)

      pub held_one_ended : {st₁ : AnalysisStack} {q : ℕ} → r₁ ≡ Ok (st₁, q) → Long b b₁ → {b₂ : Buffers} {r₂ : Walked} → Walks r₂ l b₁ b₂ st₁ (λ L σ. copied L s (mark_of c) p q σ) → Walks r₂ l b b₂ st (λ L σ. run_items s L nest 1 p h σ)
      held_one_ended e k own = one_whole (walk_then _ first e k own)

    module _ (two : n ≡ 1 → ⊥) where
      two_whole : {b' : Buffers} {r : Walked} → Walks r l b b' st (λ L σ. run_expr s L nest (p + 6) walk.unnamed h σ >>= λ x. run_expr s L nest x.1 walk.unnamed h x.0 >>= λ y. copied L s (mark_of c) p y.1 y.0) → Walks r l b b' st (λ L σ. run_items s L nest 1 p h σ)
      two_whole w = walks_as w λ L σ. sym (held_two s L nest p a c ec (the_holder hold) (λ e. two (en ∙ e)) h σ)

      module _ {st₁ : AnalysisStack} {q : ℕ} (e₁ : r₁ ≡ Ok (st₁, q)) (k₁ : Long b b₁) {b₂ : Buffers} {r₂ : Walked} (second : Walks r₂ l b₁ b₂ st₁ (λ L σ. run_expr s L nest q walk.unnamed h σ)) where
        pub held_second_stopped : {why : Refusal} → r₂ ≡ Err why → Walks (Err why) l b b₂ st (λ L σ. run_items s L nest 1 p h σ)
        held_second_stopped e = two_whole (walk_then _ first e₁ k₁ (walk_stops _ second e))

        pub held_two_ended : {st₂ : AnalysisStack} {q₂ : ℕ} → r₂ ≡ Ok (st₂, q₂) → Long b₁ b₂ → {b₃ : Buffers} {r₃ : Walked} → Walks r₃ l b₂ b₃ st₂ (λ L σ. copied L s (mark_of c) p q₂ σ) → Walks r₃ l b b₃ st (λ L σ. run_items s L nest 1 p h σ)
        held_two_ended e k own = two_whole (walk_then _ first e₁ k₁ (walk_then _ second e k own))

    pub held_first_stopped : {why : Refusal} → r₁ ≡ Err why → Walks (Err why) l b b₁ st (λ L σ. run_items s L nest 1 p h σ)
    held_first_stopped {why = why} e = by_count (eqb n 1) refl
      where
        by_count : (t : Bool) → eqb n 1 ≡ t → Walks (Err why) l b b₁ st (λ L σ. run_items s L nest 1 p h σ)
        by_count true et = one_whole (eqb-true _ _ et) (walk_stops _ first e)
        by_count false et = two_whole (eqb-false _ _ et) (walk_stops _ first e)
