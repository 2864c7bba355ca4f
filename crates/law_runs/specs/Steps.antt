-- What the code does at each record of the tree, in its order: steps of the rules, with the walks over what stands below the record between them.
-- `levels` are those left for what stands below. Assumes nothing.
use Rattle.std.specs.Prelude.{ℕ, zero, suc, ◌+◌, ◌*◌, Bool, true, false, not, ◌&&◌, ◌||◌, List, [], ◌∷◌, length, drop, eqb}
use Rattle.rules.specs.Outcome.{choose, Outcome, ok, ◌>>=◌}
use Rattle.rules.specs.Numbers.{Mark, number_at, numbers_at, code, code_at, is_set, bit, same_bytes, record_bytes, AR, LO, OB, BV, BF, PA, FH, LS, AC, FV}
use Rattle.rules.specs.Records.{Span, numbers_of}
use Rattle.rules.specs.Depths.{AnalysisResult, no_dependence}
use Rattle.rules.specs.Settling.{propagate_analysis}
use Rattle.rules.specs.State.{Limits, ObjectUse, AnalysisStack, with_object_use, with_taint, written}
use Rattle.rules.specs.Writing.{emit, open_frame, close_frame}
use Rattle.rules.specs.Scoping.{define_this, record_spec_init, settle_frame, finish_frame}
use Rattle.rules.specs.Walk.{Place, Naming, unnamed, as_method, as_computed_method, bind_naming, deeper, in_object, is_outermost, entered_use, left_use}
use Rattle.rules.specs.Walk.{use_identity, use_local, use_import, finish_function}
use Rattle.law_runs.specs.Run.{run_expr, run_items, run_assertions, run_values, run_heads, run_binds, run_params, run_define_binds, run_define_params}

-- Questions asked of the bytes

module _ (s : List ℕ) where
  abbrev pub span_at : ℕ → Span
  span_at p = record { number = number_at s p }

  -- n numbers, each the value of a constant of six bytes
  unfoldable pub values_from : (n p : ℕ) → List ℕ
  values_from zero p = []
  values_from (suc n) p = number_at s (p + 2) ∷ values_from n (p + 6)

  -- the first of n parameters has a default
  unfoldable pub first_defaults : (n p : ℕ) → Bool
  first_defaults zero p = false
  first_defaults (suc n) p = is_set (number_at s (p + 10))

  -- what the function of the bind at p is called
  unfoldable pub bind_naming_at : (p : ℕ) → Naming
  bind_naming_at p = bind_naming (eqb (code_at s p) (code BF)) (number_at s (p + 2)) (span_at (p + 6))

  -- what the function of the field is called whose head stands at p
  unfoldable pub head_naming_at : (p : ℕ) → Naming
  head_naming_at p = choose (is_set (number_at s (p + 22)))
      (λ _. choose (is_set (number_at s (p + 2))) (λ _. as_computed_method (span_at (p + 10))) (λ _. as_method (number_at s (p + 6)) (span_at (p + 10))))
      (λ _. unnamed)

-- "exactly one kept parameter, no default on it, and a body `LS` of that slot"
unfoldable pub gives_argument : (defaults : Bool) → (kept : ℕ) → (body : List ℕ) → Bool
gives_argument defaults kept body = eqb kept 1 && not defaults && same_bytes body (record_bytes LS (0 ∷ []))

-- the numbers of an object's record
unfoldable pub object_record : (outermost : Bool) → ObjectUse → (kept assertions values : ℕ) → (is_static : Bool) → List ℕ
object_record outermost u kept assertions values is_static =
    let dollar = outermost && u.dollar_used in
    bit (u.self_used || u.super_used || dollar) ∷ bit dollar ∷ bit u.super_used
    ∷ kept ∷ assertions ∷ values ∷ bit is_static ∷ []

-- Steps

-- an answer and the place after
unfoldable pub and_place : ℕ → Outcome AnalysisStack → Outcome (AnalysisStack × ℕ)
and_place q o = do
  st ← o
  ok (st, q)

module _ (limits : Limits) where
  unfoldable pub closed_array : (p n q : ℕ) → AnalysisStack → Outcome (AnalysisStack × ℕ)
  closed_array p n q st = do
    st ← close_frame limits p st
    and_place q (emit limits p AR (n ∷ []) st)

  unfoldable pub closed_value : (p q : ℕ) → AnalysisStack → Outcome (AnalysisStack × ℕ)
  closed_value p q st = do
    st ← close_frame limits p st
    and_place q (emit limits p FV [] st)

  unfoldable pub closed_assertions : (p q : ℕ) → AnalysisStack → Outcome (AnalysisStack × ℕ)
  closed_assertions p q st = and_place q (close_frame limits p st)

  unfoldable pub finished_local : (p kept before q : ℕ) → AnalysisStack → Outcome (AnalysisStack × ℕ)
  finished_local p kept before q st = do
    st ← finish_frame limits p kept before st
    and_place q (emit limits p LO (kept ∷ []) st)

  -- `start` is the output's length before the function, `body_start` before its body
  unfoldable pub finished_function : (p : ℕ) → Span → (start body_start kept before : ℕ) → (defaults : Bool) → Naming → (q : ℕ) → AnalysisStack → Outcome (AnalysisStack × ℕ)
  finished_function p span start body_start kept before defaults naming q st =
      let gives = gives_argument defaults kept (drop body_start st.sink.out) in do
        st ← finish_frame limits p kept before st
        and_place q (finish_function limits p span start kept naming gives st)

  unfoldable pub finished_object : (p : ℕ) → (outermost : Bool) → (outer : ObjectUse) → (kept before assertions values : ℕ) → (is_static : Bool) → (q : ℕ) → AnalysisStack → Outcome (AnalysisStack × ℕ)
  finished_object p outermost outer kept before assertions values is_static q st = do
    st ← finish_frame limits p kept before st
    let met = st.object_use
    and_place q (emit limits p OB (object_record outermost met kept assertions values is_static) (with_object_use (left_use outer met) st))

  -- a spec's value opens its frame and depends on nothing yet
  unfoldable pub opened_value : (p : ℕ) → AnalysisStack → Outcome AnalysisStack
  opened_value p st = open_frame limits p false (with_taint no_dependence st)

  unfoldable pub recorded : (p base kept start : ℕ) → AnalysisResult → Mark → (ℕ → List ℕ) → (q : ℕ) → AnalysisStack → Outcome (ℕ × (AnalysisStack × ℕ))
  recorded p base kept start outer m numbers q st = do
    (kept, st) ← record_spec_init limits p base kept start outer m numbers st
    ok (kept, (st, q))

  unfoldable pub closed_spec : (p base kept start : ℕ) → AnalysisResult → Mark → (ℕ → List ℕ) → (q : ℕ) → AnalysisStack → Outcome (ℕ × (AnalysisStack × ℕ))
  closed_spec p base kept start outer m numbers q st = do
    st ← close_frame limits p st
    recorded p base kept start outer m numbers q st

  module _ (s : List ℕ) where
    -- Records with nothing below them

    unfoldable pub identity_steps : (p : ℕ) → Place → AnalysisStack → Outcome (AnalysisStack × ℕ)
    identity_steps p h st = and_place (p + 10) (use_identity limits p (number_at s (p + 2)) (span_at s (p + 6)) h st)

    unfoldable pub variable_steps : (p : ℕ) → Place → AnalysisStack → Outcome (AnalysisStack × ℕ)
    variable_steps p h st = and_place (p + 10) (use_local limits p (number_at s (p + 2)) (span_at s (p + 6)) h st)

    unfoldable pub import_steps : (p : ℕ) → AnalysisStack → Outcome (AnalysisStack × ℕ)
    import_steps p st = and_place (p + 18) (use_import limits p (number_at s (p + 2)) (span_at s (p + 6)) (is_set (number_at s (p + 10))) (number_at s (p + 14)) st)

    -- a record of the tree that is the output's too
    unfoldable pub copied : Mark → (p q : ℕ) → AnalysisStack → Outcome (AnalysisStack × ℕ)
    copied m p q st = and_place q (emit limits p m (numbers_at s (numbers_of m) (p + 2)) st)

    unfoldable pub constants_steps : (n p : ℕ) → AnalysisStack → Outcome (AnalysisStack × ℕ)
    constants_steps n p st = and_place (p + 6 + 6 * n) (emit limits p AC (n ∷ values_from s n (p + 6)) st)

    -- a field's head after its name, if that is computed
    unfoldable pub head_written : (p q : ℕ) → AnalysisStack → Outcome (AnalysisStack × ℕ)
    head_written p q st =
        let kind = number_at s (p + 2) in
        and_place q (emit limits p FH (kind ∷ choose (is_set kind) (λ _. 0) (λ _. number_at s (p + 6)) ∷ number_at s (p + 14) ∷ number_at s (p + 18) ∷ []) st)

    -- Frames opened, their names defined

    unfoldable pub begun_local : (levels n p depth : ℕ) → AnalysisStack → Outcome (AnalysisStack × ℕ)
    begun_local levels n p depth st = do
      st ← open_frame limits p true st
      run_define_binds s limits levels n (p + 6) depth st

    unfoldable pub begun_function : (levels n p depth : ℕ) → AnalysisStack → Outcome (AnalysisStack × ℕ)
    begun_function levels n p depth st = do
      st ← open_frame limits p true st
      run_define_params s limits levels n (p + 10) depth st

    -- the object at p, whose binds stand at `binds`
    unfoldable pub begun_object : (levels n p binds : ℕ) → Place → AnalysisStack → Outcome (AnalysisStack × ℕ)
    begun_object levels n p binds h st = do
      st ← open_frame limits p true (with_object_use (entered_use (is_outermost h) st.object_use) st)
      st ← define_this limits p h.depth st
      run_define_binds s limits levels n binds h.depth st

    -- Records with something below them

    unfoldable pub array_steps : (levels p : ℕ) → Place → AnalysisStack → Outcome (AnalysisStack × ℕ)
    array_steps levels p h st =
        let n = number_at s (p + 2) in do
          st ← open_frame limits p false st
          (st, q) ← run_items s limits levels n (p + 6) h st
          closed_array p n q st

    unfoldable pub local_steps : (levels p : ℕ) → Place → AnalysisStack → Outcome (AnalysisStack × ℕ)
    local_steps levels p h st =
        let n = number_at s (p + 2) in
        let before = length st.references in do
          (st, defined) ← begun_local levels n p h.depth st
          (kept, (st, body)) ← run_binds s limits levels n (p + 6) 0 0 h st
          (st, q) ← run_expr s limits levels body unnamed (deeper h) (settle_frame propagate_analysis kept before st)
          finished_local p kept before q st

    unfoldable pub function_steps : (levels p : ℕ) → Naming → Place → AnalysisStack → Outcome (AnalysisStack × ℕ)
    function_steps levels p naming h st =
        let n = number_at s (p + 6) in
        let before = length st.references in
        let start = written st in do
          (st, defined) ← begun_function levels n p h.depth st
          (kept, (st, body)) ← run_params s limits levels n (p + 10) 0 h st
          let body_start = written st
          (st, q) ← run_expr s limits levels body unnamed (deeper h) (settle_frame propagate_analysis kept before st)
          finished_function p (span_at s (p + 2)) start body_start kept before (first_defaults s n (p + 10)) naming q st

    -- `is_static` is what the object's heads say
    unfoldable pub object_steps : (is_static : Bool) → (levels p : ℕ) → Place → AnalysisStack → Outcome (AnalysisStack × ℕ)
    object_steps is_static levels p h st =
        let locals = number_at s (p + 2) in
        let assertions = number_at s (p + 6) in
        let fields = number_at s (p + 10) in do
          (st, binds) ← run_heads s limits levels fields (p + 14) h st
          let before = length st.references
          let outer = st.object_use
          let inside = in_object (length st.locals) h
          (st, defined) ← begun_object levels locals p binds h st
          (kept, (st, q)) ← run_binds s limits levels locals binds 1 0 inside st
          (st, q) ← run_assertions s limits levels assertions q (deeper inside) (settle_frame propagate_analysis kept before st)
          (st, q) ← run_values s limits levels fields (p + 14) q (deeper inside) st
          finished_object p (is_outermost h) outer kept before assertions fields is_static q st

    -- one of each list

    unfoldable pub bind_steps : (levels p base kept : ℕ) → Place → AnalysisStack → Outcome (ℕ × (AnalysisStack × ℕ))
    bind_steps levels p base kept h st =
        let outer = st.taint in
        let start = written st in do
          st ← opened_value p st
          (st, q) ← run_expr s limits levels (p + 10) (bind_naming_at s p) h st
          closed_spec p base kept start outer BV (λ slot. slot ∷ []) q st

    unfoldable pub param_steps : (levels p kept : ℕ) → Place → AnalysisStack → Outcome (ℕ × (AnalysisStack × ℕ))
    param_steps levels p kept h st =
        let outer = st.taint in
        let start = written st in
        let name = number_at s (p + 2) in
        choose (is_set (number_at s (p + 10)))
        (λ _. do
          st ← opened_value p st
          (st, q) ← run_expr s limits levels (p + 14) unnamed h st
          closed_spec p 0 kept start outer PA (λ slot. name ∷ slot ∷ 1 ∷ []) q st)
        (λ _. recorded p 0 kept start outer PA (λ slot. name ∷ slot ∷ 0 ∷ []) (p + 14) (with_taint no_dependence st))

    unfoldable pub head_steps : (levels p : ℕ) → Place → AnalysisStack → Outcome (AnalysisStack × ℕ)
    head_steps levels p h st = choose (is_set (number_at s (p + 2)))
        (λ _. do
          (st, q) ← run_expr s limits levels (p + 26) unnamed h st
          head_written p q st)
        (λ _. head_written p (p + 26) st)

    -- the value at p of the field whose head stands at `head`
    unfoldable pub value_steps : (levels head p : ℕ) → Place → AnalysisStack → Outcome (AnalysisStack × ℕ)
    value_steps levels head p h st = do
      st ← open_frame limits p false st
      (st, q) ← run_expr s limits levels p (head_naming_at s head) h st
      closed_value p q st

    -- n assertions, of which there is one at least
    unfoldable pub assertions_steps : (levels n p : ℕ) → Place → AnalysisStack → Outcome (AnalysisStack × ℕ)
    assertions_steps levels n p h st = do
      st ← open_frame limits p false st
      (st, q) ← run_items s limits levels n p h st
      closed_assertions p q st

    -- a record with mark m that opens no frame
    unfoldable pub plain_steps : Mark → (levels n next p : ℕ) → Place → AnalysisStack → Outcome (AnalysisStack × ℕ)
    plain_steps m levels n next p h st = do
      (st, q) ← run_items s limits levels n next h st
      copied m p q st
