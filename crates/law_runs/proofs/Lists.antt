-- Lists of the tree, item by item: what is accepted in them, where it ends, and that analysing them goes one by one. Assumes nothing.
use Prim.Native.Nat.{ℕ, zero, suc, ◌+◌, ◌*◌, ◌≤◌, ◌<◌}
use mathlib.Core.Bool.{Bool, true, false}
use mathlib.Core.List.{List, [], ◌∷◌}
use mathlib.Core.Path.{◌≡◌, refl, sym, ap, ◌∙◌}
use native.Mathlib.Omega.{arith}
use lib.ListN.{length}
use lib.Dec.{eqb}
use Rattle.rules.specs.Outcome.{Outcome, ok, refuse, choose, ◌>>=◌}
use Rattle.rules.specs.Numbers.{code, code_at, number_at, numbers_at, is_set, bit, BF, BV, PA, FH, FV}
use Rattle.rules.specs.Records.{Span, size_of, numbers_of, fields, widths, width}
use Rattle.rules.specs.Depths.{no_dependence}
use Rattle.rules.specs.Tree.{Expr, Exprs, Binds, Params, Heads, place_of, no_exprs, ◌then◌, no_binds, bind, no_params, param, param_or, no_heads, fixed, computed}
use Rattle.rules.specs.FirstWalk.{Allowed, any_expression, level, Groups, many, none_left, expr_item, child_at, groups_at, bind_item, param_item, head_item, expr_at, value_groups, value_allowed}
use Rattle.rules.specs.State.{Limits, AnalysisStack, with_taint, written}
use Rattle.rules.specs.Writing.{emit, open_frame, close_frame}
use Rattle.rules.specs.Scoping.{define_local, record_spec_init}
use Rattle.rules.specs.Walk.{Place, Naming, unnamed, as_method, as_computed_method, bind_naming, head_namings, first_naming, define_binds, define_params, analyze, analyze_all, analyze_assertions, analyze_values, analyze_binds, analyze_params, analyze_heads}
use Rattle.rules.proofs.After.{After, fine, after_ok, after_bind, after_self}
use Rattle.rules.proofs.Outcomes.{same_ok, bind_fine, bind_refused, bind_unit, bind_ext, bind_assoc, bind_four, bind_got, chosen_true, chosen_false}
use Rattle.bytes_skip.specs.Places.{past, over, expr_past, exprs_past, below_past, held_past}
use Rattle.bytes_records.specs.Marks.{mark_of, find_mark, marks, children}
use Rattle.bytes_skip.specs.Behind.{Behind}
use Rattle.bytes_skip.proofs.Binding.{over_one}
use Rattle.tree.proofs.Laws.{judged_right}
use Rattle.tree.proofs.Leaves.{expected_first}
use Rattle.rules.proofs.Flags.{unset_of}
use Rattle.law_runs.specs.Run.{Accepted, item_at, items_at, binds_at, params_at, heads_at, values_at, run_expr, run_item, run_items, run_assertions, run_values, run_heads, run_binds, run_params, run_define_binds, run_define_params}
use Rattle.law_runs.specs.Steps.{span_at, bind_naming_at, head_naming_at, and_place, closed_value, closed_assertions, opened_value, recorded, closed_spec, head_written, bind_steps, param_steps, head_steps, value_steps, assertions_steps}
use Rattle.law_runs.proofs.Binding.{accepted, OneByOne, one_by_one, many_split, many_one, many_alone, many_first, many_within, run_step, run_ran}
use Rattle.law_runs.proofs.Reading.{expr_any, expr_place, expr_within}
use Rattle.law_runs.proofs.Records.{BindThere, bind_there, ParamThere, ParamKind, no_default, with_default, param_there, HeadThere, HeadKind, is_fixed, is_computed, head_there, head_at, bind_within, param_within, head_within, item_there}

-- an expression that can be read is analysed, and what follows goes on after it
run_expr_then : {C : Type 0} (s : List ℕ) (limits : Limits) (levels p : ℕ) (naming : Naming) (h : Place) (st : AnalysisStack) (k : AnalysisStack × ℕ → Outcome C) {e : Expr} {q : ℕ}
    → expr_at s levels any_expression p ≡ ok (e, q) → (run_expr s limits levels p naming h st >>= k) ≡ (analyze limits e naming h st >>= λ st. k (st, q))
unfolding run_expr ◌>>=◌
run_expr_then {C} s limits levels p naming h st k {e} {q} read =
    ap (λ (o : Outcome (AnalysisStack × ℕ)). o >>= k) (bind_fine _ read) ∙ bind_assoc (analyze limits e naming h st) (λ st. ok (st, q)) k

-- a list whose analysis leaves the state, and one whose analysis leaves how many specs are kept, too

abbrev pub StatesByOne : {A : Type 0} → ((n p : ℕ) → Outcome (A × ℕ)) → ((n p : ℕ) → AnalysisStack → Outcome (AnalysisStack × ℕ)) → Type 0
StatesByOne read run = OneByOne read run (λ st q. (st, q)) (λ c. c)

abbrev pub SpecsByOne : {A : Type 0} → ((n p : ℕ) → Outcome (A × ℕ)) → ((n p : ℕ) → ℕ × AnalysisStack → Outcome (ℕ × (AnalysisStack × ℕ))) → Type 0
SpecsByOne read run = OneByOne read run (λ b q. (b.0, (b.1, q))) (λ c. ((c.0, c.1.0), c.1.1))

-- Binds

-- what a bind leaves: how many are kept, and the state
bind_spec : Limits → (p base kept : ℕ) → Naming → Expr → Place → AnalysisStack → Outcome (ℕ × AnalysisStack)
bind_spec limits p base kept naming value h st =
    open_frame limits p false (with_taint no_dependence st) >>= λ opened. analyze limits value naming h opened >>= λ analysed. close_frame limits p analysed >>= λ closed.
    record_spec_init limits p base kept (written st) st.taint BV (λ slot. slot ∷ []) closed

bind_then : (limits : Limits) (p name : ℕ) (span : Span) (is_function : Bool) (value : Expr) (bs : Binds) (base kept : ℕ) (h : Place) (st : AnalysisStack)
    → analyze_binds limits (bind p name span is_function value bs) base kept h st
    ≡ (bind_spec limits p base kept (bind_naming is_function name span) value h st >>= λ b. analyze_binds limits bs base b.0 h b.1)
unfolding analyze_binds bind_spec
bind_then limits p name span is_function value bs base kept h st =
    sym (bind_four (open_frame limits p false (with_taint no_dependence st)) (analyze limits value (bind_naming is_function name span) h) (close_frame limits p)
    (record_spec_init limits p base kept (written st) st.taint BV (λ slot. slot ∷ [])) (λ b. analyze_binds limits bs base b.0 h b.1))

bind_alone : (limits : Limits) (p name : ℕ) (span : Span) (is_function : Bool) (value : Expr) (base kept : ℕ) (h : Place) (st : AnalysisStack)
    → analyze_binds limits (bind p name span is_function value no_binds) base kept h st ≡ bind_spec limits p base kept (bind_naming is_function name span) value h st
unfolding analyze_binds
bind_alone limits p name span is_function value base kept h st =
    bind_then limits p name span is_function value no_binds base kept h st ∙ bind_unit (bind_spec limits p base kept (bind_naming is_function name span) value h st)

-- a bind and others are analysed one after another
bind_put : (s : List ℕ) (limits : Limits) (levels p base kept : ℕ) (h : Place) (st : AnalysisStack) {put : Binds → Binds} {q : ℕ} → BindThere s levels p put q → (bs : Binds)
    → analyze_binds limits (put bs) base kept h st ≡ (analyze_binds limits (put no_binds) base kept h st >>= λ b. analyze_binds limits bs base b.0 h b.1)
bind_put s limits levels p base kept h st t bs =
    ap (λ (x : Binds). analyze_binds limits x base kept h st) (t.puts bs)
    ∙ bind_then limits p _ _ _ t.value bs base kept h st
    ∙ ap (λ (o : Outcome (ℕ × AnalysisStack)). o >>= λ b. analyze_binds limits bs base b.0 h b.1)
    (sym (bind_alone limits p _ _ _ t.value base kept h st) ∙ ap (λ (x : Binds). analyze_binds limits x base kept h st) (sym (t.puts no_binds)))

pub binds_first : (s : List ℕ) (levels n p : ℕ) → Accepted (binds_at s levels (suc n) p) → Accepted (binds_at s levels 1 p)
unfolding binds_at
binds_first s levels n p a = many_first (bind_item s (expr_at s levels)) no_binds n p a

pub binds_by_one : (s : List ℕ) (limits : Limits) (levels base : ℕ) (h : Place)
    → SpecsByOne (binds_at s levels) (λ n p b. run_binds s limits levels n p base b.0 h b.1)
unfolding run_binds binds_at analyze_binds
binds_by_one s limits levels base h = one_by_one (bind_item s (expr_at s levels)) no_binds (λ bs b. analyze_binds limits bs base b.0 h b.1) _ _ (λ b q. refl) (λ b. refl)
    λ p put q e bs b. bind_put s limits levels p base b.0 h b.1 (bind_there s levels p e) bs

-- one bind

pub record OneBind (s : List ℕ) (levels p : ℕ) (bs : Binds) (q : ℕ) : Type 0 where
  pub fits : p + 10 ≤ length s
  pub value : Expr
  pub read : expr_at s levels any_expression (p + 10) ≡ ok (value, q)
  pub same : bs ≡ bind p (number_at s (p + 2)) (span_at s (p + 6)) (eqb (code_at s p) (code BF)) value no_binds

pub one_bind : (s : List ℕ) (levels p : ℕ) {bs : Binds} {q : ℕ} → binds_at s levels 1 p ≡ ok (bs, q) → OneBind s levels p bs q
unfolding binds_at
one_bind s levels p e =
    let o = many_alone (bind_item s (expr_at s levels)) no_binds p e in
    let t = bind_there s levels p o.here in
    record { fits = t.fits; value = t.value; read = t.read; same = o.same ∙ t.puts no_binds }

pub bind_fits : (s : List ℕ) (levels p : ℕ) → Accepted (binds_at s levels 1 p) → p + 10 ≤ length s
bind_fits s levels p a = (one_bind s levels p a.there).fits

pub bind_value : (s : List ℕ) (levels p : ℕ) → Accepted (binds_at s levels 1 p) → Accepted (expr_at s levels any_expression (p + 10))
bind_value s levels p a = accepted (one_bind s levels p a.there).read

pub bind_run : (s : List ℕ) (limits : Limits) (levels p base kept : ℕ) (h : Place) (st : AnalysisStack) → Accepted (binds_at s levels 1 p)
    → run_binds s limits levels 1 p base kept h st ≡ bind_steps limits s levels p base kept h st
unfolding run_binds bind_steps opened_value closed_spec recorded bind_naming_at bind_spec
bind_run s limits levels p base kept h st a =
    let q = a.what.1 in
    let o = one_bind s levels p a.there in
    let naming = bind_naming (eqb (code_at s p) (code BF)) (number_at s (p + 2)) (span_at s (p + 6)) in
    let record_it = record_spec_init limits p base kept (written st) st.taint BV (λ slot. slot ∷ []) in
    bind_fine _ a.there
    ∙ ap (λ (bs : Binds). analyze_binds limits bs base kept h st >>= λ b. ok (b.0, (b.1, q))) o.same
    ∙ ap (λ (x : Outcome (ℕ × AnalysisStack)). x >>= λ b. ok (b.0, (b.1, q))) (bind_alone limits p _ _ _ o.value base kept h st)
    ∙ bind_four (open_frame limits p false (with_taint no_dependence st)) (analyze limits o.value naming h) (close_frame limits p) record_it (λ b. ok (b.0, (b.1, q)))
    ∙ bind_ext (open_frame limits p false (with_taint no_dependence st)) _ _ (λ opened. sym (run_expr_then s limits levels (p + 10) naming h opened _ o.read))

-- how far they go

pub binds_within : (s : List ℕ) (levels n p : ℕ) {bs : Binds} {q : ℕ} → binds_at s levels n p ≡ ok (bs, q) → (p + 10 * n ≤ q) × (p ≤ length s → q ≤ length s)
unfolding binds_at
binds_within s levels n p e = after_ok (many_within (bind_item s (expr_at s levels)) no_binds (length s) 10 (bind_within s levels) n p) e

pub binds_end : (s : List ℕ) (levels n p : ℕ) {bs : Binds} {q : ℕ} → binds_at s levels n p ≡ ok (bs, q) → p ≤ length s → (p ≤ q) × (q ≤ length s)
binds_end s levels n p e le = let w = binds_within s levels n p e in (omega (arith, w.0), w.1 le)

pub binds_room : (s : List ℕ) (levels n p : ℕ) → Accepted (binds_at s levels n p) → p ≤ length s → p + 10 * n ≤ length s
binds_room s levels n p a le = let w = binds_within s levels n p a.there in omega (arith, w.0, w.1 le)

pub binds_short : (s : List ℕ) (levels n p : ℕ) → Accepted (binds_at s levels n p) → n ≤ length s
binds_short s levels zero p a = omega arith
binds_short s levels (suc n) p a =
    let fits = bind_fits s levels p (binds_first s levels n p a) in
    let inside : p ≤ length s = omega arith in
    omega (arith, binds_room s levels (suc n) p a inside)

-- their names

pub define_binds_none : (s : List ℕ) (limits : Limits) (levels p depth : ℕ) (st : AnalysisStack) → run_define_binds s limits levels 0 p depth st ≡ ok (st, p)
unfolding run_define_binds binds_at many none_left define_binds ◌>>=◌
define_binds_none s limits levels p depth st = refl

pub define_binds_step : (s : List ℕ) (limits : Limits) (levels n p depth : ℕ) (st : AnalysisStack) {b : Binds} {q : ℕ} → Accepted (binds_at s levels (suc n) p) → binds_at s levels 1 p ≡ ok (b, q)
    → run_define_binds s limits levels (suc n) p depth st ≡ (define_local limits p (number_at s (p + 2)) (span_at s (p + 6)) depth st >>= λ st. run_define_binds s limits levels n q depth st)
unfolding run_define_binds binds_at define_binds
define_binds_step s limits levels n p depth st {b} {q} a e =
    let item = bind_item s (expr_at s levels) in
    let f = many_split item no_binds n p a.there in
    let t = bind_there s levels p f.here in
    let g = same_ok (sym (many_one item no_binds p f.here) ∙ e) in
    let later : many item (none_left no_binds) n q ≡ ok (f.others, a.what.1) = ap (λ (x : Binds × ℕ). many item (none_left no_binds) n x.1) (sym g) ∙ f.later in
    bind_fine _ a.there
    ∙ ap (λ (bs : Binds). define_binds limits bs depth st >>= λ st. ok (st, a.what.1)) (f.same ∙ t.puts f.others)
    ∙ bind_assoc (define_local limits p (number_at s (p + 2)) (span_at s (p + 6)) depth st) (define_binds limits f.others depth) (λ st. ok (st, a.what.1))
    ∙ bind_ext (define_local limits p (number_at s (p + 2)) (span_at s (p + 6)) depth st) _ _ (λ defined. sym (bind_fine _ later))

-- Items

-- an item puts what was read before what follows
record ItemRead (s : List ℕ) (levels p : ℕ) (put : Exprs → Exprs) (q : ℕ) : Type 0 where
  expr : Expr
  read : item_at s levels p ≡ ok (expr, q)
  puts : (es : Exprs) → put es ≡ (expr then es)

item_read : (s : List ℕ) (levels p : ℕ) {put : Exprs → Exprs} {q : ℕ} → expr_item s (expr_at s levels) (item_at s levels) p ≡ ok (put, q) → ItemRead s levels p put q
unfolding expr_item
item_read s levels p e = after_ok by e
  where
    by : After (λ i. ItemRead s levels p i.0 i.1) (expr_item s (expr_at s levels) (item_at s levels) p)
    by = after_bind _ (after_self (item_at s levels p)) λ x e. fine (record { expr = x.0; read = e; puts = λ es. refl })

item_then : (limits : Limits) (e : Expr) (es : Exprs) (h : Place) (st : AnalysisStack)
    → analyze_all limits (e then es) h st ≡ (analyze_all limits (e then no_exprs) h st >>= λ st. analyze_all limits es h st)
unfolding analyze_all
item_then limits e es h st = ap (λ (o : Outcome AnalysisStack). o >>= λ st. analyze_all limits es h st) (sym (bind_unit (analyze limits e unnamed h st)))

item_put : (s : List ℕ) (limits : Limits) (levels p : ℕ) (h : Place) (st : AnalysisStack) {put : Exprs → Exprs} {q : ℕ} → ItemRead s levels p put q → (es : Exprs)
    → analyze_all limits (put es) h st ≡ (analyze_all limits (put no_exprs) h st >>= λ st. analyze_all limits es h st)
item_put s limits levels p h st t es =
    ap (λ (x : Exprs). analyze_all limits x h st) (t.puts es)
    ∙ item_then limits t.expr es h st
    ∙ ap (λ (x : Exprs). analyze_all limits x h st >>= λ st. analyze_all limits es h st) (sym (t.puts no_exprs))

pub items_first : (s : List ℕ) (levels n p : ℕ) → Accepted (items_at s levels (suc n) p) → Accepted (items_at s levels 1 p)
unfolding items_at
items_first s levels n p a = many_first (expr_item s (expr_at s levels) (item_at s levels)) no_exprs n p a

pub items_by_one : (s : List ℕ) (limits : Limits) (levels : ℕ) (h : Place) → StatesByOne (items_at s levels) (λ n p st. run_items s limits levels n p h st)
unfolding run_items items_at analyze_all
items_by_one s limits levels h = one_by_one (expr_item s (expr_at s levels) (item_at s levels)) no_exprs (λ es st. analyze_all limits es h st) _ _ (λ b q. refl) (λ b. refl)
    λ p put q e es st. item_put s limits levels p h st (item_read s levels p e) es

-- one item

pub record OneItem (s : List ℕ) (levels p : ℕ) (es : Exprs) (q : ℕ) : Type 0 where
  pub expr : Expr
  pub read : item_at s levels p ≡ ok (expr, q)
  pub same : es ≡ (expr then no_exprs)

pub one_item : (s : List ℕ) (levels p : ℕ) {es : Exprs} {q : ℕ} → items_at s levels 1 p ≡ ok (es, q) → OneItem s levels p es q
unfolding items_at
one_item s levels p e =
    let o = many_alone (expr_item s (expr_at s levels) (item_at s levels)) no_exprs p e in
    let t = item_read s levels p o.here in
    record { expr = t.expr; read = t.read; same = o.same ∙ t.puts no_exprs }

pub item_value : (s : List ℕ) (levels p : ℕ) → Accepted (items_at s levels 1 p) → Accepted (item_at s levels p)
item_value s levels p a = accepted (one_item s levels p a.there).read

pub item_run : (s : List ℕ) (limits : Limits) (levels p : ℕ) (h : Place) (st : AnalysisStack) → Accepted (items_at s levels 1 p)
    → run_items s limits levels 1 p h st ≡ run_item s limits levels p h st
unfolding run_items run_item analyze_all
item_run s limits levels p h st a =
    let q = a.what.1 in
    let o = one_item s levels p a.there in
    bind_fine _ a.there
    ∙ ap (λ (es : Exprs). analyze_all limits es h st >>= λ st. ok (st, q)) o.same
    ∙ ap (λ (x : Outcome AnalysisStack). x >>= λ st. ok (st, q)) (bind_unit (analyze limits o.expr unnamed h st))
    ∙ sym (bind_fine _ o.read)

-- how far they go

pub items_within : (s : List ℕ) (levels n p : ℕ) {es : Exprs} {q : ℕ} → items_at s levels n p ≡ ok (es, q) → (p + 2 * n ≤ q) × (p ≤ length s → q ≤ length s)
unfolding items_at expr_item
items_within s levels n p e = after_ok (many_within (expr_item s (expr_at s levels) (item_at s levels)) no_exprs (length s) 2
    (λ p. after_bind _ (after_self (item_at s levels p)) λ x e. let t = item_there s levels p e in fine (t.far, t.fits)) n p) e

pub items_end : (s : List ℕ) (levels n p : ℕ) {es : Exprs} {q : ℕ} → items_at s levels n p ≡ ok (es, q) → p ≤ length s → (p ≤ q) × (q ≤ length s)
items_end s levels n p e le = let w = items_within s levels n p e in (omega (arith, w.0), w.1 le)

-- Heads

set_one : {n : ℕ} → n ≡ 1 → is_set n ≡ true
unfolding is_set
set_one e = ap is_set e

-- what a head writes

fixed_record : Limits → List ℕ → ℕ → AnalysisStack → Outcome AnalysisStack
fixed_record limits s p st = emit limits p FH (0 ∷ number_at s (p + 6) ∷ number_at s (p + 14) ∷ number_at s (p + 18) ∷ []) st

computed_record : Limits → List ℕ → ℕ → AnalysisStack → Outcome AnalysisStack
computed_record limits s p st = emit limits p FH (1 ∷ 0 ∷ number_at s (p + 14) ∷ number_at s (p + 18) ∷ []) st

written_fixed : (limits : Limits) (s : List ℕ) (p q : ℕ) (st : AnalysisStack) → number_at s (p + 2) ≡ 0 → head_written limits s p q st ≡ (fixed_record limits s p st >>= λ st. ok (st, q))
unfolding head_written and_place choose is_set fixed_record
written_fixed limits s p q st e =
    ap (λ (kind : ℕ). emit limits p FH (kind ∷ choose (is_set kind) (λ _. 0) (λ _. number_at s (p + 6)) ∷ number_at s (p + 14) ∷ number_at s (p + 18) ∷ []) st >>= λ st. ok (st, q)) e

written_computed : (limits : Limits) (s : List ℕ) (p q : ℕ) (st : AnalysisStack) → number_at s (p + 2) ≡ 1 → head_written limits s p q st ≡ (computed_record limits s p st >>= λ st. ok (st, q))
unfolding head_written and_place choose is_set computed_record
written_computed limits s p q st e =
    ap (λ (kind : ℕ). emit limits p FH (kind ∷ choose (is_set kind) (λ _. 0) (λ _. number_at s (p + 6)) ∷ number_at s (p + 14) ∷ number_at s (p + 18) ∷ []) st >>= λ st. ok (st, q)) e

fixed_alone : (limits : Limits) (s : List ℕ) (p : ℕ) (h : Place) (st : AnalysisStack) → analyze_heads limits (fixed p (head_at s p) no_heads) h st ≡ fixed_record limits s p st
unfolding analyze_heads fixed_record
fixed_alone limits s p h st = bind_unit (fixed_record limits s p st)

fixed_then : (limits : Limits) (s : List ℕ) (p : ℕ) (hs : Heads) (h : Place) (st : AnalysisStack)
    → analyze_heads limits (fixed p (head_at s p) hs) h st ≡ (fixed_record limits s p st >>= λ st. analyze_heads limits hs h st)
unfolding analyze_heads fixed_record
fixed_then limits s p hs h st = refl

computed_alone : (limits : Limits) (s : List ℕ) (p : ℕ) (name : Expr) (h : Place) (st : AnalysisStack)
    → analyze_heads limits (computed p (head_at s p) name no_heads) h st ≡ (analyze limits name unnamed h st >>= computed_record limits s p)
unfolding analyze_heads computed_record
computed_alone limits s p name h st = bind_ext (analyze limits name unnamed h st) _ _ (λ st. bind_unit (computed_record limits s p st))

computed_then : (limits : Limits) (s : List ℕ) (p : ℕ) (name : Expr) (hs : Heads) (h : Place) (st : AnalysisStack)
    → analyze_heads limits (computed p (head_at s p) name hs) h st ≡ ((analyze limits name unnamed h st >>= computed_record limits s p) >>= λ st. analyze_heads limits hs h st)
unfolding analyze_heads computed_record
computed_then limits s p name hs h st = sym (bind_assoc (analyze limits name unnamed h st) (computed_record limits s p) (λ st. analyze_heads limits hs h st))

head_put : (s : List ℕ) (limits : Limits) (levels p : ℕ) (h : Place) (st : AnalysisStack) {put : Heads → Heads} {q : ℕ} → HeadKind s levels p put q → (hs : Heads)
    → analyze_heads limits (put hs) h st ≡ (analyze_heads limits (put no_heads) h st >>= λ st. analyze_heads limits hs h st)
head_put s limits levels p h st (is_fixed z e puts) hs =
    ap (λ (x : Heads). analyze_heads limits x h st) (puts hs)
    ∙ fixed_then limits s p hs h st
    ∙ ap (λ (o : Outcome AnalysisStack). o >>= λ st. analyze_heads limits hs h st) (sym (fixed_alone limits s p h st) ∙ ap (λ (x : Heads). analyze_heads limits x h st) (sym (puts no_heads)))
head_put s limits levels p h st (is_computed z name read puts) hs =
    ap (λ (x : Heads). analyze_heads limits x h st) (puts hs)
    ∙ computed_then limits s p name hs h st
    ∙ ap (λ (o : Outcome AnalysisStack). o >>= λ st. analyze_heads limits hs h st) (sym (computed_alone limits s p name h st) ∙ ap (λ (x : Heads). analyze_heads limits x h st) (sym (puts no_heads)))

pub heads_first : (s : List ℕ) (levels n p : ℕ) → Accepted (heads_at s levels (suc n) p) → Accepted (heads_at s levels 1 p)
unfolding heads_at
heads_first s levels n p a = many_first (head_item s (expr_at s levels)) no_heads n p a

pub heads_by_one : (s : List ℕ) (limits : Limits) (levels : ℕ) (h : Place) → StatesByOne (heads_at s levels) (λ n p st. run_heads s limits levels n p h st)
unfolding run_heads heads_at analyze_heads
heads_by_one s limits levels h = one_by_one (head_item s (expr_at s levels)) no_heads (λ hs st. analyze_heads limits hs h st) _ _ (λ b q. refl) (λ b. refl)
    λ p put q e hs st. head_put s limits levels p h st (head_there s levels p e).kind hs

-- one head

-- how it was read, and that it stands alone
record OneHead (s : List ℕ) (levels p : ℕ) (hs : Heads) (q : ℕ) : Type 0 where
  put : Heads → Heads
  there : HeadThere s levels p put q
  same : hs ≡ put no_heads

one_head : (s : List ℕ) (levels p : ℕ) {hs : Heads} {q : ℕ} → heads_at s levels 1 p ≡ ok (hs, q) → OneHead s levels p hs q
unfolding heads_at
one_head s levels p e =
    let o = many_alone (head_item s (expr_at s levels)) no_heads p e in
    record { put = o.put; there = head_there s levels p o.here; same = o.same }

pub head_fits : (s : List ℕ) (levels p : ℕ) → Accepted (heads_at s levels 1 p) → p + 26 ≤ length s
head_fits s levels p a = (one_head s levels p a.there).there.fits

pub head_name : (s : List ℕ) (levels p : ℕ) → Accepted (heads_at s levels 1 p) → (number_at s (p + 2) ≡ 0 → ⊥) → Accepted (expr_at s levels any_expression (p + 26))
head_name s levels p a nz = by (one_head s levels p a.there).there.kind
  where
    by : {put : Heads → Heads} {q : ℕ} → HeadKind s levels p put q → Accepted (expr_at s levels any_expression (p + 26))
    by (is_fixed z e puts) = absurd (nz z)
    by (is_computed z name read puts) = accepted read

-- the place after it

pub head_run : (s : List ℕ) (limits : Limits) (levels p : ℕ) (h : Place) (st : AnalysisStack) → Accepted (heads_at s levels 1 p)
    → run_heads s limits levels 1 p h st ≡ head_steps limits s levels p h st
unfolding run_heads head_steps
head_run s limits levels p h st a =
    bind_fine _ a.there
    ∙ ap (λ (hs : Heads). analyze_heads limits hs h st >>= λ st. ok (st, a.what.1)) (one_head s levels p a.there).same
    ∙ by (one_head s levels p a.there).there.kind
  where
    fixed_run : (q : ℕ) (hs : Heads) → hs ≡ fixed p (head_at s p) no_heads → number_at s (p + 2) ≡ 0 → q ≡ p + 26
        → (analyze_heads limits hs h st >>= λ st. ok (st, q)) ≡ head_steps limits s levels p h st
    fixed_run q hs same z e =
        ap (λ (hs : Heads). analyze_heads limits hs h st >>= λ st. ok (st, q)) same
        ∙ ap (λ (o : Outcome AnalysisStack). o >>= λ st. ok (st, q)) (fixed_alone limits s p h st)
        ∙ ap (λ (q : ℕ). fixed_record limits s p st >>= λ st. ok (st, q)) e
        ∙ sym (written_fixed limits s p (p + 26) st z)
        ∙ sym (chosen_false _ _ (unset_of z))

    computed_run : (q : ℕ) (hs : Heads) (name : Expr) → hs ≡ computed p (head_at s p) name no_heads → number_at s (p + 2) ≡ 1 → expr_at s levels any_expression (p + 26) ≡ ok (name, q)
        → (analyze_heads limits hs h st >>= λ st. ok (st, q)) ≡ head_steps limits s levels p h st
    computed_run q hs name same z read =
        ap (λ (hs : Heads). analyze_heads limits hs h st >>= λ st. ok (st, q)) same
        ∙ ap (λ (o : Outcome AnalysisStack). o >>= λ st. ok (st, q)) (computed_alone limits s p name h st)
        ∙ bind_assoc (analyze limits name unnamed h st) (computed_record limits s p) (λ st. ok (st, q))
        ∙ bind_ext (analyze limits name unnamed h st) _ _ (λ st. sym (written_computed limits s p q st z))
        ∙ sym (run_expr_then s limits levels (p + 26) unnamed h st (λ r. head_written limits s p r.1 r.0) read)
        ∙ sym (chosen_true _ _ (set_one z))

    by : {put : Heads → Heads} {q : ℕ} → HeadKind s levels p put q → (analyze_heads limits (put no_heads) h st >>= λ st. ok (st, q)) ≡ head_steps limits s levels p h st
    by {put} {q} (is_fixed z e puts) = fixed_run q (put no_heads) (puts no_heads) z e
    by {put} {q} (is_computed z name read puts) = computed_run q (put no_heads) name (puts no_heads) z read

-- how far they go

pub heads_within : (s : List ℕ) (levels n p : ℕ) {hs : Heads} {q : ℕ} → heads_at s levels n p ≡ ok (hs, q) → (p + 26 * n ≤ q) × (p ≤ length s → q ≤ length s)
unfolding heads_at
heads_within s levels n p e = after_ok (many_within (head_item s (expr_at s levels)) no_heads (length s) 26 (head_within s levels) n p) e

-- `after_head` ends there, too

held_head : (s : List ℕ) (levels p : ℕ) {put : Heads → Heads} {q : ℕ} → HeadThere s levels p put q → held_past s levels 0x4648 p ≡ ok q
unfolding held_past below_past exprs_past expr_past over past mark_of find_mark marks choose code size_of numbers_of widths width fields children numbers_at is_set
held_head s levels p {put} {q} t =
    let fits = t.fits in
    let room : p + 2 ≤ length s = omega arith in
    bind_fine _ (expected_first s 0x4648 p room t.stands.marked ∙ sym (judged_right s FH p fits t.stands.judged))
    ∙ by t.kind
  where
    by : {put : Heads → Heads} → HeadKind s levels p put q → exprs_past s levels (bit (is_set (number_at s (p + 2)))) (p + 26) ≡ ok q
    by (is_fixed z e puts) = ap (λ (k : ℕ). exprs_past s levels (bit (is_set k)) (p + 26)) z ∙ ap (λ (x : ℕ). ok x) (sym e)
    by (is_computed z name read puts) =
        ap (λ (k : ℕ). exprs_past s levels (bit (is_set k)) (p + 26)) z ∙ over_one (expr_past s levels any_expression) (p + 26) ∙ ap past read

pub head_behind : (s : List ℕ) (levels p : ℕ) {r q : ℕ} {hs : Heads} → Behind s p r → heads_at s levels 1 p ≡ ok (hs, q) → r ≡ q
head_behind s levels p {r} {q} b e = b levels q (held_head s levels p (one_head s levels p e).there)

-- Parameters

param_spec : Limits → (p kept name : ℕ) → AnalysisStack → Outcome (ℕ × AnalysisStack)
param_spec limits p kept name st = record_spec_init limits p 0 kept (written st) st.taint PA (λ slot. name ∷ slot ∷ 0 ∷ []) (with_taint no_dependence st)

default_spec : Limits → (p kept name : ℕ) → Expr → Place → AnalysisStack → Outcome (ℕ × AnalysisStack)
default_spec limits p kept name default h st =
    open_frame limits p false (with_taint no_dependence st) >>= λ opened. analyze limits default unnamed h opened >>= λ analysed. close_frame limits p analysed >>= λ closed.
    record_spec_init limits p 0 kept (written st) st.taint PA (λ slot. name ∷ slot ∷ 1 ∷ []) closed

param_then : (limits : Limits) (p name : ℕ) (span : Span) (ps : Params) (kept : ℕ) (h : Place) (st : AnalysisStack)
    → analyze_params limits (param p name span ps) kept h st ≡ (param_spec limits p kept name st >>= λ b. analyze_params limits ps b.0 h b.1)
unfolding analyze_params param_spec
param_then limits p name span ps kept h st = refl

param_alone : (limits : Limits) (p name : ℕ) (span : Span) (kept : ℕ) (h : Place) (st : AnalysisStack)
    → analyze_params limits (param p name span no_params) kept h st ≡ param_spec limits p kept name st
unfolding analyze_params
param_alone limits p name span kept h st = param_then limits p name span no_params kept h st ∙ bind_unit (param_spec limits p kept name st)

default_then : (limits : Limits) (p name : ℕ) (span : Span) (default : Expr) (ps : Params) (kept : ℕ) (h : Place) (st : AnalysisStack)
    → analyze_params limits (param_or p name span default ps) kept h st ≡ (default_spec limits p kept name default h st >>= λ b. analyze_params limits ps b.0 h b.1)
unfolding analyze_params default_spec
default_then limits p name span default ps kept h st =
    sym (bind_four (open_frame limits p false (with_taint no_dependence st)) (analyze limits default unnamed h) (close_frame limits p)
    (record_spec_init limits p 0 kept (written st) st.taint PA (λ slot. name ∷ slot ∷ 1 ∷ [])) (λ b. analyze_params limits ps b.0 h b.1))

default_alone : (limits : Limits) (p name : ℕ) (span : Span) (default : Expr) (kept : ℕ) (h : Place) (st : AnalysisStack)
    → analyze_params limits (param_or p name span default no_params) kept h st ≡ default_spec limits p kept name default h st
unfolding analyze_params
default_alone limits p name span default kept h st = default_then limits p name span default no_params kept h st ∙ bind_unit (default_spec limits p kept name default h st)

param_put : (s : List ℕ) (limits : Limits) (levels p kept : ℕ) (h : Place) (st : AnalysisStack) {put : Params → Params} {q : ℕ} → ParamKind s levels p put q → (ps : Params)
    → analyze_params limits (put ps) kept h st ≡ (analyze_params limits (put no_params) kept h st >>= λ b. analyze_params limits ps b.0 h b.1)
param_put s limits levels p kept h st (no_default z e puts) ps =
    ap (λ (x : Params). analyze_params limits x kept h st) (puts ps)
    ∙ param_then limits p _ _ ps kept h st
    ∙ ap (λ (o : Outcome (ℕ × AnalysisStack)). o >>= λ b. analyze_params limits ps b.0 h b.1)
    (sym (param_alone limits p _ _ kept h st) ∙ ap (λ (x : Params). analyze_params limits x kept h st) (sym (puts no_params)))
param_put s limits levels p kept h st (with_default z default read puts) ps =
    ap (λ (x : Params). analyze_params limits x kept h st) (puts ps)
    ∙ default_then limits p _ _ default ps kept h st
    ∙ ap (λ (o : Outcome (ℕ × AnalysisStack)). o >>= λ b. analyze_params limits ps b.0 h b.1)
    (sym (default_alone limits p _ _ default kept h st) ∙ ap (λ (x : Params). analyze_params limits x kept h st) (sym (puts no_params)))

pub params_first : (s : List ℕ) (levels n p : ℕ) → Accepted (params_at s levels (suc n) p) → Accepted (params_at s levels 1 p)
unfolding params_at
params_first s levels n p a = many_first (param_item s (expr_at s levels)) no_params n p a

pub params_by_one : (s : List ℕ) (limits : Limits) (levels : ℕ) (h : Place)
    → SpecsByOne (params_at s levels) (λ n p b. run_params s limits levels n p b.0 h b.1)
unfolding run_params params_at analyze_params
params_by_one s limits levels h = one_by_one (param_item s (expr_at s levels)) no_params (λ ps b. analyze_params limits ps b.0 h b.1) _ _ (λ b q. refl) (λ b. refl)
    λ p put q e ps b. param_put s limits levels p b.0 h b.1 (param_there s levels p e).kind ps

-- one parameter

pub record OneParam (s : List ℕ) (levels p : ℕ) (ps : Params) (q : ℕ) : Type 0 where
  pub put : Params → Params
  pub there : ParamThere s levels p put q
  pub same : ps ≡ put no_params

pub one_param : (s : List ℕ) (levels p : ℕ) {ps : Params} {q : ℕ} → params_at s levels 1 p ≡ ok (ps, q) → OneParam s levels p ps q
unfolding params_at
one_param s levels p e =
    let o = many_alone (param_item s (expr_at s levels)) no_params p e in
    record { put = o.put; there = param_there s levels p o.here; same = o.same }

pub param_fits : (s : List ℕ) (levels p : ℕ) → Accepted (params_at s levels 1 p) → p + 14 ≤ length s
param_fits s levels p a = (one_param s levels p a.there).there.fits

pub param_flag : (s : List ℕ) (levels p : ℕ) → Accepted (params_at s levels 1 p) → number_at s (p + 10) ≤ 1
param_flag s levels p a = by (one_param s levels p a.there).there.kind
  where
    by : {put : Params → Params} {q : ℕ} → ParamKind s levels p put q → number_at s (p + 10) ≤ 1
    by (no_default z e puts) = omega arith
    by (with_default z default read puts) = omega arith

pub param_default : (s : List ℕ) (levels p : ℕ) → Accepted (params_at s levels 1 p) → (number_at s (p + 10) ≡ 0 → ⊥) → Accepted (expr_at s levels any_expression (p + 14))
param_default s levels p a nz = by (one_param s levels p a.there).there.kind
  where
    by : {put : Params → Params} {q : ℕ} → ParamKind s levels p put q → Accepted (expr_at s levels any_expression (p + 14))
    by (no_default z e puts) = absurd (nz z)
    by (with_default z default read puts) = accepted read

-- the place after it

pub param_run : (s : List ℕ) (limits : Limits) (levels p kept : ℕ) (h : Place) (st : AnalysisStack) → Accepted (params_at s levels 1 p)
    → run_params s limits levels 1 p kept h st ≡ param_steps limits s levels p kept h st
unfolding run_params param_steps opened_value closed_spec recorded param_spec default_spec
param_run s limits levels p kept h st a =
    bind_fine _ a.there
    ∙ ap (λ (ps : Params). analyze_params limits ps kept h st >>= λ b. ok (b.0, (b.1, a.what.1))) (one_param s levels p a.there).same
    ∙ by (one_param s levels p a.there).there.kind
  where
    plain_run : (q : ℕ) (ps : Params) → ps ≡ param p (number_at s (p + 2)) (span_at s (p + 6)) no_params → number_at s (p + 10) ≡ 0 → q ≡ p + 14
        → (analyze_params limits ps kept h st >>= λ b. ok (b.0, (b.1, q))) ≡ param_steps limits s levels p kept h st
    plain_run q ps same z e =
        ap (λ (ps : Params). analyze_params limits ps kept h st >>= λ b. ok (b.0, (b.1, q))) same
        ∙ ap (λ (o : Outcome (ℕ × AnalysisStack)). o >>= λ b. ok (b.0, (b.1, q))) (param_alone limits p _ _ kept h st)
        ∙ ap (λ (q : ℕ). param_spec limits p kept (number_at s (p + 2)) st >>= λ b. ok (b.0, (b.1, q))) e
        ∙ sym (chosen_false _ _ (unset_of z))

    default_run : (q : ℕ) (ps : Params) (default : Expr) → ps ≡ param_or p (number_at s (p + 2)) (span_at s (p + 6)) default no_params → number_at s (p + 10) ≡ 1
        → expr_at s levels any_expression (p + 14) ≡ ok (default, q) → (analyze_params limits ps kept h st >>= λ b. ok (b.0, (b.1, q))) ≡ param_steps limits s levels p kept h st
    default_run q ps default same z read =
        let record_it = record_spec_init limits p 0 kept (written st) st.taint PA (λ slot. number_at s (p + 2) ∷ slot ∷ 1 ∷ []) in
        ap (λ (ps : Params). analyze_params limits ps kept h st >>= λ b. ok (b.0, (b.1, q))) same
        ∙ ap (λ (o : Outcome (ℕ × AnalysisStack)). o >>= λ b. ok (b.0, (b.1, q))) (default_alone limits p _ _ default kept h st)
        ∙ bind_four (open_frame limits p false (with_taint no_dependence st)) (analyze limits default unnamed h) (close_frame limits p) record_it (λ b. ok (b.0, (b.1, q)))
        ∙ bind_ext (open_frame limits p false (with_taint no_dependence st)) _ _ (λ opened. sym (run_expr_then s limits levels (p + 14) unnamed h opened _ read))
        ∙ sym (chosen_true _ _ (set_one z))

    by : {put : Params → Params} {q : ℕ} → ParamKind s levels p put q
        → (analyze_params limits (put no_params) kept h st >>= λ b. ok (b.0, (b.1, q))) ≡ param_steps limits s levels p kept h st
    by {put} {q} (no_default z e puts) = plain_run q (put no_params) (puts no_params) z e
    by {put} {q} (with_default z default read puts) = default_run q (put no_params) default (puts no_params) z read

-- how far they go

pub params_within : (s : List ℕ) (levels n p : ℕ) {ps : Params} {q : ℕ} → params_at s levels n p ≡ ok (ps, q) → (p + 14 * n ≤ q) × (p ≤ length s → q ≤ length s)
unfolding params_at
params_within s levels n p e = after_ok (many_within (param_item s (expr_at s levels)) no_params (length s) 14 (param_within s levels) n p) e

pub params_end : (s : List ℕ) (levels n p : ℕ) {ps : Params} {q : ℕ} → params_at s levels n p ≡ ok (ps, q) → p ≤ length s → (p ≤ q) × (q ≤ length s)
params_end s levels n p e le = let w = params_within s levels n p e in (omega (arith, w.0), w.1 le)

pub params_room : (s : List ℕ) (levels n p : ℕ) → Accepted (params_at s levels n p) → p ≤ length s → p + 14 * n ≤ length s
params_room s levels n p a le = let w = params_within s levels n p a.there in omega (arith, w.0, w.1 le)

pub params_short : (s : List ℕ) (levels n p : ℕ) → Accepted (params_at s levels n p) → n ≤ length s
params_short s levels zero p a = omega arith
params_short s levels (suc n) p a =
    let fits = param_fits s levels p (params_first s levels n p a) in
    let inside : p ≤ length s = omega arith in
    omega (arith, params_room s levels (suc n) p a inside)

-- their names

define_put : (s : List ℕ) (limits : Limits) (levels p depth : ℕ) (st : AnalysisStack) {put : Params → Params} {q : ℕ} → ParamKind s levels p put q → (ps : Params)
    → define_params limits (put ps) depth st ≡ (define_local limits p (number_at s (p + 2)) (span_at s (p + 6)) depth st >>= λ st. define_params limits ps depth st)
unfolding define_params
define_put s limits levels p depth st (no_default z e puts) ps = ap (λ (x : Params). define_params limits x depth st) (puts ps)
define_put s limits levels p depth st (with_default z default read puts) ps = ap (λ (x : Params). define_params limits x depth st) (puts ps)

pub define_params_none : (s : List ℕ) (limits : Limits) (levels p depth : ℕ) (st : AnalysisStack) → run_define_params s limits levels 0 p depth st ≡ ok (st, p)
unfolding run_define_params params_at many none_left define_params ◌>>=◌
define_params_none s limits levels p depth st = refl

pub define_params_step : (s : List ℕ) (limits : Limits) (levels n p depth : ℕ) (st : AnalysisStack) {ps : Params} {q : ℕ}
    → Accepted (params_at s levels (suc n) p) → params_at s levels 1 p ≡ ok (ps, q)
    → run_define_params s limits levels (suc n) p depth st ≡ (define_local limits p (number_at s (p + 2)) (span_at s (p + 6)) depth st >>= λ st. run_define_params s limits levels n q depth st)
unfolding run_define_params params_at
define_params_step s limits levels n p depth st {ps} {q} a e =
    let item = param_item s (expr_at s levels) in
    let f = many_split item no_params n p a.there in
    let t = param_there s levels p f.here in
    let g = same_ok (sym (many_one item no_params p f.here) ∙ e) in
    let later : many item (none_left no_params) n q ≡ ok (f.others, a.what.1) = ap (λ (x : Params × ℕ). many item (none_left no_params) n x.1) (sym g) ∙ f.later in
    let local = define_local limits p (number_at s (p + 2)) (span_at s (p + 6)) depth st in
    bind_fine _ a.there
    ∙ ap (λ (o : Outcome AnalysisStack). o >>= λ st. ok (st, a.what.1)) (ap (λ (ps : Params). define_params limits ps depth st) f.same ∙ define_put s limits levels p depth st t.kind f.others)
    ∙ bind_assoc local (define_params limits f.others depth) (λ st. ok (st, a.what.1))
    ∙ bind_ext local _ _ (λ defined. sym (bind_fine _ later))

-- Values

-- what a head says of its field's value

value_kind : (s : List ℕ) (p : ℕ) → Allowed
value_kind s p = value_allowed (head_at s p)

head_groups : (s : List ℕ) (levels p : ℕ) {put : Heads → Heads} {q : ℕ} → HeadKind s levels p put q → (hs : Heads) → value_groups (put hs) ≡ (1, level (value_kind s p)) ∷ value_groups hs
unfolding value_groups value_kind
head_groups s levels p (is_fixed z e puts) hs = ap value_groups (puts hs)
head_groups s levels p (is_computed z name read puts) hs = ap value_groups (puts hs)

head_names : (s : List ℕ) (levels p : ℕ) {put : Heads → Heads} {q : ℕ} → HeadKind s levels p put q → (hs : Heads) → head_namings (put hs) ≡ head_naming_at s p ∷ head_namings hs
unfolding head_namings head_naming_at
head_names s levels p (is_fixed z e puts) hs =
    let span = span_at s (p + 10) in
    ap head_namings (puts hs)
    ∙ ap (λ (c : Naming). choose (is_set (number_at s (p + 22))) (λ _. c) (λ _. unnamed) ∷ head_namings hs)
    (sym (chosen_false (λ _. as_computed_method span) (λ _. as_method (number_at s (p + 6)) span) (unset_of z)))
head_names s levels p (is_computed z name read puts) hs =
    let span = span_at s (p + 10) in
    ap head_namings (puts hs)
    ∙ ap (λ (c : Naming). choose (is_set (number_at s (p + 22))) (λ _. c) (λ _. unnamed) ∷ head_namings hs)
    (sym (chosen_true (λ _. as_computed_method span) (λ _. as_method (number_at s (p + 6)) span) (set_one z)))

-- one value, and those that follow it
groups_one : (s : List ℕ) (sub : Allowed → ℕ → Outcome (Expr × ℕ)) (a : Allowed) (gs : Groups) (p : ℕ)
    → groups_at s sub ((1, level a) ∷ gs) p ≡ (sub a p >>= λ x. groups_at s sub gs x.1 >>= λ y. ok ((x.0 then y.0), y.1))
unfolding groups_at many expr_item child_at ◌>>=◌
groups_one s sub a gs p =
    bind_assoc (sub a p) (λ x. ok ((λ (es : Exprs). x.0 then es), x.1)) (λ i. groups_at s sub gs i.1 >>= λ y. ok (i.0 y.0, y.1))

groups_none : (s : List ℕ) (sub : Allowed → ℕ → Outcome (Expr × ℕ)) (p : ℕ) → groups_at s sub (value_groups no_heads) p ≡ ok (no_exprs, p)
unfolding groups_at none_left value_groups
groups_none s sub p = refl

-- the values of n fields from read heads
values_put : (s : List ℕ) (levels n heads p : ℕ) {hs : Heads} {r : ℕ} {vs : Exprs} {q : ℕ}
    → heads_at s levels n heads ≡ ok (hs, r) → groups_at s (expr_at s levels) (value_groups hs) p ≡ ok (vs, q) → values_at s levels n heads p ≡ ok ((hs, vs), q)
unfolding values_at
values_put s levels n heads p e f = bind_fine _ e ∙ bind_fine _ f

-- the first head and value, and what follows them
record ValuesSplit (s : List ℕ) (levels n heads p : ℕ) (hs : Heads) (vs : Exprs) (q : ℕ) : Type 0 where
  put : Heads → Heads
  next : ℕ
  first_head : heads_at s levels 1 heads ≡ ok (put no_heads, next)
  head : HeadThere s levels heads put next
  other_heads : Heads
  value : Expr
  middle : ℕ
  read : expr_at s levels any_expression p ≡ ok (value, middle)
  first : values_at s levels 1 heads p ≡ ok ((put no_heads, value then no_exprs), middle)
  other_values : Exprs
  later : values_at s levels n next middle ≡ ok ((other_heads, other_values), q)
  same_heads : hs ≡ put other_heads
  same_values : vs ≡ (value then other_values)

values_split : (s : List ℕ) (levels n heads p : ℕ) {hs : Heads} {vs : Exprs} {q : ℕ} → values_at s levels (suc n) heads p ≡ ok ((hs, vs), q) → ValuesSplit s levels n heads p hs vs q
unfolding values_at heads_at
values_split s levels n heads p {hs} {vs} {q} e =
    let item = head_item s (expr_at s levels) in
    let sub = expr_at s levels in
    let b = bind_got (heads_at s levels (suc n) heads) _ e in
    let c = bind_got (groups_at s sub (value_groups b.middle.0) p) _ b.second in
    let same = same_ok c.second in
    let f = many_split item no_heads n heads b.first in
    let t = head_there s levels heads f.here in
    let groups = ap value_groups f.same ∙ head_groups s levels heads t.kind f.others in
    let g = bind_got (sub (value_kind s heads) p) (λ x. groups_at s sub (value_groups f.others) x.1 >>= λ y. ok ((x.0 then y.0), y.1))
    (sym (groups_one s sub (value_kind s heads) (value_groups f.others) p) ∙ ap (λ (gs : Groups). groups_at s sub gs p) (sym groups) ∙ c.first) in
    let k = bind_got (groups_at s sub (value_groups f.others) g.middle.1) _ g.second in
    let end = same_ok k.second in
    let head_alone = many_one item no_heads heads f.here in
    let value_alone : groups_at s sub (value_groups (f.put no_heads)) p ≡ ok ((g.middle.0 then no_exprs), g.middle.1) =
    ap (λ (gs : Groups). groups_at s sub gs p) (head_groups s levels heads t.kind no_heads)
    ∙ groups_one s sub (value_kind s heads) (value_groups no_heads) p
    ∙ bind_fine _ g.first
    ∙ bind_fine _ (groups_none s sub g.middle.1) in
    let others = values_put s levels n f.behind g.middle.1 f.later k.first in
    record {
      put = f.put;
      next = f.behind;
      first_head = head_alone;
      head = t;
      other_heads = f.others;
      value = g.middle.0;
      middle = g.middle.1;
      read = expr_any s levels (value_kind s heads) p g.first;
      first = values_put s levels 1 heads p head_alone value_alone;
      other_values = k.middle.0;
      later = others ∙ ap (λ (x : Exprs × ℕ). ok ((f.others, k.middle.0), x.1)) end ∙ ap (λ (x : (Heads × Exprs) × ℕ). ok ((f.others, k.middle.0), x.1)) same;
      same_heads = sym (ap (λ (x : (Heads × Exprs) × ℕ). x.0.0) same) ∙ f.same;
      same_values = sym (ap (λ (x : (Heads × Exprs) × ℕ). x.0.1) same) ∙ sym (ap (λ (x : Exprs × ℕ). x.0) end);
    }

-- what a value leaves
value_spec : Limits → (p : ℕ) → Naming → Expr → Place → AnalysisStack → Outcome AnalysisStack
value_spec limits p naming value h st =
    open_frame limits p false st >>= λ opened. analyze limits value naming h opened >>= λ analysed. close_frame limits p analysed >>= λ closed. emit limits p FV [] closed

value_then : (limits : Limits) (value : Expr) (vs : Exprs) (naming : Naming) (namings : List Naming) (h : Place) (st : AnalysisStack)
    → analyze_values limits (value then vs) (naming ∷ namings) h st ≡ (value_spec limits (place_of value) naming value h st >>= λ st. analyze_values limits vs namings h st)
unfolding analyze_values value_spec first_naming
value_then limits value vs naming namings h st =
    sym (bind_four (open_frame limits (place_of value) false st) (analyze limits value naming h) (close_frame limits (place_of value)) (emit limits (place_of value) FV [])
    (λ st. analyze_values limits vs namings h st))

value_alone : (limits : Limits) (value : Expr) (naming : Naming) (namings : List Naming) (h : Place) (st : AnalysisStack)
    → analyze_values limits (value then no_exprs) (naming ∷ namings) h st ≡ value_spec limits (place_of value) naming value h st
unfolding analyze_values
value_alone limits value naming namings h st =
    value_then limits value no_exprs naming namings h st ∙ bind_unit (value_spec limits (place_of value) naming value h st)

value_put : (s : List ℕ) (limits : Limits) (levels heads : ℕ) (value : Expr) (vs : Exprs) (h : Place) (st : AnalysisStack) {put : Heads → Heads} {next : ℕ} → HeadKind s levels heads put next → (hs : Heads)
    → analyze_values limits (value then vs) (head_namings (put hs)) h st
    ≡ (analyze_values limits (value then no_exprs) (head_namings (put no_heads)) h st >>= λ st. analyze_values limits vs (head_namings hs) h st)
value_put s limits levels heads value vs h st kind hs =
    let naming = head_naming_at s heads in
    ap (λ (cs : List Naming). analyze_values limits (value then vs) cs h st) (head_names s levels heads kind hs)
    ∙ value_then limits value vs naming (head_namings hs) h st
    ∙ ap (λ (o : Outcome AnalysisStack). o >>= λ st. analyze_values limits vs (head_namings hs) h st)
    (sym (value_alone limits value naming (head_namings no_heads) h st)
    ∙ ap (λ (cs : List Naming). analyze_values limits (value then no_exprs) cs h st) (sym (head_names s levels heads kind no_heads)))

pub values_none : (s : List ℕ) (limits : Limits) (levels heads p : ℕ) (h : Place) (st : AnalysisStack) → run_values s limits levels 0 heads p h st ≡ ok (st, p)
unfolding run_values values_at heads_at many none_left value_groups groups_at analyze_values ◌>>=◌
values_none s limits levels heads p h st = refl

pub values_first : (s : List ℕ) (levels n heads p : ℕ) → Accepted (values_at s levels (suc n) heads p) → Accepted (values_at s levels 1 heads p)
values_first s levels n heads p a = accepted (values_split s levels n heads p a.there).first

pub values_head : (s : List ℕ) (levels n heads p : ℕ) → Accepted (values_at s levels (suc n) heads p) → Accepted (heads_at s levels 1 heads)
values_head s levels n heads p a = accepted (values_split s levels n heads p a.there).first_head

pub values_behind : (s : List ℕ) (levels n heads p : ℕ) {h1 : Heads} {next : ℕ} {x : Heads × Exprs} {q : ℕ} → heads_at s levels 1 heads ≡ ok (h1, next)
    → Accepted (values_at s levels (suc n) heads p) → values_at s levels 1 heads p ≡ ok (x, q) → Accepted (values_at s levels n next q)
values_behind s levels n heads p {q = q} head a e =
    let f = values_split s levels n heads p a.there in
    let g = same_ok (sym f.first_head ∙ head) in
    let k = same_ok (sym f.first ∙ e) in
    accepted (ap (λ (x : Heads × ℕ). values_at s levels n x.1 q) (sym g) ∙ ap (λ (x : (Heads × Exprs) × ℕ). values_at s levels n f.next x.1) (sym k) ∙ f.later)

pub values_ran : (s : List ℕ) (limits : Limits) (levels n heads p : ℕ) (h : Place) (st : AnalysisStack) {q : ℕ} {st' : AnalysisStack}
    → run_values s limits levels n heads p h st ≡ ok (st', q) → (x : Heads × Exprs) × (values_at s levels n heads p ≡ ok (x, q))
unfolding run_values
values_ran s limits levels n heads p h st e =
    let r = run_ran (λ (b : AnalysisStack) (q : ℕ). (b, q)) (values_at s levels n heads p) (λ x. analyze_values limits x.1 (head_namings x.0) h st) e in
    (r.what, r.there ∙ ap (λ (c : AnalysisStack × ℕ). ok (r.what, c.1)) r.same)

pub values_rest : (s : List ℕ) (limits : Limits) (levels n heads p : ℕ) (h : Place) (st : AnalysisStack) {h1 : Heads} {next : ℕ} {q : ℕ} {st' : AnalysisStack}
    → heads_at s levels 1 heads ≡ ok (h1, next) → Accepted (values_at s levels (suc n) heads p) → run_values s limits levels 1 heads p h st ≡ ok (st', q)
    → Accepted (values_at s levels n next q)
values_rest s limits levels n heads p h st head a e = values_behind s levels n heads p head a (values_ran s limits levels 1 heads p h st e).1

pub values_step : (s : List ℕ) (limits : Limits) (levels n heads p : ℕ) (h : Place) (st : AnalysisStack) {h1 : Heads} {next : ℕ}
    → heads_at s levels 1 heads ≡ ok (h1, next) → Accepted (values_at s levels (suc n) heads p)
    → run_values s limits levels (suc n) heads p h st ≡ (run_values s limits levels 1 heads p h st >>= λ r. run_values s limits levels n next r.1 h r.0)
unfolding run_values
values_step s limits levels n heads p h st {h1} {next} head a =
    let f = values_split s levels n heads p a.there in
    let g = same_ok (sym f.first_head ∙ head) in
    run_step (λ (b : AnalysisStack) (q : ℕ). (b, q)) (λ q. values_at s levels n next q) (λ x. analyze_values limits x.1 (head_namings x.0) h st)
    (λ b x. analyze_values limits x.1 (head_namings x.0) h b) (λ r. run_values s limits levels n next r.1 h r.0)
    a.there f.first (ap (λ (x : Heads × ℕ). values_at s levels n x.1 f.middle) (sym g) ∙ f.later)
    (ap (λ (hs : Heads). analyze_values limits a.what.0.1 (head_namings hs) h st) f.same_heads
    ∙ ap (λ (vs : Exprs). analyze_values limits vs (head_namings (f.put f.other_heads)) h st) f.same_values
    ∙ value_put s limits levels heads f.value f.other_values h st f.head.kind f.other_heads)
    (λ b. refl)

-- where the first succeeds the others follow, and where it is refused all are

pub values_next : (s : List ℕ) (limits : Limits) (levels n heads p : ℕ) (h : Place) (st : AnalysisStack) {h1 : Heads} {next q : ℕ} {st' : AnalysisStack}
    → heads_at s levels 1 heads ≡ ok (h1, next) → Accepted (values_at s levels (suc n) heads p) → run_values s limits levels 1 heads p h st ≡ ok (st', q)
    → run_values s limits levels (suc n) heads p h st ≡ run_values s limits levels n next q h st'
values_next s limits levels n heads p h st head a e = values_step s limits levels n heads p h st head a ∙ bind_fine _ e

pub values_stop : (s : List ℕ) (limits : Limits) (levels n heads p : ℕ) (h : Place) (st : AnalysisStack) {number place : ℕ} → Accepted (values_at s levels (suc n) heads p)
    → run_values s limits levels 1 heads p h st ≡ refuse number place → run_values s limits levels (suc n) heads p h st ≡ refuse number place
values_stop s limits levels n heads p h st a e = values_step s limits levels n heads p h st (values_split s levels n heads p a.there).first_head a ∙ bind_refused _ e

-- one value

pub value_there : (s : List ℕ) (levels heads p : ℕ) → Accepted (values_at s levels 1 heads p) → Accepted (expr_at s levels any_expression p)
value_there s levels heads p a = accepted (values_split s levels 0 heads p a.there).read

pub value_head_fits : (s : List ℕ) (levels heads p : ℕ) → Accepted (values_at s levels 1 heads p) → heads + 26 ≤ length s
value_head_fits s levels heads p a = (values_split s levels 0 heads p a.there).head.fits

pub value_run : (s : List ℕ) (limits : Limits) (levels heads p : ℕ) (h : Place) (st : AnalysisStack) → Accepted (values_at s levels 1 heads p)
    → run_values s limits levels 1 heads p h st ≡ value_steps limits s levels heads p h st
unfolding run_values value_steps closed_value and_place value_spec
value_run s limits levels heads p h st a =
    let f = values_split s levels 0 heads p a.there in
    let naming = head_naming_at s heads in
    let q = f.middle in
    bind_fine _ f.first
    ∙ ap (λ (cs : List Naming). analyze_values limits (f.value then no_exprs) cs h st >>= λ st. ok (st, q)) (head_names s levels heads f.head.kind no_heads)
    ∙ ap (λ (o : Outcome AnalysisStack). o >>= λ st. ok (st, q)) (value_alone limits f.value naming (head_namings no_heads) h st)
    ∙ ap (λ (place : ℕ). value_spec limits place naming f.value h st >>= λ st. ok (st, q)) (expr_place s levels any_expression p f.read)
    ∙ bind_four (open_frame limits p false st) (analyze limits f.value naming h) (close_frame limits p) (emit limits p FV []) (λ st. ok (st, q))
    ∙ bind_ext (open_frame limits p false st) _ _ (λ opened. sym (run_expr_then s limits levels p naming h opened _ f.read))

-- how far they go

pub values_within : (s : List ℕ) (levels n heads p : ℕ) {x : Heads × Exprs} {q : ℕ} → values_at s levels n heads p ≡ ok (x, q) → (p + 2 * n ≤ q) × (p ≤ length s → q ≤ length s)
unfolding values_at heads_at many none_left value_groups groups_at ◌>>=◌
values_within s levels zero heads p {x} {q} e = let k : p ≡ q = ap (λ (x : (Heads × Exprs) × ℕ). x.1) (same_ok e) in (omega arith, λ le. omega arith)
values_within s levels (suc n) heads p {x} {q} e =
    let f = values_split s levels n heads p e in
    let w = expr_within s levels any_expression p f.read in
    let k = values_within s levels n f.next f.middle f.later in
    (omega (arith, w.0, k.0), λ _. k.1 w.1)

pub values_end : (s : List ℕ) (levels n heads p : ℕ) {x : Heads × Exprs} {q : ℕ} → values_at s levels n heads p ≡ ok (x, q) → p ≤ length s → (p ≤ q) × (q ≤ length s)
values_end s levels n heads p e le = let w = values_within s levels n heads p e in (omega (arith, w.0), w.1 le)

-- Assertions

pub assertions_none : (s : List ℕ) (limits : Limits) (levels p : ℕ) (h : Place) (st : AnalysisStack) → run_assertions s limits levels 0 p h st ≡ ok (st, p)
unfolding run_assertions items_at many none_left analyze_assertions ◌>>=◌
assertions_none s limits levels p h st = refl

assertions_some : (s : List ℕ) (limits : Limits) (levels n p : ℕ) (h : Place) (st : AnalysisStack) → Accepted (items_at s levels (suc n) p)
    → run_assertions s limits levels (suc n) p h st ≡ assertions_steps limits s levels (suc n) p h st
unfolding run_assertions assertions_steps run_items items_at closed_assertions and_place analyze_assertions analyze_all ◌>>=◌
assertions_some s limits levels n p h st a =
    let item = expr_item s (expr_at s levels) (item_at s levels) in
    let f = many_split item no_exprs n p a.there in
    let t = item_read s levels p f.here in
    let q = a.what.1 in
    let read : items_at s levels (suc n) p ≡ ok ((t.expr then f.others), q) = a.there ∙ ap (λ (es : Exprs). ok (es, q)) (f.same ∙ t.puts f.others) in
    let first : AnalysisStack → Outcome AnalysisStack = λ st. analyze limits t.expr unnamed h st in
    let others : AnalysisStack → Outcome AnalysisStack = λ st. analyze_all limits f.others h st in
    bind_fine _ read
    ∙ ap (λ (place : ℕ). (open_frame limits place false st >>= λ st. first st >>= λ st. others st >>= λ st. close_frame limits place st) >>= λ st. ok (st, q)) (item_there s levels p t.read).place
    ∙ bind_four (open_frame limits p false st) first others (close_frame limits p) (λ st. ok (st, q))
    ∙ bind_ext (open_frame limits p false st) _ _ (λ opened. sym (ap (λ (o : Outcome (AnalysisStack × ℕ)). o >>= λ r. close_frame limits p r.0 >>= λ st. ok (st, r.1)) (bind_fine _ read)
    ∙ bind_assoc (first opened >>= others) (λ st. ok (st, q)) (λ r. close_frame limits p r.0 >>= λ st. ok (st, r.1))
    ∙ bind_assoc (first opened) others (λ st. close_frame limits p st >>= λ st. ok (st, q))))

pub assertions_run : (s : List ℕ) (limits : Limits) (levels n p : ℕ) (h : Place) (st : AnalysisStack) → 0 < n → Accepted (items_at s levels n p)
    → run_assertions s limits levels n p h st ≡ assertions_steps limits s levels n p h st
assertions_run s limits levels zero p h st some a = absurd (omega arith)
assertions_run s limits levels (suc n) p h st some a = assertions_some s limits levels n p h st a

pub assertions_ran : (s : List ℕ) (limits : Limits) (levels n p : ℕ) (h : Place) (st : AnalysisStack) {q : ℕ} {st' : AnalysisStack}
    → run_assertions s limits levels n p h st ≡ ok (st', q) → (es : Exprs) × (items_at s levels n p ≡ ok (es, q))
unfolding run_assertions
assertions_ran s limits levels n p h st e =
    let r = run_ran (λ (b : AnalysisStack) (q : ℕ). (b, q)) (items_at s levels n p) (λ es. analyze_assertions limits es h st) e in
    (r.what, r.there ∙ ap (λ (c : AnalysisStack × ℕ). ok (r.what, c.1)) r.same)
