-- The steps of the analysis over the tree: `analyze`, `analyze_function`, `analyze_obj_members`, `process_local_frame`. Assumes nothing.
use Rattle.std.specs.Prelude.{ℕ, zero, suc, ◌+◌, Bool, true, false, not, ◌&&◌, ◌||◌, length, drop, eqb}
use mathlib.Core.List.{List, [], ◌∷◌, ◌++◌, tail}
use Rattle.std.proofs.Math.Option.{Option, none, some}
use Rattle.rules.specs.Outcome.{choose, given, Outcome, ok, ◌>>=◌}
use Rattle.rules.specs.Numbers.{Name, same_name, same_bytes, record_bytes, bit, TV, AR, IM, LO, FN, OB, BV, PA, FH, LS, SU, AC, IY, FV}
use Rattle.rules.specs.Records.{Span, span_numbers}
use Rattle.rules.specs.Depths.{no_dependence}
use Rattle.rules.specs.Tree.{Expr, Exprs, Binds, Params, Heads, count_exprs, place_of}
use Rattle.rules.specs.Tree.{identity, constant, variable, constants, array, plain, import, local, function, object}
use Rattle.rules.specs.Tree.{no_exprs, ◌then◌, no_binds, bind, no_params, param, param_or, no_heads, fixed, computed}
use Rattle.rules.specs.Locals.{newest}
use Rattle.rules.specs.Settling.{propagate_analysis}
use Rattle.rules.specs.State.{Limits, ObjectUse, AnalysisStack, with_object_use, with_taint, written, taken_back}
use Rattle.rules.specs.Writing.{warning, emit, report, bad_place, open_frame, close_frame}
use Rattle.rules.specs.Scoping.{define_local, define_this, emit_slot, touch_local, touch_object, record_spec_init, settle_frame, finish_frame}

-- Where an expression stands

-- the depth, and the ids of the innermost object's `this` and of the outermost's
pub record Place : Type 0 where
  pub depth : ℕ
  pub this_local : Option ℕ
  pub dollar_alias : Option ℕ

-- "Depth starts at 0"
unfoldable pub at_root : Place
at_root = record { depth = 0; this_local = none; dollar_alias = none }

-- "the depth is one higher for the body"
unfoldable pub deeper : Place → Place
deeper h = record { depth = suc h.depth; this_local = h.this_local; dollar_alias = h.dollar_alias }

unfoldable pub is_outermost : Place → Bool
is_outermost h = given h.dollar_alias (λ _. true) (λ id. false)

-- in an object whose `this` has this id; "`$` marks the outermost"
unfoldable pub in_object : ℕ → Place → Place
in_object id h = record { depth = h.depth; this_local = some id; dollar_alias = given h.dollar_alias (λ _. some id) (λ outermost. some outermost) }

-- Names of functions

-- "named for `BF` and for method fields with a fixed name; else 0 0"; "warning 10 bears the `FN`'s span, for a method field its head's .., for `BF` the bind's"
pub data Naming : Type 0 where
  unnamed : Naming
  as_bind as_method : Name → Span → Naming
  as_computed_method : Span → Naming

unfoldable pub naming_numbers : Naming → List ℕ
naming_numbers unnamed = 0 ∷ 0 ∷ []
naming_numbers (as_bind name span) = 1 ∷ name ∷ []
naming_numbers (as_method name span) = 1 ∷ name ∷ []
naming_numbers (as_computed_method span) = 0 ∷ 0 ∷ []

unfoldable pub naming_span : Naming → Span → Span
naming_span unnamed own = own
naming_span (as_bind name span) own = span
naming_span (as_method name span) own = span
naming_span (as_computed_method span) own = span

unfoldable pub bind_naming : Bool → Name → Span → Naming
bind_naming true name span = as_bind name span
bind_naming false name span = unnamed

-- one for each head, in order
unfoldable pub head_namings : Heads → List Naming
head_namings no_heads = []
head_namings (fixed place h hs) = choose h.is_method (λ _. as_method h.name h.span) (λ _. unnamed) ∷ head_namings hs
head_namings (computed place h name hs) = choose h.is_method (λ _. as_computed_method h.span) (λ _. unnamed) ∷ head_namings hs

unfoldable pub first_naming : List Naming → Naming
first_naming [] = unnamed
first_naming (c ∷ cs) = c

-- Objects

unfoldable pub is_among : Name → List Name → Bool
is_among n [] = false
is_among n (m ∷ ms) = choose (same_name n m) (λ _. true) (λ _. is_among n ms)

-- "Static-flag is 1 exactly if no head is computed and fixed names are all different"; `seen` are the names before these heads
unfoldable pub is_static : List Name → Heads → Bool
is_static seen no_heads = true
is_static seen (fixed place h hs) = choose (is_among h.name seen) (λ _. false) (λ _. is_static (h.name ∷ seen) hs)
is_static seen (computed place h name hs) = false

-- the marks of an object that opens: its own are not met yet; `$`'s go on, unless it is the outermost
unfoldable pub entered_use : (outermost : Bool) → ObjectUse → ObjectUse
entered_use outermost u = record { self_used = false; super_used = false; dollar_used = choose outermost (λ _. false) (λ _. u.dollar_used) }

-- the marks of the object around one that closes: its own again, and `$`'s as they are now
unfoldable pub left_use : (before : ObjectUse) → ObjectUse → ObjectUse
left_use before u = record { self_used = before.self_used; super_used = before.super_used; dollar_used = u.dollar_used }

-- "object: `OB` this-flag dollar-flag super-flag, kept locals, assertions, fields, static-flag"
unfoldable pub object_numbers : (outermost : Bool) → ObjectUse → (kept : ℕ) → Heads → (assertions values : Exprs) → List ℕ
object_numbers outermost u kept hs ts vs =
    let dollar = outermost && u.dollar_used in
    bit (u.self_used || u.super_used || dollar) ∷ bit dollar ∷ bit u.super_used
    ∷ kept ∷ count_exprs ts ∷ count_exprs vs ∷ bit (is_static [] hs) ∷ []

-- self (0), super (1) and $ (2)

unfoldable pub identity_local : (which : ℕ) → Place → Option ℕ
identity_local zero h = h.this_local
identity_local (suc zero) h = h.this_local
identity_local (suc (suc n)) h = h.dollar_alias

unfoldable pub mark_used : (which : ℕ) → ObjectUse → ObjectUse
mark_used zero u = record { self_used = true; super_used = u.super_used; dollar_used = u.dollar_used }
mark_used (suc zero) u = record { self_used = u.self_used; super_used = true; dollar_used = u.dollar_used }
mark_used (suc (suc n)) u = record { self_used = u.self_used; super_used = u.super_used; dollar_used = true }

-- Identity functions

-- the first parameter has a default; it is always kept, so it is the one that is kept where only one is
unfoldable pub first_has_default : Params → Bool
first_has_default no_params = false
first_has_default (param place name span ps) = false
first_has_default (param_or place name span default ps) = true

-- "exactly one kept parameter, no default on it, and a body `LS` of that slot", which is slot 0
unfoldable pub is_identity : Params → (kept : ℕ) → (body : List ℕ) → Bool
is_identity ps kept body = eqb kept 1 && not (first_has_default ps) && same_bytes body (record_bytes LS (0 ∷ []))

unfoldable pub is_empty : Binds → Bool
is_empty no_binds = true
is_empty (bind place name span is_function value bs) = false

module _ (limits : Limits) where
  -- Names and objects' identities

  -- "self" and "$" are the slot of that `this`, "super: `SU`"; errors 3, 4, 5 and `BL` 0, 1, 2 outside
  unfoldable pub use_identity : (place which : ℕ) → Span → Place → AnalysisStack → Outcome AnalysisStack
  use_identity p which span h st = given (identity_local which h)
      (λ _. bad_place limits p (3 + which) 0 span which st)
      (λ id. let st = touch_object id (with_object_use (mark_used which st.object_use) st) in
      choose (eqb which 1) (λ _. emit limits p SU [] st) (λ _. emit_slot limits p id st))

  -- the newest live local of that name; error 1 and `BL` 3 where there is none
  unfoldable pub use_local : (place : ℕ) → Name → Span → Place → AnalysisStack → Outcome AnalysisStack
  use_local p name span h st = given (newest name st.locals 0 (length st.locals))
      (λ _. bad_place limits p 1 name span 3 st)
      (λ id. emit_slot limits p id (touch_local h.depth id st))

  -- "import: `IM` kind span path"; error 6 and `BL` 4 where the path isn't a literal
  unfoldable pub use_import : (place which : ℕ) → Span → (is_literal : Bool) → (path : ℕ) → AnalysisStack → Outcome AnalysisStack
  use_import p which span is_literal path st = choose is_literal
      (λ _. emit limits p IM (which ∷ span_numbers span ++ (path ∷ [])) st)
      (λ _. bad_place limits p 6 0 span 4 st)

  -- "A frame's names are all defined before any of its values is analysed, at the present depth"

  unfoldable pub define_binds : Binds → (depth : ℕ) → AnalysisStack → Outcome AnalysisStack
  define_binds no_binds depth st = ok st
  define_binds (bind place name span is_function value bs) depth st = do
    st ← define_local limits place name span depth st
    define_binds bs depth st

  unfoldable pub define_params : Params → (depth : ℕ) → AnalysisStack → Outcome AnalysisStack
  define_params no_params depth st = ok st
  define_params (param place name span ps) depth st = do
    st ← define_local limits place name span depth st
    define_params ps depth st
  define_params (param_or place name span default ps) depth st = do
    st ← define_local limits place name span depth st
    define_params ps depth st

  -- The end of a function

  -- warning 10 after the shape; "is taken back, `FN` unwritten, and becomes `IY`". `start` is the output's length before the function
  unfoldable pub finish_function : (place : ℕ) → Span → (start kept : ℕ) → Naming → (gives_argument : Bool) → AnalysisStack → Outcome AnalysisStack
  finish_function p span start kept naming gives_argument st = choose gives_argument
      (λ _. do
        st ← report limits p warning 10 0 (naming_span naming span) st
        emit limits p IY [] (taken_back start st))
      (λ _. emit limits p FN (naming_numbers naming ++ (kept ∷ [])) st)

  unfoldable mutual
    pub analyze : Expr → Naming → Place → AnalysisStack → Outcome AnalysisStack
    analyze (identity p which span) naming h st = use_identity p which span h st
    analyze (constant p value) naming h st = emit limits p TV (value ∷ []) st
    analyze (variable p name span) naming h st = use_local p name span h st
    -- "constant array: `AC` n and n constants"
    analyze (constants p values) naming h st = emit limits p AC (length values ∷ values) st
    -- "A using frame opens for each non-constant array"
    analyze (array p items) naming h st = do
      st ← open_frame limits p false st
      st ← analyze_all items h st
      st ← close_frame limits p st
      emit limits p AR (count_exprs items ∷ []) st
    -- "Children precede their record, which keeps mark and fields"
    analyze (plain p mark numbers children) naming h st = do
      st ← analyze_all children h st
      emit limits p mark numbers st
    analyze (import p which span is_literal path) naming h st = use_import p which span is_literal path st
    -- "`LO` with no binds is its body"
    analyze (local p binds body) naming h st = choose (is_empty binds)
        (λ _. analyze body unnamed h st)
        (λ _. do
          let before = length st.references
          st ← open_frame limits p true st
          st ← define_binds binds h.depth st
          (kept, st) ← analyze_binds binds 0 0 h st
          st ← analyze body unnamed (deeper h) (settle_frame propagate_analysis kept before st)
          st ← finish_frame limits p kept before st
          emit limits p LO (kept ∷ []) st)
    analyze (function p span params body) naming h st = do
      let before = length st.references
      let start = written st
      st ← open_frame limits p true st
      st ← define_params params h.depth st
      (kept, st) ← analyze_params params 0 h st
      let body_start = written st
      st ← analyze body unnamed (deeper h) (settle_frame propagate_analysis kept before st)
      let gives_argument = is_identity params kept (drop body_start st.sink.out)
      st ← finish_frame limits p kept before st
      finish_function p span start kept naming gives_argument st
    -- "Field heads are read in the scope outside the object"; "An object opens its frame before `this`"
    analyze (object p heads locals assertions values) naming h st = do
      st ← analyze_heads heads h st
      let before = length st.references
      let outer_use = st.object_use
      let outermost = is_outermost h
      let h = in_object (length st.locals) h
      st ← open_frame limits p true (with_object_use (entered_use outermost outer_use) st)
      st ← define_this limits p h.depth st
      st ← define_binds locals h.depth st
      (kept, st) ← analyze_binds locals 1 0 h st
      st ← analyze_assertions assertions (deeper h) (settle_frame propagate_analysis kept before st)
      st ← analyze_values values (head_namings heads) (deeper h) st
      st ← finish_frame limits p kept before st
      let met = st.object_use
      emit limits p OB (object_numbers outermost met kept heads assertions values) (with_object_use (left_use outer_use met) st)

    pub analyze_all : Exprs → Place → AnalysisStack → Outcome AnalysisStack
    analyze_all no_exprs h st = ok st
    analyze_all (e then es) h st = do
      st ← analyze e unnamed h st
      analyze_all es h st

    -- "an object's assertions together, if it has any"; they are the first `AT`'s
    pub analyze_assertions : Exprs → Place → AnalysisStack → Outcome AnalysisStack
    analyze_assertions no_exprs h st = ok st
    analyze_assertions (t then ts) h st = do
      st ← open_frame limits (place_of t) false st
      st ← analyze t unnamed h st
      st ← analyze_all ts h st
      close_frame limits (place_of t) st

    -- "field value and `FV`: the value's"
    pub analyze_values : Exprs → List Naming → Place → AnalysisStack → Outcome AnalysisStack
    analyze_values no_exprs namings h st = ok st
    analyze_values (e then es) namings h st = do
      st ← open_frame limits (place_of e) false st
      st ← analyze e (first_naming namings) h st
      st ← close_frame limits (place_of e) st
      st ← emit limits (place_of e) FV [] st
      analyze_values es (tail namings) h st

    -- "bind of either kind: `BV` slot"; `kept` of the frame's binds were kept before these, with slots from `base` on
    pub analyze_binds : Binds → (base kept : ℕ) → Place → AnalysisStack → Outcome (ℕ × AnalysisStack)
    analyze_binds no_binds base kept h st = ok (kept, st)
    analyze_binds (bind p name span is_function value bs) base kept h st = do
      let outer = st.taint
      let start = written st
      st ← open_frame limits p false (with_taint no_dependence st)
      st ← analyze value (bind_naming is_function name span) h st
      st ← close_frame limits p st
      (kept, st) ← record_spec_init limits p base kept start outer BV (λ slot. slot ∷ []) st
      analyze_binds bs base kept h st

    -- "parameter: `PA` name slot default-flag"
    pub analyze_params : Params → (kept : ℕ) → Place → AnalysisStack → Outcome (ℕ × AnalysisStack)
    analyze_params no_params kept h st = ok (kept, st)
    analyze_params (param p name span ps) kept h st = do
      (kept, st) ← record_spec_init limits p 0 kept (written st) st.taint PA (λ slot. name ∷ slot ∷ 0 ∷ []) (with_taint no_dependence st)
      analyze_params ps kept h st
    analyze_params (param_or p name span default ps) kept h st = do
      let outer = st.taint
      let start = written st
      st ← open_frame limits p false (with_taint no_dependence st)
      st ← analyze default unnamed h st
      st ← close_frame limits p st
      (kept, st) ← record_spec_init limits p 0 kept start outer PA (λ slot. name ∷ slot ∷ 1 ∷ []) st
      analyze_params ps kept h st

    -- "field head: `FH` kind name plus-flag visibility (name 0 if computed)"
    pub analyze_heads : Heads → Place → AnalysisStack → Outcome AnalysisStack
    analyze_heads no_heads h st = ok st
    analyze_heads (fixed p head hs) h st = do
      st ← emit limits p FH (0 ∷ head.name ∷ head.plus ∷ head.visibility ∷ []) st
      analyze_heads hs h st
    analyze_heads (computed p head name hs) h st = do
      st ← analyze name unnamed h st
      st ← emit limits p FH (1 ∷ 0 ∷ head.plus ∷ head.visibility ∷ []) st
      analyze_heads hs h st
