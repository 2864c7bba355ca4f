-- The settlings of a run, one by one in order, each with what it is run over; and the places of those of a tree. Assumes nothing.
use Rattle.std.specs.Prelude.{ℕ, suc, ◌+◌, ◌≤◌, true, false, ◌≡◌, length, drop}
use mathlib.Core.List.{List, [], ◌∷◌, ◌++◌, tail}
use Rattle.rules.specs.Outcome.{choose, Outcome, ok, refuse, ◌>>=◌}
use Rattle.rules.specs.Numbers.{BV, PA, FH, FV}
use Rattle.rules.specs.Depths.{no_dependence}
use Rattle.rules.specs.Tree.{Tree, Expr, Exprs, Binds, Params, Heads, place_of}
use Rattle.rules.specs.Tree.{identity, constant, variable, constants, array, plain, import, local, function, object}
use Rattle.rules.specs.Tree.{no_exprs, ◌then◌, no_binds, bind, no_params, param, param_or, no_heads, fixed, computed}
use Rattle.rules.specs.Locals.{LocalDefinition}
use Rattle.rules.specs.Settling.{Reference, Loop, propagate_analysis, propagate_use, one_round, Settled, settle, settled}
use Rattle.rules.specs.State.{Limits, AnalysisStack, empty_stack, with_object_use, with_taint, written}
use Rattle.rules.specs.Writing.{emit, open_frame, close_frame}
use Rattle.rules.specs.Scoping.{define_this, record_spec_init, settle_frame}
use Rattle.rules.specs.FirstWalk.{tree_at}
use Rattle.rules.specs.Walk.{Place, at_root, deeper, in_object, is_outermost, entered_use, Naming, unnamed, bind_naming, first_naming, head_namings, is_empty, define_binds, define_params}
use Rattle.rules.specs.Walk.{analyze, analyze_assertions, analyze_values, analyze_binds, analyze_params, analyze_heads}
use Rattle.rules.specs.Call.{Lent, limits_of, define_externals, open_root}

-- One settling

-- a loop over the kept names of the frame of the record at `place`: the references that it follows, and the locals as it finds them
pub record Settling : Type 0 where
  pub place : ℕ
  pub kept : ℕ
  pub loop : Loop
  pub references : List Reference
  pub locals : List LocalDefinition

-- what the rules' loop leaves, with its rounds
unfoldable pub settled_by : Settling → Settled
settled_by s = settled s.kept s.loop s.references s.locals

-- "In a frame of n kept names each takes at most n + 1 rounds", and the last changes nothing: one more would change nothing either,
-- and where more are allowed it leaves the same after as many
pub record Settles (s : Settling) : Type 0 where
  pub few_rounds : (settled_by s).rounds ≤ s.kept + 1
  pub at_rest : (one_round s.loop s.references (record { locals = (settled_by s).locals; changed = false })).changed ≡ false
  pub nothing_cut_off : (more : ℕ) → settle (suc s.kept + more) s.loop s.references s.locals ≡ settled_by s

unfoldable pub all_rounds : List Settling → ℕ
all_rounds [] = 0
all_rounds (s ∷ ss) = (settled_by s).rounds + all_rounds ss

-- The settlings of a run

-- the settling of a frame that was opened when there were `before` references, as `settle_frame` is about to do it
unfoldable pub settling : Loop → (place kept before : ℕ) → AnalysisStack → Settling
settling loop p kept before st = record { place = p; kept = kept; loop = loop; references = drop before st.references; locals = st.locals }

-- those after a step, which are none where it is refused
unfoldable pub behind : {A : Type 0} → Outcome A → (A → List Settling) → List Settling
behind (ok a) f = f a
behind (refuse number place) f = []

-- those of a frame that defines names: one loop before its body, those inside it, and one after it
unfoldable pub around : (place kept before : ℕ) → (body : AnalysisStack → Outcome AnalysisStack) → (inside : AnalysisStack → List Settling) → AnalysisStack → List Settling
around p kept before body inside st =
    let entered = settle_frame propagate_analysis kept before st in
    settling propagate_analysis p kept before st ∷ (inside entered ++ behind (body entered) λ st. settling propagate_use p kept before st ∷ [])

-- Each form's, with the states that the rules' analysis has there
module _ (limits : Limits) where
  unfoldable mutual
    pub settlings : Expr → Naming → Place → AnalysisStack → List Settling
    settlings (identity p which span) naming h st = []
    settlings (constant p value) naming h st = []
    settlings (variable p name span) naming h st = []
    settlings (constants p values) naming h st = []
    settlings (array p items) naming h st = behind (open_frame limits p false st) λ st. settlings_all items h st
    settlings (plain p mark numbers children) naming h st = settlings_all children h st
    settlings (import p which span is_literal path) naming h st = []
    settlings (local p binds body) naming h st = choose (is_empty binds)
        (λ _. settlings body unnamed h st)
        (λ _.
        let before = length st.references in
        behind (open_frame limits p true st) λ st. behind (define_binds limits binds h.depth st) λ st.
        settlings_binds binds 0 0 h st ++ behind (analyze_binds limits binds 0 0 h st) λ r.
        around p r.0 before (analyze limits body unnamed (deeper h)) (λ st. settlings body unnamed (deeper h) st) r.1)
    settlings (function p span params body) naming h st =
        let before = length st.references in
        behind (open_frame limits p true st) λ st. behind (define_params limits params h.depth st) λ st.
        settlings_params params 0 h st ++ behind (analyze_params limits params 0 h st) λ r.
        around p r.0 before (analyze limits body unnamed (deeper h)) (λ st. settlings body unnamed (deeper h) st) r.1
    settlings (object p heads locals assertions values) naming h st =
        settlings_heads heads h st ++ behind (analyze_heads limits heads h st) λ st.
        let before = length st.references in
        let inside = in_object (length st.locals) h in
        behind (open_frame limits p true (with_object_use (entered_use (is_outermost h) st.object_use) st)) λ st.
        behind (define_this limits p inside.depth st) λ st. behind (define_binds limits locals inside.depth st) λ st.
        settlings_binds locals 1 0 inside st ++ behind (analyze_binds limits locals 1 0 inside st) λ r.
        around p r.0 before (λ st. analyze_assertions limits assertions (deeper inside) st >>= analyze_values limits values (head_namings heads) (deeper inside))
        (λ st. settlings_assertions assertions (deeper inside) st ++ behind (analyze_assertions limits assertions (deeper inside) st) λ st. settlings_values values (head_namings heads) (deeper inside) st) r.1

    pub settlings_all : Exprs → Place → AnalysisStack → List Settling
    settlings_all no_exprs h st = []
    settlings_all (e then es) h st = settlings e unnamed h st ++ behind (analyze limits e unnamed h st) λ st. settlings_all es h st

    pub settlings_assertions : Exprs → Place → AnalysisStack → List Settling
    settlings_assertions no_exprs h st = []
    settlings_assertions (t then ts) h st =
        behind (open_frame limits (place_of t) false st) λ st. settlings t unnamed h st ++ behind (analyze limits t unnamed h st) λ st. settlings_all ts h st

    pub settlings_values : Exprs → List Naming → Place → AnalysisStack → List Settling
    settlings_values no_exprs namings h st = []
    settlings_values (e then es) namings h st =
        behind (open_frame limits (place_of e) false st) λ st.
        settlings e (first_naming namings) h st ++ behind (analyze limits e (first_naming namings) h st) λ st.
        behind (close_frame limits (place_of e) st) λ st. behind (emit limits (place_of e) FV [] st) λ st. settlings_values es (tail namings) h st

    pub settlings_binds : Binds → (base kept : ℕ) → Place → AnalysisStack → List Settling
    settlings_binds no_binds base kept h st = []
    settlings_binds (bind p name span is_function value bs) base kept h st =
        let outer = st.taint in
        let start = written st in
        behind (open_frame limits p false (with_taint no_dependence st)) λ st.
        settlings value (bind_naming is_function name span) h st ++ behind (analyze limits value (bind_naming is_function name span) h st) λ st.
        behind (close_frame limits p st) λ st. behind (record_spec_init limits p base kept start outer BV (λ slot. slot ∷ []) st) λ r. settlings_binds bs base r.0 h r.1

    pub settlings_params : Params → (kept : ℕ) → Place → AnalysisStack → List Settling
    settlings_params no_params kept h st = []
    settlings_params (param p name span ps) kept h st =
        behind (record_spec_init limits p 0 kept (written st) st.taint PA (λ slot. name ∷ slot ∷ 0 ∷ []) (with_taint no_dependence st)) λ r. settlings_params ps r.0 h r.1
    settlings_params (param_or p name span default ps) kept h st =
        let outer = st.taint in
        let start = written st in
        behind (open_frame limits p false (with_taint no_dependence st)) λ st.
        settlings default unnamed h st ++ behind (analyze limits default unnamed h st) λ st.
        behind (close_frame limits p st) λ st. behind (record_spec_init limits p 0 kept start outer PA (λ slot. name ∷ slot ∷ 1 ∷ []) st) λ r. settlings_params ps r.0 h r.1

    pub settlings_heads : Heads → Place → AnalysisStack → List Settling
    settlings_heads no_heads h st = []
    settlings_heads (fixed p head hs) h st = behind (emit limits p FH (0 ∷ head.name ∷ head.plus ∷ head.visibility ∷ []) st) λ st. settlings_heads hs h st
    settlings_heads (computed p head name hs) h st =
        settlings name unnamed h st ++ behind (analyze limits name unnamed h st) λ st.
        behind (emit limits p FH (1 ∷ 0 ∷ head.plus ∷ head.visibility ∷ []) st) λ st. settlings_heads hs h st

  unfoldable pub root_settlings : Tree → List Settling
  root_settlings t =
      behind (define_externals limits 0 t.externals empty_stack) λ st. behind (open_root limits (length t.externals) st) λ st. settlings t.root unnamed at_root st

-- those of a call's run, which are all of it where the run is accepted
unfoldable pub run_settlings : Lent → List Settling
run_settlings b = behind (tree_at b.tree) (root_settlings (limits_of b))

-- Where they stand, told on the tree alone: each frame that defines names, an `LO` with binds, an `FN` or an `OB`, settles twice, around its body

unfoldable mutual
  pub settled_places : Expr → List ℕ
  settled_places (identity p which span) = []
  settled_places (constant p value) = []
  settled_places (variable p name span) = []
  settled_places (constants p values) = []
  settled_places (array p items) = settled_places_all items
  settled_places (plain p mark numbers children) = settled_places_all children
  settled_places (import p which span is_literal path) = []
  settled_places (local p binds body) = choose (is_empty binds)
      (λ _. settled_places body)
      (λ _. settled_places_binds binds ++ p ∷ (settled_places body ++ p ∷ []))
  settled_places (function p span params body) = settled_places_params params ++ p ∷ (settled_places body ++ p ∷ [])
  settled_places (object p heads locals assertions values) =
      settled_places_heads heads ++ (settled_places_binds locals ++ p ∷ ((settled_places_all assertions ++ settled_places_all values) ++ p ∷ []))

  pub settled_places_all : Exprs → List ℕ
  settled_places_all no_exprs = []
  settled_places_all (e then es) = settled_places e ++ settled_places_all es

  pub settled_places_binds : Binds → List ℕ
  settled_places_binds no_binds = []
  settled_places_binds (bind p name span is_function value bs) = settled_places value ++ settled_places_binds bs

  pub settled_places_params : Params → List ℕ
  settled_places_params no_params = []
  settled_places_params (param p name span ps) = settled_places_params ps
  settled_places_params (param_or p name span default ps) = settled_places default ++ settled_places_params ps

  pub settled_places_heads : Heads → List ℕ
  settled_places_heads no_heads = []
  settled_places_heads (fixed p head hs) = settled_places_heads hs
  settled_places_heads (computed p head name hs) = settled_places name ++ settled_places_heads hs
