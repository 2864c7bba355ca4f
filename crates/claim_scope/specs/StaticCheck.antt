-- The errors that lexical scoping gives, from the nesting and the order of the records alone: no frame, depth or slot enters. Assumes nothing.
-- Codes 1 to 5 are the specification's static check, 6 is document 01's. Their order is that of the analysis.
use Rattle.std.specs.Prelude.{ℕ, zero, suc, ◌+◌, ◌*◌, Bool, true, false, List, [], ◌∷◌, ◌++◌, ◌≡◌, length, get_or, drop, eqb}
use Rattle.std.proofs.Math.Option.{none}
use Rattle.rules.specs.Numbers.{Name, numbers_at, record_bytes, DG}
use Rattle.rules.specs.Records.{Span, span_width, span_numbers, span_in}
use Rattle.rules.specs.Outcome.{choose, given}
use Rattle.rules.specs.Tree.{Tree, Expr, Exprs, Binds, Params, Heads, identity, constant, variable, constants, array, plain, import, local, function, object}
use Rattle.rules.specs.Tree.{no_exprs, ◌then◌, no_binds, bind, no_params, param, param_or, no_heads, fixed, computed}
use Rattle.rules.specs.State.{Sink}
use Rattle.rules.specs.Writing.{Level, error, warning, level_number}
use Rattle.rules.specs.Walk.{is_among}
use Rattle.claim_scope.specs.Scope.{Scope, meaning, identity_means, bind_names, param_names, external_names, under, in_object}

-- what a diagnostic says
pub record Found : Type 0 where
  pub code : ℕ
  pub name : Name
  pub span : Span

-- 3, 4 and 5: self, super and $ outside an object
unfoldable pub outside_object : (which : ℕ) → Span → Scope → List Found
outside_object which span sc = given (identity_means which sc) (λ _. record { code = 3 + which; name = 0; span = span } ∷ []) (λ _. [])

-- 1: a name that isn't bound
unfoldable pub not_bound : Name → Span → Scope → List Found
not_bound name span sc = given (meaning name sc.names) (λ _. record { code = 1; name = name; span = span } ∷ []) (λ _. [])

-- 6: an import whose path isn't a literal
unfoldable pub not_literal : Span → Bool → List Found
not_literal span is_literal = choose is_literal (λ _. []) (λ _. record { code = 6; name = 0; span = span } ∷ [])

-- 2: each name that stands among those before it; `seen` are these
unfoldable pub twice_bound : List Name → Binds → List Found
twice_bound seen no_binds = []
twice_bound seen (bind p name span f e bs) = choose (is_among name seen)
    (λ _. record { code = 2; name = name; span = span } ∷ twice_bound seen bs)
    (λ _. twice_bound (name ∷ seen) bs)

unfoldable pub twice_named : List Name → Params → List Found
twice_named seen no_params = []
twice_named seen (param p name span ps) = choose (is_among name seen)
    (λ _. record { code = 2; name = name; span = span } ∷ twice_named seen ps)
    (λ _. twice_named (name ∷ seen) ps)
twice_named seen (param_or p name span e ps) = choose (is_among name seen)
    (λ _. record { code = 2; name = name; span = span } ∷ twice_named seen ps)
    (λ _. twice_named (name ∷ seen) ps)

-- a value whose bind or parameter is one of these is read all the same
unfoldable mutual
  pub errors : Expr → Scope → List Found
  errors (identity p which span) sc = outside_object which span sc
  errors (constant p v) sc = []
  errors (variable p name span) sc = not_bound name span sc
  errors (constants p vs) sc = []
  errors (array p es) sc = errors_all es sc
  errors (plain p m fields es) sc = errors_all es sc
  errors (import p which span is_literal path) sc = not_literal span is_literal
  errors (local p bs e) sc = let within = under (bind_names bs) sc in twice_bound [] bs ++ errors_binds bs within ++ errors e within
  errors (function p span ps e) sc = let within = under (param_names ps) sc in twice_named [] ps ++ errors_params ps within ++ errors e within
  errors (object p hs bs ts vs) sc =
      let within = under (bind_names bs) (in_object p sc) in
      errors_heads hs sc ++ twice_bound [] bs ++ errors_binds bs within ++ errors_all ts within ++ errors_all vs within

  pub errors_all : Exprs → Scope → List Found
  errors_all no_exprs sc = []
  errors_all (e then es) sc = errors e sc ++ errors_all es sc

  pub errors_binds : Binds → Scope → List Found
  errors_binds no_binds sc = []
  errors_binds (bind p name span f e bs) sc = errors e sc ++ errors_binds bs sc

  pub errors_params : Params → Scope → List Found
  errors_params no_params sc = []
  errors_params (param p name span ps) sc = errors_params ps sc
  errors_params (param_or p name span e ps) sc = errors e sc ++ errors_params ps sc

  pub errors_heads : Heads → Scope → List Found
  errors_heads no_heads sc = []
  errors_heads (fixed p h hs) sc = errors_heads hs sc
  errors_heads (computed p h e hs) sc = errors e sc ++ errors_heads hs sc

-- the externals are in scope from the start
unfoldable pub root_scope : List Name → Scope
root_scope names = record { names = external_names 0 names []; inner = none; outer = none }

unfoldable pub errors_of : Tree → List Found
errors_of t = errors t.root (root_scope t.externals)

-- Diagnostics

pub record Diagnostic : Type 0 where
  pub level : Level
  pub found : Found

-- "`DG` level code name span"
unfoldable pub diagnostic_bytes : Diagnostic → List ℕ
diagnostic_bytes d = record_bytes DG (level_number d.level ∷ d.found.code ∷ d.found.name ∷ span_numbers d.found.span)

unfoldable pub diagnostics_bytes : List Diagnostic → List ℕ
diagnostics_bytes [] = []
diagnostics_bytes (d ∷ ds) = diagnostic_bytes d ++ diagnostics_bytes ds

unfoldable pub if_error : Level → Found → List Found → List Found
if_error error f fs = f ∷ fs
if_error warning f fs = fs

-- the errors among them, in order
unfoldable pub errors_among : List Diagnostic → List Found
errors_among [] = []
errors_among (d ∷ ds) = if_error d.level d.found (errors_among ds)

unfoldable pub any_found : List Found → Bool
any_found [] = false
any_found (f ∷ fs) = true

-- what the analysis of a tree must have reported: of its diagnostics the errors are just those of the tree, in order
pub record Reports (t : Tree) (s : Sink) : Type 0 where
  pub diagnostics : List Diagnostic
  pub bytes : s.diagnostics ≡ diagnostics_bytes diagnostics
  pub errors_are : errors_among diagnostics ≡ errors_of t
  pub errored : s.errored ≡ any_found (errors_of t)

-- Read back from the bytes

-- a diagnostic's record: its mark, then level, code, name and span
abbrev pub diagnostic_numbers : ℕ
diagnostic_numbers = 3 + span_width

unfoldable pub found_in : List ℕ → Found
found_in ns = record { code = get_or ns 1 0; name = get_or ns 2 0; span = span_in ns 3 }

-- what one record's numbers say, before what those after it say
unfoldable pub said_before : List ℕ → List Found → List Found
said_before ns fs = choose (eqb (get_or ns 0 0) 0) (λ _. found_in ns ∷ fs) (λ _. fs)

-- of at most so many records
unfoldable pub errors_from : ℕ → List ℕ → List Found
errors_from zero s = []
errors_from (suc n) s = choose (eqb (length s) 0) (λ _. []) (λ _. said_before (numbers_at s diagnostic_numbers 2) (errors_from n (drop (2 + 4 * diagnostic_numbers) s)))

unfoldable pub errors_in : List ℕ → List Found
errors_in s = errors_from (length s) s
