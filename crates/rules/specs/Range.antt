-- The trees that the packed form can hold: numbers, counts and nesting in range, each record where its place says. Assumes nothing.
use Rattle.std.specs.Prelude.{ℕ, zero, suc, ◌+◌, ◌*◌, ◌-◌, ◌<◌, ◌≤◌, Bool, true, false, ◌&&◌, List, [], ◌∷◌, ◌++◌, ◌≡◌, length}
use Rattle.std.proofs.Math.Option.{Option, none, some}
use Rattle.rules.specs.Numbers.{Mark, JT, ID, TV, VA, AR, LO, IM, FN, OB, PA, FH, bit, code}
use Rattle.rules.specs.Records.{span_numbers, fields, numbers_of, size_of, all_in_range}
use Rattle.rules.specs.Tree.{Expr, Exprs, Binds, Params, Heads, Tree, count_exprs, count_binds, count_params, count_heads}
use Rattle.rules.specs.Tree.{identity, constant, variable, constants, array, plain, import, local, function, object}
use Rattle.rules.specs.Tree.{no_exprs, ◌then◌, no_binds, bind, no_params, param, param_or, no_heads, fixed, computed}
use Rattle.rules.specs.Encode.{bind_mark, head_numbers, expr_bytes, exprs_bytes, binds_bytes, params_bytes, heads_bytes}
use Rattle.rules.specs.FirstWalk.{Allowed, any_expression, function_only, Child, level, holder, Groups, expressions, assertion, rows, row_of, only, value_groups}
use Rattle.rules.specs.FirstWalk.{Form, an_identity, a_constant, a_variable, an_array, an_import, a_local, a_function, an_object, parts}

-- what four bytes hold
unfoldable pub Numbers : List ℕ → Type 0
Numbers [] = Unit {0}
Numbers (n ∷ ns) = (n < 4294967296) × Numbers ns

-- what a byte holds
unfoldable pub Bytes : List ℕ → Type 0
Bytes [] = Unit {0}
Bytes (b ∷ bs) = (b < 256) × Bytes bs

-- a record that a table allows, with its numbers in range
pub record RecordFits {A : Type 0} (table : List (Mark × A)) (m : Mark) (row : A) (ns : List ℕ) : Type 0 where
  pub known : row_of (code m) table ≡ some (m, row)
  pub counted : length ns ≡ numbers_of m
  pub numbers : Numbers ns
  pub judged : all_in_range (fields m) ns ≡ true

-- an expression other than a `plain` one where this child stands, with so many levels left
unfoldable pub Stands : Child → (levels : ℕ) → Mark → Form → List ℕ → Type 0
Stands (level a) levels m form ns = (1 ≤ levels) × RecordFits (rows a) m form ns
Stands (holder mark n) levels m form ns = ⊥

-- a `plain` one, and what its children must then be
unfoldable pub PlainStands : Child → (levels : ℕ) → Mark → List ℕ → Groups → Type 0
PlainStands (level a) levels m ns groups = (1 ≤ levels) × (form : List ℕ → Groups) × RecordFits (rows a) m (parts form) ns × (groups ≡ form ns)
PlainStands (holder mark n) levels m ns groups = (m ≡ mark) × RecordFits (only mark) mark tt ns × (groups ≡ expressions (n ns))

-- the levels left for what stands below it
unfoldable pub levels_below : Child → ℕ → ℕ
levels_below (level a) levels = levels - 1
levels_below (holder mark n) levels = levels

-- the next child that groups want, and what they want after it; `later` is that of the groups after
unfoldable pub next_of : ℕ → Child → Groups → (later : Option (Child × Groups)) → Option (Child × Groups)
next_of zero c gs later = later
next_of (suc n) c gs later = some (c, ((n, c) ∷ gs))

unfoldable pub next_child : Groups → Option (Child × Groups)
next_child [] = none
next_child (g ∷ gs) = next_of g.0 g.1 gs (next_child gs)

unfoldable pub is_constant : Expr → Bool
is_constant (constant place value) = true
is_constant (identity place which span) = false
is_constant (variable place name span) = false
is_constant (constants place values) = false
is_constant (array place items) = false
is_constant (plain place mark numbers children) = false
is_constant (import place which span is_literal path) = false
is_constant (local place binds body) = false
is_constant (function place span ps body) = false
is_constant (object place heads locals assertions values) = false

unfoldable pub all_constant : Exprs → Bool
all_constant no_exprs = true
all_constant (e then es) = is_constant e && all_constant es

unfoldable pub bind_allowed : Bool → Allowed
bind_allowed true = function_only
bind_allowed false = any_expression

-- where it stands, with so many levels left, at the place p
unfoldable mutual
  pub ExprFits : Expr → Child → (levels p : ℕ) → Type 0
  ExprFits (identity place which span) c levels p = (place ≡ p) × Stands c levels ID an_identity (which ∷ span_numbers span)
  ExprFits (constant place value) c levels p = (place ≡ p) × Stands c levels TV a_constant (value ∷ [])
  ExprFits (variable place name span) c levels p = (place ≡ p) × Stands c levels VA a_variable (name ∷ span_numbers span)
  ExprFits (constants place values) c levels p = (place ≡ p) × Stands c levels AR an_array (length values ∷ []) × Numbers values
  ExprFits (array place items) c levels p =
      (place ≡ p) × Stands c levels AR an_array (count_exprs items ∷ []) × (all_constant items ≡ false)
      × ExprsFit items (expressions (count_exprs items)) (levels_below c levels) (p + size_of AR)
  ExprFits (plain place mark numbers children) c levels p =
      (place ≡ p) × (groups : Groups) × PlainStands c levels mark numbers groups
      × ExprsFit children groups (levels_below c levels) (p + size_of mark)
  ExprFits (import place which span is_literal path) c levels p = (place ≡ p) × Stands c levels IM an_import (which ∷ span_numbers span ++ (bit is_literal ∷ path ∷ []))
  ExprFits (local place binds body) c levels p =
      (place ≡ p) × Stands c levels LO a_local (count_binds binds ∷ [])
      × BindsFit binds (levels_below c levels) (p + size_of LO)
      × ExprFits body (level any_expression) (levels_below c levels) (p + size_of LO + length (binds_bytes binds))
  ExprFits (function place span params body) c levels p =
      (place ≡ p) × Stands c levels FN a_function (span_numbers span ++ (count_params params ∷ []))
      × ParamsFit params (levels_below c levels) (p + size_of FN)
      × ExprFits body (level any_expression) (levels_below c levels) (p + size_of FN + length (params_bytes params))
  ExprFits (object place heads locals assertions values) c levels p =
      (place ≡ p) × Stands c levels OB an_object (count_binds locals ∷ count_exprs assertions ∷ count_heads heads ∷ [])
      × HeadsFit heads (levels_below c levels) (p + size_of OB)
      × BindsFit locals (levels_below c levels) (p + size_of OB + length (heads_bytes heads))
      × ExprsFit assertions ((count_exprs assertions, assertion) ∷ []) (levels_below c levels) (p + size_of OB + length (heads_bytes heads) + length (binds_bytes locals))
      × ExprsFit values (value_groups heads) (levels_below c levels)
      (p + size_of OB + length (heads_bytes heads) + length (binds_bytes locals) + length (exprs_bytes assertions))

  -- just what the groups want
  pub ExprsFit : Exprs → Groups → (levels p : ℕ) → Type 0
  ExprsFit no_exprs groups levels p = next_child groups ≡ none
  ExprsFit (e then es) groups levels p =
      (c : Child) × (behind : Groups) × (next_child groups ≡ some (c, behind))
      × ExprFits e c levels p × ExprsFit es behind levels (p + length (expr_bytes e))

  pub BindsFit : Binds → (levels p : ℕ) → Type 0
  BindsFit no_binds levels p = Unit {0}
  BindsFit (bind place name span is_function value bs) levels p =
      (place ≡ p) × Numbers (name ∷ span_numbers span)
      × ExprFits value (level (bind_allowed is_function)) levels (p + size_of (bind_mark is_function))
      × BindsFit bs levels (p + size_of (bind_mark is_function) + length (expr_bytes value))

  pub ParamsFit : Params → (levels p : ℕ) → Type 0
  ParamsFit no_params levels p = Unit {0}
  ParamsFit (param place name span ps) levels p = (place ≡ p) × Numbers (name ∷ span_numbers span) × ParamsFit ps levels (p + size_of PA)
  ParamsFit (param_or place name span default ps) levels p =
      (place ≡ p) × Numbers (name ∷ span_numbers span)
      × ExprFits default (level any_expression) levels (p + size_of PA)
      × ParamsFit ps levels (p + size_of PA + length (expr_bytes default))

  pub HeadsFit : Heads → (levels p : ℕ) → Type 0
  HeadsFit no_heads levels p = Unit {0}
  HeadsFit (fixed place head hs) levels p = (place ≡ p) × RecordFits (only FH) FH tt (head_numbers 0 head) × HeadsFit hs levels (p + size_of FH)
  HeadsFit (computed place head name hs) levels p =
      (place ≡ p) × RecordFits (only FH) FH tt (head_numbers 1 head)
      × ExprFits name (level any_expression) levels (p + size_of FH)
      × HeadsFit hs levels (p + size_of FH + length (expr_bytes name))

-- "E over 65,535"; "nested deeper than 200 (the root is 1)"
pub record TreeFits (t : Tree) : Type 0 where
  pub few : length t.externals ≤ 65535
  pub names : Numbers t.externals
  pub root_fits : ExprFits t.root (level any_expression) 200 (size_of JT + 4 * length t.externals)
