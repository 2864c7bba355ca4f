-- The tree: each record with its place, the offset of its mark. Assumes nothing.
use Rattle.std.specs.Prelude.{ℕ, zero, suc, Bool, List}
use Rattle.rules.specs.Numbers.{Name, Mark}
use Rattle.rules.specs.Records.{Span}

-- a field's head, but for its name expression; `is_method` says that the field's value is an `FN`
pub record Head : Type 0 where
  pub name : Name
  pub span : Span
  pub plus : ℕ
  pub visibility : ℕ
  pub is_method : Bool

mutual
  -- `plain` is every record that opens no frame and neither binds nor finds a name: UN BI AS ER AP IX IF SC OX, and NA, PT, AT below them.
  -- `constants` is an array of constants, `array` any other
  pub data Expr : Type 0 where
    identity : (place which : ℕ) (span : Span) → Expr
    constant : (place value : ℕ) → Expr
    variable : (place : ℕ) (name : Name) (span : Span) → Expr
    constants : (place : ℕ) (values : List ℕ) → Expr
    array : (place : ℕ) (items : Exprs) → Expr
    plain : (place : ℕ) (mark : Mark) (numbers : List ℕ) (children : Exprs) → Expr
    import : (place which : ℕ) (span : Span) (is_literal : Bool) (path : ℕ) → Expr
    local : (place : ℕ) (binds : Binds) (body : Expr) → Expr
    function : (place : ℕ) (span : Span) (params : Params) (body : Expr) → Expr
    object : (place : ℕ) (heads : Heads) (locals : Binds) (assertions : Exprs) (values : Exprs) → Expr

  pub data Exprs : Type 0 where
    no_exprs : Exprs
    ◌then◌ : Expr → Exprs → Exprs

  -- `BV` and a value, or `BF` and an `FN`
  pub data Binds : Type 0 where
    no_binds : Binds
    bind : (place : ℕ) (name : Name) (span : Span) (is_function : Bool) (value : Expr) → Binds → Binds

  -- `PA` without a default, and with one
  pub data Params : Type 0 where
    no_params : Params
    param : (place : ℕ) (name : Name) (span : Span) → Params → Params
    param_or : (place : ℕ) (name : Name) (span : Span) (default : Expr) → Params → Params

  pub data Heads : Type 0 where
    no_heads : Heads
    fixed : (place : ℕ) (head : Head) → Heads → Heads
    computed : (place : ℕ) (head : Head) (name : Expr) → Heads → Heads

infixr 30 ◌then◌
-- the externals' names, in order, and the one expression
pub record Tree : Type 0 where
  pub externals : List Name
  pub root : Expr

-- how many there are

unfoldable pub count_exprs : Exprs → ℕ
count_exprs no_exprs = zero
count_exprs (e then es) = suc (count_exprs es)

unfoldable pub count_binds : Binds → ℕ
count_binds no_binds = zero
count_binds (bind place name span is_function value bs) = suc (count_binds bs)

unfoldable pub count_params : Params → ℕ
count_params no_params = zero
count_params (param place name span ps) = suc (count_params ps)
count_params (param_or place name span default ps) = suc (count_params ps)

unfoldable pub count_heads : Heads → ℕ
count_heads no_heads = zero
count_heads (fixed place head hs) = suc (count_heads hs)
count_heads (computed place head name hs) = suc (count_heads hs)

-- the offset of an expression's own record
unfoldable pub place_of : Expr → ℕ
place_of (identity place which span) = place
place_of (constant place value) = place
place_of (variable place name span) = place
place_of (constants place values) = place
place_of (array place items) = place
place_of (plain place mark numbers children) = place
place_of (import place which span is_literal path) = place
place_of (local place binds body) = place
place_of (function place span ps body) = place
place_of (object place heads locals assertions values) = place

-- "A binding there is a record of the tree, or an external by its position"
pub data Binding : Type 0 where
  at_record : (place : ℕ) → Binding
  external : (position : ℕ) → Binding
