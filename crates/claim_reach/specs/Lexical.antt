-- What the output of a tree reads of lexical scoping: all but each super, which reads no slot, and what stands in a function that only gives its argument. Told on the tree alone. Assumes nothing.
use Rattle.std.specs.Prelude.{ℕ, zero, suc, Bool, true, false, ◌&&◌, List, [], ◌∷◌, ◌++◌}
use Rattle.std.proofs.Math.Option.{none}
use Rattle.rules.specs.Numbers.{Name, same_name}
use Rattle.rules.specs.Outcome.{choose}
use Rattle.rules.specs.Walk.{is_empty}
use Rattle.rules.specs.Tree.{Tree, Expr, Exprs, Binds, Params, Heads, identity, constant, variable, constants, array, plain, import, local, function, object}
use Rattle.rules.specs.Tree.{◌then◌, no_exprs, no_binds, no_params, no_heads, bind, param, param_or, fixed, computed}
use Rattle.claim_scope.specs.Scope.{Scope, Meant, meaning, identity_means, bind_names, param_names, external_names, under, in_object}

-- an expression that is this name, or no binds around one that is
unfoldable pub is_name : Name → Expr → Bool
is_name name (identity p which span) = false
is_name name (constant p v) = false
is_name name (variable p found span) = same_name name found
is_name name (constants p vs) = false
is_name name (array p es) = false
is_name name (plain p m numbers es) = false
is_name name (import p which span literal path) = false
is_name name (local p bs e) = is_empty bs && is_name name e
is_name name (function p span ps e) = false
is_name name (object p hs bs ts vs) = false

unfoldable pub is_last : Params → Bool
is_last no_params = true
is_last (param p name span ps) = false
is_last (param_or p name span e ps) = false

-- "exactly one kept parameter, no default on it, and a body .. of that slot": such a function is written as `IY` and has no slots
unfoldable pub gives_argument : Params → Expr → Bool
gives_argument no_params e = false
gives_argument (param p name span ps) e = is_last ps && is_name name e
gives_argument (param_or p name span d ps) e = false

-- self and $, but not super
unfoldable pub identity_read : (place which : ℕ) → Scope → List Meant
identity_read p zero sc = (p, identity_means 0 sc) ∷ []
identity_read p (suc zero) sc = []
identity_read p (suc (suc k)) sc = (p, identity_means (suc (suc k)) sc) ∷ []

unfoldable mutual
  pub read : Expr → Scope → List Meant
  read (identity p which span) sc = identity_read p which sc
  read (constant p v) sc = []
  read (variable p name span) sc = (p, meaning name sc.names) ∷ []
  read (constants p vs) sc = []
  read (array p es) sc = read_all es sc
  read (plain p m numbers es) sc = read_all es sc
  read (import p which span literal path) sc = []
  read (local p bs e) sc = let sc = under (bind_names bs) sc in read_binds bs sc ++ read e sc
  read (function p span ps e) sc = choose (gives_argument ps e)
      (λ _. [])
      (λ _. (let sc = under (param_names ps) sc in read_params ps sc ++ read e sc))
  read (object p hs bs ts vs) sc =
      let within = under (bind_names bs) (in_object p sc) in
      read_heads hs sc ++ read_binds bs within ++ read_all ts within ++ read_all vs within

  pub read_all : Exprs → Scope → List Meant
  read_all no_exprs sc = []
  read_all (e then es) sc = read e sc ++ read_all es sc

  pub read_binds : Binds → Scope → List Meant
  read_binds no_binds sc = []
  read_binds (bind p name span f e bs) sc = read e sc ++ read_binds bs sc

  pub read_params : Params → Scope → List Meant
  read_params no_params sc = []
  read_params (param p name span ps) sc = read_params ps sc
  read_params (param_or p name span e ps) sc = read e sc ++ read_params ps sc

  pub read_heads : Heads → Scope → List Meant
  read_heads no_heads sc = []
  read_heads (fixed p h hs) sc = read_heads hs sc
  read_heads (computed p h e hs) sc = read e sc ++ read_heads hs sc

unfoldable pub root_scope : Tree → Scope
root_scope t = record { names = external_names 0 t.externals []; inner = none; outer = none }

-- `lexical` without these
unfoldable pub lexical_read : Tree → List Meant
lexical_read t = read t.root (root_scope t)
