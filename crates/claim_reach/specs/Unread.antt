-- What of lexical scoping no slot of the output reads: each super, and what stands in a function that only gives its argument. Assumes nothing.
use Rattle.std.specs.Prelude.{ℕ, zero, suc, List, [], ◌∷◌, ◌++◌}
use Rattle.rules.specs.Outcome.{choose}
use Rattle.rules.specs.Tree.{Tree, Expr, Exprs, Binds, Params, Heads, identity, constant, variable, constants, array, plain, import, local, function, object}
use Rattle.rules.specs.Tree.{◌then◌, no_exprs, no_binds, no_params, no_heads, bind, param, param_or, fixed, computed}
use Rattle.claim_scope.specs.Scope.{Scope, Meant, meant, meant_params, identity_means, bind_names, param_names, under, in_object}
use Rattle.claim_reach.specs.Lexical.{gives_argument, root_scope}

unfoldable pub identity_unread : (place which : ℕ) → Scope → List Meant
identity_unread p zero sc = []
identity_unread p (suc zero) sc = (p, identity_means 1 sc) ∷ []
identity_unread p (suc (suc k)) sc = []

unfoldable mutual
  pub unread : Expr → Scope → List Meant
  unread (identity p which span) sc = identity_unread p which sc
  unread (constant p v) sc = []
  unread (variable p name span) sc = []
  unread (constants p vs) sc = []
  unread (array p es) sc = unread_all es sc
  unread (plain p m numbers es) sc = unread_all es sc
  unread (import p which span literal path) sc = []
  unread (local p bs e) sc = let sc = under (bind_names bs) sc in unread_binds bs sc ++ unread e sc
  unread (function p span ps e) sc =
      let sc = under (param_names ps) sc in
      choose (gives_argument ps e) (λ _. meant_params ps sc ++ meant e sc) (λ _. unread_params ps sc ++ unread e sc)
  unread (object p hs bs ts vs) sc =
      let within = under (bind_names bs) (in_object p sc) in
      unread_heads hs sc ++ unread_binds bs within ++ unread_all ts within ++ unread_all vs within

  pub unread_all : Exprs → Scope → List Meant
  unread_all no_exprs sc = []
  unread_all (e then es) sc = unread e sc ++ unread_all es sc

  pub unread_binds : Binds → Scope → List Meant
  unread_binds no_binds sc = []
  unread_binds (bind p name span f e bs) sc = unread e sc ++ unread_binds bs sc

  pub unread_params : Params → Scope → List Meant
  unread_params no_params sc = []
  unread_params (param p name span ps) sc = unread_params ps sc
  unread_params (param_or p name span e ps) sc = unread e sc ++ unread_params ps sc

  pub unread_heads : Heads → Scope → List Meant
  unread_heads no_heads sc = []
  unread_heads (fixed p h hs) sc = unread_heads hs sc
  unread_heads (computed p h e hs) sc = unread e sc ++ unread_heads hs sc

unfoldable pub lexical_unread : Tree → List Meant
lexical_unread t = unread t.root (root_scope t)

-- the third holds the first and the second, each in its order, and nothing else
pub data Shuffled {A : Type 0} : (one other all : List A) → Type 0 where
  none_left : Shuffled [] [] []
  from_one : {x : A} {xs ys zs : List A} → Shuffled xs ys zs → Shuffled (x ∷ xs) ys (x ∷ zs)
  from_other : {y : A} {xs ys zs : List A} → Shuffled xs ys zs → Shuffled xs (y ∷ ys) (y ∷ zs)
