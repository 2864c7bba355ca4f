-- Every name, self, super and $ of a tree is read by a slot of its output or is one of those that none reads. Assumes nothing.
use Prim.Native.Nat.{ℕ, zero, suc}
use mathlib.Core.Bool.{Bool, true, false}
use mathlib.Core.List.{List, [], ◌∷◌, ◌++◌}
use Rattle.rules.specs.Outcome.{choose}
use Rattle.rules.specs.Tree.{Tree, Expr, Exprs, Binds, Params, Heads, identity, constant, variable, constants, array, plain, import, local, function, object, ◌then◌, no_exprs, no_binds, no_params, no_heads, bind, param, param_or, fixed, computed}
use Rattle.claim_scope.specs.Scope.{Scope, meant, meant_all, meant_binds, meant_params, meant_heads, lexical, identity_means, bind_names, param_names, under, in_object}
use Rattle.claim_reach.specs.Lexical.{gives_argument, identity_read, read, read_all, read_binds, read_params, read_heads, root_scope, lexical_read}
use Rattle.claim_reach.specs.Unread.{identity_unread, unread, unread_all, unread_binds, unread_params, unread_heads, lexical_unread, Shuffled, none_left, from_one, from_other}

both : {A : Type 0} {xs ys zs xs' ys' zs' : List A} → Shuffled xs ys zs → Shuffled xs' ys' zs' → Shuffled (xs ++ xs') (ys ++ ys') (zs ++ zs')
both none_left k = k
both (from_one h) k = from_one (both h k)
both (from_other h) k = from_other (both h k)

all_unread : {A : Type 0} (ys : List A) → Shuffled [] ys ys
all_unread [] = none_left
all_unread (y ∷ ys) = from_other (all_unread ys)

identity_once : (p which : ℕ) (sc : Scope) → Shuffled (identity_read p which sc) (identity_unread p which sc) ((p, identity_means which sc) ∷ [])
unfolding identity_read identity_unread
identity_once p zero sc = from_one none_left
identity_once p (suc zero) sc = from_other none_left
identity_once p (suc (suc k)) sc = from_one none_left

either : {A : Type 0} (b : Bool) (xs ys zs : List A) → Shuffled xs ys zs → Shuffled (choose b (λ _. []) (λ _. xs)) (choose b (λ _. zs) (λ _. ys)) zs
unfolding choose
either true xs ys zs h = all_unread zs
either false xs ys zs h = h

mutual
  unfolding meant read unread

  once : (e : Expr) (sc : Scope) → Shuffled (read e sc) (unread e sc) (meant e sc)
  once (identity p which span) sc = identity_once p which sc
  once (constant p v) sc = none_left
  once (variable p name span) sc = from_one none_left
  once (constants p vs) sc = none_left
  once (array p es) sc = once_all es sc
  once (plain p m numbers es) sc = once_all es sc
  once (import p which span literal path) sc = none_left
  once (local p bs e) sc = let sc = under (bind_names bs) sc in both (once_binds bs sc) (once e sc)
  once (function p span ps e) sc = let sc = under (param_names ps) sc in either (gives_argument ps e) _ _ _ (both (once_params ps sc) (once e sc))
  once (object p hs bs ts vs) sc =
      let within = under (bind_names bs) (in_object p sc) in
      both (both (both (once_heads hs sc) (once_binds bs within)) (once_all ts within)) (once_all vs within)

  once_all : (es : Exprs) (sc : Scope) → Shuffled (read_all es sc) (unread_all es sc) (meant_all es sc)
  once_all no_exprs sc = none_left
  once_all (e then es) sc = both (once e sc) (once_all es sc)

  once_binds : (bs : Binds) (sc : Scope) → Shuffled (read_binds bs sc) (unread_binds bs sc) (meant_binds bs sc)
  once_binds no_binds sc = none_left
  once_binds (bind p name span f e bs) sc = both (once e sc) (once_binds bs sc)

  once_params : (ps : Params) (sc : Scope) → Shuffled (read_params ps sc) (unread_params ps sc) (meant_params ps sc)
  once_params no_params sc = none_left
  once_params (param p name span ps) sc = once_params ps sc
  once_params (param_or p name span e ps) sc = both (once e sc) (once_params ps sc)

  once_heads : (hs : Heads) (sc : Scope) → Shuffled (read_heads hs sc) (unread_heads hs sc) (meant_heads hs sc)
  once_heads no_heads sc = none_left
  once_heads (fixed p h hs) sc = once_heads hs sc
  once_heads (computed p h e hs) sc = both (once e sc) (once_heads hs sc)

-- `lexical` is what is read and what is not, in its order
pub each_is_read_or_named_unread : (t : Tree) → Shuffled (lexical_read t) (lexical_unread t) (lexical t)
unfolding lexical lexical_read lexical_unread root_scope
each_is_read_or_named_unread t = once t.root (root_scope t)
