-- The walk through every output, by induction over the tree. Assumes nothing.
use Prim.Native.Nat.{ℕ}
use native.Mathlib.Omega.{arith}
use Rattle.rules.specs.Numbers.{TV, AR, IM}
use Rattle.rules.specs.Tree.{Expr, Exprs, Binds, Params, Heads, identity, constant, variable, constants, array, plain, import, local, function, object, no_exprs, ◌then◌, no_binds, bind, no_params, param, param_or, no_heads, fixed, computed}
use Rattle.rules.specs.FirstWalk.{Child, Groups, a_constant, an_array, an_import}
use Rattle.rules.specs.Range.{ExprFits, ExprsFit, BindsFit, ParamsFit, HeadsFit}
use Rattle.rules.specs.State.{Limits}
use Rattle.claim_scope.proofs.Accepted.{stands_numbers}
use Rattle.claim_reach.proofs.Fitting.{ChildKeeps, GroupsKeep, next_keeps, plain_stands, values_keep, assertions_keep, expressions_keep}
use Rattle.claim_reach.proofs.InRange.{constant_fits, array_fits, constants_fit, import_fits, named_small, head_fits, head_named, heads_named, object_counts}
use Rattle.claim_reach.proofs.Walking.{Walks, WalksBinds, bind_walks, no_binds_walk}
use Rattle.claim_reach.proofs.WalkingForms.{WalksAll, WalksAssertions, identity_walks, variable_walks, constant_walks, constants_walks, import_walks, plain_walks, array_walks, none_walk, then_walk, assertions_walk}
use Rattle.claim_reach.proofs.WalkingLocal.{local_walks}
use Rattle.claim_reach.proofs.WalkingObject.{WalksValues, WalksHeads, no_values_walk, values_walk, no_heads_walk, fixed_walks, computed_walks}
use Rattle.claim_reach.proofs.WalkingFunction.{function_walks}
use Rattle.claim_reach.proofs.WalkingWhole.{no_assertions_walk, object_walks}
use Rattle.claim_reach.proofs.WalkingParams.{WalksParams, no_params_walk, param_walks, param_or_walks}

module _ (L : Limits) where
  mutual
    unfolding ExprFits ChildKeeps

    pub walks : (e : Expr) (c : Child) (levels p : ℕ) → ChildKeeps c → ExprFits e c levels p → Walks L e
    walks (identity place which span) c levels p k h = identity_walks L place which span
    walks (constant place value) c levels p k h = constant_walks L place value (constant_fits value (stands_numbers c levels TV a_constant _ h.1))
    walks (variable place name span) c levels p k h = variable_walks L place name span
    walks (constants place values) c levels p k h = constants_walks L place values (constants_fit values (stands_numbers c levels AR an_array _ h.1) h.2)
    walks (array place items) c levels p k h = array_walks L place items (array_fits _ (stands_numbers c levels AR an_array _ h.1)) (walks_all items _ _ _ (expressions_keep _) h.3)
    walks (plain place mark numbers children) c levels p k h =
        let s = plain_stands c levels mark numbers h.1 h.2 k in
        plain_walks L place mark numbers children s.fits (walks_all children _ _ _ s.below h.3)
    walks (import place which span literal path) c levels p k h = import_walks L place which span literal path (import_fits which span literal path (stands_numbers c levels IM an_import _ h.1))
    walks (local place bs e) c levels p k h = local_walks L place bs e (walks_binds bs _ _ h.2) (walks e _ _ _ tt h.3)
    walks (function place span ps e) c levels p k h = function_walks L place span ps e _ _ h.3 (walks_params ps _ _ h.2) (walks e _ _ _ tt h.3)
    walks (object place hs bs ts vs) c levels p k h =
        object_walks L place hs bs ts vs (object_counts c levels hs bs ts vs _ _ h.1 h.5) (heads_named hs _ _ h.2) (walks_heads hs _ _ h.2) (walks_binds bs _ _ h.3)
        (walks_assertions ts _ _ _ (assertions_keep _) h.4) (walks_values vs _ _ _ (values_keep hs) h.5)

    walks_all : (es : Exprs) (groups : Groups) (levels p : ℕ) → GroupsKeep groups → ExprsFit es groups levels p → WalksAll L es
    walks_all no_exprs groups levels p k h = none_walk L
    walks_all (e then es) groups levels p k h =
        let next = next_keeps groups h.0 h.1 h.2 k in
        then_walk L e es (walks e h.0 levels p next.0 h.3) (walks_all es h.1 levels _ next.1 h.4)

    walks_assertions : (es : Exprs) (groups : Groups) (levels p : ℕ) → GroupsKeep groups → ExprsFit es groups levels p → WalksAssertions L es
    walks_assertions no_exprs groups levels p k h = no_assertions_walk L
    walks_assertions (e then es) groups levels p k h =
        let next = next_keeps groups h.0 h.1 h.2 k in
        assertions_walk L e es (walks e h.0 levels p next.0 h.3) (walks_all es h.1 levels _ next.1 h.4)

    walks_values : (es : Exprs) (groups : Groups) (levels p : ℕ) → GroupsKeep groups → ExprsFit es groups levels p → WalksValues L es
    walks_values no_exprs groups levels p k h = no_values_walk L
    walks_values (e then es) groups levels p k h =
        let next = next_keeps groups h.0 h.1 h.2 k in
        values_walk L e es (walks e h.0 levels p next.0 h.3) (walks_values es h.1 levels _ next.1 h.4)

    walks_binds : (bs : Binds) (levels p : ℕ) → BindsFit bs levels p → WalksBinds L bs
    walks_binds no_binds levels p h = no_binds_walk L
    walks_binds (bind place name span f e bs) levels p h = bind_walks L place name span f e bs (named_small name span h.1) (walks e _ _ _ tt h.2) (walks_binds bs _ _ h.3)

    walks_params : (ps : Params) (levels p : ℕ) → ParamsFit ps levels p → WalksParams L ps
    walks_params no_params levels p h = no_params_walk L
    walks_params (param place name span ps) levels p h = param_walks L place name span ps (named_small name span h.1) (walks_params ps _ _ h.2)
    walks_params (param_or place name span e ps) levels p h = param_or_walks L place name span e ps (named_small name span h.1) (walks e _ _ _ tt h.2) (walks_params ps _ _ h.3)

    walks_heads : (hs : Heads) (levels p : ℕ) → HeadsFit hs levels p → WalksHeads L hs
    walks_heads no_heads levels p h = no_heads_walk L
    walks_heads (fixed place head hs) levels p h = fixed_walks L place head hs (head_fits 0 head.name head h.1.numbers (head_named 0 head h.1.numbers)) (walks_heads hs _ _ h.2)
    walks_heads (computed place head e hs) levels p h = computed_walks L place head e hs (head_fits 1 0 head h.1.numbers (omega arith)) (walks e _ _ _ tt h.2) (walks_heads hs _ _ h.3)
