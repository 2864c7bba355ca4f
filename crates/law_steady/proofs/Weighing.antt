-- What is read weighs no more than the bytes that it was read from: a record has two at least, and so pays for two rounds. Assumes nothing.
use Prim.Native.Nat.{ℕ, zero, suc, ◌+◌, ◌*◌, ◌≤◌}
use native.Mathlib.Omega.{arith}
use mathlib.Core.List.{List, [], ◌∷◌}
use mathlib.Core.Path.{◌≡◌, refl, ap}
use Rattle.rules.specs.Outcome.{Outcome}
use Rattle.rules.specs.Numbers.{Mark}
use Rattle.rules.specs.Records.{size_of}
use Rattle.rules.specs.Tree.{Expr, Exprs, Binds, Params, Heads, no_exprs, no_binds, no_params, no_heads, count_binds, count_params, identity, constant, variable, constants, import}
use Rattle.rules.specs.FirstWalk.{Allowed, any_expression, Child, level, holder, Groups, expressions, assertion, rows, only, bind_rows, value_groups, Read, nth, many, none_left, record_at, Form, an_identity, a_constant, a_variable, an_array, an_import, a_local, a_function, an_object, parts, expr_item, holder_at, child_at, groups_at, bind_item, param_item, head_item, below, expr_at}
use Rattle.law_runs.specs.Run.{item_at, items_at, binds_at, params_at, heads_at, values_at}
use Rattle.rules.proofs.After.{After, fine, refused, after_bind, after_need, after_choose, after_given, Puts, after_many, after_any}
use Rattle.law_steady.specs.Steady.{weight, weight_all, weight_binds, weight_params, weight_heads}

-- an expression, or expressions, from p to q
abbrev pub Weighs : (p : ℕ) → Expr × ℕ → Type 0
Weighs p x = p + weight x.0 ≤ x.1

abbrev pub WeighAll : (p : ℕ) → Exprs × ℕ → Type 0
WeighAll p x = p + weight_all x.0 ≤ x.1

-- n binds or parameters, with two bytes left over for each
abbrev pub WeighBinds : (n p : ℕ) → Binds × ℕ → Type 0
WeighBinds n p x = (p + weight_binds x.0 + 2 * n ≤ x.1) × (count_binds x.0 ≡ n)

abbrev pub WeighParams : (n p : ℕ) → Params × ℕ → Type 0
WeighParams n p x = (p + weight_params x.0 + 2 * n ≤ x.1) × (count_params x.0 ≡ n)

abbrev pub WeighHeads : (p : ℕ) → Heads × ℕ → Type 0
WeighHeads p x = p + weight_heads x.0 ≤ x.1

module _ (s : List ℕ) where
  -- a mark has two bytes
  record_goes : {A : Type 0} (table : List (Mark × A)) (p : ℕ) → After (λ (r : Read A). p + 2 ≤ r.next) (record_at s table p)
  unfolding record_at size_of
  record_goes {A = A} table p =
      after_need _ 1 p _ λ _. after_bind {P = λ (_ : Mark × A). Unit {0}} _ (after_any _) λ m _. after_need _ 1 p _ λ _. after_need _ 3 p _ λ _. fine (omega arith)

  module _ (sub : Allowed → ℕ → Outcome (Expr × ℕ)) (sub_weighs : (a : Allowed) (p : ℕ) → After (Weighs p) (sub a p)) where
    item_weighs : (read : ℕ → Outcome (Expr × ℕ)) → ((p : ℕ) → After (Weighs p) (read p))
        → (p : ℕ) → After (Puts (λ (n p : ℕ) (es : Exprs) (q : ℕ). WeighAll p (es, q)) p) (expr_item s sub read p)
    unfolding expr_item weight
    item_weighs read h p = after_bind _ (h p) λ e here. fine λ n es r rest. omega (arith, here, rest)

    none_weigh : (p : ℕ) → After (WeighAll p) (none_left no_exprs p)
    unfolding none_left weight
    none_weigh p = fine {a = (no_exprs, p)} (omega arith)

    many_weigh : (read : ℕ → Outcome (Expr × ℕ)) (rest : ℕ → Outcome (Exprs × ℕ)) → ((p : ℕ) → After (Weighs p) (read p)) → ((p : ℕ) → After (WeighAll p) (rest p))
        → (n p : ℕ) → After (WeighAll p) (many (expr_item s sub read) rest n p)
    many_weigh read rest h k n p = after_many (λ (n p : ℕ) (es : Exprs) (q : ℕ). WeighAll p (es, q)) _ _ (item_weighs read h) k n p

    holder_weighs : (m : Mark) (n : List ℕ → ℕ) (p : ℕ) → After (Weighs p) (holder_at s sub m n p)
    unfolding holder_at weight
    holder_weighs m n p = after_bind _ (record_goes (only m) p) λ r goes.
        after_bind _ (many_weigh (sub any_expression) (none_left no_exprs) (sub_weighs any_expression) none_weigh (n r.numbers) r.next) λ x all. fine (omega (arith, goes, all))

    pub child_weighs : (c : Child) (p : ℕ) → After (Weighs p) (child_at s sub c p)
    unfolding child_at
    child_weighs (level a) p = sub_weighs a p
    child_weighs (holder m n) p = holder_weighs m n p

    pub groups_weigh : (gs : Groups) (p : ℕ) → After (WeighAll p) (groups_at s sub gs p)
    unfolding groups_at
    groups_weigh [] p = none_weigh p
    groups_weigh (g ∷ gs) p = many_weigh (child_at s sub g.1) (groups_at s sub gs) (child_weighs g.1) (groups_weigh gs) g.0 p

    bind_weighs : (p : ℕ) → After (Puts (λ (n p : ℕ) (bs : Binds) (q : ℕ). WeighBinds n p (bs, q)) p) (bind_item s sub p)
    unfolding bind_item weight count_binds
    bind_weighs p = after_bind _ (record_goes bind_rows p) λ r goes. after_bind _ (sub_weighs r.row.1 r.next) λ x value.
        fine λ n bs q rest. (omega (arith, goes, value, rest.0), ap suc rest.1)

    pub binds_weigh : (n p : ℕ) → After (WeighBinds n p) (many (bind_item s sub) (none_left no_binds) n p)
    unfolding none_left weight count_binds
    binds_weigh = after_many (λ (n p : ℕ) (bs : Binds) (q : ℕ). WeighBinds n p (bs, q)) _ _ bind_weighs λ p. fine (omega arith, refl)

    param_weighs : (p : ℕ) → After (Puts (λ (n p : ℕ) (ps : Params) (q : ℕ). WeighParams n p (ps, q)) p) (param_item s sub p)
    unfolding param_item weight count_params
    param_weighs p = after_bind _ (record_goes _ p) λ r goes. after_choose _ _ _
        (λ _. after_bind _ (sub_weighs any_expression r.next) λ x value. fine λ n ps q rest. (omega (arith, goes, value, rest.0), ap suc rest.1))
        (λ _. fine λ n ps q rest. (omega (arith, goes, rest.0), ap suc rest.1))

    pub params_weigh : (n p : ℕ) → After (WeighParams n p) (many (param_item s sub) (none_left no_params) n p)
    unfolding none_left weight count_params
    params_weigh = after_many (λ (n p : ℕ) (ps : Params) (q : ℕ). WeighParams n p (ps, q)) _ _ param_weighs λ p. fine (omega arith, refl)

    head_weighs : (p : ℕ) → After (Puts (λ (n p : ℕ) (hs : Heads) (q : ℕ). WeighHeads p (hs, q)) p) (head_item s sub p)
    unfolding head_item weight
    head_weighs p = after_bind _ (record_goes _ p) λ r goes. after_choose _ _ _
        (λ _. after_bind _ (sub_weighs any_expression r.next) λ x name. fine λ n hs q rest. omega (arith, goes, name, rest))
        (λ _. fine λ n hs q rest. omega (arith, goes, rest))

    pub heads_weigh : (n p : ℕ) → After (WeighHeads p) (many (head_item s sub) (none_left no_heads) n p)
    unfolding none_left weight
    heads_weigh = after_many (λ (n p : ℕ) (hs : Heads) (q : ℕ). WeighHeads p (hs, q)) _ _ head_weighs λ p. fine (omega arith)

    below_weighs : (f : Form) (r : Read Form) (p : ℕ) → p + 2 ≤ r.next → After (Weighs p) (below s sub f r p)
    unfolding below weight
    below_weighs an_identity r p goes = let light : p + 0 ≤ r.next = omega arith in fine {a = (identity p _ _, _)} light
    below_weighs a_constant r p goes = let light : p + 0 ≤ r.next = omega arith in fine {a = (constant p _, _)} light
    below_weighs a_variable r p goes = let light : p + 0 ≤ r.next = omega arith in fine {a = (variable p _ _, _)} light
    below_weighs an_array r p goes = after_given _ _ _
        (λ _. after_bind _ (groups_weigh (expressions (nth r 0)) r.next) λ x all. fine (omega (arith, all)))
        (λ vs _. fine {a = (constants p vs, r.next + 6 * nth r 0)} (omega arith))
    below_weighs an_import r p goes = let light : p + 0 ≤ r.next = omega arith in fine {a = (import p _ _ _ _, _)} light
    below_weighs a_local r p goes = after_bind _ (binds_weigh (nth r 0) r.next) λ x binds. after_bind _ (sub_weighs any_expression x.1) λ y body.
        fine (omega (arith, goes, binds.0, binds.1, body))
    below_weighs a_function r p goes = after_bind _ (params_weigh _ r.next) λ x params. after_bind _ (sub_weighs any_expression x.1) λ y body.
        fine (omega (arith, goes, params.0, params.1, body))
    below_weighs an_object r p goes =
        after_bind _ (heads_weigh (nth r 2) r.next) λ x heads. after_bind _ (binds_weigh (nth r 0) x.1) λ y binds.
        after_bind _ (groups_weigh ((nth r 1, assertion) ∷ []) y.1) λ z assertions. after_bind _ (groups_weigh (value_groups x.0) z.1) λ v values.
        fine (omega (arith, goes, heads, binds.0, binds.1, assertions, values))
    below_weighs (parts groups) r p goes = after_bind _ (groups_weigh (groups r.numbers) r.next) λ x all. fine (omega (arith, all))

  pub expr_weighs : (levels : ℕ) (a : Allowed) (p : ℕ) → After (Weighs p) (expr_at s levels a p)
  unfolding expr_at
  expr_weighs zero a p = after_bind _ (record_goes (rows a) p) λ r goes. refused
  expr_weighs (suc levels) a p = after_bind _ (record_goes (rows a) p) λ r goes. below_weighs (expr_at s levels) (expr_weighs levels) r.row r p goes

  -- What the walkers read

  pub item_at_weighs : (levels p : ℕ) → After (Weighs p) (item_at s levels p)
  unfolding item_at
  item_at_weighs levels p = after_given _ _ _
      (λ _. expr_weighs levels any_expression p)
      (λ row _. child_weighs (expr_at s levels) (expr_weighs levels) row.1 p)

  pub items_at_weigh : (levels n p : ℕ) → After (WeighAll p) (items_at s levels n p)
  unfolding items_at
  items_at_weigh levels n p =
      many_weigh (expr_at s levels) (expr_weighs levels) (item_at s levels) (none_left no_exprs) (item_at_weighs levels) (none_weigh (expr_at s levels) (expr_weighs levels)) n p

  pub binds_at_weigh : (levels n p : ℕ) → After (WeighBinds n p) (binds_at s levels n p)
  unfolding binds_at
  binds_at_weigh levels n p = binds_weigh (expr_at s levels) (expr_weighs levels) n p

  pub params_at_weigh : (levels n p : ℕ) → After (WeighParams n p) (params_at s levels n p)
  unfolding params_at
  params_at_weigh levels n p = params_weigh (expr_at s levels) (expr_weighs levels) n p

  pub heads_at_weigh : (levels n p : ℕ) → After (WeighHeads p) (heads_at s levels n p)
  unfolding heads_at
  heads_at_weigh levels n p = heads_weigh (expr_at s levels) (expr_weighs levels) n p

  pub values_at_weigh : (levels n heads p : ℕ) → After (λ (x : (Heads × Exprs) × ℕ). p + weight_all x.0.1 ≤ x.1) (values_at s levels n heads p)
  unfolding values_at
  values_at_weigh levels n heads p =
      after_bind _ (heads_at_weigh levels n heads) λ x _. after_bind _ (groups_weigh (expr_at s levels) (expr_weighs levels) (value_groups x.0) p) λ v all. fine all
