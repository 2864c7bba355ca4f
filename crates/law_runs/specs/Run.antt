-- The analysis from a place of the tree's bytes: what stands there is read, and then analysed. Both by the rules; only their order of telling is
-- another one, because the code reads each record when it comes to it. Assumes nothing.
use Rattle.std.specs.Prelude.{ℕ, List, [], ◌∷◌, ◌≡◌}
use Rattle.rules.specs.Outcome.{given, Outcome, ok, ◌>>=◌}
use Rattle.rules.specs.Numbers.{Mark, NA, PT, AT, code_at}
use Rattle.rules.specs.Tree.{Expr, Exprs, Binds, Params, Heads, no_exprs, no_binds, no_params, no_heads}
use Rattle.rules.specs.FirstWalk.{Child, argument, index_part, assertion, any_expression, row_of, many, none_left, value_groups}
use Rattle.rules.specs.FirstWalk.{expr_item, child_at, groups_at, bind_item, param_item, head_item, expr_at}
use Rattle.rules.specs.State.{Limits, AnalysisStack}
use Rattle.rules.specs.Walk.{Place, Naming, unnamed, head_namings, define_binds, define_params}
use Rattle.rules.specs.Walk.{analyze, analyze_all, analyze_assertions, analyze_values, analyze_binds, analyze_params, analyze_heads}

-- reading succeeded, with this
pub record Accepted {A : Type 0} (o : Outcome A) : Type 0 where
  pub what : A
  pub there : o ≡ ok what

-- Reading

-- the records that hold expressions and count for no level
unfoldable pub holders : List (Mark × Child)
holders = (NA, argument) ∷ (PT, index_part) ∷ (AT, assertion) ∷ []

module _ (s : List ℕ) where
  -- an expression, or such a record with the expressions that it holds
  unfoldable pub item_at : (levels p : ℕ) → Outcome (Expr × ℕ)
  item_at levels p = given (row_of (code_at s p) holders)
      (λ _. expr_at s levels any_expression p)
      (λ row. child_at s (expr_at s levels) row.1 p)

  -- n of each

  unfoldable pub items_at : (levels n p : ℕ) → Outcome (Exprs × ℕ)
  items_at levels n p = many (expr_item s (expr_at s levels) (item_at levels)) (none_left no_exprs) n p

  unfoldable pub binds_at : (levels n p : ℕ) → Outcome (Binds × ℕ)
  binds_at levels n p = many (bind_item s (expr_at s levels)) (none_left no_binds) n p

  unfoldable pub params_at : (levels n p : ℕ) → Outcome (Params × ℕ)
  params_at levels n p = many (param_item s (expr_at s levels)) (none_left no_params) n p

  unfoldable pub heads_at : (levels n p : ℕ) → Outcome (Heads × ℕ)
  heads_at levels n p = many (head_item s (expr_at s levels)) (none_left no_heads) n p

  -- the values of n fields, whose heads stand at `heads`
  unfoldable pub values_at : (levels n heads p : ℕ) → Outcome ((Heads × Exprs) × ℕ)
  values_at levels n heads p = do
    (hs, behind) ← heads_at levels n heads
    (vs, q) ← groups_at s (expr_at s levels) (value_groups hs) p
    ok ((hs, vs), q)

  -- Reading and analysing: the state, and the place after what was read

  module _ (limits : Limits) where
    unfoldable pub run_expr : (levels p : ℕ) → Naming → Place → AnalysisStack → Outcome (AnalysisStack × ℕ)
    run_expr levels p naming h st = do
      (e, q) ← expr_at s levels any_expression p
      st ← analyze limits e naming h st
      ok (st, q)

    unfoldable pub run_item : (levels p : ℕ) → Place → AnalysisStack → Outcome (AnalysisStack × ℕ)
    run_item levels p h st = do
      (e, q) ← item_at levels p
      st ← analyze limits e unnamed h st
      ok (st, q)

    unfoldable pub run_items : (levels n p : ℕ) → Place → AnalysisStack → Outcome (AnalysisStack × ℕ)
    run_items levels n p h st = do
      (es, q) ← items_at levels n p
      st ← analyze_all limits es h st
      ok (st, q)

    unfoldable pub run_assertions : (levels n p : ℕ) → Place → AnalysisStack → Outcome (AnalysisStack × ℕ)
    run_assertions levels n p h st = do
      (es, q) ← items_at levels n p
      st ← analyze_assertions limits es h st
      ok (st, q)

    unfoldable pub run_values : (levels n heads p : ℕ) → Place → AnalysisStack → Outcome (AnalysisStack × ℕ)
    run_values levels n heads p h st = do
      ((hs, vs), q) ← values_at levels n heads p
      st ← analyze_values limits vs (head_namings hs) h st
      ok (st, q)

    unfoldable pub run_heads : (levels n p : ℕ) → Place → AnalysisStack → Outcome (AnalysisStack × ℕ)
    run_heads levels n p h st = do
      (hs, q) ← heads_at levels n p
      st ← analyze_heads limits hs h st
      ok (st, q)

    -- how many specs are kept, too
    unfoldable pub run_binds : (levels n p base kept : ℕ) → Place → AnalysisStack → Outcome (ℕ × (AnalysisStack × ℕ))
    run_binds levels n p base kept h st = do
      (bs, q) ← binds_at levels n p
      (kept, st) ← analyze_binds limits bs base kept h st
      ok (kept, (st, q))

    unfoldable pub run_params : (levels n p kept : ℕ) → Place → AnalysisStack → Outcome (ℕ × (AnalysisStack × ℕ))
    run_params levels n p kept h st = do
      (ps, q) ← params_at levels n p
      (kept, st) ← analyze_params limits ps kept h st
      ok (kept, (st, q))

    -- a frame's names, defined before its values are analysed
    unfoldable pub run_define_binds : (levels n p depth : ℕ) → AnalysisStack → Outcome (AnalysisStack × ℕ)
    run_define_binds levels n p depth st = do
      (bs, q) ← binds_at levels n p
      st ← define_binds limits bs depth st
      ok (st, q)

    unfoldable pub run_define_params : (levels n p depth : ℕ) → AnalysisStack → Outcome (AnalysisStack × ℕ)
    run_define_params levels n p depth st = do
      (ps, q) ← params_at levels n p
      st ← define_params limits ps depth st
      ok (st, q)
