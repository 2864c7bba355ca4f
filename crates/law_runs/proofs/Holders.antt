-- A record that holds one expression or two: what stands in it, and that it is analysed by them and then copied. Assumes nothing.
use Prim.Native.Nat.{ℕ, suc, ◌+◌, ◌-◌, ◌≤◌, ◌<◌}
use mathlib.Core.List.{List}
use mathlib.Core.Path.{◌≡◌, refl, sym, ap, subst, ◌∙◌}
use native.Mathlib.Omega.{arith}
use lib.ListN.{length}
use lib.Dec.{ltb}
use borrow.Author.Tests.{leb-true}
use Rattle.rules.specs.Outcome.{Outcome, ok, ◌>>=◌}
use Rattle.rules.specs.Numbers.{Mark, code, code_at, number_at, numbers_at, NA, PT, AT}
use Rattle.rules.specs.Records.{size_of, numbers_of, fields, all_in_range, in_range, widths, width}
use Rattle.rules.specs.Tree.{Expr, Exprs, no_exprs}
use Rattle.rules.specs.FirstWalk.{any_expression, many, none_left, expr_item, expr_at}
use Rattle.rules.specs.State.{Limits, AnalysisStack}
use Rattle.rules.specs.Walk.{Place, unnamed}
use Rattle.rules.proofs.After.{both_passed}
use Rattle.rules.proofs.Outcomes.{bind_fine, bind_told, bind_got, bind_assoc}
use Rattle.bytes_records.specs.Marks.{mark_of, children}
use Rattle.bytes_records.proofs.Laws.{mark_code}
use Rattle.law_runs.specs.Run.{Accepted, item_at, items_at, run_expr, run_item, run_items}
use Rattle.law_runs.specs.Steps.{copied, plain_steps}
use Rattle.law_runs.proofs.Binding.{many_first, many_rest, many_alone, many_one, accepted}
use Rattle.law_runs.proofs.Reading.{Stands, expr_opened}
use Rattle.law_runs.proofs.Lists.{item_value, items_by_one}
use Rattle.law_runs.proofs.Lists as lists
use Rattle.law_runs.proofs.Expressions.{Holder, an_argument, a_part, an_assertion, HolderRead, holder_read, holder_run, item_expr, no_holder, item_plain, items_none, items_next, ended, expr_end}

-- An item where an expression was read

module _ (s : List ℕ) (levels p : ℕ) (a : Accepted (expr_at s levels any_expression p)) where
  expr_is_item : item_at s levels p ≡ expr_at s levels any_expression p
  expr_is_item = item_plain s levels p (no_holder (code_at s p) (expr_opened s levels any_expression p a).opened.listed)

  expr_items : Accepted (items_at s levels 1 p)
  expr_items = accepted (items_next s levels 0 p (expr_is_item ∙ a.there) (items_none s levels a.what.1))

  expr_item_run : (L : Limits) (h : Place) (st : AnalysisStack) → run_items s L levels 1 p h st ≡ run_expr s L levels p unnamed h st
  unfolding run_item run_expr
  expr_item_run L h st = lists.item_run s L levels p h st expr_items ∙ rw expr_is_item

-- Expressions one after another

abbrev exprs_at : List ℕ → (levels n p : ℕ) → Outcome (Exprs × ℕ)
exprs_at s levels n p = many (expr_item s (expr_at s levels) (expr_at s levels any_expression)) (none_left no_exprs) n p

module _ (s : List ℕ) (levels : ℕ) where
  one_expr : (p : ℕ) → Accepted (exprs_at s levels 1 p) → Accepted (expr_at s levels any_expression p)
  unfolding expr_item
  one_expr p a =
      let o = many_alone (expr_item s (expr_at s levels) (expr_at s levels any_expression)) no_exprs p a.there in
      accepted (bind_got (expr_at s levels any_expression p) _ o.here).first

  first_expr : (n p : ℕ) → Accepted (exprs_at s levels (suc n) p) → Accepted (expr_at s levels any_expression p)
  first_expr n p a = one_expr p (many_first (expr_item s (expr_at s levels) (expr_at s levels any_expression)) no_exprs n p a)

  second_expr : (p : ℕ) {e : Expr} {q : ℕ} → Accepted (exprs_at s levels 2 p) → expr_at s levels any_expression p ≡ ok (e, q) → Accepted (expr_at s levels any_expression q)
  unfolding expr_item
  second_expr p {q = q} a h =
      one_expr q (many_rest (expr_item s (expr_at s levels) (expr_at s levels any_expression)) no_exprs 1 p a
      (many_one (expr_item s (expr_at s levels) (expr_at s levels any_expression)) no_exprs p (bind_fine _ h)))

-- What holders have in common

abbrev held_count : List ℕ → ℕ → Mark → ℕ
held_count s p m = children m (numbers_at s (numbers_of m) (p + 2))

named_is : (c : ℕ) (m : Mark) → c ≡ code m → m ≡ mark_of c
named_is c m e = sym (ap mark_of e ∙ mark_code m)

holder_six : (c : ℕ) → Holder c → size_of (mark_of c) ≡ 6
unfolding size_of numbers_of widths width fields
holder_six c (an_argument e) = subst (λ (m : Mark). size_of m ≡ 6) (named_is c NA e) refl
holder_six c (a_part e) = subst (λ (m : Mark). size_of m ≡ 6) (named_is c PT e) refl
holder_six c (an_assertion e) = subst (λ (m : Mark). size_of m ≡ 6) (named_is c AT e) refl

-- one, or with a message two
abbrev Few : ℕ → Type 0
Few n = (1 ≤ n) × (n ≤ 2)

few_argument : (s : List ℕ) (p : ℕ) → Few (held_count s p NA)
unfolding children
few_argument s p = (omega arith, omega arith)

few_part : (s : List ℕ) (p : ℕ) → Few (held_count s p PT)
unfolding children
few_part s p = (omega arith, omega arith)

-- the flag is in range
few_assertion : (s : List ℕ) (p : ℕ) → Stands s AT p → Few (held_count s p AT)
unfolding children numbers_of widths width fields all_in_range in_range numbers_at
few_assertion s p t =
    let flag : number_at s (p + 2) < 2 = leb-true _ _ (both_passed (ltb (number_at s (p + 2)) 2) _ t.judged).0 in
    (omega arith, omega (arith, flag))

few : (s : List ℕ) (p c : ℕ) → Holder c → Stands s (mark_of c) p → Few (held_count s p (mark_of c))
few s p c (an_argument e) = subst (λ (m : Mark). Stands s m p → Few (held_count s p m)) (named_is c NA e) (λ _. few_argument s p)
few s p c (a_part e) = subst (λ (m : Mark). Stands s m p → Few (held_count s p m)) (named_is c PT e) (λ _. few_part s p)
few s p c (an_assertion e) = subst (λ (m : Mark). Stands s m p → Few (held_count s p m)) (named_is c AT e) (few_assertion s p)

-- A holder

module _ (s : List ℕ) (L : Limits) (levels p : ℕ) (a : Accepted (items_at s levels 1 p)) (c : ℕ) (ec : code_at s p ≡ c) where
  module _ (hold : Holder c) where
    held_there : Holder (code_at s p)
    held_there = subst (λ (c : ℕ). Holder c) (sym ec) hold

    held_read : HolderRead s levels p (mark_of c)
    held_read = subst (λ (c : ℕ). HolderRead s levels p (mark_of c)) ec (holder_read s levels p (item_value s levels p a) held_there)

    pub held_marked : code_at s p ≡ code (mark_of c)
    held_marked = held_read.stands.marked

    pub held_sized : size_of (mark_of c) ≡ 6
    held_sized = holder_six c hold

    pub held_size : p + 6 ≤ length s
    held_size = let six = held_sized in let fits = held_read.stands.fits in omega arith

    pub held_few : (1 ≤ children (mark_of c) (numbers_at s (numbers_of (mark_of c)) (p + 2))) × (children (mark_of c) (numbers_at s (numbers_of (mark_of c)) (p + 2)) ≤ 2)
    held_few = few s p c hold held_read.stands

    -- what it holds are expressions
    held_exprs : (n : ℕ) → held_count s p (mark_of c) ≡ n → Accepted (exprs_at s levels n (p + 6))
    held_exprs n e =
        accepted (ap (λ (n : ℕ). exprs_at s levels n (p + 6)) (sym e)
        ∙ ap (λ (k : ℕ). exprs_at s levels (held_count s p (mark_of c)) (p + k)) (sym held_sized) ∙ held_read.exprs_read)

    held_items : (n : ℕ) → held_count s p (mark_of c) ≡ n → Accepted (items_at s levels n (p + 6))
    held_items n e =
        accepted (ap (λ (n : ℕ). items_at s levels n (p + 6)) (sym e)
        ∙ ap (λ (k : ℕ). items_at s levels (held_count s p (mark_of c)) (p + k)) (sym held_sized) ∙ held_read.items_read)

    held_run : (n : ℕ) → held_count s p (mark_of c) ≡ n → (h : Place) (st : AnalysisStack)
        → run_items s L levels 1 p h st ≡ (run_items s L levels n (p + 6) h st >>= λ x. copied L s (mark_of c) p x.1 x.0)
    unfolding plain_steps
    held_run n e h st =
        lists.item_run s L levels p h st a
        ∙ subst (λ (c : ℕ). run_item s L levels p h st ≡ plain_steps L s (mark_of c) levels (held_count s p (mark_of c)) (p + size_of (mark_of c)) p h st) ec
        (holder_run s L levels p (item_value s levels p a) held_there h st)
        ∙ ap (λ (k : ℕ). plain_steps L s (mark_of c) levels (held_count s p (mark_of c)) (p + k) p h st) held_sized
        ∙ ap (λ (n : ℕ). plain_steps L s (mark_of c) levels n (p + 6) p h st) e

    pub held_first : Accepted (expr_at s levels any_expression (p + 6))
    held_first =
        let n = held_count s p (mark_of c) in
        first_expr s levels _ (p + 6) (held_exprs (suc (n - 1)) (let f = held_few in omega (arith, f.0)))

    pub held_one : children (mark_of c) (numbers_at s (numbers_of (mark_of c)) (p + 2)) ≡ 1 → (h : Place) (st : AnalysisStack)
        → run_items s L levels 1 p h st ≡ (run_expr s L levels (p + 6) unnamed h st >>= λ x. copied L s (mark_of c) p x.1 x.0)
    held_one one h st =
        held_run 1 one h st
        ∙ ap (λ (o : Outcome (AnalysisStack × ℕ)). o >>= λ x. copied L s (mark_of c) p x.1 x.0) (expr_item_run s levels (p + 6) held_first L h st)

    module _ (more : children (mark_of c) (numbers_at s (numbers_of (mark_of c)) (p + 2)) ≡ 1 → ⊥) where
      held_both : held_count s p (mark_of c) ≡ 2
      held_both = let f = held_few in omega (arith, f.0, f.1, more)

      pub held_second : (h : Place) (st : AnalysisStack) {st' : AnalysisStack} {q : ℕ} → run_expr s L levels (p + 6) unnamed h st ≡ ok (st', q) → Accepted (expr_at s levels any_expression q)
      held_second h st e = second_expr s levels (p + 6) (held_exprs 2 held_both) (ended held_first (expr_end s L levels (p + 6) unnamed h st e held_first))

      pub held_two : (h : Place) (st : AnalysisStack)
          → run_items s L levels 1 p h st
          ≡ (run_expr s L levels (p + 6) unnamed h st >>= λ x. run_expr s L levels x.1 unnamed h x.0 >>= λ y. copied L s (mark_of c) p y.1 y.0)
      held_two h st =
          held_run 2 held_both h st
          ∙ ap (λ (o : Outcome (AnalysisStack × ℕ)). o >>= λ x. copied L s (mark_of c) p x.1 x.0)
          ((items_by_one s L levels h).step 1 (p + 6) st (held_items 2 held_both)
          ∙ ap (λ (o : Outcome (AnalysisStack × ℕ)). o >>= λ r. run_items s L levels 1 r.1 h r.0) (expr_item_run s levels (p + 6) held_first L h st)
          ∙ bind_told (run_expr s L levels (p + 6) unnamed h st) (λ r. run_items s L levels 1 r.1 h r.0) (λ r. run_expr s L levels r.1 unnamed h r.0)
          (λ x e. expr_item_run s levels x.1 (held_second h st e) L h x.0))
          ∙ bind_assoc (run_expr s L levels (p + 6) unnamed h st) (λ x. run_expr s L levels x.1 unnamed h x.0) (λ y. copied L s (mark_of c) p y.1 y.0)

  -- Where no holder stands

  module _ (no_na : c ≡ code NA → ⊥) (no_pt : c ≡ code PT → ⊥) (no_at : c ≡ code AT → ⊥) where
    pub not_held : Accepted (expr_at s levels any_expression p)
    not_held = item_expr s levels p (item_value s levels p a) (λ e. no_na (sym ec ∙ e)) (λ e. no_pt (sym ec ∙ e)) (λ e. no_at (sym ec ∙ e))

    pub not_held_run : (h : Place) (st : AnalysisStack) → run_items s L levels 1 p h st ≡ run_expr s L levels p unnamed h st
    not_held_run h st = expr_item_run s levels p not_held L h st
