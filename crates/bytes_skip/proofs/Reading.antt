-- Reading goes the way that `skip` goes: one record for what is read, and those directly below it after it. Assumes nothing.
use Prim.Native.Nat.{ℕ, zero, suc, ◌+◌, ◌*◌, ◌≤◌}
use mathlib.Core.Bool.{Bool, true, false, false≢true}
use mathlib.Core.List.{List, [], ◌∷◌}
use mathlib.Core.Option.{Option, none, some}
use mathlib.Core.Path.{◌≡◌, refl, sym, ap, ◌∙◌}
use native.Mathlib.Nat.{add-zero, add_comm}
use native.Mathlib.Omega.{arith}
use lib.ListN.{length, get_or}
use lib.Dec.{leb, eqb}
use borrow.Author.Tests.{leb-true, eqb-true}
use Rattle.rules.specs.Outcome.{Outcome, ok, choose}
use Rattle.rules.specs.Numbers.{Mark, TV, FH, PA, NA, PT, AT, code, code_at, numbers_at, number_at, is_set, bit}
use Rattle.rules.specs.Records.{size_of, numbers_of, fields, all_in_range, widths, width}
use Rattle.rules.specs.Tree.{Expr, Heads, no_exprs, no_binds, no_params, no_heads}
use Rattle.rules.specs.FirstWalk.{Allowed, any_expression, function_only, object_only, Child, level, holder, Groups, Form, rows, bind_rows, only, row_of, Read, nth, front, many, none_left, record_at, constant_at, constants_at, expr_item, holder_at, child_at, groups_at, bind_item, param_item, head_item, below, expr_at, value_groups, expressions, argument, index_part, assertion, members, an_identity, a_constant, a_variable, an_array, an_import, a_local, a_function, an_object, parts}
use Rattle.bytes_records.specs.Marks.{mark_of, children, mark_at, size_at, children_at}
use Rattle.rules.proofs.After.{After, fine, refused, after_ok, after_bind, after_need, after_choose, after_given, after_many, after_weaken, chosen, Held, there, nothing, held_some}
use Rattle.rules.proofs.ReadRecords.{after_allowed}
use Rattle.rules.proofs.Accepted.{total}
use Rattle.bytes_records.proofs.Laws.{All, all_none, ◌also◌, mark_code}
use Rattle.bytes_skip.proofs.Going.{Goes, Steps, steps_none, steps_then, steps_record, steps_goes}

-- A record that was read

pub record Was {A : Type 0} (s : List ℕ) (table : List (Mark × A)) (p : ℕ) (r : Read A) : Type 0 where
  pub row : row_of (code_at s p) table ≡ some (r.mark, r.row)
  pub mark : mark_at s p ≡ r.mark
  pub fits : p + size_of r.mark ≤ length s
  pub judged : all_in_range (fields r.mark) (numbers_at s (numbers_of r.mark) (p + 2)) ≡ true
  pub numbers : r.numbers ≡ numbers_at s (numbers_of r.mark) (p + 2)
  pub next : r.next ≡ p + size_of r.mark

-- what holds of each row of a table holds of the row that is found
pub row_held : {A : Type 0} (P : Mark × A → Type 0) (c : ℕ) (table : List (Mark × A)) → All (λ r. c ≡ code r.0 → P r) table → Held P (row_of c table)
unfolding row_of
row_held P c [] all = nothing
row_held P c (r ∷ rs) (here also later) = chosen (Held P) (eqb c (code r.0)) (λ _. some r) (λ _. row_of c rs) (λ e. there (here (eqb-true _ _ e))) (λ e. row_held P c rs later)

all_rows : {A : Type 0} (P : A → Type 0) (l : List A) → ((a : A) → P a) → All P l
all_rows P [] h = all_none
all_rows P (a ∷ l) h = h a also all_rows P l h

pub row_code : {A : Type 0} (c : ℕ) (table : List (Mark × A)) {r : Mark × A} → row_of c table ≡ some r → c ≡ code r.0
row_code {A = A} c table e = held_some (row_held (λ r. c ≡ code r.0) c table (all_rows (λ r. c ≡ code r.0 → c ≡ code r.0) table (λ r h. h))) e

module _ (s : List ℕ) where
  pub record_was : {A : Type 0} (table : List (Mark × A)) (p : ℕ) → After (Was s table p) (record_at s table p)
  unfolding record_at mark_at
  record_was table p =
      after_need _ 1 p _ λ _. after_bind _ (after_allowed (row_of (code_at s p) table) p) λ r e.
      after_need _ 1 p _ λ h. after_need _ 3 p _ λ j.
      fine (record { row = e; mark = ap mark_of (row_code (code_at s p) table e) ∙ mark_code r.0; fits = leb-true _ _ h; judged = j; numbers = refl; next = refl })

  -- a record and so many below it
  module _ {A : Type 0} {table : List (Mark × A)} {p : ℕ} {r : Read A} (was : Was s table p r) where
    size_was : size_at s p ≡ size_of r.mark
    unfolding size_at
    size_was = ap size_of was.mark

    children_was : children_at s p ≡ children r.mark r.numbers
    unfolding children_at
    children_was = ap (λ m. children m (numbers_at s (numbers_of m) (p + 2))) was.mark ∙ ap (children r.mark) (sym was.numbers)

    pub record_steps : (k q : ℕ) → children r.mark r.numbers ≡ k → Steps s k r.next q → Steps s 1 p q
    record_steps k q e below =
        steps_record s p q (rw size_was was.fits) (rw (children_was, e, size_was, ← was.next) below)

-- How many records a form has below its own

unfoldable below_form : Form → List ℕ → ℕ
below_form an_identity ns = 0
below_form a_constant ns = 0
below_form a_variable ns = 0
below_form an_array ns = get_or ns 0 0
below_form an_import ns = 0
below_form a_local ns = get_or ns 0 0 + 1
below_form a_function ns = get_or ns 1 0 + 1
below_form an_object ns = get_or ns 2 0 + (get_or ns 0 0 + (get_or ns 1 0 + get_or ns 2 0))
below_form (parts groups) ns = total (groups ns)

abbrev child_fits : Child → Type 0
child_fits (level a) = Unit {0}
child_fits (holder m n) = (ns : List ℕ) → children m ns ≡ n ns

abbrev groups_fit : Groups → Type 0
groups_fit gs = All (λ (g : ℕ × Child). child_fits g.1) gs

abbrev parts_fit : Form → Type 0
parts_fit an_identity = Unit {0}
parts_fit a_constant = Unit {0}
parts_fit a_variable = Unit {0}
parts_fit an_array = Unit {0}
parts_fit an_import = Unit {0}
parts_fit a_local = Unit {0}
parts_fit a_function = Unit {0}
parts_fit an_object = Unit {0}
parts_fit (parts groups) = (ns : List ℕ) → groups_fit (groups ns)

abbrev Fit : Mark × Form → Type 0
Fit r = ((ns : List ℕ) → children r.0 ns ≡ below_form r.1 ns) × parts_fit r.1

holders_fit : (n : ℕ) (m : Mark) (k : List ℕ → ℕ) → ((ns : List ℕ) → children m ns ≡ k ns) → groups_fit ((n, holder m k) ∷ [])
holders_fit n m k h = ◌also◌ {a = (n, holder m k)} h all_none

levels_fit : (n : List ℕ → ℕ) (ns : List ℕ) → groups_fit ((n ns, level any_expression) ∷ [])
levels_fit n ns = tt also all_none

extended_fit : (ns : List ℕ) → groups_fit ((1, level any_expression) ∷ (1, level object_only) ∷ [])
extended_fit ns = tt also tt also all_none

applied_fit : (ns : List ℕ) → groups_fit ((1 + get_or ns 0 0, level any_expression) ∷ (get_or ns 1 0, holder NA (λ _. 1)) ∷ [])
unfolding children
applied_fit ns = tt also holders_fit (get_or ns 1 0) NA (λ _. 1) (λ ms. refl)

indexed_fit : (ns : List ℕ) → groups_fit ((1, level any_expression) ∷ (get_or ns 0 0, holder PT (λ _. 1)) ∷ [])
unfolding children
indexed_fit ns = tt also holders_fit (get_or ns 0 0) PT (λ _. 1) (λ ms. refl)

last_group : (a b : ℕ) → a + b ≡ a + (b + 0)
last_group a b = omega arith

object_parts : (l a f : ℕ) → 2 * f + l + a ≡ f + (l + (a + f))
object_parts l a f = omega arith

rows_fit : (a : Allowed) → unfold rows in All Fit (rows a)
unfolding rows children below_form expressions argument index_part members
rows_fit any_expression =
    ((λ ns. refl), tt)
    also ((λ ns. refl), tt)
    also ((λ ns. refl), tt)
    also ((λ ns. refl), tt)
    also ((λ ns. refl), extended_fit)
    also ((λ ns. refl), levels_fit (λ ns. 1))
    also ((λ ns. refl), levels_fit (λ ns. 2))
    also ((λ ns. sym (add-zero (2 + get_or ns 0 0))), levels_fit (λ ns. 2 + get_or ns 0 0))
    also ((λ ns. add_comm 1 (get_or ns 0 0)), tt)
    also ((λ ns. refl), levels_fit (λ ns. 1))
    also ((λ ns. refl), tt)
    also ((λ ns. last_group (1 + get_or ns 0 0) (get_or ns 1 0)), applied_fit)
    also ((λ ns. last_group 1 (get_or ns 0 0)), indexed_fit)
    also ((λ ns. add_comm 1 (get_or ns 1 0)), tt)
    also ((λ ns. sym (add-zero (2 + get_or ns 0 0))), levels_fit (λ ns. 2 + get_or ns 0 0))
    also ((λ ns. sym (add-zero (1 + members (get_or ns 0 0)))), levels_fit (λ ns. 1 + members (get_or ns 0 0)))
    also ((λ ns. object_parts (get_or ns 0 0) (get_or ns 1 0) (get_or ns 2 0)), tt)
    also all_none
rows_fit function_only = ((λ ns. add_comm 1 (get_or ns 1 0)), tt) also all_none
rows_fit object_only = ((λ ns. object_parts (get_or ns 0 0) (get_or ns 1 0) (get_or ns 2 0)), tt) also all_none

row_fit : (s : List ℕ) (a : Allowed) {p : ℕ} {r : Read Form} → Was s (rows a) p r → Fit (r.mark, r.row)
unfolding rows
row_fit s a {p} was = held_some (row_held Fit (code_at s p) (rows a) (given_code (code_at s p) (rows a) (rows_fit a))) was.row
  where
    given_code : (c : ℕ) (table : List (Mark × Form)) → All Fit table → All (λ (r : Mark × Form). c ≡ code r.0 → Fit r) table
    given_code c [] all_none = all_none
    given_code c (r ∷ rs) (here also later) = (λ _. here) also given_code c rs later

binds_child : (c : ℕ) {r : Mark × (Bool × Allowed)} → row_of c bind_rows ≡ some r → (ns : List ℕ) → children r.0 ns ≡ 1
unfolding bind_rows children
binds_child c e = held_some (row_held (λ r. (ns : List ℕ) → children r.0 ns ≡ 1) c bind_rows ((λ _ ns. refl) also (λ _ ns. refl) also all_none)) e

param_children : (ns : List ℕ) → children PA ns ≡ bit (is_set (get_or ns 2 0))
unfolding children
param_children ns = refl

head_children : (ns : List ℕ) → children FH ns ≡ bit (is_set (get_or ns 0 0))
unfolding children
head_children ns = refl

asserted_fit : (n : ℕ) → groups_fit ((n, holder AT (λ ns. 1 + get_or ns 0 0)) ∷ [])
unfolding children
asserted_fit n = holders_fit n AT (λ ns. 1 + get_or ns 0 0) (λ ms. refl)

total_levels : (n : ℕ) → total (expressions n) ≡ n
unfolding expressions
total_levels n = add-zero n

-- Constants

module _ (s : List ℕ) where
  constant_steps : (p : ℕ) → p + 6 ≤ length s → code_at s p ≡ code TV → Steps s 1 p (p + 6)
  unfolding children_at size_at mark_at size_of numbers_of widths width fields children
  constant_steps p fits e =
      let m : mark_at s p ≡ TV = ap mark_of e ∙ mark_code TV in
      steps_record s p (p + 6) (rw m fits) (rw m (steps_none s (p + 6)))

  front_held : {A : Type 0} (P : Type 0) (a : A) (o : Option (List A)) → Held (λ _. P) o → Held (λ _. P) (front a o)
  unfolding front
  front_held P a none h = nothing
  front_held P a (some l) (there h) = there h

  -- a test that is two
  constant_is : (p : ℕ) → constant_at s p ≡ true → (p + 6 ≤ length s) × (code_at s p ≡ code TV)
  unfolding constant_at choose
  constant_is p t = by (leb (p + 6) (length s)) refl t
    where
      by : (b : Bool) → leb (p + 6) (length s) ≡ b → choose b (λ _. eqb (code_at s p) (code TV)) (λ _. false) ≡ true → (p + 6 ≤ length s) × (code_at s p ≡ code TV)
      by true e t = (leb-true _ _ e, eqb-true _ _ t)
      by false e t = absurd (false≢true t)

  constants_more : {A : Type 0} {o : Option A} (n p : ℕ) → (p + 6 ≤ length s) × (code_at s p ≡ code TV)
      → Held (λ _. Steps s n (p + 6) (p + 6 + 6 * n)) o → Held (λ _. Steps s (suc n) p (p + 6 * suc n)) o
  constants_more n p c nothing = nothing
  constants_more n p c (there h) =
      let e : p + 6 * suc n ≡ p + 6 + 6 * n = omega arith in
      let k : suc n ≡ 1 + n = omega arith in
      there (rw (e, k) (steps_then s 1 n p (p + 6) (p + 6 + 6 * n) (constant_steps p c.0 c.1) h))

  constants_steps : (n p : ℕ) → Held (λ _. Steps s n p (p + 6 * n)) (constants_at s n p)
  unfolding constants_at constant_at
  constants_steps zero p = let e : p + 6 * 0 ≡ p = omega arith in there (rw e (steps_none s p))
  constants_steps (suc n) p =
      chosen (Held (λ _. Steps s (suc n) p (p + 6 * suc n))) (constant_at s p) _ _
      (λ t. front_held _ (number_at s (p + 2)) (constants_at s n (p + 6)) (constants_more n p (constant_is p t) (constants_steps n (p + 6))))
      (λ _. nothing)

  -- What stands below a record

  -- a part that takes one record
  abbrev One : {A : Type 0} → ℕ → A × ℕ → Type 0
  One p a = Steps s 1 p a.1

  many_steps : {A : Type 0} (k : ℕ) (item : ℕ → Outcome ((A → A) × ℕ)) (rest : ℕ → Outcome (A × ℕ)) → ((p : ℕ) → After (One p) (item p))
      → ((p : ℕ) → After (λ a. Steps s k p a.1) (rest p)) → (n p : ℕ) → After (λ a. Steps s (n + k) p a.1) (many item rest n p)
  many_steps {A = A} k item rest one last n p =
      after_many (λ (n p : ℕ) (a : A) (q : ℕ). Steps s (n + k) p q) item rest
      (λ p. after_weaken (one p) λ i h n others r later. one_more n p i.1 r h later)
      (λ p. after_weaken (last p) λ a h. none p a.1 h) n p
    where
      one_more : (n p q r : ℕ) → Steps s 1 p q → Steps s (n + k) q r → Steps s (suc n + k) p r
      one_more n p q r a b = let e : suc n + k ≡ 1 + (n + k) = omega arith in rw e (steps_then s 1 (n + k) p q r a b)

      none : (p q : ℕ) → Steps s k p q → Steps s (0 + k) p q
      none p q h = let e : 0 + k ≡ k = omega arith in rw e h

  list_steps : {A : Type 0} (item : ℕ → Outcome ((A → A) × ℕ)) (nil : A) → ((p : ℕ) → After (One p) (item p))
      → (n p : ℕ) → After (λ a. Steps s n p a.1) (many item (none_left nil) n p)
  unfolding none_left
  list_steps item nil one n p = after_weaken (many_steps 0 item (none_left nil) one (λ p. fine (steps_none s p)) n p) λ a h. rw (add-zero n) at h

  -- a table of one mark gives that mark
  pub only_mark : (m : Mark) {p : ℕ} {r : Read (Unit {0})} → Was s (only m) p r → r.mark ≡ m
  unfolding only
  only_mark m {p} was = held_some (row_held (λ r. r.0 ≡ m) (code_at s p) (only m) (◌also◌ {a = (m, tt)} (λ _. refl) all_none)) was.row

  -- n heads from p to q, and that their values are as many
  record Headed (n p : ℕ) (hs : Heads) (q : ℕ) : Type 0 where
    steps : Steps s n p q
    values : total (value_groups hs) ≡ n
    fit : groups_fit (value_groups hs)

  module _ (sub : Allowed → ℕ → Outcome (Expr × ℕ)) (sub_one : (a : Allowed) (p : ℕ) → After (One p) (sub a p)) where
    item_one : (read : ℕ → Outcome (Expr × ℕ)) → ((p : ℕ) → After (One p) (read p)) → (p : ℕ) → After (One p) (expr_item s sub read p)
    unfolding expr_item
    item_one read one p = after_bind _ (one p) λ a h. fine h

    holder_one : (m : Mark) (n : List ℕ → ℕ) → child_fits (holder m n) → (p : ℕ) → After (One p) (holder_at s sub m n p)
    unfolding holder_at
    holder_one m n fits p = after_bind _ (record_was s (only m) p) λ r was.
        after_bind _ (list_steps (expr_item s sub (sub any_expression)) no_exprs (item_one (sub any_expression) (sub_one any_expression)) (n r.numbers) r.next) λ a h.
        fine (record_steps s was (n r.numbers) a.1 (rw (only_mark m was) (fits r.numbers)) h)

    child_one : (c : Child) → child_fits c → (p : ℕ) → After (One p) (child_at s sub c p)
    unfolding child_at
    child_one (level a) fits p = sub_one a p
    child_one (holder m n) fits p = holder_one m n fits p

    groups_steps : (gs : Groups) → groups_fit gs → (p : ℕ) → After (λ a. Steps s (total gs) p a.1) (groups_at s sub gs p)
    unfolding groups_at none_left
    groups_steps [] fits p = fine (steps_none s p)
    groups_steps (g ∷ gs) (here also later) p =
        many_steps (total gs) (expr_item s sub (child_at s sub g.1)) (groups_at s sub gs) (item_one (child_at s sub g.1) (child_one g.1 here)) (groups_steps gs later) g.0 p

    bind_one : (p : ℕ) → After (One p) (bind_item s sub p)
    unfolding bind_item
    bind_one p = after_bind _ (record_was s bind_rows p) λ r was. after_bind _ (sub_one r.row.1 r.next) λ a h.
        fine (record_steps s was 1 a.1 (bind_child was) h)
      where
        bind_child : {r : Read (Bool × Allowed)} → Was s bind_rows p r → children r.mark r.numbers ≡ 1
        bind_child {r} was = binds_child (code_at s p) was.row r.numbers

    param_one : (p : ℕ) → After (One p) (param_item s sub p)
    unfolding param_item nth
    param_one p = after_bind _ (record_was s (only PA) p) λ r was.
        after_choose (is_set (get_or r.numbers 2 0)) _ _
        (λ t. after_bind _ (sub_one any_expression r.next) λ a h. fine (record_steps s was 1 a.1 (param_child was ∙ ap bit t) h))
        (λ t. fine (record_steps s was 0 r.next (param_child was ∙ ap bit t) (steps_none s r.next)))
      where
        param_child : {r : Read (Unit {0})} → Was s (only PA) p r → children r.mark r.numbers ≡ bit (is_set (get_or r.numbers 2 0))
        param_child was = rw (only_mark PA was) (param_children _)

    -- the heads, and as many values
    heads_steps : (n p : ℕ) → After (λ a. Headed n p a.0 a.1) (many (head_item s sub) (none_left no_heads) n p)
    unfolding head_item none_left nth value_groups
    heads_steps n p =
        after_many Headed (head_item s sub) (none_left no_heads)
        (λ p. after_bind _ (record_was s (only FH) p) λ r was.
        after_choose (is_set (get_or r.numbers 0 0)) _ _
        (λ t. after_bind _ (sub_one any_expression r.next) λ a h.
        fine (λ n hs q headed. one_more n p a.1 q refl (record_steps s was 1 a.1 (head_child was ∙ ap bit t) h) headed))
        (λ t. fine (λ n hs q headed. one_more n p r.next q refl (record_steps s was 0 r.next (head_child was ∙ ap bit t) (steps_none s r.next)) headed)))
        (λ p. fine (record { steps = steps_none s p; values = refl; fit = all_none })) n p
      where
        head_child : {p : ℕ} {r : Read (Unit {0})} → Was s (only FH) p r → children r.mark r.numbers ≡ bit (is_set (get_or r.numbers 0 0))
        head_child was = rw (only_mark FH was) (head_children _)

        one_more : (n p q r : ℕ) {hs hs' : Heads} {v : Allowed} → value_groups hs' ≡ (1, level v) ∷ value_groups hs → Steps s 1 p q → Headed n q hs r → Headed (suc n) p hs' r
        one_more n p q r e a b =
            let k : suc n ≡ 1 + n = omega arith in
            record { steps = rw k (steps_then s 1 n p q r a b.steps); values = ap total e ∙ ap (λ t. 1 + t) b.values ∙ sym k; fit = rw e (tt also b.fit) }

    below_one : (f : Form) {p : ℕ} {r : Read Form} (a : Allowed) → Was s (rows a) p r → Fit (r.mark, f) → After (One p) (below s sub f r p)
    unfolding below below_form nth expressions assertion
    below_one an_identity {p} {r} a was fit = fine (record_steps s was 0 r.next (fit.0 r.numbers) (steps_none s r.next))
    below_one a_constant {p} {r} a was fit = fine (record_steps s was 0 r.next (fit.0 r.numbers) (steps_none s r.next))
    below_one a_variable {p} {r} a was fit = fine (record_steps s was 0 r.next (fit.0 r.numbers) (steps_none s r.next))
    below_one an_array {p} {r} a was fit = after_given (constants_at s (get_or r.numbers 0 0) r.next) _ _
        (λ _. after_bind _ (groups_steps (expressions (get_or r.numbers 0 0)) (levels_fit (λ ns. get_or ns 0 0) r.numbers) r.next) λ b h.
        fine (record_steps s was _ b.1 (fit.0 r.numbers) (rw (total_levels (get_or r.numbers 0 0)) at h)))
        (λ vs e. fine (record_steps s was (get_or r.numbers 0 0) _ (fit.0 r.numbers) (held_some (constants_steps (get_or r.numbers 0 0) r.next) e)))
    below_one an_import {p} {r} a was fit = fine (record_steps s was 0 r.next (fit.0 r.numbers) (steps_none s r.next))
    below_one a_local {p} {r} a was fit =
        after_bind _ (list_steps (bind_item s sub) no_binds bind_one (get_or r.numbers 0 0) r.next) λ b h.
        after_bind _ (sub_one any_expression b.1) λ e k.
        fine (record_steps s was _ e.1 (fit.0 r.numbers) (steps_then s (get_or r.numbers 0 0) 1 r.next b.1 e.1 h k))
    below_one a_function {p} {r} a was fit =
        after_bind _ (list_steps (param_item s sub) no_params param_one (get_or r.numbers 1 0) r.next) λ b h.
        after_bind _ (sub_one any_expression b.1) λ e k.
        fine (record_steps s was _ e.1 (fit.0 r.numbers) (steps_then s (get_or r.numbers 1 0) 1 r.next b.1 e.1 h k))
    below_one an_object {p} {r} a was fit =
        after_bind _ (heads_steps (get_or r.numbers 2 0) r.next) λ hs headed.
        after_bind _ (list_steps (bind_item s sub) no_binds bind_one (get_or r.numbers 0 0) hs.1) λ bs locals.
        after_bind _ (groups_steps ((get_or r.numbers 1 0, assertion) ∷ []) (asserted_fit (get_or r.numbers 1 0)) bs.1) λ ts asserted.
        after_bind _ (groups_steps (value_groups hs.0) headed.fit ts.1) λ vs valued.
        fine (record_steps s was _ vs.1 (fit.0 r.numbers)
        (steps_then s (get_or r.numbers 2 0) _ r.next hs.1 vs.1 headed.steps
        (steps_then s (get_or r.numbers 0 0) _ hs.1 bs.1 vs.1 locals
        (steps_then s (get_or r.numbers 1 0) (get_or r.numbers 2 0) bs.1 ts.1 vs.1 (rw (add-zero (get_or r.numbers 1 0)) at asserted) (rw headed.values at valued)))))
    below_one (parts groups) {p} {r} a was fit =
        after_bind _ (groups_steps (groups r.numbers) (fit.1 r.numbers) r.next) λ es h.
        fine (record_steps s was _ es.1 (fit.0 r.numbers) h)

  expr_one : (levels : ℕ) (a : Allowed) (p : ℕ) → After (One p) (expr_at s levels a p)
  unfolding expr_at
  expr_one zero a p = after_bind _ (record_was s (rows a) p) λ r was. refused
  expr_one (suc levels) a p = after_bind _ (record_was s (rows a) p) λ r was. below_one (expr_at s levels) (expr_one levels) r.row a was (row_fit s a was)

-- where reading succeeds, `skip` can go
pub reads : (s : List ℕ) (levels : ℕ) (a : Allowed) (e : Expr) (q : ℕ) {p : ℕ} → expr_at s levels a p ≡ ok (e, q) → Goes s q 1 p
reads s levels a e q {p} h = steps_goes s p q (after_ok (expr_one s levels a p) h)
