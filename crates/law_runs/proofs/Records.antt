-- What reading one item of each list says of the bytes. Assumes nothing.
use Prim.Native.Nat.{ℕ, ◌+◌, ◌*◌, ◌≤◌}
use mathlib.Core.Bool.{Bool, true, false}
use mathlib.Core.List.{List}
use mathlib.Core.Path.{◌≡◌, refl, sym, ap, ◌∙◌}
use native.Mathlib.Omega.{arith}
use lib.ListN.{length, get_or}
use lib.Dec.{eqb}
use Rattle.rules.specs.Outcome.{ok}
use Rattle.rules.specs.Numbers.{Mark, code, code_at, number_at, numbers_at, is_set, bit, BV, BF, PA, FH}
use Rattle.rules.specs.Records.{span_in, size_of, numbers_of, fields, in_range, widths, width}
use Rattle.rules.specs.Tree.{Expr, Binds, Params, Heads, Head, place_of, no_exprs, bind, param, param_or, fixed, computed}
use Rattle.rules.specs.FirstWalk.{Allowed, any_expression, function_only, Child, level, holder, Read, nth, nth_span, head_of, bind_rows, row_of, many, none_left, expr_item, holder_at, child_at, bind_item, param_item, head_item, expr_at}
use Rattle.rules.proofs.After.{After, fine, after_ok, after_bind, after_choose, after_given, after_weaken, Held, held_some, after_self}
use Rattle.rules.proofs.ReadRecords.{each_in_range, flag_is}
use Rattle.bytes_records.proofs.Laws.{all_none, ◌also◌, size_least}
use Rattle.bytes_skip.proofs.Reading.{row_held, record_was}
use Rattle.law_runs.specs.Run.{item_at}
use Rattle.law_runs.specs.Steps.{span_at}
use Rattle.law_runs.proofs.Binding.{many_within}
use Rattle.law_runs.proofs.Reading.{Stands, only_found, expr_any, expr_within, expr_place}

-- One of each list

-- a bind: `BV` or `BF`, and its value
pub record BindThere (s : List ℕ) (levels p : ℕ) (put : Binds → Binds) (q : ℕ) : Type 0 where
  pub fits : p + 10 ≤ length s
  pub value : Expr
  pub read : expr_at s levels any_expression (p + 10) ≡ ok (value, q)
  pub puts : (bs : Binds) → put bs ≡ bind p (number_at s (p + 2)) (span_at s (p + 6)) (eqb (code_at s p) (code BF)) value bs

abbrev BindRow : ℕ → Mark × (Bool × Allowed) → Type 0
BindRow c r = (size_of r.0 ≡ 10) × (numbers_of r.0 ≡ 2) × (r.1.0 ≡ eqb c (code BF))

bind_row : (c : ℕ) → Held (BindRow c) (row_of c bind_rows)
unfolding bind_rows size_of numbers_of widths width fields code
bind_row c = row_held (BindRow c) c bind_rows
    (◌also◌ {a = (BV, (false, any_expression))} (λ e. (refl, refl, rw e)) (◌also◌ {a = (BF, (true, function_only))} (λ e. (refl, refl, rw e)) all_none))

bind_after : (s : List ℕ) (levels p : ℕ) → After (λ i. BindThere s levels p i.0 i.1) (bind_item s (expr_at s levels) p)
unfolding bind_item nth nth_span span_in numbers_at
bind_after s levels p = after_bind _ (record_was s bind_rows p) λ r w.
    let row = held_some (bind_row (code_at s p)) w.row in
    let six : p + 2 + 4 ≡ p + 6 = omega arith in
    let behind : r.next ≡ p + 10 = w.next ∙ ap (λ (n : ℕ). p + n) row.0 in
    let numbers : r.numbers ≡ numbers_at s 2 (p + 2) = w.numbers ∙ ap (λ (n : ℕ). numbers_at s n (p + 2)) row.1 in
    let name : nth r 0 ≡ number_at s (p + 2) = ap (λ (ns : List ℕ). get_or ns 0 0) numbers in
    let span : get_or r.numbers 1 0 ≡ number_at s (p + 6) = ap (λ (ns : List ℕ). get_or ns 1 0) numbers ∙ ap (number_at s) six in
    after_bind _ (after_self (expr_at s levels r.row.1 r.next)) λ x e. fine (record {
      fits = rw row.0 at w.fits;
      value = x.0;
      read = ap (expr_at s levels any_expression) (sym behind) ∙ expr_any s levels r.row.1 r.next e;
      puts = λ bs i. bind p (name i) (record { number = span i }) (row.2 i) x.0 bs;
    })

pub bind_there : (s : List ℕ) (levels p : ℕ) {put : Binds → Binds} {q : ℕ} → bind_item s (expr_at s levels) p ≡ ok (put, q) → BindThere s levels p put q
bind_there s levels p e = after_ok (bind_after s levels p) e

-- a parameter, without a default or with one
pub data ParamKind (s : List ℕ) (levels p : ℕ) (put : Params → Params) (q : ℕ) : Type 0 where
  no_default : number_at s (p + 10) ≡ 0 → q ≡ p + 14 → ((ps : Params) → put ps ≡ param p (number_at s (p + 2)) (span_at s (p + 6)) ps) → ParamKind s levels p put q
  with_default : number_at s (p + 10) ≡ 1 → (default : Expr) → expr_at s levels any_expression (p + 14) ≡ ok (default, q)
      → ((ps : Params) → put ps ≡ param_or p (number_at s (p + 2)) (span_at s (p + 6)) default ps) → ParamKind s levels p put q

pub record ParamThere (s : List ℕ) (levels p : ℕ) (put : Params → Params) (q : ℕ) : Type 0 where
  pub fits : p + 14 ≤ length s
  pub kind : ParamKind s levels p put q

param_after : (s : List ℕ) (levels p : ℕ) → After (λ i. ParamThere s levels p i.0 i.1) (param_item s (expr_at s levels) p)
unfolding param_item nth nth_span span_in numbers_at size_of numbers_of widths width fields in_range
param_after s levels p = after_bind _ (only_found s PA p) λ r w.
    let numbers = ap (λ (r : Read (Unit {0})). r.numbers) w.1 in
    let next : r.next ≡ p + 14 = ap (λ (r : Read (Unit {0})). r.next) w.1 in
    let six : p + 2 + 4 ≡ p + 6 = omega arith in
    let ten : p + 2 + 4 + 4 ≡ p + 10 = omega arith in
    let name : nth r 0 ≡ number_at s (p + 2) = ap (λ (ns : List ℕ). get_or ns 0 0) numbers in
    let span : get_or r.numbers 1 0 ≡ number_at s (p + 6) = ap (λ (ns : List ℕ). get_or ns 1 0) numbers ∙ ap (number_at s) six in
    let flag : get_or r.numbers 2 0 ≡ number_at s (p + 10) = ap (λ (ns : List ℕ). get_or ns 2 0) numbers ∙ ap (number_at s) ten in
    let small = (each_in_range _ _ w.0.judged).1.1.0 in
    let told : (b : Bool) → is_set (get_or r.numbers 2 0) ≡ b → number_at s (p + 10) ≡ bit b = λ b e.
    ap (number_at s) (sym ten) ∙ flag_is (number_at s (p + 2 + 4 + 4)) small (ap is_set (ap (number_at s) ten ∙ sym flag) ∙ e) in
    after_choose _ _ _
    (λ set. after_bind _ (after_self (expr_at s levels any_expression r.next)) λ x e. fine (record {
      fits = w.0.fits;
      kind = with_default (told true set) x.0 (ap (expr_at s levels any_expression) (sym next) ∙ e) (λ ps i. param_or p (name i) (record { number = span i }) x.0 ps);
    }))
    (λ unset. fine (record { fits = w.0.fits; kind = no_default (told false unset) next (λ ps i. param p (name i) (record { number = span i }) ps) }))

pub param_there : (s : List ℕ) (levels p : ℕ) {put : Params → Params} {q : ℕ} → param_item s (expr_at s levels) p ≡ ok (put, q) → ParamThere s levels p put q
param_there s levels p e = after_ok (param_after s levels p) e

-- a field's head, with a fixed name or a computed one

abbrev pub head_at : List ℕ → ℕ → Head
head_at s p = record {
  name = number_at s (p + 6);
  span = span_at s (p + 10);
  plus = number_at s (p + 14);
  visibility = number_at s (p + 18);
  is_method = is_set (number_at s (p + 22));
}

pub data HeadKind (s : List ℕ) (levels p : ℕ) (put : Heads → Heads) (q : ℕ) : Type 0 where
  is_fixed : number_at s (p + 2) ≡ 0 → q ≡ p + 26 → ((hs : Heads) → put hs ≡ fixed p (head_at s p) hs) → HeadKind s levels p put q
  is_computed : number_at s (p + 2) ≡ 1 → (name : Expr) → expr_at s levels any_expression (p + 26) ≡ ok (name, q) → ((hs : Heads) → put hs ≡ computed p (head_at s p) name hs)
      → HeadKind s levels p put q

pub record HeadThere (s : List ℕ) (levels p : ℕ) (put : Heads → Heads) (q : ℕ) : Type 0 where
  pub stands : Stands s FH p
  pub fits : p + 26 ≤ length s
  pub kind : HeadKind s levels p put q

head_after : (s : List ℕ) (levels p : ℕ) → After (λ i. HeadThere s levels p i.0 i.1) (head_item s (expr_at s levels) p)
unfolding head_item head_of nth nth_span span_in numbers_at size_of numbers_of widths width fields in_range
head_after s levels p = after_bind _ (only_found s FH p) λ r w.
    let numbers = ap (λ (r : Read (Unit {0})). r.numbers) w.1 in
    let next : r.next ≡ p + 26 = ap (λ (r : Read (Unit {0})). r.next) w.1 in
    let at6 : p + 2 + 4 ≡ p + 6 = omega arith in
    let at10 : p + 2 + 4 + 4 ≡ p + 10 = omega arith in
    let at14 : p + 2 + 4 + 4 + 4 ≡ p + 14 = omega arith in
    let at18 : p + 2 + 4 + 4 + 4 + 4 ≡ p + 18 = omega arith in
    let at22 : p + 2 + 4 + 4 + 4 + 4 + 4 ≡ p + 22 = omega arith in
    let kind : get_or r.numbers 0 0 ≡ number_at s (p + 2) = ap (λ (ns : List ℕ). get_or ns 0 0) numbers in
    let name : get_or r.numbers 1 0 ≡ number_at s (p + 6) = ap (λ (ns : List ℕ). get_or ns 1 0) numbers ∙ ap (number_at s) at6 in
    let span : get_or r.numbers 2 0 ≡ number_at s (p + 10) = ap (λ (ns : List ℕ). get_or ns 2 0) numbers ∙ ap (number_at s) at10 in
    let plus : get_or r.numbers 3 0 ≡ number_at s (p + 14) = ap (λ (ns : List ℕ). get_or ns 3 0) numbers ∙ ap (number_at s) at14 in
    let shown : get_or r.numbers 4 0 ≡ number_at s (p + 18) = ap (λ (ns : List ℕ). get_or ns 4 0) numbers ∙ ap (number_at s) at18 in
    let method : get_or r.numbers 5 0 ≡ number_at s (p + 22) = ap (λ (ns : List ℕ). get_or ns 5 0) numbers ∙ ap (number_at s) at22 in
    let head : head_of r ≡ head_at s p = λ i. record { name = name i; span = record { number = span i }; plus = plus i; visibility = shown i; is_method = is_set (method i) } in
    let small = (each_in_range _ _ w.0.judged).0 in
    let told : (b : Bool) → is_set (get_or r.numbers 0 0) ≡ b → number_at s (p + 2) ≡ bit b = λ b e. flag_is (number_at s (p + 2)) small (ap is_set (sym kind) ∙ e) in
    after_choose _ _ _
    (λ set. after_bind _ (after_self (expr_at s levels any_expression r.next)) λ x e. fine (record {
      stands = w.0;
      fits = w.0.fits;
      kind = is_computed (told true set) x.0 (ap (expr_at s levels any_expression) (sym next) ∙ e) (λ hs i. computed p (head i) x.0 hs);
    }))
    (λ unset. fine (record {
      stands = w.0;
      fits = w.0.fits;
      kind = is_fixed (told false unset) next (λ hs i. fixed p (head i) hs);
    }))

pub head_there : (s : List ℕ) (levels p : ℕ) {put : Heads → Heads} {q : ℕ} → head_item s (expr_at s levels) p ≡ ok (put, q) → HeadThere s levels p put q
head_there s levels p e = after_ok (head_after s levels p) e

-- How far each goes

pub bind_within : (s : List ℕ) (levels p : ℕ) → After (λ i. (p + 10 ≤ i.1) × (i.1 ≤ length s)) (bind_item s (expr_at s levels) p)
bind_within s levels p = after_weaken (bind_after s levels p) λ i t. let w = expr_within s levels any_expression (p + 10) t.read in (omega (arith, w.0), w.1)

pub param_within : (s : List ℕ) (levels p : ℕ) → After (λ i. (p + 14 ≤ i.1) × (i.1 ≤ length s)) (param_item s (expr_at s levels) p)
param_within s levels p = after_weaken (param_after s levels p) λ i t. by i.0 i.1 t.fits t.kind
  where
    by : (put : Params → Params) (q : ℕ) → p + 14 ≤ length s → ParamKind s levels p put q → (p + 14 ≤ q) × (q ≤ length s)
    by put q fits (no_default z e puts) = (omega arith, omega arith)
    by put q fits (with_default z default read puts) = let w = expr_within s levels any_expression (p + 14) read in (omega (arith, w.0), w.1)

pub head_within : (s : List ℕ) (levels p : ℕ) → After (λ i. (p + 26 ≤ i.1) × (i.1 ≤ length s)) (head_item s (expr_at s levels) p)
head_within s levels p = after_weaken (head_after s levels p) λ i t. by i.0 i.1 t.fits t.kind
  where
    by : (put : Heads → Heads) (q : ℕ) → p + 26 ≤ length s → HeadKind s levels p put q → (p + 26 ≤ q) × (q ≤ length s)
    by put q fits (is_fixed z e puts) = (omega arith, omega arith)
    by put q fits (is_computed z name read puts) = let w = expr_within s levels any_expression (p + 26) read in (omega (arith, w.0), w.1)

-- Items

-- where it stands, and how far it goes
pub record ItemThere (s : List ℕ) (p : ℕ) (e : Expr) (q : ℕ) : Type 0 where
  pub place : place_of e ≡ p
  pub far : p + 2 ≤ q
  pub fits : q ≤ length s

expr_there : (s : List ℕ) (levels : ℕ) (a : Allowed) (p : ℕ) → After (λ x. ItemThere s p x.0 x.1) (expr_at s levels a p)
expr_there s levels a p = after_weaken (after_self (expr_at s levels a p)) λ x e.
    let w = expr_within s levels a p e in record { place = expr_place s levels a p e; far = w.0; fits = w.1 }

exprs_within : (s : List ℕ) (levels n p : ℕ)
    → After (λ a. (p + 2 * n ≤ a.1) × (p ≤ length s → a.1 ≤ length s)) (many (expr_item s (expr_at s levels) (expr_at s levels any_expression)) (none_left no_exprs) n p)
unfolding expr_item
exprs_within s levels n p = many_within (expr_item s (expr_at s levels) (expr_at s levels any_expression)) no_exprs (length s) 2
    (λ p. after_bind _ (after_self (expr_at s levels any_expression p)) λ x e. fine (expr_within s levels any_expression p e)) n p

child_there : (s : List ℕ) (levels : ℕ) (c : Child) (p : ℕ) → After (λ x. ItemThere s p x.0 x.1) (child_at s (expr_at s levels) c p)
unfolding child_at holder_at place_of
child_there s levels (level a) p = expr_there s levels a p
child_there s levels (holder m n) p = after_bind _ (only_found s m p) λ r w.
    after_bind _ (exprs_within s levels (n r.numbers) r.next) λ x h.
    let next : r.next ≡ p + size_of m = ap (λ (r : Read (Unit {0})). r.next) w.1 in
    let size = size_least m in
    let fits = w.0.fits in
    let inside : r.next ≤ length s = omega arith in
    fine (record { place = refl; far = omega (arith, h.0); fits = h.1 inside })

item_after : (s : List ℕ) (levels p : ℕ) → After (λ x. ItemThere s p x.0 x.1) (item_at s levels p)
unfolding item_at
item_after s levels p = after_given _ _ _ (λ _. expr_there s levels any_expression p) (λ row _. child_there s levels row.1 p)

pub item_there : (s : List ℕ) (levels p : ℕ) {e : Expr} {q : ℕ} → item_at s levels p ≡ ok (e, q) → ItemThere s p e q
item_there s levels p h = after_ok (item_after s levels p) h
