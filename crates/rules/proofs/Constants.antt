-- "An array whose next n records are all whole `TV` is constant": what is found so, and what is not, as bytes and as expressions. Assumes nothing.
use Prim.Native.Nat.{ℕ, zero, suc, ◌+◌, ◌*◌, ◌≤◌}
use native.Mathlib.Omega.{arith}
use mathlib.Core.Bool.{Bool, true, false, ◌&&◌, false≢true}
use mathlib.Core.List.{List, [], ◌∷◌}
use mathlib.Core.Option.{Option, none, some, none-ne-some}
use mathlib.Core.Path.{◌≡◌, refl, sym, ap, subst, ◌∙◌}
use lib.ListN.{length, get_or}
use lib.Dec.{leb, eqb, lit<}
use borrow.Author.Tests.{leb-true, le-leb, eqb-true, eq-eqb}
use Rattle.rules.specs.Outcome.{ok, ◌>>=◌, need, choose}
use Rattle.rules.specs.Numbers.{TV, code, code_at, number_at, numbers_at, mark_bytes, numbers_bytes, number_bytes, record_bytes}
use Rattle.rules.specs.Tree.{Expr, Exprs, no_exprs, ◌then◌, count_exprs, identity, constant, variable, constants, array, plain, import, local, function, object}
use Rattle.rules.specs.Encode.{expr_bytes, exprs_bytes, constants_bytes}
use Rattle.rules.specs.Records.{size_of, numbers_of, widths, fields, width, all_in_range, in_range}
use Rattle.rules.specs.FirstWalk.{any_expression, expressions, rows, row_of, a_constant, allowed, front, none_left, many, record_at, constant_at, constants_at, expr_item, child_at, groups_at, below, expr_at}
use Rattle.rules.specs.Range.{Bytes, Numbers, is_constant, all_constant}
use Rattle.rules.proofs.After.{both_passed, After, fine, refused, after_ok, after_bind, chosen, Held, there, nothing}
use Rattle.rules.proofs.Lists.{Piece, piece_none, piece_then, piece_first, piece_second, piece_within}
use Rattle.rules.proofs.Spelling.{mark_spelled, numbers_spelled, number_in_range, code_back, numbers_back}

-- n constants, spelled from p on
pub record ConstantsSpelled (s : List ℕ) (n p : ℕ) (vs : List ℕ) : Type 0 where
  pub spelled : Piece s p (constants_bytes vs) (p + 6 * n)
  pub numbers : Numbers vs
  pub counted : length vs ≡ n

held_front : {P Q : List ℕ → Type 0} {o : Option (List ℕ)} (v : ℕ) → Held P o → ((vs : List ℕ) → P vs → Q (v ∷ vs)) → Held Q (front v o)
unfolding front
held_front v (there h) k = there (k _ h)
held_front v nothing k = nothing

module _ (s : List ℕ) (bytes : Bytes s) where
  constant_spelled : (p : ℕ) → constant_at s p ≡ true → Piece s p (record_bytes TV (number_at s (p + 2) ∷ [])) (p + 6)
  unfolding constant_at record_bytes numbers_at
  constant_spelled p e =
      let passed = both_passed (leb (p + 6) (length s)) (λ _. eqb (code_at s p) (code TV)) e in
      let whole : p + 6 ≤ length s = leb-true _ _ passed.0 in
      piece_then (mark_spelled s bytes p TV (omega arith) (eqb-true _ _ passed.1)) (numbers_spelled s bytes 1 (p + 2) (p + 6) (omega arith) whole)

  pub constants_spelled : (n p : ℕ) → Held (ConstantsSpelled s n p) (constants_at s n p)
  unfolding constants_at constants_bytes Numbers
  constants_spelled zero p = there record { spelled = piece_none s p (p + 6 * 0) (omega arith); numbers = tt; counted = refl }
  constants_spelled (suc n) p = chosen (Held (ConstantsSpelled s (suc n) p)) _ _ _
      (λ found. held_front _ (constants_spelled n (p + 6)) λ vs rest. record {
        spelled = piece_then (constant_spelled p found) (subst (λ (q : ℕ). Piece s (p + 6) (constants_bytes vs) q) (omega arith) rest.spelled);
        numbers = (number_in_range s bytes (p + 2), rest.numbers);
        counted = ap suc rest.counted;
      })
      (λ _. nothing)

constant_back : {s : List ℕ} {p q : ℕ} (v : ℕ) → Piece s p (record_bytes TV (v ∷ [])) q → constant_at s p ≡ true
unfolding constant_at record_bytes mark_bytes numbers_bytes number_bytes choose
constant_back {s = s} {p = p} v h =
    let inside : p + 6 ≤ length s = omega (arith, piece_within h (lit< tt), h.ends) in
    rw (le-leb (p + 6) (length s) inside, code_back TV (piece_first (mark_bytes TV) (numbers_bytes (v ∷ [])) h)) (eq-eqb (code TV) (code TV) refl)

-- a constant among expressions
constant_bytes : (e : Expr) → is_constant e ≡ true → (v : ℕ) × (expr_bytes e ≡ record_bytes TV (v ∷ []))
unfolding is_constant expr_bytes
constant_bytes (constant place value) h = (value, refl)
constant_bytes (identity place which span) h = absurd (false≢true h)
constant_bytes (variable place name span) h = absurd (false≢true h)
constant_bytes (constants place values) h = absurd (false≢true h)
constant_bytes (array place items) h = absurd (false≢true h)
constant_bytes (plain place mark numbers children) h = absurd (false≢true h)
constant_bytes (import place which span is_literal path) h = absurd (false≢true h)
constant_bytes (local place binds body) h = absurd (false≢true h)
constant_bytes (function place span ps body) h = absurd (false≢true h)
constant_bytes (object place heads locals assertions values) h = absurd (false≢true h)

front_none : (v : ℕ) (o : Option (List ℕ)) → front v o ≡ none → o ≡ none
unfolding front
front_none v none e = refl
front_none v (some vs) e = absurd (none-ne-some _ (sym e))

front_some : (v : ℕ) (o : Option (List ℕ)) (vs : List ℕ) → front v o ≡ some vs → (us : List ℕ) × (o ≡ some us)
unfolding front
front_some v none vs e = absurd (none-ne-some _ e)
front_some v (some us) vs e = (us, refl)

-- where no constants are found, one of the expressions that stand there is another
pub not_all_constant : {s : List ℕ} (es : Exprs) (p q : ℕ) → Piece s p (exprs_bytes es) q → constants_at s (count_exprs es) p ≡ none → all_constant es ≡ false
unfolding constants_at count_exprs exprs_bytes all_constant choose record_bytes mark_bytes numbers_bytes number_bytes
not_all_constant no_exprs p q h e = absurd (none-ne-some _ (sym e))
not_all_constant {s = s} (e then es) p q h none_found = go (is_constant e) refl (not_all_constant es (p + length (expr_bytes e)) q (piece_second (expr_bytes e) (exprs_bytes es) h))
  where
    go : (b : Bool) → is_constant e ≡ b → (constants_at s (count_exprs es) (p + length (expr_bytes e)) ≡ none → all_constant es ≡ false) → (is_constant e && all_constant es) ≡ false
    go true is later =
        let c = constant_bytes e is in
        let here = constant_back c.0 (rw c.1 at (piece_first (expr_bytes e) (exprs_bytes es) h)) in
        rw is ((rw c.1 at later) (front_none _ _ (rw (here, constants_at) at none_found)))
    go false is later = rw is

-- And back: constants that are spelled are found, and what is found is read as constants

pub constants_length : (vs : List ℕ) → length (constants_bytes vs) ≡ 6 * length vs
unfolding constants_bytes record_bytes mark_bytes numbers_bytes number_bytes
constants_length [] = refl
constants_length (v ∷ vs) = omega (arith, constants_length vs)

pub constants_back : {s : List ℕ} {p q : ℕ} (vs : List ℕ) → Numbers vs → Piece s p (constants_bytes vs) q → constants_at s (length vs) p ≡ some vs
unfolding constants_at constants_bytes Numbers numbers_at choose front record_bytes mark_bytes numbers_bytes number_bytes
constants_back [] small h = refl
constants_back {s = s} {p = p} (v ∷ vs) small h =
    let here = piece_first (record_bytes TV (v ∷ [])) (constants_bytes vs) h in
    let value : number_at s (p + 2) ≡ v = ap (λ (ns : List ℕ). get_or ns 0 0) (numbers_back (v ∷ []) (small.0, tt) (piece_second (mark_bytes TV) (numbers_bytes (v ∷ [])) here)) in
    rw (constant_back v here, value, constants_back {p = p + 6} vs small.1 (piece_second (record_bytes TV (v ∷ [])) (constants_bytes vs) h))

module _ (s : List ℕ) where
  constant_read : (p : ℕ) → constant_at s p ≡ true → record_at s (rows any_expression) p ≡ ok (record { mark = TV; row = a_constant; numbers = number_at s (p + 2) ∷ []; next = p + 6 })
  unfolding constant_at record_at rows row_of code choose allowed need ◌>>=◌ size_of numbers_of widths fields width numbers_at all_in_range in_range
  constant_read p e =
      let passed = both_passed (leb (p + 6) (length s)) (λ _. eqb (code_at s p) (code TV)) e in
      rw (le-leb (p + 2) (length s) (omega (arith, leb-true (p + 6) (length s) passed.0)), eqb-true (code_at s p) (code TV) passed.1, passed.0)

  constant_expr : (levels p : ℕ) → constant_at s p ≡ true → After (λ x. (is_constant x.0 ≡ true) × (x.1 ≡ p + 6)) (expr_at s levels any_expression p)
  unfolding ◌>>=◌ is_constant below expr_at
  constant_expr zero p found = rw (constant_read p found, expr_at) refused
  constant_expr (suc levels) p found = rw (constant_read p found, expr_at) (fine {a = (constant p _, _)} (refl, refl))

  abbrev ReadsConstants : (levels n p : ℕ) → Type 0
  ReadsConstants levels n p = After (λ x. all_constant x.0 ≡ true) (groups_at s (expr_at s levels) (expressions n) p)

  all_constant_read : (levels n p : ℕ) (vs : List ℕ) → constants_at s n p ≡ some vs → ReadsConstants levels n p
  unfolding constants_at groups_at expressions many none_left expr_item child_at all_constant
  all_constant_read levels zero p vs = λ _. fine refl
  all_constant_read levels (suc n) p vs = chosen (λ (o : Option (List ℕ)). o ≡ some vs → ReadsConstants levels (suc n) p) _ _ _
      (λ found e. let later = front_some _ _ vs e in
      after_bind _
      (after_bind {Q = λ i. ((es : Exprs) → all_constant es ≡ true → all_constant (i.0 es) ≡ true) × (i.1 ≡ p + 6)} _ (constant_expr levels p found)
      λ x is. fine ((λ es all. rw is.0 all), is.1))
      λ i put. after_bind _ (all_constant_read levels n i.1 later.0 (rw put.1 later.1)) λ x all. fine (put.0 x.0 all))
      (λ _ e. absurd (none-ne-some _ e))

  -- so where expressions are read that are not all constant, no constants are found
  pub none_found : (levels n p : ℕ) (es : Exprs) (q : ℕ) → groups_at s (expr_at s levels) (expressions n) p ≡ ok (es, q) → all_constant es ≡ false
      → constants_at s n p ≡ none
  none_found levels n p es q read other = go (constants_at s n p) refl
    where
      go : (o : Option (List ℕ)) → constants_at s n p ≡ o → o ≡ none
      go none e = refl
      go (some vs) e = absurd (false≢true (sym other ∙ after_ok (all_constant_read levels n p vs e) read))
