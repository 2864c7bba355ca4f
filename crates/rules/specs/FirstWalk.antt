-- The first walk: "over the whole tree in byte order", from bytes to a refusal (1 to 5, and 11 for E) or the tree. Assumes nothing.
use Rattle.std.specs.Prelude.{ℕ, zero, suc, ◌+◌, ◌*◌, ◌/◌, ◌%◌, Bool, true, false, List, [], ◌∷◌, length, get_or, leb, eqb}
use Rattle.std.proofs.Math.Option.{Option, none, some}
use Rattle.rules.specs.Outcome.{choose, given, Outcome, ok, refuse, ◌>>=◌, need}
use Rattle.rules.specs.Numbers.{number_at, numbers_at, code, code_at, is_set}
use Rattle.rules.specs.Numbers.{Mark, JT, ID, TV, VA, AR, OX, UN, BI, AS, LO, ER, IM, AP, IX, FN, IF, SC, OB, BV, BF, PA, AT, FH, NA, PT}
use Rattle.rules.specs.Records.{Span, span_width, span_in, fields, numbers_of, size_of, all_in_range}
use Rattle.rules.specs.Tree.{Expr, Exprs, Binds, Params, Heads, Head, Tree}
use Rattle.rules.specs.Tree.{identity, constant, variable, constants, array, plain, import, local, function, object}
use Rattle.rules.specs.Tree.{no_exprs, ◌then◌, no_binds, bind, no_params, param, param_or, no_heads, fixed, computed}

-- Which marks may stand where

-- where an expression stands: any, or an `FN` or an `OB` alone
pub data Allowed : Type 0 where
  any_expression function_only object_only : Allowed

-- one child of a record: an expression, one level deeper; or an `NA`, `PT` or `AT` and so many expressions as its numbers say, which is no level
pub data Child : Type 0 where
  level : Allowed → Child
  holder : Mark → (List ℕ → ℕ) → Child

-- "m times `NA` name and value"
unfoldable pub argument : Child
argument = holder NA (λ ns. 1)

-- "n times `PT` span and part"
unfoldable pub index_part : Child
index_part = holder PT (λ ns. 1)

-- "Assertion: `AT` message-flag, condition, message"
unfoldable pub assertion : Child
assertion = holder AT (λ ns. 1 + get_or ns 0 0)

-- so many children of one sort, and then so many of the next
abbrev pub Groups : Type 0
Groups = List (ℕ × Child)

unfoldable pub expressions : ℕ → Groups
expressions n = (n, level any_expression) ∷ []

-- how an expression's record goes on; `parts` gives its children from its numbers
pub data Form : Type 0 where
  an_identity a_constant a_variable an_array an_import a_local a_function an_object : Form
  parts : (List ℕ → Groups) → Form

-- how many of start (1), end (2) and step (4) a set has
unfoldable pub members : ℕ → ℕ
members n = n % 2 + n / 2 % 2 + n / 4

-- document 01's table: the mark, and what follows it
unfoldable pub rows : Allowed → List (Mark × Form)
rows any_expression =
    (ID, an_identity)
    ∷ (TV, a_constant)
    ∷ (VA, a_variable)
    ∷ (AR, an_array)
    ∷ (OX, parts (λ ns. (1, level any_expression) ∷ (1, level object_only) ∷ []))
    ∷ (UN, parts (λ ns. expressions 1))
    ∷ (BI, parts (λ ns. expressions 2))
    ∷ (AS, parts (λ ns. expressions (2 + get_or ns 0 0)))
    ∷ (LO, a_local)
    ∷ (ER, parts (λ ns. expressions 1))
    ∷ (IM, an_import)
    ∷ (AP, parts (λ ns. (1 + get_or ns 0 0, level any_expression) ∷ (get_or ns 1 0, argument) ∷ []))
    ∷ (IX, parts (λ ns. (1, level any_expression) ∷ (get_or ns 0 0, index_part) ∷ []))
    ∷ (FN, a_function)
    ∷ (IF, parts (λ ns. expressions (2 + get_or ns 0 0)))
    ∷ (SC, parts (λ ns. expressions (1 + members (get_or ns 0 0))))
    ∷ (OB, an_object)
    ∷ []
rows function_only = (FN, a_function) ∷ []
rows object_only = (OB, an_object) ∷ []

-- "`BV` name span, value; or `BF` name span, then an `FN`": whether it is a function's, and what its value may be
unfoldable pub bind_rows : List (Mark × (Bool × Allowed))
bind_rows = (BV, (false, any_expression)) ∷ (BF, (true, function_only)) ∷ []

-- "The value of a method field is an `FN`"
unfoldable pub value_allowed : Head → Allowed
value_allowed h = choose h.is_method (λ _. function_only) (λ _. any_expression)

unfoldable pub value_groups : Heads → Groups
value_groups no_heads = []
value_groups (fixed place h hs) = (1, level (value_allowed h)) ∷ value_groups hs
value_groups (computed place h name hs) = (1, level (value_allowed h)) ∷ value_groups hs

-- a table of one mark
unfoldable pub only : Mark → List (Mark × Unit {0})
only m = (m, tt) ∷ []

-- the row of a table whose mark has this number
unfoldable pub row_of : {A : Type 0} → ℕ → List (Mark × A) → Option (Mark × A)
row_of c [] = none
row_of c (r ∷ rs) = choose (eqb c (code r.0)) (λ _. some r) (λ _. row_of c rs)

-- Reading

-- a record that was read: its mark, what its table says of it, its numbers, and the place after it
pub record Read (A : Type 0) : Type 0 where
  pub mark : Mark
  pub row : A
  pub numbers : List ℕ
  pub next : ℕ

-- its i-th number
unfoldable pub nth : {A : Type 0} → Read A → ℕ → ℕ
nth r i = get_or r.numbers i 0

-- the span that begins at its i-th number
unfoldable pub nth_span : {A : Type 0} → Read A → ℕ → Span
nth_span r i = span_in r.numbers i

-- what an `FH` says
unfoldable pub head_of : Read (Unit {0}) → Head
head_of r = record {
  name = nth r 1;
  span = nth_span r 2;
  plus = nth r (2 + span_width);
  visibility = nth r (3 + span_width);
  is_method = is_set (nth r (4 + span_width));
}

-- "a mark isn't allowed there" (2)
unfoldable pub allowed : {A : Type 0} → Option (Mark × A) → ℕ → Outcome (Mark × A)
allowed none p = refuse 2 p
allowed (some row) p = ok row

unfoldable pub front : {A : Type 0} → A → Option (List A) → Option (List A)
front a none = none
front a (some l) = some (a ∷ l)

-- n times an item, each of which puts itself before what follows, and then the rest
unfoldable pub many : {A : Type 0} → (ℕ → Outcome ((A → A) × ℕ)) → (ℕ → Outcome (A × ℕ)) → ℕ → ℕ → Outcome (A × ℕ)
many item rest zero p = rest p
many item rest (suc n) p = do
  (put, q) ← item p
  (others, r) ← many item rest n q
  ok (put others, r)

-- nothing more
unfoldable pub none_left : {A : Type 0} → A → ℕ → Outcome (A × ℕ)
none_left nil p = ok (nil, p)

module _ (s : List ℕ) where
  -- "At one record: no two bytes left (1), 2, fields missing (1), 3"
  unfoldable pub record_at : {A : Type 0} → List (Mark × A) → ℕ → Outcome (Read A)
  record_at table p = do
    _ ← need (leb (p + 2) (length s)) 1 p
    (m, row) ← allowed (row_of (code_at s p) table) p
    _ ← need (leb (p + size_of m) (length s)) 1 p
    let ns = numbers_at s (numbers_of m) (p + 2)
    _ ← need (all_in_range (fields m) ns) 3 p
    ok (record { mark = m; row = row; numbers = ns; next = p + size_of m })

  -- "An array whose next n records are all whole `TV` is constant"
  unfoldable pub constant_at : ℕ → Bool
  constant_at p = choose (leb (p + 6) (length s)) (λ _. eqb (code_at s p) (code TV)) (λ _. false)

  unfoldable pub constants_at : ℕ → ℕ → Option (List ℕ)
  constants_at zero p = some []
  constants_at (suc n) p = choose (constant_at p) (λ _. front (number_at s (p + 2)) (constants_at n (p + 6))) (λ _. none)

  -- what stands below a record; `sub` reads an expression one level deeper
  module _ (sub : Allowed → ℕ → Outcome (Expr × ℕ)) where
    unfoldable pub expr_item : (ℕ → Outcome (Expr × ℕ)) → ℕ → Outcome ((Exprs → Exprs) × ℕ)
    expr_item read p = do
      (e, q) ← read p
      ok ((λ es. e then es), q)

    unfoldable pub holder_at : Mark → (List ℕ → ℕ) → ℕ → Outcome (Expr × ℕ)
    holder_at m n p = do
      r ← record_at (only m) p
      (es, q) ← many (expr_item (sub any_expression)) (none_left no_exprs) (n r.numbers) r.next
      ok (plain p m r.numbers es, q)

    unfoldable pub child_at : Child → ℕ → Outcome (Expr × ℕ)
    child_at (level a) p = sub a p
    child_at (holder m n) p = holder_at m n p

    unfoldable pub groups_at : Groups → ℕ → Outcome (Exprs × ℕ)
    groups_at [] p = none_left no_exprs p
    groups_at (g ∷ gs) p = many (expr_item (child_at g.1)) (groups_at gs) g.0 p

    unfoldable pub bind_item : ℕ → Outcome ((Binds → Binds) × ℕ)
    bind_item p = do
      r ← record_at bind_rows p
      (e, q) ← sub r.row.1 r.next
      ok ((λ bs. bind p (nth r 0) (nth_span r 1) r.row.0 e bs), q)

    -- "Parameter: `PA` name span default-flag, default"
    unfoldable pub param_item : ℕ → Outcome ((Params → Params) × ℕ)
    param_item p = do
      r ← record_at (only PA) p
      choose (is_set (nth r (1 + span_width)))
          (λ _. do
            (e, q) ← sub any_expression r.next
            ok ((λ ps. param_or p (nth r 0) (nth_span r 1) e ps), q))
          (λ _. ok ((λ ps. param p (nth r 0) (nth_span r 1) ps), r.next))

    -- "then the name expression if computed"
    unfoldable pub head_item : ℕ → Outcome ((Heads → Heads) × ℕ)
    head_item p = do
      r ← record_at (only FH) p
      choose (is_set (nth r 0))
          (λ _. do
            (e, q) ← sub any_expression r.next
            ok ((λ hs. computed p (head_of r) e hs), q))
          (λ _. ok ((λ hs. fixed p (head_of r) hs), r.next))

    unfoldable pub below : Form → Read Form → ℕ → Outcome (Expr × ℕ)
    below an_identity r p = ok (identity p (nth r 0) (nth_span r 1), r.next)
    below a_constant r p = ok (constant p (nth r 0), r.next)
    below a_variable r p = ok (variable p (nth r 0) (nth_span r 1), r.next)
    below an_array r p = given (constants_at (nth r 0) r.next)
        (λ _. do
          (es, q) ← groups_at (expressions (nth r 0)) r.next
          ok (array p es, q))
        (λ vs. ok (constants p vs, r.next + 6 * nth r 0))
    below an_import r p = ok (import p (nth r 0) (nth_span r 1) (is_set (nth r (1 + span_width))) (nth r (2 + span_width)), r.next)
    below a_local r p = do
      (bs, q) ← many bind_item (none_left no_binds) (nth r 0) r.next
      (e, q) ← sub any_expression q
      ok (local p bs e, q)
    below a_function r p = do
      (ps, q) ← many param_item (none_left no_params) (nth r span_width) r.next
      (e, q) ← sub any_expression q
      ok (function p (nth_span r 0) ps e, q)
    -- "f heads, l binds, a assertions, f values"
    below an_object r p = do
      (hs, q) ← many head_item (none_left no_heads) (nth r 2) r.next
      (bs, q) ← many bind_item (none_left no_binds) (nth r 0) q
      (ts, q) ← groups_at ((nth r 1, assertion) ∷ []) q
      (vs, q) ← groups_at (value_groups hs) q
      ok (object p hs bs ts vs, q)
    below (parts groups) r p = do
      (es, q) ← groups_at (groups r.numbers) r.next
      ok (plain p r.mark r.numbers es, q)

  -- an expression at p with so many levels left; "3, 4": where none is left the record is judged first
  unfoldable pub expr_at : ℕ → Allowed → ℕ → Outcome (Expr × ℕ)
  expr_at zero a p = do
    r ← record_at (rows a) p
    refuse 4 p
  expr_at (suc levels) a p = do
    r ← record_at (rows a) p
    below (expr_at levels) r.row r p

  -- "`JT` E, E external names, one expression"; "E's 11, tested before the names are read"; "bytes follow the expression" (5)
  unfoldable pub tree_at : Outcome Tree
  tree_at = do
    r ← record_at (only JT) 0
    let n = nth r 0
    _ ← need (leb n 65535) 11 0
    _ ← need (leb (r.next + 4 * n) (length s)) 1 0
    (e, q) ← expr_at 200 any_expression (r.next + 4 * n)
    _ ← need (eqb q (length s)) 5 q
    ok (record { externals = numbers_at s n r.next; root = e })
