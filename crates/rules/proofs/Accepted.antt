-- What the first walk accepts is in range, and its bytes are those that were read. Assumes nothing.
use Prim.Native.Nat.{ℕ, zero, suc, ◌+◌, ◌*◌, ◌-◌, ◌≤◌}
use native.Mathlib.Omega.{arith}
use native.Mathlib.Numerals.{sub-one}
use mathlib.Core.Bool.{Bool, true, false}
use mathlib.Core.List.{List, [], ◌∷◌, ◌++◌}
use mathlib.Core.Path.{◌≡◌, refl, sym, ap}
use lib.ListN.{length, get_or}
use borrow.Author.Tests.{leb-true, eqb-true}
use Rattle.rules.specs.Outcome.{Outcome, ok}
use Rattle.rules.specs.Numbers.{Mark, JT, ID, TV, VA, AR, LO, IM, FN, OB, PA, FH, numbers_at, bit, is_set}
use Rattle.rules.specs.Records.{span_numbers, span_in, numbers_of, size_of, fields, width, widths, in_range, span_width}
use Rattle.rules.specs.Tree.{Expr, Exprs, Binds, Params, Heads, Tree, no_exprs, ◌then◌, no_binds, no_params, no_heads, count_exprs, count_binds, count_params, count_heads, identity, constant, variable, import}
use Rattle.rules.specs.Encode.{expr_bytes, exprs_bytes, binds_bytes, params_bytes, heads_bytes, head_numbers, bind_mark, tree_bytes}
use Rattle.rules.specs.FirstWalk.{Allowed, any_expression, function_only, object_only, Child, level, holder, Groups, expressions, assertion, rows, only, bind_rows, value_groups, nth, nth_span, head_of, many, none_left, Form, an_identity, a_constant, a_variable, an_array, an_import, a_local, a_function, an_object, parts, expr_item, holder_at, child_at, groups_at, bind_item, param_item, head_item, below, expr_at, tree_at}
use Rattle.rules.specs.Range.{Bytes, Numbers, Stands, PlainStands, levels_below, next_of, next_child, bind_allowed, ExprFits, ExprsFit, BindsFit, ParamsFit, HeadsFit, TreeFits}
use Rattle.rules.proofs.After.{After, fine, refused, after_ok, after_weaken, after_bind, after_need, after_choose, after_given, Puts, after_many, held_some}
use Rattle.rules.proofs.Lists.{Piece, piece_none, piece_then}
use Rattle.rules.proofs.Spelling.{numbers_spelled, numbers_in_range, length_numbers_at}
use Rattle.rules.proofs.ReadRecords.{Every, Whole, row_found, record_read, only_read, whole_of, whole_as, flag_is, each_in_range}
use Rattle.rules.proofs.Constants.{constants_spelled, not_all_constant}

-- which mark a form is of; `parts` is of many
abbrev MarkOf : Form → Mark → Type 0
MarkOf an_identity m = m ≡ ID
MarkOf a_constant m = m ≡ TV
MarkOf a_variable m = m ≡ VA
MarkOf an_array m = m ≡ AR
MarkOf an_import m = m ≡ IM
MarkOf a_local m = m ≡ LO
MarkOf a_function m = m ≡ FN
MarkOf an_object m = m ≡ OB
MarkOf (parts groups) m = Unit {0}

rows_marked : (a : Allowed) → Every (λ (x : Mark × Form). MarkOf x.1 x.0) (rows a)
unfolding rows
rows_marked any_expression =
    (refl, (refl, (refl, (refl, (tt, (tt, (tt, (tt, (refl, (tt, (refl, (tt, (tt, (refl, (tt, (tt, (refl, tt)))))))))))))))))
rows_marked function_only = (refl, tt)
rows_marked object_only = (refl, tt)

marked : {s : List ℕ} {p : ℕ} {m : Mark} {f : Form} {ns : List ℕ} {q : ℕ} (a : Allowed) → Whole s (rows a) p m f ns q → MarkOf f m
marked {m = m} {f = f} a w = (row_found (λ (x : Mark × Form). MarkOf x.1 x.0) _ (rows a) (m, f) (rows_marked a) w.fits.known).1

-- how many children groups want
abbrev pub total : Groups → ℕ
total [] = 0
total (g ∷ gs) = g.0 + total gs

-- children that groups want stand as well after a group that is spent
spent_group : (es : Exprs) (c : Child) (gs : Groups) (levels p : ℕ) → ExprsFit es gs levels p → ExprsFit es ((0, c) ∷ gs) levels p
unfolding ExprsFit next_child next_of
spent_group no_exprs c gs levels p h = h
spent_group (e then es) c gs levels p h = h

bind_numbers : (b : Bool) → numbers_of (bind_mark b) ≡ 1 + span_width
unfolding numbers_of bind_mark widths fields width
bind_numbers true = refl
bind_numbers false = refl

module _ (s : List ℕ) (bytes : Bytes s) where
  -- what is accepted from p to q, of each sort; of lists also how many they are
  abbrev GoodExpr : Child → (levels p : ℕ) → Expr → ℕ → Type 0
  GoodExpr c levels p e q = Piece s p (expr_bytes e) q × ExprFits e c levels p

  abbrev GoodExprs : Groups → (levels p : ℕ) → Exprs → ℕ → Type 0
  GoodExprs gs levels p es q = Piece s p (exprs_bytes es) q × ExprsFit es gs levels p × (count_exprs es ≡ total gs)

  abbrev GoodBinds : (levels n p : ℕ) → Binds → ℕ → Type 0
  GoodBinds levels n p bs q = Piece s p (binds_bytes bs) q × BindsFit bs levels p × (count_binds bs ≡ n)

  abbrev GoodParams : (levels n p : ℕ) → Params → ℕ → Type 0
  GoodParams levels n p ps q = Piece s p (params_bytes ps) q × ParamsFit ps levels p × (count_params ps ≡ n)

  abbrev GoodHeads : (levels n p : ℕ) → Heads → ℕ → Type 0
  GoodHeads levels n p hs q = Piece s p (heads_bytes hs) q × HeadsFit hs levels p × (count_heads hs ≡ n)

  -- a reader of one child, and of children
  abbrev GoodReader : Child → (levels : ℕ) → (ℕ → Outcome (Expr × ℕ)) → Type 0
  GoodReader c levels read = (p : ℕ) → After (λ x. GoodExpr c levels p x.0 x.1) (read p)

  abbrev GoodGroups : Groups → (levels : ℕ) → (ℕ → Outcome (Exprs × ℕ)) → Type 0
  GoodGroups gs levels read = (p : ℕ) → After (λ x. GoodExprs gs levels p x.0 x.1) (read p)

  -- what stands below a record, with a reader one level deeper
  module _ (levels : ℕ) (sub : Allowed → ℕ → Outcome (Expr × ℕ)) (good_sub : (a : Allowed) → GoodReader (level a) levels (sub a)) where
    good_item : (c : Child) (gs : Groups) (read : ℕ → Outcome (Expr × ℕ)) → GoodReader c levels read
        → (p : ℕ) → After (Puts (λ n. GoodExprs ((n, c) ∷ gs) levels) p) (expr_item s sub read p)
    unfolding expr_item count_exprs exprs_bytes ExprsFit next_child next_of
    good_item c gs read h p = after_bind _ (h p) λ e here. fine λ n es r rest.
        (piece_then here.0 rest.0, (c, (n, c) ∷ gs, refl, here.1, rw here.0.ends at rest.1), omega (arith, rest.2))

    good_group : (c : Child) (gs : Groups) (read : ℕ → Outcome (Expr × ℕ)) (rest : ℕ → Outcome (Exprs × ℕ)) → GoodReader c levels read → GoodGroups gs levels rest
        → (n : ℕ) → GoodGroups ((n, c) ∷ gs) levels (many (expr_item s sub read) rest n)
    good_group c gs read rest h k = after_many (λ n. GoodExprs ((n, c) ∷ gs) levels) _ _ (good_item c gs read h) λ p.
        after_weaken (k p) λ x g. (g.0, spent_group x.0 c gs levels p g.1, omega (arith, g.2))

    no_groups : GoodGroups [] levels (none_left no_exprs)
    unfolding none_left exprs_bytes ExprsFit next_child count_exprs
    no_groups p = fine (piece_none s p p refl, refl, refl)

    good_holder : (m : Mark) (n : List ℕ → ℕ) → GoodReader (holder m n) levels (holder_at s sub m n)
    unfolding holder_at expr_bytes ExprFits PlainStands levels_below expressions
    good_holder m n p = after_bind _ (only_read s bytes m p) λ r w.
        after_bind _ (good_group (level any_expression) [] (sub any_expression) (none_left no_exprs) (good_sub any_expression) no_groups (n r.numbers) r.next) λ x g.
        fine (piece_then w.spelled g.0, (refl, expressions (n r.numbers), (refl, w.fits, refl), rw w.behind at g.1))

    good_child : (c : Child) → GoodReader c levels (child_at s sub c)
    unfolding child_at
    good_child (level a) p = good_sub a p
    good_child (holder m n) p = good_holder m n p

    good_groups : (gs : Groups) → GoodGroups gs levels (groups_at s sub gs)
    unfolding groups_at
    good_groups [] p = no_groups p
    good_groups (g ∷ gs) p = good_group g.1 gs (child_at s sub g.1) (groups_at s sub gs) (good_child g.1) (good_groups gs) g.0 p

    good_bind : (p : ℕ) → After (Puts (GoodBinds levels) p) (bind_item s sub p)
    unfolding bind_item bind_rows bind_mark bind_allowed nth nth_span span_in span_numbers binds_bytes BindsFit count_binds
    good_bind p = after_bind _ (record_read s bytes bind_rows p) λ r w.
        let same = (row_found (λ x. (x.0 ≡ bind_mark x.1.0) × (x.1.1 ≡ bind_allowed x.1.0)) _
        bind_rows (r.mark, r.row) ((refl, refl), ((refl, refl), tt)) w.fits.known).1 in
        let known = whole_as (bind_mark r.row.0) (1 + span_width) same.0 (bind_numbers r.row.0) w in
        after_bind _ (good_sub r.row.1 r.next) λ x value. fine λ n bs q rest. (
          piece_then (piece_then known.spelled value.0) rest.0,
          (refl, known.fits.numbers, rw (same.1, known.behind) at value.1, rw (value.0.ends, known.behind) at rest.1),
          ap suc rest.2,
        )

    good_param : (p : ℕ) → After (Puts (GoodParams levels) p) (param_item s sub p)
    unfolding param_item nth nth_span span_in span_numbers params_bytes ParamsFit count_params Numbers numbers_of widths fields width in_range
    good_param p = after_bind _ (only_read s bytes PA p) λ r w.
        let known = whole_as PA (2 + span_width) refl refl w in
        let small = (each_in_range _ _ known.fits.judged).1.1.0 in
        let flagged : (b : Bool) → is_set (nth r 2) ≡ b → Whole s (only PA) p PA tt (nth r 0 ∷ span_numbers (nth_span r 1) ++ (bit b ∷ [])) r.next = λ b e. whole_of
        (λ i. nth r 0 ∷ nth r 1 ∷ flag_is (nth r 2) small e i ∷ []) known in
        let named : Numbers (nth r 0 ∷ span_numbers (nth_span r 1)) = (known.fits.numbers.0, (known.fits.numbers.1.0, tt)) in
        after_choose _ _ _
        (λ set. after_bind _ (good_sub any_expression r.next) λ x value. fine λ n ps q rest. (
          piece_then (piece_then (flagged true set).spelled value.0) rest.0,
          (refl, named, rw known.behind at value.1, rw (value.0.ends, known.behind) at rest.1),
          ap suc rest.2,
        ))
        (λ unset. fine λ n ps q rest. (piece_then (flagged false unset).spelled rest.0, (refl, named, rw known.behind at rest.1), ap suc rest.2))

    good_head : (p : ℕ) → After (Puts (GoodHeads levels) p) (head_item s sub p)
    unfolding head_item head_of head_numbers nth nth_span span_in span_numbers heads_bytes HeadsFit count_heads Numbers numbers_of widths fields width in_range
    good_head p = after_bind _ (only_read s bytes FH p) λ r w.
        let known = whole_as FH (5 + span_width) refl refl w in
        let small = each_in_range _ _ known.fits.judged in
        let written : (b : Bool) → is_set (nth r 0) ≡ b → Whole s (only FH) p FH tt (head_numbers (bit b) (head_of r)) r.next = λ b e. whole_of
        (λ i. flag_is (nth r 0) small.0 e i ∷ nth r 1 ∷ nth r 2 ∷ nth r 3 ∷ nth r 4 ∷ flag_is (nth r 5) small.1.1.1.1.1.0 refl i ∷ []) known in
        after_choose _ _ _
        (λ set. after_bind _ (good_sub any_expression r.next) λ x name. fine λ n hs q rest. (
          piece_then (piece_then (written true set).spelled name.0) rest.0,
          (refl, (written true set).fits, rw known.behind at name.1, rw (name.0.ends, known.behind) at rest.1),
          ap suc rest.2,
        ))
        (λ unset. fine λ n hs q rest.
        (piece_then (written false unset).spelled rest.0, (refl, (written false unset).fits, rw known.behind at rest.1), ap suc rest.2))

    good_binds : (n p : ℕ) → After (λ x. GoodBinds levels n p x.0 x.1) (many (bind_item s sub) (none_left no_binds) n p)
    unfolding none_left binds_bytes BindsFit count_binds
    good_binds = after_many (GoodBinds levels) _ _ good_bind λ p. fine (piece_none s p p refl, tt, refl)

    good_params : (n p : ℕ) → After (λ x. GoodParams levels n p x.0 x.1) (many (param_item s sub) (none_left no_params) n p)
    unfolding none_left params_bytes ParamsFit count_params
    good_params = after_many (GoodParams levels) _ _ good_param λ p. fine (piece_none s p p refl, tt, refl)

    good_heads : (n p : ℕ) → After (λ x. GoodHeads levels n p x.0 x.1) (many (head_item s sub) (none_left no_heads) n p)
    unfolding none_left heads_bytes HeadsFit count_heads
    good_heads = after_many (GoodHeads levels) _ _ good_head λ p. fine (piece_none s p p refl, tt, refl)

  -- an expression at a level, with a reader for the next
  module _ (levels : ℕ) (left : 1 ≤ levels) (sub : Allowed → ℕ → Outcome (Expr × ℕ)) (good_sub : (a : Allowed) → GoodReader (level a) (levels - 1) (sub a)) where
    good_below : (f : Form) (a : Allowed) (m : Mark) (ns : List ℕ) (next p : ℕ) → Whole s (rows a) p m f ns next
        → After (λ x. GoodExpr (level a) levels p x.0 x.1) (below s sub f (record { mark = m; row = f; numbers = ns; next = next }) p)
    unfolding below nth nth_span span_in span_numbers expr_bytes ExprFits Stands PlainStands levels_below expressions numbers_of widths fields width in_range
    good_below an_identity a m ns next p w = let known = whole_as ID (1 + span_width) (marked a w) refl w in fine {a = (identity p _ _, _)} (known.spelled, (refl, (left, known.fits)))
    good_below a_constant a m ns next p w = let known = whole_as TV 1 (marked a w) refl w in fine {a = (constant p _, _)} (known.spelled, (refl, (left, known.fits)))
    good_below a_variable a m ns next p w = let known = whole_as VA (1 + span_width) (marked a w) refl w in fine {a = (variable p _ _, _)} (known.spelled, (refl, (left, known.fits)))
    good_below an_array a m ns next p w =
        let known = whole_as AR 1 (marked a w) refl w in
        after_given _ _ _
        (λ NoneFound. after_bind _ (good_groups (levels - 1) sub good_sub (expressions (get_or ns 0 0)) next) λ x items.
        let counted : get_or ns 0 0 ≡ count_exprs x.0 = omega (arith, items.2) in
        let written = whole_of (λ i. counted i ∷ []) known in
        fine (
          piece_then written.spelled items.0,
          (refl, (left, written.fits), not_all_constant x.0 next x.1 items.0 (rw counted at NoneFound), rw (counted, known.behind) at items.1),
        ))
        (λ vs found.
        let these = held_some (constants_spelled s bytes (get_or ns 0 0) next) found in
        let written = whole_of (λ i. sym these.counted i ∷ []) known in
        fine (piece_then written.spelled these.spelled, (refl, (left, written.fits), these.numbers)))
    good_below an_import a m ns next p w =
        let known = whole_as IM (3 + span_width) (marked a w) refl w in
        let small = (each_in_range _ _ known.fits.judged).1.1.0 in
        let written = whole_of (λ i. get_or ns 0 0 ∷ get_or ns 1 0 ∷ flag_is (get_or ns 2 0) small refl i ∷ get_or ns 3 0 ∷ []) known in
        fine {a = (import p _ _ _ _, _)} (written.spelled, (refl, (left, written.fits)))
    good_below a_local a m ns next p w =
        let known = whole_as LO 1 (marked a w) refl w in
        after_bind _ (good_binds (levels - 1) sub good_sub (get_or ns 0 0) next) λ x binds. after_bind _ (good_sub any_expression x.1) λ y body.
        let written = whole_of (λ i. sym binds.2 i ∷ []) known in
        fine (
          piece_then (piece_then written.spelled binds.0) body.0,
          (refl, (left, written.fits), rw known.behind at binds.1, rw (binds.0.ends, known.behind) at body.1),
        )
    good_below a_function a m ns next p w =
        let known = whole_as FN (1 + span_width) (marked a w) refl w in
        after_bind _ (good_params (levels - 1) sub good_sub (get_or ns span_width 0) next) λ x params. after_bind _ (good_sub any_expression x.1) λ y body.
        let written = whole_of (λ i. get_or ns 0 0 ∷ sym params.2 i ∷ []) known in
        fine (
          piece_then (piece_then written.spelled params.0) body.0,
          (refl, (left, written.fits), rw known.behind at params.1, rw (params.0.ends, known.behind) at body.1),
        )
    good_below an_object a m ns next p w =
        let known = whole_as OB 3 (marked a w) refl w in
        after_bind _ (good_heads (levels - 1) sub good_sub (get_or ns 2 0) next) λ x heads.
        after_bind _ (good_binds (levels - 1) sub good_sub (get_or ns 0 0) x.1) λ y binds.
        after_bind _ (good_groups (levels - 1) sub good_sub ((get_or ns 1 0, assertion) ∷ []) y.1) λ z assertions.
        after_bind _ (good_groups (levels - 1) sub good_sub (value_groups x.0) z.1) λ v values.
        let counted : get_or ns 1 0 ≡ count_exprs z.0 = omega (arith, assertions.2) in
        let written = whole_of (λ i. sym binds.2 i ∷ counted i ∷ sym heads.2 i ∷ []) known in
        fine (
          piece_then (piece_then (piece_then (piece_then written.spelled heads.0) binds.0) assertions.0) values.0,
          (
            refl,
            (left, written.fits),
            rw known.behind at heads.1,
            rw (heads.0.ends, known.behind) at binds.1,
            rw (counted, binds.0.ends, heads.0.ends, known.behind) at assertions.1,
            rw (assertions.0.ends, binds.0.ends, heads.0.ends, known.behind) at values.1,
          ),
        )
    good_below (parts groups) a m ns next p w = after_bind _ (good_groups (levels - 1) sub good_sub (groups ns) next) λ x children.
        fine (piece_then w.spelled children.0, (refl, groups ns, (left, groups, w.fits, refl), rw w.behind at children.1))

  good_expr : (levels : ℕ) (a : Allowed) → GoodReader (level a) levels (expr_at s levels a)
  unfolding expr_at
  good_expr zero a p = after_bind _ (record_read s bytes (rows a) p) λ r w. refused
  good_expr (suc levels) a p = after_bind _ (record_read s bytes (rows a) p) λ r w.
      good_below (suc levels) (omega arith) (expr_at s levels) (λ a p. rw sub-one (good_expr levels a p)) r.row a r.mark r.numbers r.next p w

  pub good_tree : After (λ t. Piece s 0 (tree_bytes t) (length s) × TreeFits t) (tree_at s)
  unfolding tree_at tree_bytes nth numbers_of widths fields width
  good_tree = after_bind _ (only_read s bytes JT 0) λ r w.
      let known = whole_as JT 1 refl refl w in
      let count : length (numbers_at s (nth r 0) r.next) ≡ nth r 0 = length_numbers_at s (nth r 0) r.next in
      after_need _ 11 0 _ λ few. after_need _ 1 0 _ λ enough. after_bind _ (good_expr 200 any_expression (r.next + 4 * nth r 0)) λ x root. after_need _ 5 x.1 _ λ ended.
      let all : x.1 ≡ length s = eqb-true _ _ ended in
      let place : r.next + 4 * nth r 0 ≡ size_of JT + 4 * length (numbers_at s (nth r 0) r.next) = omega (arith, known.behind, count) in
      fine (
        piece_then (piece_then (whole_of (λ i. sym count i ∷ []) known).spelled (numbers_spelled s bytes (nth r 0) r.next _ refl (leb-true _ _ enough))) (rw all at root.0),
        record { few = rw count (leb-true _ _ few); names = numbers_in_range s bytes (nth r 0) r.next; root_fits = rw place at root.1 },
      )

pub accepted_fits : (s : List ℕ) (t : Tree) → Bytes s → tree_at s ≡ ok t → TreeFits t
accepted_fits s t bytes e = (after_ok (good_tree s bytes) e).1
