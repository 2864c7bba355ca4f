-- Every tree in range encodes to bytes that the first walk accepts and reads back as that tree. Assumes nothing.
use Prim.Native.Nat.{ℕ, zero, suc, ◌+◌, ◌*◌}
use native.Mathlib.Omega.{arith}
use native.Mathlib.Numerals.{sub-one}
use mathlib.Core.Bool.{Bool, true, false}
use mathlib.Core.List.{List, [], ◌∷◌, ◌++◌, append_assoc}
use mathlib.Core.Option.{Option, none, some}
use mathlib.Core.Path.{◌≡◌, refl, ◌∙◌}
use lib.ListN.{length}
use lib.Dec.{lit<}
use borrow.Author.Tests.{le-leb, eq-eqb}
use Rattle.rules.specs.Outcome.{Outcome, ok, ◌>>=◌, need, choose, given}
use Rattle.rules.specs.Numbers.{Mark, JT, ID, TV, VA, AR, LO, IM, FN, OB, PA, FH, code, record_bytes, numbers_bytes, bit, is_set}
use Rattle.rules.specs.Records.{Span, span_numbers, span_in, numbers_of, size_of, fields, width, widths, all_in_range, in_range}
use Rattle.rules.specs.Tree.{Expr, Exprs, Binds, Params, Heads, Head, Tree, count_exprs, count_binds, count_params, count_heads, identity, constant, variable, constants, array, plain, import, local, function, object, no_exprs, ◌then◌, no_binds, bind, no_params, param, param_or, no_heads, fixed, computed}
use Rattle.rules.specs.Encode.{expr_bytes, exprs_bytes, binds_bytes, params_bytes, heads_bytes, constants_bytes, head_numbers, bind_mark, tree_bytes}
use Rattle.rules.specs.FirstWalk.{Allowed, any_expression, Child, level, holder, Groups, expressions, assertion, only, bind_rows, value_groups, nth, nth_span, head_of, many, none_left, Form, an_identity, a_constant, a_variable, an_array, an_import, a_local, a_function, an_object, parts, row_of, expr_item, holder_at, child_at, groups_at, bind_item, param_item, head_item, below, expr_at, tree_at}
use Rattle.rules.specs.Range.{Numbers, RecordFits, Stands, PlainStands, levels_below, next_of, next_child, bind_allowed, ExprFits, ExprsFit, BindsFit, ParamsFit, HeadsFit, TreeFits}
use Rattle.rules.proofs.Lists.{Piece, piece_empty, piece_first, piece_second, piece_whole}
use Rattle.rules.proofs.Spelling.{numbers_back}
use Rattle.rules.proofs.Constants.{constants_length, constants_back, none_found}
use Rattle.rules.proofs.RecordsBack.{numbers_length, record_back, record_cut}
use Rattle.rules.proofs.Outcomes.{bind_assoc}

-- groups read their next child first, and then what they want after it
module _ (s : List ℕ) (sub : Allowed → ℕ → Outcome (Expr × ℕ)) where
  abbrev by_next : Option (Child × Groups) → ℕ → Outcome (Exprs × ℕ)
  by_next none p = ok (no_exprs, p)
  by_next (some next) p = do
    (e, q) ← child_at s sub next.0 p
    (es, r) ← groups_at s sub next.1 q
    ok (e then es, r)

  group_by_next : (n : ℕ) (c : Child) (gs : Groups) (p : ℕ) → groups_at s sub gs p ≡ by_next (next_child gs) p
      → groups_at s sub ((n, c) ∷ gs) p ≡ by_next (next_of n c gs (next_child gs)) p
  unfolding groups_at next_of many expr_item ◌>>=◌
  group_by_next zero c gs p later = later
  group_by_next (suc n) c gs p later = bind_assoc (child_at s sub c p) _ _

  groups_by_next : (gs : Groups) (p : ℕ) → groups_at s sub gs p ≡ by_next (next_child gs) p
  unfolding groups_at next_child none_left
  groups_by_next [] p = refl
  groups_by_next (g ∷ gs) p = group_by_next g.0 g.1 gs p (groups_by_next gs p)

-- Records that are written with what the walk puts in itself

bit_back : (b : Bool) → is_set (bit b) ≡ b
unfolding is_set
bit_back true = refl
bit_back false = refl

bind_fits : (b : Bool) (name : ℕ) (span : Span) → Numbers (name ∷ span_numbers span) → RecordFits bind_rows (bind_mark b) (b, bind_allowed b) (name ∷ span_numbers span)
unfolding bind_rows bind_mark bind_allowed row_of code choose numbers_of widths fields width all_in_range in_range span_numbers
bind_fits true name span small = record { known = refl; counted = refl; numbers = small; judged = refl }
bind_fits false name span small = record { known = refl; counted = refl; numbers = small; judged = refl }

param_fits : (b : Bool) (name : ℕ) (span : Span) → Numbers (name ∷ span_numbers span) → RecordFits (only PA) PA tt (name ∷ span_numbers span ++ (bit b ∷ []))
unfolding only row_of code choose numbers_of widths fields width all_in_range in_range span_numbers Numbers
param_fits true name span small = record { known = refl; counted = refl; numbers = (small.0, (small.1.0, (lit< tt, tt))); judged = refl }
param_fits false name span small = record { known = refl; counted = refl; numbers = (small.0, (small.1.0, (lit< tt, tt))); judged = refl }

head_back : (which next : ℕ) (h : Head) → head_of (record { mark = FH; row = tt; numbers = head_numbers which h; next = next }) ≡ h
unfolding head_of head_numbers nth nth_span span_in span_numbers
head_back which next h = λ i. record { name = h.name; span = h.span; plus = h.plus; visibility = h.visibility; is_method = bit_back h.is_method i }

module _ (s : List ℕ) where
  -- the reader comes to what stands below a record
  enter : (c : Child) (levels p q : ℕ) (m : Mark) (f : Form) (ns : List ℕ) → Stands c levels m f ns → Piece s p (record_bytes m ns) q
      → child_at s (expr_at s levels) c p ≡ below s (expr_at s (levels_below c levels)) f (record { mark = m; row = f; numbers = ns; next = q }) p
  unfolding child_at expr_at Stands levels_below ◌>>=◌
  enter (level a) zero p q m f ns h piece = absurd (omega (arith, h.0))
  enter (level a) (suc levels) p q m f ns h piece = rw (record_back h.1 piece, sub-one)
  enter (holder mark n) levels p q m f ns h piece = absurd h

  -- and to what stands after it
  open_record : (c : Child) (levels p q : ℕ) (m : Mark) (f : Form) (ns ys : List ℕ) → Stands c levels m f ns → Piece s p (record_bytes m ns ++ ys) q
      → (child_at s (expr_at s levels) c p ≡ below s (expr_at s (levels_below c levels)) f (record { mark = m; row = f; numbers = ns; next = p + size_of m }) p) × Piece s (p + size_of m) ys q
  unfolding Stands
  open_record (level a) levels p q m f ns ys h piece = let cut = record_cut ys h.1 piece in (enter (level a) levels p (p + size_of m) m f ns h cut.0, cut.1)
  open_record (holder mark n) levels p q m f ns ys h piece = absurd h

  -- a `plain` expression is read once its children are
  open_holder : (mark : Mark) (n : List ℕ → ℕ) (levels p q : ℕ) (ns : List ℕ) (es : Exprs) → RecordFits (only mark) mark tt ns → Piece s p (record_bytes mark ns ++ exprs_bytes es) q
      → (Piece s (p + size_of mark) (exprs_bytes es) q → groups_at s (expr_at s levels) (expressions (n ns)) (p + size_of mark) ≡ ok (es, q))
      → holder_at s (expr_at s levels) mark n p ≡ ok (plain p mark ns es, q)
  unfolding holder_at groups_at expressions child_at none_left ◌>>=◌
  open_holder mark n levels p q ns es fits piece read = let cut = record_cut (exprs_bytes es) fits piece in rw (record_back fits cut.0, read cut.1)

  open_plain : (c : Child) (levels p q : ℕ) (m : Mark) (ns : List ℕ) (groups : Groups) (es : Exprs) → PlainStands c levels m ns groups → Piece s p (record_bytes m ns ++ exprs_bytes es) q
      → (Piece s (p + size_of m) (exprs_bytes es) q → groups_at s (expr_at s (levels_below c levels)) groups (p + size_of m) ≡ ok (es, q))
      → child_at s (expr_at s levels) c p ≡ ok (plain p m ns es, q)
  unfolding child_at PlainStands Stands levels_below below ◌>>=◌
  open_plain (level a) levels p q m ns groups es h piece read =
      let o = open_record (level a) levels p q m (parts h.1) ns (exprs_bytes es) (h.0, h.2) piece in
      o.0 ∙ rw (← h.3, read o.1)
  open_plain (holder mark n) levels p q m ns groups es h piece read = rw h.0 (open_holder mark n levels p q ns es h.1 (rw h.0 at piece) (rw (h.0, h.2) at read))

  -- what fits where it stands is read there, whatever follows it
  mutual
    unfolding expr_bytes ExprFits below nth nth_span span_in span_numbers head_numbers child_at expressions many bind_item param_item head_item none_left ◌>>=◌ choose given is_set count_exprs count_binds count_params count_heads Numbers next_child

    expr_back : (e : Expr) (c : Child) (levels p q : ℕ) → ExprFits e c levels p → Piece s p (expr_bytes e) q → child_at s (expr_at s levels) c p ≡ ok (e, q)
    expr_back (identity place which span) c levels p q h piece = rw (h.0, enter c levels p q ID an_identity _ h.1 piece)
    expr_back (constant place value) c levels p q h piece = rw (h.0, enter c levels p q TV a_constant _ h.1 piece)
    expr_back (variable place name span) c levels p q h piece = rw (h.0, enter c levels p q VA a_variable _ h.1 piece)
    expr_back (constants place values) c levels p q h piece =
        let o = open_record c levels p q AR an_array _ (constants_bytes values) h.1 piece in
        let end : p + size_of AR + 6 * length values ≡ q = omega (arith, o.1.ends, constants_length values) in
        rw (h.0, o.0, constants_back values h.2 o.1, end)
    expr_back (array place items) c levels p q h piece =
        let o = open_record c levels p q AR an_array _ (exprs_bytes items) h.1 piece in
        let read = exprs_back items (expressions (count_exprs items)) (levels_below c levels) (p + size_of AR) q h.3 o.1 in
        rw (h.0, o.0, none_found s (levels_below c levels) (count_exprs items) (p + size_of AR) items q read h.2, read)
    expr_back (plain place mark numbers children) c levels p q h piece =
        rw h.0 (open_plain c levels p q mark numbers h.1 children h.2 piece λ rest. exprs_back children h.1 (levels_below c levels) (p + size_of mark) q h.3 rest)
    expr_back (import place which span is_literal path) c levels p q h piece = rw (h.0, enter c levels p q IM an_import _ h.1 piece, bit_back is_literal)
    expr_back (local place binds body) c levels p q h piece =
        let o = open_record c levels p q LO a_local _ (binds_bytes binds ++ expr_bytes body) h.1 (simp append_assoc at piece) in
        rw (
          h.0,
          o.0,
          binds_back binds (levels_below c levels) (p + size_of LO) _ h.2 (piece_first (binds_bytes binds) (expr_bytes body) o.1),
          expr_back body (level any_expression) (levels_below c levels) _ q h.3 (piece_second (binds_bytes binds) (expr_bytes body) o.1),
        )
    expr_back (function place span params body) c levels p q h piece =
        let o = open_record c levels p q FN a_function _ (params_bytes params ++ expr_bytes body) h.1 (simp append_assoc at piece) in
        rw (
          h.0,
          o.0,
          params_back params (levels_below c levels) (p + size_of FN) _ h.2 (piece_first (params_bytes params) (expr_bytes body) o.1),
          expr_back body (level any_expression) (levels_below c levels) _ q h.3 (piece_second (params_bytes params) (expr_bytes body) o.1),
        )
    expr_back (object place heads locals assertions values) c levels p q h piece =
        let from_assertions : List ℕ = exprs_bytes assertions ++ exprs_bytes values in
        let from_locals : List ℕ = binds_bytes locals ++ from_assertions in
        let o = open_record c levels p q OB an_object _ (heads_bytes heads ++ from_locals) h.1 (simp append_assoc at piece) in
        let behind_heads = piece_second (heads_bytes heads) from_locals o.1 in
        let behind_locals = piece_second (binds_bytes locals) from_assertions behind_heads in
        rw (
          h.0,
          o.0,
          heads_back heads (levels_below c levels) (p + size_of OB) _ h.2 (piece_first (heads_bytes heads) from_locals o.1),
          binds_back locals (levels_below c levels) _ _ h.3 (piece_first (binds_bytes locals) from_assertions behind_heads),
          exprs_back assertions ((count_exprs assertions, assertion) ∷ []) (levels_below c levels) _ _ h.4 (piece_first (exprs_bytes assertions) (exprs_bytes values) behind_locals),
          exprs_back values (value_groups heads) (levels_below c levels) _ q h.5 (piece_second (exprs_bytes assertions) (exprs_bytes values) behind_locals),
        )

    exprs_back : (es : Exprs) (gs : Groups) (levels p q : ℕ) → ExprsFit es gs levels p → Piece s p (exprs_bytes es) q → groups_at s (expr_at s levels) gs p ≡ ok (es, q)
    exprs_back no_exprs gs levels p q h piece = rw (groups_by_next s (expr_at s levels) gs p, h, piece_empty piece)
    exprs_back (e then es) gs levels p q h piece =
        rw (
          groups_by_next s (expr_at s levels) gs p,
          h.2,
          expr_back e h.0 levels p _ h.3 (piece_first (expr_bytes e) (exprs_bytes es) piece),
          exprs_back es h.1 levels _ q h.4 (piece_second (expr_bytes e) (exprs_bytes es) piece),
        )

    binds_back : (bs : Binds) (levels p q : ℕ) → BindsFit bs levels p → Piece s p (binds_bytes bs) q
        → many (bind_item s (expr_at s levels)) (none_left no_binds) (count_binds bs) p ≡ ok (bs, q)
    binds_back no_binds levels p q h piece = rw (piece_empty piece)
    binds_back (bind place name span is_function value bs) levels p q h piece =
        let fits = bind_fits is_function name span h.1 in
        let cut = record_cut (expr_bytes value ++ binds_bytes bs) fits (simp append_assoc at piece) in
        rw (
          h.0,
          record_back fits cut.0,
          expr_back value (level (bind_allowed is_function)) levels _ _ h.2 (piece_first (expr_bytes value) (binds_bytes bs) cut.1),
          binds_back bs levels _ q h.3 (piece_second (expr_bytes value) (binds_bytes bs) cut.1),
        )

    params_back : (ps : Params) (levels p q : ℕ) → ParamsFit ps levels p → Piece s p (params_bytes ps) q
        → many (param_item s (expr_at s levels)) (none_left no_params) (count_params ps) p ≡ ok (ps, q)
    params_back no_params levels p q h piece = rw (piece_empty piece)
    params_back (param place name span ps) levels p q h piece =
        let fits = param_fits false name span h.1 in
        let cut = record_cut (params_bytes ps) fits piece in
        rw (h.0, record_back fits cut.0, params_back ps levels _ q h.2 cut.1)
    params_back (param_or place name span default ps) levels p q h piece =
        let fits = param_fits true name span h.1 in
        let cut = record_cut (expr_bytes default ++ params_bytes ps) fits (simp append_assoc at piece) in
        rw (
          h.0,
          record_back fits cut.0,
          expr_back default (level any_expression) levels _ _ h.2 (piece_first (expr_bytes default) (params_bytes ps) cut.1),
          params_back ps levels _ q h.3 (piece_second (expr_bytes default) (params_bytes ps) cut.1),
        )

    heads_back : (hs : Heads) (levels p q : ℕ) → HeadsFit hs levels p → Piece s p (heads_bytes hs) q
        → many (head_item s (expr_at s levels)) (none_left no_heads) (count_heads hs) p ≡ ok (hs, q)
    heads_back no_heads levels p q h piece = rw (piece_empty piece)
    heads_back (fixed place head hs) levels p q h piece =
        let cut = record_cut (heads_bytes hs) h.1 piece in
        rw (h.0, record_back h.1 cut.0, head_back 0 (p + size_of FH) head, heads_back hs levels _ q h.2 cut.1)
    heads_back (computed place head name hs) levels p q h piece =
        let cut = record_cut (expr_bytes name ++ heads_bytes hs) h.1 (simp append_assoc at piece) in
        rw (
          h.0,
          record_back h.1 cut.0,
          head_back 1 (p + size_of FH) head,
          expr_back name (level any_expression) levels _ _ h.2 (piece_first (expr_bytes name) (heads_bytes hs) cut.1),
          heads_back hs levels _ q h.3 (piece_second (expr_bytes name) (heads_bytes hs) cut.1),
        )

  tree_back : (t : Tree) → TreeFits t → Piece s 0 (tree_bytes t) (length s) → tree_at s ≡ ok t
  unfolding tree_at tree_bytes nth size_of numbers_of widths fields width only row_of code choose all_in_range in_range Numbers need child_at ◌>>=◌
  tree_back t h piece =
      let n : ℕ = length t.externals in
      let fits : RecordFits (only JT) JT tt (n ∷ []) = record { known = refl; counted = refl; numbers = (omega (arith, h.few), tt); judged = refl } in
      let cut = record_cut (numbers_bytes t.externals ++ expr_bytes t.root) fits (simp append_assoc at piece) in
      let names = piece_first (numbers_bytes t.externals) (expr_bytes t.root) cut.1 in
      let root : Piece s (size_of JT + 4 * n) (expr_bytes t.root) (length s) = rw (numbers_length t.externals) at (piece_second (numbers_bytes t.externals) (expr_bytes t.root) cut.1) in
      rw (
        record_back fits cut.0,
        le-leb n 65535 h.few,
        le-leb (size_of JT + 4 * n) (length s) (omega (arith, root.ends)),
        expr_back t.root (level any_expression) 200 (size_of JT + 4 * n) (length s) h.root_fits root,
        eq-eqb (length s) (length s) refl,
        numbers_back t.externals h.names names,
      )

pub encoding_is_read_back : (t : Tree) → TreeFits t → tree_at (tree_bytes t) ≡ ok t
encoding_is_read_back t h = tree_back (tree_bytes t) t h (piece_whole (tree_bytes t))
