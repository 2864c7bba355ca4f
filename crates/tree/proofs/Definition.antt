-- The definition's reading, kind by kind, as the walk from place to place. Assumes nothing.
use Prim.Native.Nat.{ℕ, zero, suc, ◌+◌, ◌*◌, ◌-◌, ◌≤◌, ◌<◌}
use mathlib.Core.Bool.{Bool, true, false}
use mathlib.Core.List.{List, [], ◌∷◌}
use mathlib.Core.Option.{Option, none, some}
use mathlib.Core.Path.{◌≡◌, refl, sym, ap, subst, ◌∙◌}
use native.Mathlib.Omega.{arith}
use native.Mathlib.Decide.{dec_le, ℕ_discrete}
use lib.ListN.{length, get_or}
use lib.Dec.{eqb, leb}
use borrow.Author.Tests.{le-leb, lt-leb, eq-eqb, ne_eqb, lt-ltb}
use Rattle.rules.specs.Outcome.{Outcome, ok, refuse, choose, given, need, ◌>>=◌}
use Rattle.rules.specs.Numbers.{Mark, code, code_at, number_at, numbers_at, is_set, bit, ID, TV, VA, AR, OX, UN, BI, AS, LO, ER, IM, AP, IX, FN, IF, SC, OB, BV, BF, PA, AT, FH, NA, PT}
use Rattle.rules.specs.Records.{size_of, numbers_of, fields, all_in_range, widths, width}
use Rattle.rules.specs.Tree.{Expr, Heads, no_exprs, ◌then◌, no_binds, no_params, no_heads, array, plain}
use Rattle.rules.specs.FirstWalk.{Allowed, any_expression, function_only, object_only, Child, level, Groups, Form, Read, nth, rows, row_of, allowed, only, bind_rows, many, none_left, record_at, constants_at, below, expr_at, an_identity, a_constant, a_variable, an_array, an_import, a_local, a_function, an_object, parts, expressions, argument, index_part, assertion, members, value_groups, value_allowed, expr_item, holder_at, child_at, groups_at, bind_item, param_item, head_item, head_of}
use Rattle.rules.proofs.After.{After, fine, after_bind, after_choose, after_many, after_weaken, after_both, after_self}
use Rattle.rules.proofs.Outcomes.{bind_unit, bind_ext}
use Rattle.bytes_skip.proofs.Reading.{Was, record_was, only_mark}
use Rattle.bytes_skip.specs.Places.{past, judged_at, over, expected_at, expr_past, exprs_past, below_past, held_past}
use Rattle.bytes_records.specs.Marks.{mark_of, find_mark, marks, children}
use Rattle.bytes_records.specs.Constants.{is_some}
use Rattle.tree.specs.Places.{lone, Lone, opened_at, bind_past, value_past, values_past, plain_past, array_past, extended_past, local_past, call_past, index_past, function_past, object_past}
use Rattle.bytes_records.proofs.Laws.{mark_code}
use Rattle.bytes_skip.proofs.Binding.{past_read, past_then, past_put, past_after, past_many, past_list, over_one}
use Rattle.tree.proofs.Leaves.{expected_short, expected_other, expected_first}

pub only_row : (m : Mark) (c : ℕ) → row_of c (only m) ≡ choose (eqb c (code m)) (λ _. some (m, tt)) (λ _. none)
unfolding row_of only
only_row m c = refl

module _ (s : List ℕ) where
  -- the record with this mark at p, with the place after it
  abbrev pub got : {A : Type 0} → Mark → A → ℕ → ℕ → Read A
  got m row p q = record { mark = m; row = row; numbers = numbers_at s (numbers_of m) (p + 2); next = q }

  two_needs : {A : Type 0} (a b : Bool) (p q : ℕ) (r : ℕ → A)
      → (need a 1 p >>= λ _. need b 3 p >>= λ _. ok (r q)) ≡ ((need a 1 p >>= λ _. need b 3 p >>= λ _. ok q) >>= λ q. ok (r q))
  unfolding ◌>>=◌ need
  two_needs true true p q r = refl
  two_needs true false p q r = refl
  two_needs false b p q r = refl

  -- Reading one record

  module _ {A : Type 0} (table : List (Mark × A)) (p : ℕ) where
    pub record_short : length s < p + 2 → record_at s table p ≡ refuse 1 p
    unfolding record_at ◌>>=◌ need
    record_short h = rw (lt-leb _ _ h)

    module _ (room : p + 2 ≤ length s) where
      pub record_other : row_of (code_at s p) table ≡ none → record_at s table p ≡ refuse 2 p
      unfolding record_at ◌>>=◌ need allowed
      record_other e = rw (le-leb _ _ room, e)

      pub record_first : (m : Mark) (row : A) → row_of (code_at s p) table ≡ some (m, row) → record_at s table p ≡ (judged_at s m p >>= λ q. ok (got m row p q))
      unfolding record_at judged_at allowed need ◌>>=◌
      record_first m row e =
          rw (le-leb _ _ room, e) (two_needs (leb (p + size_of m) (length s)) (all_in_range (fields m) (numbers_at s (numbers_of m) (p + 2))) p (p + size_of m) (got m row p))

    -- where the table has one mark that can stand there
    pub record_expected : (m : Mark) (row : A) → row_of (code_at s p) table ≡ choose (eqb (code_at s p) (code m)) (λ _. some (m, row)) (λ _. none)
        → record_at s table p ≡ (expected_at s (code m) p >>= λ q. ok (got m row p q))
    unfolding ◌>>=◌ choose
    record_expected m row e = by (dec_le (p + 2) (length s))
      where
        is : (room : p + 2 ≤ length s) → Dec (code_at s p ≡ code m) → record_at s table p ≡ (expected_at s (code m) p >>= λ q. ok (got m row p q))
        is room (yes f) =
            record_first room m row (e ∙ rw (eq-eqb (code_at s p) (code m) f))
            ∙ rw (expected_first s (code m) p room f, mark_code m)
        is room (no ne) =
            record_other room (e ∙ rw (ne_eqb (code_at s p) (code m) ne))
            ∙ rw (expected_other s (code m) p room ne)

        by : Dec (p + 2 ≤ length s) → record_at s table p ≡ (expected_at s (code m) p >>= λ q. ok (got m row p q))
        by (yes room) = is room (ℕ_discrete (code_at s p) (code m))
        by (no gt) =
            let short : length s < p + 2 = omega arith in
            record_short short ∙ rw (expected_short s (code m) p short)

  -- An expression's own record

  no_level : {A : Type 0} (x : Outcome ℕ) (r : ℕ → A) (p : ℕ) (g : ℕ → Outcome ℕ)
      → past {A = Expr} ((x >>= λ q. ok (r q)) >>= λ _. refuse 4 p) ≡ ((x >>= λ q. need false 4 p >>= λ _. ok q) >>= g)
  unfolding past ◌>>=◌ need
  no_level (ok q) r p g = refl
  no_level (refuse number place) r p g = refl

  one_level : {A : Type 0} (x : Outcome ℕ) (r : ℕ → A) (k : A → Outcome (Expr × ℕ)) (p : ℕ) (g : ℕ → Outcome ℕ) → ((q : ℕ) → past (k (r q)) ≡ g q)
      → past ((x >>= λ q. ok (r q)) >>= k) ≡ ((x >>= λ q. need true 4 p >>= λ _. ok q) >>= g)
  unfolding past ◌>>=◌ need
  one_level (ok q) r k p g h = h q
  one_level (refuse number place) r k p g h = refl

  expr_opened : (nest : ℕ) (a : Allowed) (m : Mark) (form : Form) (p : ℕ) (g : ℕ → Outcome ℕ) → p + 2 ≤ length s → row_of (code_at s p) (rows a) ≡ some (m, form)
      → ((q : ℕ) → past (below s (expr_at s (nest - 1)) form (got m form p q) p) ≡ g q) → past (expr_at s nest a p) ≡ (opened_at s nest (code m) p >>= g)
  unfolding expr_at opened_at
  expr_opened zero a m form p g room e h =
      rw (record_first (rows a) p room m form e, mark_code m) (no_level (judged_at s m p) (got m form p) p g)
  expr_opened (suc k) a m form p g room e h =
      let down : suc k - 1 ≡ k = omega arith in
      let left : 0 < suc k = omega arith in
      rw (record_first (rows a) p room m form e, mark_code m, lt-ltb 0 (suc k) left)
      (one_level (judged_at s m p) (got m form p) (λ r. below s (expr_at s k) r.row r p) p g
      (λ q. subst (λ (l : ℕ). past (below s (expr_at s l) form (got m form p q) p) ≡ g q) down (h q)))

  -- What stands below a record, read with so many levels left

  module _ (nest : ℕ) where
    abbrev sub : Allowed → ℕ → Outcome (Expr × ℕ)
    sub = expr_at s nest

    none_past : (q : ℕ) → past (groups_at s sub [] q) ≡ ok q
    unfolding groups_at none_left past
    none_past q = refl

    group_past : (n : ℕ) (c : Child) (gs : Groups) (f : ℕ → Outcome ℕ) → ((p : ℕ) → past (child_at s sub c p) ≡ f p)
        → (p : ℕ) → past (groups_at s sub ((n, c) ∷ gs) p) ≡ (over n f p >>= λ q. past (groups_at s sub gs q))
    unfolding groups_at expr_item
    group_past n c gs f h p =
        past_many (expr_item s sub (child_at s sub c)) (groups_at s sub gs) f (λ p. past_put (child_at s sub c p) (λ e es. e then es) ∙ h p) n p

    last_past : (n : ℕ) (c : Child) (f : ℕ → Outcome ℕ) → ((p : ℕ) → past (child_at s sub c p) ≡ f p) → (p : ℕ) → past (groups_at s sub ((n, c) ∷ []) p) ≡ over n f p
    last_past n c f h p =
        group_past n c [] f h p ∙ bind_ext (over n f p) (λ q. past (groups_at s sub [] q)) (λ q. ok q) none_past ∙ bind_unit (over n f p)

    level_past : (a : Allowed) (p : ℕ) → past (child_at s sub (level a) p) ≡ expr_past s nest a p
    unfolding child_at expr_past
    level_past a p = refl

    levels_past : (n q : ℕ) → past (groups_at s sub (expressions n) q) ≡ exprs_past s nest n q
    unfolding expressions exprs_past
    levels_past n q = last_past n (level any_expression) (expr_past s nest any_expression) (level_past any_expression) q

    item_past : (n q : ℕ) → past (many (expr_item s sub (sub any_expression)) (none_left no_exprs) n q) ≡ exprs_past s nest n q
    unfolding expr_item exprs_past expr_past
    item_past n q = past_list (expr_item s sub (sub any_expression)) no_exprs (expr_past s nest any_expression) (λ p. past_put (sub any_expression p) (λ e es. e then es)) n q

    -- a record of one mark, and as many expressions below it as its numbers say
    held_read : {A : Type 0} (m : Mark) (p : ℕ) (k : Read (Unit {0}) → Outcome (A × ℕ))
        → ((q : ℕ) → past (k (got m tt p q)) ≡ exprs_past s nest (children m (numbers_at s (numbers_of m) (p + 2))) q)
        → past (record_at s (only m) p >>= k) ≡ held_past s nest (code m) p
    unfolding held_past below_past
    held_read m p k h =
        rw (record_expected (only m) p m tt (only_row m (code_at s p)), mark_code m)
        (past_read (expected_at s (code m) p) (got m tt p) k (λ q. exprs_past s nest (children m (numbers_at s (numbers_of m) (p + 2))) q) h)

    holder_past : (m : Mark) (n : List ℕ → ℕ) → ((ns : List ℕ) → children m ns ≡ n ns) → (p : ℕ) → past (holder_at s sub m n p) ≡ held_past s nest (code m) p
    unfolding holder_at
    holder_past m n h p =
        held_read m p _ (λ q. past_put (many (expr_item s sub (sub any_expression)) (none_left no_exprs) (n (numbers_at s (numbers_of m) (p + 2))) q) (λ es. plain p m (numbers_at s (numbers_of m) (p + 2)) es)
        ∙ item_past (n (numbers_at s (numbers_of m) (p + 2))) q ∙ rw (h (numbers_at s (numbers_of m) (p + 2))))

    -- one expression where a flag is set
    flagged : {A : Type 0} (b : Bool) (q : ℕ) (x y : Unit {0} → Outcome (A × ℕ)) → past (x tt) ≡ expr_past s nest any_expression q → past (y tt) ≡ ok q
        → past (choose b x y) ≡ exprs_past s nest (bit b) q
    unfolding choose exprs_past over
    flagged true q x y h k = h ∙ sym (over_one (expr_past s nest any_expression) q)
    flagged false q x y h k = k

    param_past : (p : ℕ) → past (param_item s sub p) ≡ held_past s nest (code PA) p
    unfolding param_item nth children past expr_past
    param_past p = held_read PA p _ (λ q. flagged (is_set (get_or (numbers_at s (numbers_of PA) (p + 2)) 2 0)) q _ _ (past_put (sub any_expression q) _) refl)

    head_past : (p : ℕ) → past (head_item s sub p) ≡ held_past s nest (code FH) p
    unfolding head_item nth children past expr_past
    head_past p = held_read FH p _ (λ q. flagged (is_set (get_or (numbers_at s (numbers_of FH) (p + 2)) 0 0)) q _ _ (past_put (sub any_expression q) _) refl)

    -- Binds

    bind_row : (c : ℕ) → c ≡ code BF → row_of c bind_rows ≡ choose (eqb c (code BF)) (λ _. some (BF, (true, function_only))) (λ _. none)
    unfolding row_of bind_rows choose code
    bind_row c e = rw e

    value_row : (c : ℕ) → (c ≡ code BF → ⊥) → row_of c bind_rows ≡ choose (eqb c (code BV)) (λ _. some (BV, (false, any_expression))) (λ _. none)
    unfolding row_of bind_rows choose
    value_row c ne = rw (ne_eqb c (code BF) ne)

    bound_past : (m : Mark) (row : Bool × Allowed) (p : ℕ) → row_of (code_at s p) bind_rows ≡ choose (eqb (code_at s p) (code m)) (λ _. some (m, row)) (λ _. none)
        → bind_past s nest p ≡ (expected_at s (code m) p >>= λ q. expr_past s nest row.1 q)
    unfolding bind_past bind_item expr_past
    bound_past m row p e =
        rw (record_expected bind_rows p m row e)
        (past_read (expected_at s (code m) p) (got m row p) _ (λ q. expr_past s nest row.1 q) (λ q. past_put (sub row.1 q) _))

    pub bind_function : (p : ℕ) → code_at s p ≡ 0x4246 → bind_past s nest p ≡ (expected_at s 0x4246 p >>= λ q. expr_past s nest (lone 0x464e) q)
    unfolding code lone choose
    bind_function p e = bound_past BF (true, function_only) p (bind_row (code_at s p) e)

    pub bind_value : (p : ℕ) → (code_at s p ≡ 0x4246 → ⊥) → bind_past s nest p ≡ held_past s nest 0x4256 p
    unfolding code held_past below_past exprs_past mark_of find_mark marks choose children
    bind_value p ne =
        bound_past BV (false, any_expression) p (value_row (code_at s p) ne)
        ∙ bind_ext (expected_at s 0x4256 p) (λ q. expr_past s nest any_expression q) (λ q. over 1 (expr_past s nest any_expression) q) (λ q. sym (over_one (expr_past s nest any_expression) q))

    -- The values of fields, whose heads were read

    method_flag : (p : ℕ) {r : Read (Unit {0})} → Was s (only FH) p r → (head_of r).is_method ≡ is_set (number_at s (p + 22))
    unfolding head_of nth numbers_of widths width fields numbers_at
    method_flag p was =
        let n = was.numbers ∙ ap (λ m. numbers_at s (numbers_of m) (p + 2)) (only_mark s FH was) in
        let e : p + 2 + 4 + 4 + 4 + 4 + 4 ≡ p + 22 = omega arith in
        ap (λ (ns : List ℕ). is_set (get_or ns 5 0)) n ∙ ap (λ (k : ℕ). is_set (number_at s k)) e

    -- what the head at p says of its value
    Valued : ℕ → (Heads → Heads) × ℕ → Type 0
    Valued p i = (hs : Heads) → value_groups (i.0 hs) ≡ (1, level (choose (is_set (number_at s (p + 22))) (λ _. function_only) (λ _. any_expression))) ∷ value_groups hs

    head_valued : (p : ℕ) → After (Valued p) (head_item s sub p)
    unfolding Valued head_item value_groups value_allowed
    head_valued p = after_bind _ (record_was s (only FH) p) λ r was.
        after_choose _ _ _
        (λ _. after_bind _ (after_self (sub any_expression r.next)) λ a _. fine (λ hs. rw (method_flag p was)))
        (λ _. fine (λ hs. rw (method_flag p was)))

    Values : ℕ → ℕ → Heads → ℕ → Type 0
    Values n h hs q = (p : ℕ) → past (groups_at s sub (value_groups hs) p) ≡ values_past s nest n h p

    -- how the value of the head at h may begin
    abbrev value_kind : ℕ → Allowed
    value_kind h = choose (is_set (number_at s (h + 22))) (λ _. function_only) (λ _. any_expression)

    more_values : (h : ℕ) (i : (Heads → Heads) × ℕ) → head_item s sub h ≡ ok i → Valued h i → (n : ℕ) (others : Heads)
        → ((p : ℕ) → past (groups_at s sub (value_groups others) p) ≡ values_past s nest n i.1 p)
        → (p : ℕ) → past (groups_at s sub (value_groups (i.0 others)) p) ≡ values_past s nest (suc n) h p
    unfolding values_past value_past Valued ◌>>=◌ past code
    more_values h i e v n others later p =
        let headed : held_past s nest 0x4648 h ≡ ok i.1 = sym (head_past h) ∙ ap past e in
        ap (λ (gs : Groups). past (groups_at s sub gs p)) (v others)
        ∙ group_past 1 (level (value_kind h)) (value_groups others) (expr_past s nest (value_kind h)) (level_past (value_kind h)) p
        ∙ ap (λ (x : Outcome ℕ). x >>= λ q. past (groups_at s sub (value_groups others) q)) (over_one (expr_past s nest (value_kind h)) p)
        ∙ bind_ext (expr_past s nest (value_kind h) p) (λ q. past (groups_at s sub (value_groups others) q)) (λ q. values_past s nest n i.1 q) later
        ∙ rw headed

    values_read : (n h : ℕ) → After (λ a. Values n h a.0 a.1) (many (head_item s sub) (none_left no_heads) n h)
    unfolding Values none_left values_past value_groups
    values_read n h =
        after_many Values (head_item s sub) (none_left no_heads)
        (λ h. after_weaken (after_both (after_self (head_item s sub h)) (head_valued h)) λ i told n others r later. more_values h i told.0 told.1 n others later)
        (λ h. fine (λ p. none_past p)) n h

    valued_at : (n h : ℕ) (hs : Heads × ℕ) → Values n h hs.0 hs.1 → (p : ℕ) → past (groups_at s sub (value_groups hs.0) p) ≡ values_past s nest n h p
    unfolding Values
    valued_at n h hs v p = v p

    binds_are : (p : ℕ) → past (bind_item s sub p) ≡ bind_past s nest p
    unfolding bind_past
    binds_are p = refl

  given_place : {A B : Type 0} (o : Option B) (x y : Outcome ℕ) (f : Unit {0} → Outcome (A × ℕ)) (g : B → Outcome (A × ℕ))
      → past (f tt) ≡ y → ((b : B) → past (g b) ≡ x) → past (given o f g) ≡ choose (is_some o) (λ _. x) (λ _. y)
  unfolding given choose is_some
  given_place none x y f g h k = h
  given_place (some b) x y f g h k = k b

  -- Expressions by their kinds

  module _ (nest p : ℕ) where
    pub expr_short : (a : Allowed) → length s < p + 2 → refuse 1 p ≡ past (expr_at s nest a p)
    unfolding expr_at past ◌>>=◌
    expr_short a h = by nest
      where
        by : (n : ℕ) → refuse 1 p ≡ past (expr_at s n a p)
        by zero = rw (record_short (rows a) p h)
        by (suc n) = rw (record_short (rows a) p h)

    module _ (room : p + 2 ≤ length s) where
      pub expr_other : (a : Allowed) → row_of (code_at s p) (rows a) ≡ none → refuse 2 p ≡ past (expr_at s nest a p)
      unfolding expr_at past ◌>>=◌
      expr_other a e = by nest
        where
          by : (n : ℕ) → refuse 2 p ≡ past (expr_at s n a p)
          by zero = rw (record_other (rows a) p room e)
          by (suc n) = rw (record_other (rows a) p room e)

      leaf_kind : (m : Mark) (form : Form) → row_of (code_at s p) (rows any_expression) ≡ some (m, form)
          → ((q : ℕ) → past (below s (expr_at s (nest - 1)) form (got m form p q) p) ≡ ok q) → opened_at s nest (code m) p ≡ past (expr_at s nest any_expression p)
      leaf_kind m form e h = sym (expr_opened nest any_expression m form p (λ q. ok q) room e h ∙ bind_unit (opened_at s nest (code m) p))

      pub expr_identity : code_at s p ≡ 0x4944 → opened_at s nest 0x4944 p ≡ past (expr_at s nest any_expression p)
      unfolding rows row_of choose code below past
      expr_identity e = leaf_kind ID an_identity (rw e) (λ q. refl)

      pub expr_constant : code_at s p ≡ 0x5456 → opened_at s nest 0x5456 p ≡ past (expr_at s nest any_expression p)
      unfolding rows row_of choose code below past
      expr_constant e = leaf_kind TV a_constant (rw e) (λ q. refl)

      pub expr_variable : code_at s p ≡ 0x5641 → opened_at s nest 0x5641 p ≡ past (expr_at s nest any_expression p)
      unfolding rows row_of choose code below past
      expr_variable e = leaf_kind VA a_variable (rw e) (λ q. refl)

      pub expr_import : code_at s p ≡ 0x494d → opened_at s nest 0x494d p ≡ past (expr_at s nest any_expression p)
      unfolding rows row_of choose code below past
      expr_import e = leaf_kind IM an_import (rw e) (λ q. refl)

      plain_kind : (m : Mark) (n : List ℕ → ℕ) → row_of (code_at s p) (rows any_expression) ≡ some (m, parts (λ ns. expressions (n ns)))
          → ((ns : List ℕ) → children m ns ≡ n ns) → plain_past s nest (code m) p ≡ past (expr_at s nest any_expression p)
      unfolding plain_past below_past below
      plain_kind m n e h =
          let ns = numbers_at s (numbers_of m) (p + 2) in
          sym (expr_opened nest any_expression m (parts (λ ns. expressions (n ns))) p (below_past s (nest - 1) (code m) p) room e
          (λ q. past_put (groups_at s (expr_at s (nest - 1)) (expressions (n ns)) q) (λ es. plain p m ns es) ∙ levels_past (nest - 1) (n ns) q ∙ rw (mark_code m, h ns)))

      pub expr_unary : code_at s p ≡ 0x554e → plain_past s nest 0x554e p ≡ past (expr_at s nest any_expression p)
      unfolding rows row_of choose code children
      expr_unary e = plain_kind UN (λ ns. 1) (rw e) (λ ns. refl)

      pub expr_binary : code_at s p ≡ 0x4249 → plain_past s nest 0x4249 p ≡ past (expr_at s nest any_expression p)
      unfolding rows row_of choose code children
      expr_binary e = plain_kind BI (λ ns. 2) (rw e) (λ ns. refl)

      pub expr_assert : code_at s p ≡ 0x4153 → plain_past s nest 0x4153 p ≡ past (expr_at s nest any_expression p)
      unfolding rows row_of choose code children
      expr_assert e = plain_kind AS (λ ns. 2 + get_or ns 0 0) (rw e) (λ ns. refl)

      pub expr_error : code_at s p ≡ 0x4552 → plain_past s nest 0x4552 p ≡ past (expr_at s nest any_expression p)
      unfolding rows row_of choose code children
      expr_error e = plain_kind ER (λ ns. 1) (rw e) (λ ns. refl)

      pub expr_if : code_at s p ≡ 0x4946 → plain_past s nest 0x4946 p ≡ past (expr_at s nest any_expression p)
      unfolding rows row_of choose code children
      expr_if e = plain_kind IF (λ ns. 2 + get_or ns 0 0) (rw e) (λ ns. refl)

      pub expr_slice : code_at s p ≡ 0x5343 → plain_past s nest 0x5343 p ≡ past (expr_at s nest any_expression p)
      unfolding rows row_of choose code children
      expr_slice e = plain_kind SC (λ ns. 1 + members (get_or ns 0 0)) (rw e) (λ ns. refl)

      pub expr_array : code_at s p ≡ 0x4152 → array_past s nest p ≡ past (expr_at s nest any_expression p)
      unfolding array_past rows row_of choose code below nth past numbers_of widths width fields numbers_at
      expr_array e =
          sym (expr_opened nest any_expression AR an_array p _ room (rw e)
          (λ q. given_place (constants_at s (number_at s (p + 2)) q) (ok (q + 6 * number_at s (p + 2))) (exprs_past s (nest - 1) (number_at s (p + 2)) q) _ _
          (past_put (groups_at s (expr_at s (nest - 1)) (expressions (number_at s (p + 2))) q) (λ es. array p es) ∙ levels_past (nest - 1) (number_at s (p + 2)) q)
          (λ vs. refl)))

      pub expr_extended : code_at s p ≡ 0x4f58 → extended_past s nest p ≡ past (expr_at s nest any_expression p)
      unfolding extended_past rows row_of choose code below lone
      expr_extended e =
          sym (expr_opened nest any_expression OX (parts (λ ns. (1, level any_expression) ∷ (1, level object_only) ∷ [])) p
          (λ q. expr_past s (nest - 1) any_expression q >>= λ q. expr_past s (nest - 1) object_only q) room (rw e)
          (λ q. past_put (groups_at s (expr_at s (nest - 1)) ((1, level any_expression) ∷ (1, level object_only) ∷ []) q) _
          ∙ group_past (nest - 1) 1 (level any_expression) ((1, level object_only) ∷ []) (expr_past s (nest - 1) any_expression) (level_past (nest - 1) any_expression) q
          ∙ ap (λ (x : Outcome ℕ). x >>= λ q. past (groups_at s (expr_at s (nest - 1)) ((1, level object_only) ∷ []) q)) (over_one (expr_past s (nest - 1) any_expression) q)
          ∙ bind_ext (expr_past s (nest - 1) any_expression q) _ (λ q. expr_past s (nest - 1) object_only q)
          (λ q. last_past (nest - 1) 1 (level object_only) (expr_past s (nest - 1) object_only) (level_past (nest - 1) object_only) q ∙ over_one (expr_past s (nest - 1) object_only) q)))

      pub expr_local : code_at s p ≡ 0x4c4f → local_past s nest p ≡ past (expr_at s nest any_expression p)
      unfolding local_past rows row_of choose code below nth numbers_of widths width fields numbers_at expr_past
      expr_local e =
          sym (expr_opened nest any_expression LO a_local p
          (λ q. over (number_at s (p + 2)) (bind_past s (nest - 1)) q >>= λ q. expr_past s (nest - 1) any_expression q) room (rw e)
          (λ q. past_then (many (bind_item s (expr_at s (nest - 1))) (none_left no_binds) (number_at s (p + 2)) q) _ (expr_past s (nest - 1) any_expression) (λ a. past_put (expr_at s (nest - 1) any_expression a.1) _)
          ∙ ap (λ (x : Outcome ℕ). x >>= λ q. expr_past s (nest - 1) any_expression q)
          (past_list (bind_item s (expr_at s (nest - 1))) no_binds (bind_past s (nest - 1)) (binds_are (nest - 1)) (number_at s (p + 2)) q)))

      pub expr_function : code_at s p ≡ 0x464e → function_past s nest p ≡ past (expr_at s nest any_expression p)
      unfolding function_past rows row_of choose code below nth numbers_of widths width fields numbers_at expr_past
      expr_function e =
          let six : p + 2 + 4 ≡ p + 6 = omega arith in
          sym (expr_opened nest any_expression FN a_function p
          (λ q. over (number_at s (p + 6)) (held_past s (nest - 1) 0x5041) q >>= λ q. expr_past s (nest - 1) any_expression q) room (rw e)
          (λ q. rw six (past_then (many (param_item s (expr_at s (nest - 1))) (none_left no_params) (number_at s (p + 6)) q) _ (expr_past s (nest - 1) any_expression) (λ a. past_put (expr_at s (nest - 1) any_expression a.1) _)
          ∙ ap (λ (x : Outcome ℕ). x >>= λ q. expr_past s (nest - 1) any_expression q)
          (past_list (param_item s (expr_at s (nest - 1))) no_params (held_past s (nest - 1) 0x5041) (param_past (nest - 1)) (number_at s (p + 6)) q))))

      pub expr_call : code_at s p ≡ 0x4150 → call_past s nest p ≡ past (expr_at s nest any_expression p)
      unfolding call_past rows row_of choose code below numbers_of widths width fields numbers_at exprs_past argument children child_at
      expr_call e =
          let six : p + 2 + 4 ≡ p + 6 = omega arith in
          let u = number_at s (p + 2) in
          let m = number_at s (p + 6) in
          sym (expr_opened nest any_expression AP (parts (λ ns. (1 + get_or ns 0 0, level any_expression) ∷ (get_or ns 1 0, argument) ∷ [])) p
          (λ q. exprs_past s (nest - 1) (1 + u) q >>= λ q. over m (held_past s (nest - 1) 0x4e41) q) room (rw e)
          (λ q. rw six (past_put (groups_at s (expr_at s (nest - 1)) ((1 + u, level any_expression) ∷ (m, argument) ∷ []) q) _
          ∙ group_past (nest - 1) (1 + u) (level any_expression) ((m, argument) ∷ []) (expr_past s (nest - 1) any_expression) (level_past (nest - 1) any_expression) q
          ∙ bind_ext (exprs_past s (nest - 1) (1 + u) q) _ (λ q. over m (held_past s (nest - 1) 0x4e41) q)
          (λ q. last_past (nest - 1) m argument (held_past s (nest - 1) 0x4e41) (λ p. holder_past (nest - 1) NA (λ ns. 1) (λ ns. refl) p) q))))

      pub expr_index : code_at s p ≡ 0x4958 → index_past s nest p ≡ past (expr_at s nest any_expression p)
      unfolding index_past rows row_of choose code below numbers_of widths width fields numbers_at index_part children child_at
      expr_index e =
          let n = number_at s (p + 2) in
          sym (expr_opened nest any_expression IX (parts (λ ns. (1, level any_expression) ∷ (get_or ns 0 0, index_part) ∷ [])) p
          (λ q. expr_past s (nest - 1) any_expression q >>= λ q. over n (held_past s (nest - 1) 0x5054) q) room (rw e)
          (λ q. past_put (groups_at s (expr_at s (nest - 1)) ((1, level any_expression) ∷ (n, index_part) ∷ []) q) _
          ∙ group_past (nest - 1) 1 (level any_expression) ((n, index_part) ∷ []) (expr_past s (nest - 1) any_expression) (level_past (nest - 1) any_expression) q
          ∙ ap (λ (x : Outcome ℕ). x >>= λ q. past (groups_at s (expr_at s (nest - 1)) ((n, index_part) ∷ []) q)) (over_one (expr_past s (nest - 1) any_expression) q)
          ∙ bind_ext (expr_past s (nest - 1) any_expression q) _ (λ q. over n (held_past s (nest - 1) 0x5054) q)
          (λ q. last_past (nest - 1) n index_part (held_past s (nest - 1) 0x5054) (λ p. holder_past (nest - 1) PT (λ ns. 1) (λ ns. refl) p) q)))

      pub expr_object : code_at s p ≡ 0x4f42 → object_past s nest p ≡ past (expr_at s nest any_expression p)
      unfolding object_past rows row_of choose code below nth numbers_of widths width fields numbers_at assertion children child_at
      expr_object e =
          let six : p + 2 + 4 ≡ p + 6 = omega arith in
          let ten : p + 2 + 4 + 4 ≡ p + 10 = omega arith in
          let k = nest - 1 in
          let l = number_at s (p + 2) in
          let a = number_at s (p + 6) in
          let f = number_at s (p + 10) in
          sym (expr_opened nest any_expression OB an_object p
          (λ h. over f (held_past s k 0x4648) h >>= λ q. over l (bind_past s k) q >>= λ q. over a (held_past s k 0x4154) q >>= λ q. values_past s k f h q) room (rw e)
          (λ h. rw (ten, six)
          (past_after _ (λ q. over l (bind_past s k) q >>= λ q. over a (held_past s k 0x4154) q >>= λ q. values_past s k f h q) (values_read k f h)
          (λ hs valued. past_then (many (bind_item s (expr_at s k)) (none_left no_binds) l hs.1) _ (λ q. over a (held_past s k 0x4154) q >>= λ q. values_past s k f h q)
          (λ bs. past_then (groups_at s (expr_at s k) ((a, assertion) ∷ []) bs.1) _ (λ q. values_past s k f h q)
          (λ ts. past_put (groups_at s (expr_at s k) (value_groups hs.0) ts.1) _ ∙ valued_at k f h hs valued ts.1)
          ∙ ap (λ (x : Outcome ℕ). x >>= λ q. values_past s k f h q)
          (last_past k a assertion (held_past s k 0x4154) (λ p. holder_past k AT (λ ns. 1 + get_or ns 0 0) (λ ns. refl) p) bs.1))
          ∙ ap (λ (x : Outcome ℕ). x >>= λ q. over a (held_past s k 0x4154) q >>= λ q. values_past s k f h q)
          (past_list (bind_item s (expr_at s k)) no_binds (bind_past s k) (binds_are k) l hs.1))
          ∙ ap (λ (x : Outcome ℕ). x >>= λ q. over l (bind_past s k) q >>= λ q. over a (held_past s k 0x4154) q >>= λ q. values_past s k f h q)
          (past_list (head_item s (expr_at s k)) no_heads (held_past s k 0x4648) (head_past k) f h))))

      -- Where one mark is asked for

      same_record : (a b : Allowed) → record_at s (rows a) p ≡ record_at s (rows b) p → past (expr_at s nest a p) ≡ past (expr_at s nest b p)
      unfolding expr_at
      same_record a b e = by nest
        where
          by : (n : ℕ) → past (expr_at s n a p) ≡ past (expr_at s n b p)
          by zero = rw e
          by (suc n) = rw e

      pub lone_here : {mark : ℕ} → Lone mark → code_at s p ≡ mark → past (expr_at s nest any_expression p) ≡ expr_past s nest (lone mark) p
      unfolding expr_past lone rows row_of choose code
      lone_here (Lone.a_function f) e =
          rw f (same_record any_expression function_only (record_first (rows any_expression) p room FN Form.a_function (rw (e, f)) ∙ sym (record_first (rows function_only) p room FN Form.a_function (rw (e, f)))))
      lone_here (Lone.an_object f) e =
          rw f (same_record any_expression object_only (record_first (rows any_expression) p room OB Form.an_object (rw (e, f)) ∙ sym (record_first (rows object_only) p room OB Form.an_object (rw (e, f)))))

      pub lone_other : {mark : ℕ} → Lone mark → (code_at s p ≡ mark → ⊥) → refuse 2 p ≡ expr_past s nest (lone mark) p
      unfolding expr_past lone rows row_of choose code
      lone_other (Lone.a_function f) ne = rw f (expr_other function_only (rw (ne_eqb (code_at s p) 0x464e (λ g. ne (g ∙ sym f)))))
      lone_other (Lone.an_object f) ne = rw f (expr_other object_only (rw (ne_eqb (code_at s p) 0x4f42 (λ g. ne (g ∙ sym f)))))

    pub lone_short : (mark : ℕ) → length s < p + 2 → refuse 1 p ≡ expr_past s nest (lone mark) p
    unfolding expr_past
    lone_short mark h = expr_short (lone mark) h
