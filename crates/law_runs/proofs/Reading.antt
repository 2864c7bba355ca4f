-- What is known of an expression's record where reading it succeeded. Assumes nothing.
use Prim.Native.Nat.{ℕ, zero, suc, ◌+◌, ◌-◌, ◌≤◌, ◌<◌}
use mathlib.Core.Bool.{true}
use mathlib.Core.List.{List}
use mathlib.Core.Option.{some, some-injective}
use mathlib.Core.Path.{◌≡◌, refl, sym, ap, subst, ◌∙◌}
use native.Mathlib.Omega.{arith}
use lib.ListN.{length}
use Rattle.rules.specs.Outcome.{Outcome, ok, choose}
use Rattle.rules.specs.Numbers.{Mark, FN, OB, code, code_at, numbers_at}
use Rattle.rules.specs.Records.{size_of, numbers_of, fields, all_in_range}
use Rattle.rules.specs.Tree.{Expr, place_of}
use Rattle.rules.specs.FirstWalk.{Allowed, any_expression, function_only, object_only, Form, Read, rows, row_of, allowed, record_at, below, expr_at, only, an_identity, a_constant, a_variable, an_array, an_import, a_local, a_function, an_object, parts}
use Rattle.rules.proofs.After.{After, fine, after_ok, after_bind, after_given, after_weaken, held_some, after_any}
use Rattle.rules.proofs.Outcomes.{no_answer, bind_got, bind_fine}
use Rattle.bytes_records.proofs.Laws.{all_none, ◌also◌}
use Rattle.bytes_skip.proofs.Going.{goes_far, goes_within}
use Rattle.bytes_skip.proofs.Reading.{reads, row_code, row_held, Was, record_was, only_mark}
use Rattle.law_runs.specs.Run.{Accepted}
use Rattle.law_runs.proofs.Binding.{accepted}

-- Records

-- the record with this mark at p
abbrev pub seen_at : {A : Type 0} → List ℕ → Mark → A → ℕ → Read A
seen_at s m row p = record { mark = m; row = row; numbers = numbers_at s (numbers_of m) (p + 2); next = p + size_of m }

-- a record of that mark stands at p, whole and in range
pub record Stands (s : List ℕ) (m : Mark) (p : ℕ) : Type 0 where
  pub marked : code_at s p ≡ code m
  pub fits : p + size_of m ≤ length s
  pub judged : all_in_range (fields m) (numbers_at s (numbers_of m) (p + 2)) ≡ true

-- what a record that was read says of the bytes

stood : {A : Type 0} (s : List ℕ) (table : List (Mark × A)) (p : ℕ) {r : Read A} → Was s table p r → Stands s r.mark p
stood s table p w = record { marked = row_code (code_at s p) table w.row; fits = w.fits; judged = w.judged }

seen : {A : Type 0} (s : List ℕ) (table : List (Mark × A)) (p : ℕ) {r : Read A} → Was s table p r → r ≡ seen_at s r.mark r.row p
seen s table p {r} w = λ i. record { mark = r.mark; row = r.row; numbers = w.numbers i; next = w.next i }

-- where one mark may stand
pub only_found : (s : List ℕ) (m : Mark) (p : ℕ) → After (λ r. Stands s m p × (r ≡ seen_at s m tt p)) (record_at s (only m) p)
only_found s m p = after_weaken (record_was s (only m) p) λ r w. subst (λ (m : Mark). Stands s m p × (r ≡ seen_at s m tt p)) (only_mark s m w) (stood s (only m) p w, seen s (only m) p w)

-- Expressions

-- the row of a table, where it is known
pub record Opened (s : List ℕ) (levels : ℕ) (a : Allowed) (p : ℕ) (m : Mark) (form : Form) : Type 0 where
  pub left : 0 < levels
  pub listed : row_of (code_at s p) (rows a) ≡ some (m, form)
  pub stands : Stands s m p
  pub is : expr_at s levels a p ≡ below s (expr_at s (levels - 1)) form (seen_at s m form p) p

pub record AnOpened (s : List ℕ) (levels : ℕ) (a : Allowed) (p : ℕ) : Type 0 where
  pub mark : Mark
  pub form : Form
  pub opened : Opened s levels a p mark form

pub expr_opened : (s : List ℕ) (levels : ℕ) (a : Allowed) (p : ℕ) → Accepted (expr_at s levels a p) → AnOpened s levels a p
unfolding expr_at
expr_opened s zero a p x = absurd (no_answer (bind_got (record_at s (rows a) p) _ x.there).second)
expr_opened s (suc k) a p x =
    let r = bind_got (record_at s (rows a) p) _ x.there in
    let w = after_ok (record_was s (rows a) p) r.first in
    let m = r.middle.mark in
    let form = r.middle.row in
    let down : suc k - 1 ≡ k = omega arith in
    record {
      mark = m;
      form = form;
      opened = record {
        left = omega arith;
        listed = w.row;
        stands = stood s (rows a) p w;
        is = opens r.first (seen s (rows a) p w) ∙ ap (λ (l : ℕ). below s (expr_at s l) form (seen_at s m form p) p) (sym down);
      };
    }
  where
    opens : {r t : Read Form} → record_at s (rows a) p ≡ ok r → r ≡ t → expr_at s (suc k) a p ≡ below s (expr_at s k) t.row t p
    opens e f = bind_fine (λ r. below s (expr_at s k) r.row r p) e ∙ ap (λ (r : Read Form). below s (expr_at s k) r.row r p) f

-- where the row is known by the mark
pub expr_known : (s : List ℕ) (levels : ℕ) (a : Allowed) (p : ℕ) (m : Mark) (form : Form) → row_of (code_at s p) (rows a) ≡ some (m, form) → Accepted (expr_at s levels a p) → Opened s levels a p m form
expr_known s levels a p m form e x =
    let o = expr_opened s levels a p x in
    let same : ◌≡◌ {A = Mark × Form} (o.mark, o.form) (m, form) = some-injective _ _ (sym o.opened.listed ∙ e) in
    subst (λ (r : Mark × Form). Opened s levels a p r.0 r.1) same o.opened

-- a level is left for what was read
pub expr_level : (s : List ℕ) (levels : ℕ) (allowed : Allowed) (p : ℕ) → Accepted (expr_at s levels allowed p) → 0 < levels
expr_level s levels allowed p x = (expr_opened s levels allowed p x).opened.left

-- what may stand alone may stand where anything may

function_code : (c : ℕ) {r : Mark × Form} → row_of c (rows function_only) ≡ some r → c ≡ code FN
unfolding rows
function_code c e = held_some (row_held (λ r. c ≡ code FN) c (rows function_only) ((λ h. h) also all_none)) e

object_code : (c : ℕ) {r : Mark × Form} → row_of c (rows object_only) ≡ some r → c ≡ code OB
unfolding rows
object_code c e = held_some (row_held (λ r. c ≡ code OB) c (rows object_only) ((λ h. h) also all_none)) e

any_function : (c : ℕ) → c ≡ code FN → row_of c (rows any_expression) ≡ row_of c (rows function_only)
unfolding rows row_of code choose
any_function c e = rw e

any_object : (c : ℕ) → c ≡ code OB → row_of c (rows any_expression) ≡ row_of c (rows object_only)
unfolding rows row_of code choose
any_object c e = rw e

any_row : (a : Allowed) (c : ℕ) {r : Mark × Form} → row_of c (rows a) ≡ some r → row_of c (rows any_expression) ≡ row_of c (rows a)
any_row any_expression c e = refl
any_row function_only c e = any_function c (function_code c e)
any_row object_only c e = any_object c (object_code c e)

same_record : {A : Type 0} (s : List ℕ) (t u : List (Mark × A)) (p : ℕ) → row_of (code_at s p) t ≡ row_of (code_at s p) u → record_at s t p ≡ record_at s u p
unfolding record_at
same_record s t u p e = rw e

same_reading : (s : List ℕ) (levels : ℕ) (a b : Allowed) (p : ℕ) → record_at s (rows a) p ≡ record_at s (rows b) p → expr_at s levels a p ≡ expr_at s levels b p
unfolding expr_at
same_reading s zero a b p e = rw e
same_reading s (suc levels) a b p e = rw e

pub expr_any : (s : List ℕ) (levels : ℕ) (a : Allowed) (p : ℕ) {x : Expr × ℕ} → expr_at s levels a p ≡ ok x → expr_at s levels any_expression p ≡ ok x
expr_any s levels a p e =
    same_reading s levels any_expression a p (same_record s (rows any_expression) (rows a) p (any_row a (code_at s p) (expr_opened s levels a p (accepted e)).opened.listed)) ∙ e

-- Where it stands

-- it takes two bytes at least, and lies within the tree
pub expr_within : (s : List ℕ) (levels : ℕ) (a : Allowed) (p : ℕ) {e : Expr} {q : ℕ} → expr_at s levels a p ≡ ok (e, q) → (p + 2 ≤ q) × (q ≤ length s)
expr_within s levels a p {e} {q} h =
    let g = reads s levels a e q h in
    let f = (expr_opened s levels a p (accepted h)).opened.stands.fits in
    (omega (arith, goes_far g), goes_within g (omega arith))

below_place : (s : List ℕ) (sub : Allowed → ℕ → Outcome (Expr × ℕ)) (form : Form) (r : Read Form) (p : ℕ) → After (λ x. place_of x.0 ≡ p) (below s sub form r p)
unfolding below place_of
below_place s sub an_identity r p = fine refl
below_place s sub a_constant r p = fine refl
below_place s sub a_variable r p = fine refl
below_place s sub an_array r p = after_given _ _ _ (λ _. after_bind _ (after_any _) λ _ _. fine refl) (λ _ _. fine refl)
below_place s sub an_import r p = fine refl
below_place s sub a_local r p = after_bind _ (after_any _) λ _ _. after_bind _ (after_any _) λ _ _. fine refl
below_place s sub a_function r p = after_bind _ (after_any _) λ _ _. after_bind _ (after_any _) λ _ _. fine refl
below_place s sub an_object r p =
    after_bind _ (after_any _) λ _ _. after_bind _ (after_any _) λ _ _. after_bind _ (after_any _) λ _ _. after_bind _ (after_any _) λ _ _. fine refl
below_place s sub (parts groups) r p = after_bind _ (after_any _) λ _ _. fine refl

pub expr_place : (s : List ℕ) (levels : ℕ) (allowed : Allowed) (p : ℕ) {e : Expr} {q : ℕ} → expr_at s levels allowed p ≡ ok (e, q) → place_of e ≡ p
expr_place s levels a p h =
    let o = expr_opened s levels a p (accepted h) in
    after_ok (below_place s _ o.form _ p) (sym o.opened.is ∙ h)
