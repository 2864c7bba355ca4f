-- What is known of a record that the first walk has read: it fits its table, and its bytes stand there. Assumes nothing.
use Prim.Native.Nat.{ℕ, zero, suc, ◌+◌}
use native.Mathlib.Omega.{arith}
use mathlib.Core.Bool.{Bool, true}
use mathlib.Core.List.{List, [], ◌∷◌}
use mathlib.Core.Option.{Option, none, some, none-ne-some, some-injective}
use mathlib.Core.Path.{◌≡◌, refl, ap, subst, subst₂, ◌∙◌}
use lib.ListN.{drop}
use lib.Dec.{ltb}
use borrow.Author.Tests.{leb-true, eqb-true}
use Rattle.rules.specs.Numbers.{Mark, code, code_at, record_bytes, bit, is_set}
use Rattle.rules.specs.Records.{Kind, width, numbers_of, size_of, in_range, all_in_range}
use Rattle.rules.specs.FirstWalk.{Read, row_of, allowed, record_at, only}
use Rattle.rules.specs.Range.{Bytes, RecordFits}
use Rattle.rules.proofs.After.{both_passed, After, fine, refused, chosen, after_weaken, after_bind, after_need}
use Rattle.rules.proofs.Lists.{Piece, piece_then, firsts, firsts_all}
use Rattle.rules.proofs.Spelling.{mark_spelled, numbers_spelled, numbers_in_range, length_numbers_at}

-- P holds of each
abbrev pub Every : {A : Type 0} → (A → Type 0) → List A → Type 0
Every P [] = Unit {0}
Every P (x ∷ xs) = P x × Every P xs

-- a row that was found has the number that was looked for, and whatever every row has
pub row_found : {A : Type 0} (P : Mark × A → Type 0) (c : ℕ) (table : List (Mark × A)) (x : Mark × A)
    → Every P table → row_of c table ≡ some x → (c ≡ code x.0) × P x
unfolding row_of
row_found P c [] x h = λ e. absurd (none-ne-some _ e)
row_found {A = A} P c (r ∷ rs) x h = chosen (λ (o : Option (Mark × A)). o ≡ some x → (c ≡ code x.0) × P x) _ _ _
    (λ same e. subst (λ (y : Mark × A). (c ≡ code y.0) × P y) (some-injective r x e) (eqb-true c (code r.0) same, h.0))
    (λ _. row_found P c rs x h.1)

every : {A : Type 0} {P : A → Type 0} (xs : List A) → ((x : A) → P x) → Every P xs
every [] h = tt
every (x ∷ xs) h = (h x, every xs h)

-- from p to q stands a record that a table allows
pub record Whole {A : Type 0} (s : List ℕ) (table : List (Mark × A)) (p : ℕ) (m : Mark) (row : A) (ns : List ℕ) (q : ℕ) : Type 0 where
  pub fits : RecordFits table m row ns
  pub spelled : Piece s p (record_bytes m ns) q
  pub behind : q ≡ p + size_of m

abbrev pub WholeRead : {A : Type 0} (s : List ℕ) (table : List (Mark × A)) (p : ℕ) (r : Read A) → Type 0
WholeRead s table p r = Whole s table p r.mark r.row r.numbers r.next

pub after_allowed : {A : Type 0} (o : Option (Mark × A)) (p : ℕ) → After (λ row. o ≡ some row) (allowed o p)
unfolding allowed
after_allowed none p = refused
after_allowed (some row) p = fine refl

pub record_read : {A : Type 0} (s : List ℕ) → Bytes s → (table : List (Mark × A)) (p : ℕ) → After (WholeRead s table p) (record_at s table p)
unfolding record_at record_bytes size_of
record_read s bytes table p =
    after_need _ 1 p _ λ enough. after_bind _ (after_allowed _ p) λ row found. after_need _ 1 p _ λ whole. after_need _ 3 p _ λ judged.
    let c : code_at s p ≡ code row.0 = (row_found (λ _. Unit {0}) _ table row (every table (λ _. tt)) found).0 in
    fine (record {
      fits = record { known = rw c at found; counted = length_numbers_at s _ (p + 2); numbers = numbers_in_range s bytes _ (p + 2); judged = judged };
      spelled = piece_then (mark_spelled s bytes p row.0 (leb-true _ _ enough) c) (numbers_spelled s bytes _ (p + 2) _ (omega arith) (leb-true _ _ whole));
      behind = refl;
    })

-- the same with its numbers written otherwise
pub whole_of : {A : Type 0} {s : List ℕ} {table : List (Mark × A)} {p : ℕ} {m : Mark} {row : A} {q : ℕ} {ns ms : List ℕ} → ns ≡ ms → Whole s table p m row ns q → Whole s table p m row ms q
whole_of e w = rw e at w

-- with its mark known, and its numbers one by one
pub whole_as : {A : Type 0} {s : List ℕ} {table : List (Mark × A)} {p : ℕ} {m : Mark} {row : A} {ns : List ℕ} {q : ℕ} (mark : Mark) (n : ℕ)
    → m ≡ mark → numbers_of mark ≡ n → Whole s table p m row ns q → Whole s table p mark row (firsts 0 n ns) q
whole_as {s = s} {table = table} {p = p} {m = m} {row = row} {ns = ns} {q = q} mark n e count w =
    let listed : ns ≡ firsts 0 n ns = firsts_all ns ∙ ap (λ (k : ℕ). firsts 0 k ns) (w.fits.counted ∙ ap numbers_of e ∙ count) in
    subst₂ (λ (m : Mark) (ns : List ℕ). Whole s table p m row ns q) e listed w

-- a record of the one mark that is allowed
pub only_read : (s : List ℕ) → Bytes s → (m : Mark) (p : ℕ) → After (λ r. Whole s (only m) p m tt r.numbers r.next) (record_at s (only m) p)
unfolding only
only_read s bytes m p = after_weaken (record_read s bytes (only m) p) λ r w.
    subst (λ (k : Mark). Whole s (only m) p k tt r.numbers r.next) (row_found (λ x. x.0 ≡ m) _ (only m) (r.mark, r.row) (refl, tt) w.fits.known).1 w

-- "a flag is out of range" where it is neither 0 nor 1, so that nothing is lost
pub flag_is : (n : ℕ) {b : Bool} → ltb n 2 ≡ true → is_set n ≡ b → n ≡ bit b
unfolding is_set
flag_is zero small e = ap bit e
flag_is (suc n) small e = let one : suc n ≡ 1 = omega (arith, leb-true (suc (suc n)) 2 small) in one ∙ ap bit e

-- each field of a record is in range
abbrev pub InRange : List Kind → List ℕ → Type 0
InRange [] ns = Unit {0}
InRange (k ∷ ks) ns = (in_range k ns ≡ true) × InRange ks (drop (width k) ns)

pub each_in_range : (ks : List Kind) (ns : List ℕ) → all_in_range ks ns ≡ true → InRange ks ns
unfolding all_in_range
each_in_range [] ns e = tt
each_in_range (k ∷ ks) ns e = let both = both_passed _ _ e in (both.0, each_in_range ks (drop (width k) ns) both.1)
