-- Laws of lists that are read from a place on. Assumes nothing.
use Prim.Native.Nat.{ℕ, zero, suc, ◌+◌, ◌≤◌, ◌<◌}
use native.Mathlib.Omega.{arith}
use mathlib.Core.List.{List, [], ◌∷◌, ◌++◌, append_assoc, append-nil}
use mathlib.Core.Path.{◌≡◌, refl, sym, ap, ◌∙◌}
use lib.ListN.{length, get_or, drop, length-append, length-drop, get_or-append}
use lib.Seq.{drop-cons, drop-length, drop-drop, drop-append_seam, get_or-drop}

-- from p to q the list is xs
pub record Piece {A : Type 0} (l : List A) (p : ℕ) (xs : List A) (q : ℕ) : Type 0 where
  pub split : drop p l ≡ xs ++ drop q l
  pub ends : q ≡ p + length xs

pub piece_none : {A : Type 0} (l : List A) (p q : ℕ) → q ≡ p → Piece l p [] q
piece_none l p q e = record { split = ap (λ (k : ℕ). drop k l) (sym e); ends = omega arith }

pub piece_empty : {A : Type 0} {l : List A} {p q : ℕ} → Piece l p [] q → q ≡ p
piece_empty h = omega (arith, h.ends)

pub piece_then : {A : Type 0} {l : List A} {p q r : ℕ} {xs ys : List A} → Piece l p xs q → Piece l q ys r → Piece l p (xs ++ ys) r
piece_then {A = A} {l = l} {r = r} {xs = xs} {ys = ys} h k = record {
  split = h.split ∙ ap (λ (zs : List A). xs ++ zs) k.split ∙ sym (append_assoc xs ys (drop r l));
  ends = omega (arith, h.ends, k.ends, length-append xs ys);
}

pub piece_one : {A : Type 0} (l : List A) (p q : ℕ) (d : A) → q ≡ suc p → q ≤ length l → Piece l p (get_or l p d ∷ []) q
piece_one l p q d e h = record { split = drop-cons l p d (omega arith) ∙ ap (λ (k : ℕ). get_or l p d ∷ drop k l) (sym e); ends = omega arith }

behind_first : {A : Type 0} {l : List A} {p r : ℕ} (xs ys : List A) → Piece l p (xs ++ ys) r → drop (p + length xs) l ≡ ys ++ drop r l
behind_first {A = A} {l = l} {p = p} {r = r} xs ys h =
    sym (drop-drop (length xs) p l) ∙ ap (λ (zs : List A). drop (length xs) zs) (h.split ∙ append_assoc xs ys (drop r l)) ∙ drop-append_seam xs (ys ++ drop r l)

-- a piece in two
pub piece_first : {A : Type 0} {l : List A} {p r : ℕ} (xs ys : List A) → Piece l p (xs ++ ys) r → Piece l p xs (p + length xs)
piece_first {A = A} {l = l} {p = p} {r = r} xs ys h = record {
  split = h.split ∙ append_assoc xs ys (drop r l) ∙ ap (λ (zs : List A). xs ++ zs) (sym (behind_first xs ys h));
  ends = refl;
}

pub piece_second : {A : Type 0} {l : List A} {p r : ℕ} (xs ys : List A) → Piece l p (xs ++ ys) r → Piece l (p + length xs) ys r
piece_second xs ys h = record { split = behind_first xs ys h; ends = omega (arith, h.ends, length-append xs ys) }

-- it ends within the list, if it is not empty
pub piece_within : {A : Type 0} {l : List A} {p q : ℕ} {xs : List A} → Piece l p xs q → 0 < length xs → q ≤ length l
piece_within {l = l} {p = p} {q = q} {xs = xs} h some =
    omega (arith, length-drop p l, length-drop q l, ap length h.split, length-append xs (drop q l), h.ends)

-- its elements are the list's
pub piece_element : {A : Type 0} {l : List A} {p q : ℕ} {xs : List A} (d : A) (i j : ℕ) → j ≡ p + i → i < length xs → Piece l p xs q → get_or l j d ≡ get_or xs i d
piece_element {A = A} {l = l} {p = p} {q = q} {xs = xs} d i j e inside h =
    ap (λ (k : ℕ). get_or l k d) e ∙ sym (get_or-drop p l i d) ∙ ap (λ (ys : List A). get_or ys i d) h.split ∙ get_or-append xs (drop q l) d i inside

-- a whole list is the piece from its beginning to its end, and only that
pub piece_whole : {A : Type 0} (l : List A) → Piece l 0 l (length l)
piece_whole {A = A} l = record { split = sym (append-nil l) ∙ ap (λ (r : List A). l ++ r) (sym (drop-length l)); ends = omega arith }

pub whole_piece : {A : Type 0} {l xs : List A} → Piece l 0 xs (length l) → xs ≡ l
whole_piece {A = A} {l = l} {xs = xs} h = sym (h.split ∙ ap (λ (r : List A). xs ++ r) (drop-length l) ∙ append-nil xs)

-- n elements from the i-th on; past the end there are zeros
abbrev pub firsts : ℕ → ℕ → List ℕ → List ℕ
firsts i zero ns = []
firsts i (suc n) ns = get_or ns i 0 ∷ firsts (suc i) n ns

firsts_tail : (i n m : ℕ) (ms : List ℕ) → firsts (suc i) n (m ∷ ms) ≡ firsts i n ms
firsts_tail i zero m ms = refl
firsts_tail i (suc n) m ms = ap (λ (r : List ℕ). get_or ms i 0 ∷ r) (firsts_tail (suc i) n m ms)

-- a list is its elements
pub firsts_all : (ns : List ℕ) → ns ≡ firsts 0 (length ns) ns
firsts_all [] = refl
firsts_all (n ∷ ns) = ap (λ (r : List ℕ). n ∷ r) (firsts_all ns ∙ sym (firsts_tail 0 (length ns) n ns))
