-- The records of an output are had back from its bytes. Assumes nothing.
use Prim.Native.Nat.{ℕ, zero, suc, ◌+◌, ◌*◌, ◌≤◌}
use native.Mathlib.Omega.{arith}
use mathlib.Core.Bool.{false}
use mathlib.Core.List.{List, [], ◌∷◌, ◌++◌, append_assoc, append-nil}
use mathlib.Core.Option.{some}
use mathlib.Core.Path.{◌≡◌, refl, sym, ap, ◌∙◌}
use lib.ListN.{length, drop, length-append}
use lib.Seq.{drop-append_seam}
use borrow.Author.Tests.{le-leb}
use Rattle.rules.specs.Outcome.{choose}
use Rattle.rules.specs.Numbers.{Mark, Record, AC, SH, code, code_at, mark_bytes, number_bytes, numbers_bytes, record_bytes, records_bytes}
use Rattle.rules.specs.Records.{out_fields, widths, width, no_tail}
use Rattle.rules.specs.Range.{Numbers}
use Rattle.rules.proofs.Lists.{Piece, piece_whole, piece_first, piece_second}
use Rattle.rules.proofs.Spelling.{number_back, numbers_back}
use Rattle.rules.proofs.RecordsBack.{numbers_length}
use Rattle.claim_reach.specs.Decode.{◌>>=◌, out_marks, mark_among, tail_count, out_count, is_end, decoded, out_records}

-- a record that an output may have, and that can be told from its bytes
pub record OutFits (r : Record) : Type 0 where
  pub known : mark_among (code r.0) out_marks ≡ some r.0
  pub small : Numbers r.1
  pub counted : (rest : List ℕ) → out_count r.0 (record_bytes r.0 r.1 ++ rest) ≡ length r.1

unfoldable pub AllFit : List Record → Type 0
AllFit [] = Unit {0}
AllFit (r ∷ rs) = OutFits r × AllFit rs

pub fit_append : (rs qs : List Record) → AllFit rs → AllFit qs → AllFit (rs ++ qs)
unfolding AllFit
fit_append [] qs h k = k
fit_append (r ∷ rs) qs h k = (h.0, fit_append rs qs h.1 k)

pub records_append : (rs qs : List Record) → records_bytes (rs ++ qs) ≡ records_bytes rs ++ records_bytes qs
unfolding records_bytes
records_append [] qs = refl
records_append (r ∷ rs) qs = ap (λ (s : List ℕ). record_bytes r.0 r.1 ++ s) (records_append rs qs) ∙ sym (append_assoc (record_bytes r.0 r.1) (records_bytes rs) (records_bytes qs))

pub record_one : (r : Record) → records_bytes (r ∷ []) ≡ record_bytes r.0 r.1
unfolding records_bytes
record_one r = append-nil _

record_length : (m : Mark) (ns : List ℕ) → length (record_bytes m ns) ≡ 2 + 4 * length ns
unfolding record_bytes mark_bytes
record_length m ns = omega (arith, numbers_length ns)

code_first : (m : Mark) (ns rest : List ℕ) → code_at (record_bytes m ns ++ rest) 0 ≡ code m
unfolding code_at record_bytes mark_bytes
code_first m ns rest = omega arith

-- the numbers' piece of a record with which a list begins
numbers_piece : (m : Mark) (ns rest : List ℕ) → Piece (record_bytes m ns ++ rest) 2 (numbers_bytes ns) (2 + length (numbers_bytes ns))
unfolding record_bytes mark_bytes
numbers_piece m ns rest = piece_first (numbers_bytes ns) rest (piece_second (mark_bytes m) (numbers_bytes ns ++ rest) (piece_whole (record_bytes m ns ++ rest)))

first_not_end : (m : Mark) (ns rest : List ℕ) → is_end (record_bytes m ns ++ rest) ≡ false
unfolding is_end record_bytes mark_bytes
first_not_end m ns rest = refl

first_decoded : (most : ℕ) (r : Record) (rest : List ℕ) (rs : List Record) → OutFits r → decoded most rest ≡ some rs
    → decoded (suc most) (record_bytes r.0 r.1 ++ rest) ≡ some (r ∷ rs)
unfolding decoded ◌>>=◌ choose
first_decoded most r rest rs fits e =
    let m = r.0 in
    let ns = r.1 in
    let s = record_bytes m ns ++ rest in
    let whole : 2 + 4 * length ns ≤ length s = omega (arith, length-append (record_bytes m ns) rest, record_length m ns) in
    let behind : drop (2 + 4 * length ns) s ≡ rest = ap (λ k. drop k s) (sym (record_length m ns)) ∙ drop-append_seam (record_bytes m ns) rest in
    rw (first_not_end m ns rest, code_first m ns rest, fits.known, fits.counted rest, le-leb _ _ whole, behind, e, numbers_back ns fits.small (numbers_piece m ns rest)) refl

all_decoded : (most : ℕ) (rs : List Record) → length rs ≤ most → AllFit rs → decoded most (records_bytes rs) ≡ some rs
unfolding records_bytes AllFit decoded is_end choose
all_decoded zero [] le h = refl
all_decoded (suc most) [] le h = refl
all_decoded zero (r ∷ rs) le h = absurd (omega arith)
all_decoded (suc most) (r ∷ rs) le h = first_decoded most r (records_bytes rs) rs h.0 (all_decoded most rs (omega arith) h.1)

few_records : (rs : List Record) → length rs ≤ length (records_bytes rs)
unfolding records_bytes
few_records [] = omega arith
few_records (r ∷ rs) = omega (arith, few_records rs, length-append (record_bytes r.0 r.1) (records_bytes rs), record_length r.0 r.1)

pub records_decoded : (rs : List Record) → AllFit rs → out_records (records_bytes rs) ≡ some rs
unfolding out_records
records_decoded rs h = all_decoded (length (records_bytes rs)) rs (few_records rs) h

-- Which records fit

-- one whose fields are all
pub fits_fields : (m : Mark) (ns : List ℕ) → mark_among (code m) out_marks ≡ some m → (out_fields m).1 ≡ no_tail → length ns ≡ widths (out_fields m).0 → Numbers ns → OutFits (m, ns)
unfolding out_count tail_count
fits_fields m ns known plain e small = record { known = known; small = small; counted = λ rest. rw (plain, e) (omega arith) }

-- an array of constants
pub fits_constants : (vs : List ℕ) → Numbers (length vs ∷ vs) → OutFits (AC, length vs ∷ vs)
unfolding out_count tail_count out_fields widths width mark_among out_marks code choose numbers_bytes Numbers
fits_constants vs small = record {
  known = refl;
  small = small;
  counted = λ rest. omega (arith, number_back (length vs) small.0 (piece_first (number_bytes (length vs)) (numbers_bytes vs) (numbers_piece AC (length vs ∷ vs) rest)));
}

-- a shape
pub fits_shape : (n k : ℕ) (pairs : List ℕ) → length pairs ≡ 2 * k → Numbers (n ∷ k ∷ pairs) → OutFits (SH, n ∷ k ∷ pairs)
unfolding out_count tail_count out_fields widths width mark_among out_marks code choose numbers_bytes Numbers number_bytes
fits_shape n k pairs e small = record {
  known = refl;
  small = small;
  counted = λ rest. omega (arith, e, number_back k small.1.0 (piece_first (number_bytes k) (numbers_bytes pairs) (piece_second (number_bytes n) (number_bytes k ++ numbers_bytes pairs) (numbers_piece SH (n ∷ k ∷ pairs) rest))));
}
