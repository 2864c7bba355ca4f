-- A record that fits and whose bytes stand at a place is read there as it is. Assumes nothing.
use Prim.Native.Nat.{ℕ, ◌+◌, ◌*◌, ◌≤◌}
use native.Mathlib.Omega.{arith}
use mathlib.Core.Bool.{true}
use mathlib.Core.List.{List, [], ◌∷◌, ◌++◌}
use mathlib.Core.Path.{◌≡◌, refl}
use lib.ListN.{length}
use lib.Dec.{leb}
use borrow.Author.Tests.{le-leb}
use Rattle.rules.specs.Outcome.{ok, ◌>>=◌, need}
use Rattle.rules.specs.Numbers.{Mark, mark_bytes, number_bytes, numbers_bytes, numbers_at, record_bytes}
use Rattle.rules.specs.Records.{numbers_of, size_of}
use Rattle.rules.specs.FirstWalk.{allowed, record_at}
use Rattle.rules.specs.Range.{RecordFits}
use Rattle.rules.proofs.Lists.{Piece, piece_first, piece_second, piece_within}
use Rattle.rules.proofs.Spelling.{code_back, numbers_back}

pub numbers_length : (ns : List ℕ) → length (numbers_bytes ns) ≡ 4 * length ns
unfolding numbers_bytes number_bytes
numbers_length [] = refl
numbers_length (n ∷ ns) = omega (arith, numbers_length ns)

record_length : {A : Type 0} {table : List (Mark × A)} {m : Mark} {row : A} {ns : List ℕ} → RecordFits table m row ns → length (record_bytes m ns) ≡ size_of m
unfolding record_bytes mark_bytes size_of
record_length {ns = ns} fits = omega (arith, numbers_length ns, fits.counted)

pub record_back : {A : Type 0} {s : List ℕ} {table : List (Mark × A)} {p : ℕ} {m : Mark} {row : A} {ns : List ℕ} {q : ℕ}
    → RecordFits table m row ns → Piece s p (record_bytes m ns) q → record_at s table p ≡ ok (record { mark = m; row = row; numbers = ns; next = q })
unfolding record_at record_bytes mark_bytes size_of ◌>>=◌ need allowed
record_back {s = s} {p = p} {m = m} {ns = ns} {q = q} fits h =
    let inside : q ≤ length s = piece_within h (omega arith) in
    let behind : q ≡ p + (2 + 4 * numbers_of m) = omega (arith, h.ends, numbers_length ns, fits.counted) in
    let enough : leb (p + 2) (length s) ≡ true = le-leb (p + 2) (length s) (omega arith) in
    let whole : leb (p + (2 + 4 * numbers_of m)) (length s) ≡ true = le-leb _ (length s) (omega arith) in
    let same : numbers_at s (numbers_of m) (p + 2) ≡ ns = rw fits.counted at (numbers_back ns fits.numbers (piece_second (mark_bytes m) (numbers_bytes ns) h)) in
    rw (enough, code_back m (piece_first (mark_bytes m) (numbers_bytes ns) h), fits.known, whole, same, fits.judged, behind)

-- what stands after a record, and the record
pub record_cut : {A : Type 0} {s : List ℕ} {table : List (Mark × A)} {p : ℕ} {m : Mark} {row : A} {ns : List ℕ} {q : ℕ} (ys : List ℕ)
    → RecordFits table m row ns → Piece s p (record_bytes m ns ++ ys) q → Piece s p (record_bytes m ns) (p + size_of m) × Piece s (p + size_of m) ys q
record_cut {m = m} {ns = ns} ys fits h =
    (rw (record_length fits) at (piece_first (record_bytes m ns) ys h), rw (record_length fits) at (piece_second (record_bytes m ns) ys h))
