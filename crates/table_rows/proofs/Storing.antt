-- The store of an entry's first four numbers. Assumes nothing.
use mathlib.Core.Path.{◌≡◌, sym, ap, ◌∙◌}
use mathlib.Core.List.{List}
use Prim.Native.Nat.{ℕ, ◌+◌, ◌*◌, ◌≤◌, ◌<◌}
use native.Mathlib.Omega.{arith}
use lib.ListN.{length, get_or}
use borrow.Rule.Slice.PartMut.{put_mid}
use Rattle.table_rows.specs.Rows.{row}
use Rattle.table_rows.proofs.Laws.{row_at, length_after, here_after, others_after}
use Rattle.table_rows.specs.Entries.{number, Stored}

pub stored : (t : List ℕ) (i n : ℕ) (a b : List ℕ) → 16 * i + 4 ≤ length t → n ≡ 4 → length a ≡ 4 → b ≡ a → Stored t (put_mid (16 * i) n t b) i a
unfolding number
stored t i n a b inside four size same =
    let few : 4 ≤ 16 = omega arith in
    rw (four, same) record { here = here_after i 4 t a few inside size; others = others_after i 4 t a few inside size; long = length_after i 4 t a few inside size }

-- the numbers of an entry that has not changed
pub number_same : (k j : ℕ) (t u : List ℕ) → row k u ≡ row k t → j < 16 → number u k j ≡ number t k j
unfolding number
number_same k j t u e h = sym (row_at k j u h) ∙ ap (λ (r : List ℕ). get_or r j 0) e ∙ row_at k j t h
