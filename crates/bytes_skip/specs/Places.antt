-- Where a record, an expression, and a record with the expressions below it end, without the tree that they are read to. Marks stand by their numbers. Assumes nothing.
use Rattle.std.specs.Prelude.{ℕ, zero, suc, ◌+◌, ◌≤◌, List, ◌≡◌, length, eqb, leb}
use Rattle.rules.specs.Outcome.{Outcome, ok, refuse, ◌>>=◌, need}
use Rattle.rules.specs.Numbers.{Mark, code_at, numbers_at}
use Rattle.rules.specs.Records.{fields, numbers_of, size_of, all_in_range}
use Rattle.rules.specs.FirstWalk.{Allowed, any_expression, expr_at}
use Rattle.bytes_records.specs.Marks.{mark_of, children}

-- the place after what was read
unfoldable pub past : {A : Type 0} → Outcome (A × ℕ) → Outcome ℕ
past (ok a) = ok a.1
past (refuse number place) = refuse number place

-- n times a step
unfoldable pub over : ℕ → (ℕ → Outcome ℕ) → ℕ → Outcome ℕ
over zero step p = ok p
over (suc n) step p = do
  q ← step p
  over n step q

-- the place after a record that lies within the tree
pub record Within (s : List ℕ) (mark p q : ℕ) : Type 0 where
  pub size : q ≡ p + size_of (mark_of mark)
  pub fits : q ≤ length s

module _ (s : List ℕ) where
  -- "fields missing (1), 3": the place after a record with this mark
  unfoldable pub judged_at : Mark → ℕ → Outcome ℕ
  judged_at m p = do
    _ ← need (leb (p + size_of m) (length s)) 1 p
    _ ← need (all_in_range (fields m) (numbers_at s (numbers_of m) (p + 2))) 3 p
    ok (p + size_of m)

  -- a record of one mark
  unfoldable pub expected_at : ℕ → ℕ → Outcome ℕ
  expected_at mark p = do
    _ ← need (leb (p + 2) (length s)) 1 p
    _ ← need (eqb (code_at s p) mark) 2 p
    judged_at (mark_of mark) p

  -- an expression, and n of them
  unfoldable pub expr_past : ℕ → Allowed → ℕ → Outcome ℕ
  expr_past nest a p = past (expr_at s nest a p)

  unfoldable pub exprs_past : ℕ → ℕ → ℕ → Outcome ℕ
  exprs_past nest n q = over n (expr_past nest any_expression) q

  -- the expressions below the record at p, from q on
  unfoldable pub below_past : ℕ → ℕ → ℕ → ℕ → Outcome ℕ
  below_past nest mark p q = exprs_past nest (children (mark_of mark) (numbers_at s (numbers_of (mark_of mark)) (p + 2))) q

  -- `PA`, `FH`, `NA`, `PT`, `AT` or `BV`, and the expressions below it
  unfoldable pub held_past : ℕ → ℕ → ℕ → Outcome ℕ
  held_past nest mark p = do
    q ← expected_at mark p
    below_past nest mark p q
