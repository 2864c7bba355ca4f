-- The first walk as it goes from place to place, without the tree that it reads. Marks stand by their numbers. Assumes nothing.
use Rattle.std.specs.Prelude.{ℕ, zero, suc, ◌+◌, ◌*◌, ◌-◌, List, ◌≡◌, eqb, ltb}
use Rattle.rules.specs.Outcome.{Outcome, ok, ◌>>=◌, need, choose}
use Rattle.rules.specs.Numbers.{number_at, is_set, code, FN, OB}
use Rattle.rules.specs.FirstWalk.{Allowed, any_expression, function_only, object_only, constants_at, bind_item, expr_at}
use Rattle.bytes_records.specs.Marks.{mark_of}
use Rattle.bytes_records.specs.Constants.{is_some}
use Rattle.bytes_skip.specs.Places.{past, over, judged_at, expr_past, exprs_past, below_past, held_past}

-- a step that ends somewhere
pub record Ends (o : Outcome ℕ) : Type 0 where
  pub place : ℕ
  pub there : o ≡ ok place

-- the two marks that stand alone where one of them is asked for
pub data Lone (mark : ℕ) : Type 0 where
  a_function : mark ≡ code FN → Lone mark
  an_object : mark ≡ code OB → Lone mark

unfoldable pub lone : ℕ → Allowed
lone mark = choose (eqb mark (code FN)) (λ _. function_only) (λ _. object_only)

module _ (s : List ℕ) where
  -- an expression's own record: it is whole and in range, and a level is left for it
  unfoldable pub opened_at : ℕ → ℕ → ℕ → Outcome ℕ
  opened_at nest mark p = do
    q ← judged_at s (mark_of mark) p
    _ ← need (ltb 0 nest) 4 p
    ok q

  -- `BV` or `BF`, and its value
  unfoldable pub bind_past : ℕ → ℕ → Outcome ℕ
  bind_past nest p = past (bind_item s (expr_at s nest) p)

  -- a field's value, with its head's place
  unfoldable pub value_past : ℕ → ℕ → ℕ → Outcome ℕ
  value_past nest h p = expr_past s nest (choose (is_set (number_at s (h + 22))) (λ _. function_only) (λ _. any_expression)) p

  -- the values of n fields, whose heads, each an `FH`, are read again beside them
  unfoldable pub values_past : ℕ → ℕ → ℕ → ℕ → Outcome ℕ
  values_past nest zero h p = ok p
  values_past nest (suc n) h p = do
    next ← held_past s nest 0x4648 h
    q ← value_past nest h p
    values_past nest n next q

  -- Expressions by their kinds; a mark's number is its first letter times 256, and its second

  -- `UN`, `BI`, `AS`, `ER`, `IF` and `SC` have expressions below them and nothing else
  unfoldable pub plain_past : ℕ → ℕ → ℕ → Outcome ℕ
  plain_past nest mark p = do
    q ← opened_at nest mark p
    below_past s (nest - 1) mark p q

  -- `AR`: constants, or items
  unfoldable pub array_past : ℕ → ℕ → Outcome ℕ
  array_past nest p = do
    q ← opened_at nest 0x4152 p
    let n = number_at s (p + 2)
    choose (is_some (constants_at s n q)) (λ _. ok (q + 6 * n)) (λ _. exprs_past s (nest - 1) n q)

  -- `OX`: a base and an `OB`
  unfoldable pub extended_past : ℕ → ℕ → Outcome ℕ
  extended_past nest p = do
    q ← opened_at nest 0x4f58 p
    q ← expr_past s (nest - 1) any_expression q
    expr_past s (nest - 1) (lone 0x4f42) q

  -- `LO`: binds and a body
  unfoldable pub local_past : ℕ → ℕ → Outcome ℕ
  local_past nest p = do
    q ← opened_at nest 0x4c4f p
    q ← over (number_at s (p + 2)) (bind_past (nest - 1)) q
    expr_past s (nest - 1) any_expression q

  -- `AP`: a callee and values, then each `NA`
  unfoldable pub call_past : ℕ → ℕ → Outcome ℕ
  call_past nest p = do
    q ← opened_at nest 0x4150 p
    q ← exprs_past s (nest - 1) (1 + number_at s (p + 2)) q
    over (number_at s (p + 6)) (held_past s (nest - 1) 0x4e41) q

  -- `IX`: a value, then each `PT`
  unfoldable pub index_past : ℕ → ℕ → Outcome ℕ
  index_past nest p = do
    q ← opened_at nest 0x4958 p
    q ← expr_past s (nest - 1) any_expression q
    over (number_at s (p + 2)) (held_past s (nest - 1) 0x5054) q

  -- `FN`: each `PA`, then a body
  unfoldable pub function_past : ℕ → ℕ → Outcome ℕ
  function_past nest p = do
    q ← opened_at nest 0x464e p
    q ← over (number_at s (p + 6)) (held_past s (nest - 1) 0x5041) q
    expr_past s (nest - 1) any_expression q

  -- `OB`: each `FH`, binds, each `AT`, then the values
  unfoldable pub object_past : ℕ → ℕ → Outcome ℕ
  object_past nest p = do
    heads ← opened_at nest 0x4f42 p
    q ← over (number_at s (p + 10)) (held_past s (nest - 1) 0x4648) heads
    q ← over (number_at s (p + 2)) (bind_past (nest - 1)) q
    q ← over (number_at s (p + 6)) (held_past s (nest - 1) 0x4154) q
    values_past (nest - 1) (number_at s (p + 10)) heads q
