-- Laws of what a record judged by its mark gives. Assumes nothing.
use Prim.Native.Nat.{ℕ, ◌+◌, ◌≤◌, ◌<◌}
use mathlib.Core.Bool.{true, false}
use mathlib.Core.List.{List}
use mathlib.Core.Path.{◌≡◌}
use lib.ListN.{length}
use borrow.Author.Tests.{le-leb, lt-leb}
use Rattle.rules.specs.Outcome.{ok, refuse, ◌>>=◌, need}
use Rattle.rules.specs.Numbers.{Mark, numbers_at}
use Rattle.rules.specs.Records.{fields, numbers_of, size_of, all_in_range}
use Rattle.bytes_skip.specs.Places.{judged_at}

module _ (s : List ℕ) (m : Mark) (p : ℕ) where
  pub judged_short : length s < p + size_of m → refuse 1 p ≡ judged_at s m p
  unfolding judged_at ◌>>=◌ need
  judged_short h = rw (lt-leb _ _ h)

  module _ (h : p + size_of m ≤ length s) where
    pub judged_wrong : all_in_range (fields m) (numbers_at s (numbers_of m) (p + 2)) ≡ false → refuse 3 p ≡ judged_at s m p
    unfolding judged_at ◌>>=◌ need
    judged_wrong e = rw (le-leb _ _ h, e)

    pub judged_right : all_in_range (fields m) (numbers_at s (numbers_of m) (p + 2)) ≡ true → ok (p + size_of m) ≡ judged_at s m p
    unfolding judged_at ◌>>=◌ need
    judged_right e = rw (le-leb _ _ h, e)
