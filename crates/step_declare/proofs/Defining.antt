-- Defining a name that is taken is error 2. Assumes nothing.
use Prim.Native.Nat.{ℕ}
use mathlib.Core.Bool.{true}
use mathlib.Core.Path.{◌≡◌}
use Rattle.rules.specs.Outcome.{choose}
use Rattle.rules.specs.Records.{Span}
use Rattle.rules.specs.State.{Limits, AnalysisStack}
use Rattle.rules.specs.Writing.{error, report}
use Rattle.rules.specs.Scoping.{is_taken, define_local}

pub defined_twice : (limits : Limits) (place name : ℕ) (span : Span) (depth : ℕ) (st : AnalysisStack) → is_taken name st ≡ true
    → define_local limits place name span depth st ≡ report limits place error 2 name span st
unfolding define_local choose
defined_twice limits place name span depth st e = rw (e, define_local)
