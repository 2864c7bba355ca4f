-- What is reached over the records of an output is reached over its bytes. Assumes nothing.
use Prim.Native.Nat.{ℕ}
use mathlib.Core.List.{List, reverse}
use mathlib.Core.Option.{some}
use mathlib.Core.Path.{◌≡◌}
use Rattle.rules.specs.Numbers.{Record, records_bytes}
use Rattle.rules.specs.Tree.{Tree}
use Rattle.claim_scope.specs.Scope.{Meant}
use Rattle.claim_reach.specs.Decode.{◌>>=◌}
use Rattle.claim_reach.specs.Reach.{reach_records, reaches}
use Rattle.claim_reach.proofs.Decoding.{AllFit, records_decoded}

pub reaches_bytes : (t : Tree) (out : List ℕ) (rs : List Record) (ms : List Meant) → out ≡ records_bytes rs → AllFit rs → reach_records t (reverse rs) ≡ some ms → reaches t out ≡ some ms
unfolding reaches ◌>>=◌
reaches_bytes t out rs ms e fit walked = rw (e, records_decoded rs fit) walked
