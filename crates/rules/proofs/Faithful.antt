-- An accepted tree's encoding is the very bytes that were read. Assumes nothing.
use Prim.Native.Nat.{ℕ}
use mathlib.Core.List.{List}
use mathlib.Core.Path.{◌≡◌}
use Rattle.rules.specs.Outcome.{ok}
use Rattle.rules.specs.Tree.{Tree}
use Rattle.rules.specs.Encode.{tree_bytes}
use Rattle.rules.specs.FirstWalk.{tree_at}
use Rattle.rules.specs.Range.{Bytes}
use Rattle.rules.proofs.After.{after_ok}
use Rattle.rules.proofs.Lists.{whole_piece}
use Rattle.rules.proofs.Accepted.{good_tree}

pub read_is_faithful : (s : List ℕ) (t : Tree) → Bytes s → tree_at s ≡ ok t → tree_bytes t ≡ s
read_is_faithful s t bytes e = whole_piece (after_ok (good_tree s bytes) e).0
