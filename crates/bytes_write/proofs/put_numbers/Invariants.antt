-- The invariant: the first i are stored, and the length is as it was. Assumes nothing.
use Rattle.std.proofs.Common.{◌≡◌, length, take}
use Rattle.std.proofs.lemmas.List.Edits.{sets}
use Rattle.rules.specs.Numbers.{numbers_bytes}
use Rattle.bytes_write.proofs.put_numbers.Given as goal

abbrev pub invariant-loop-i : goal.invariant-loop-i
invariant-loop-i l = (length l.out ≡ length l.fn.out) × (l.out ≡ sets l.fn.out l.at (numbers_bytes (take l.i l.ns)))
