-- `defining` answers the frame that the top frame defines in. The loop's invariant: the frames below the next one define where all do. Assumes nothing.
use Rattle.std.proofs.Common.{List, ℕ, ◌≡◌}
use Rattle.resolver.specs.Meaning.{frames_of}
use Rattle.rules.specs.Frames as rules
use Rattle.resolver.proofs.defining.Given as goal

abbrev pub invariant-loop-i : goal.invariant-loop-i
invariant-loop-i l = (count : ℕ) (captures : List ℕ) → rules.defining (frames_of l.n l.frames count captures) ≡ rules.defining (frames_of l.i l.frames count captures)
