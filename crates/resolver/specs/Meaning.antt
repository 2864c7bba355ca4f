-- The open frames that the two tables mean, newest first. Assumes nothing.
use Rattle.std.specs.Prelude.{List, [], ◌∷◌, ℕ, zero, suc, eqb}
use Rattle.rules.specs.Frames as rules
use Rattle.table_rows.specs.Entries.{number}
use Rattle.table_captures.specs.Meaning.{captures_of}

-- an entry of the frames: whether it is defining, its first local, how many locals, and the log's length when it was opened
unfoldable pub frame_of : (frames : List ℕ) → (count : ℕ) → (captures : List ℕ) → ℕ → rules.ClosureFrame
frame_of frames count captures i = record {
  is_defining = eqb (number frames i 0) 1;
  first_local = number frames i 1;
  n_locals = number frames i 2;
  captures = captures_of i count captures;
}

-- the first n frames, newest first
unfoldable pub frames_of : (n : ℕ) → (frames : List ℕ) → (count : ℕ) → (captures : List ℕ) → List rules.ClosureFrame
frames_of zero frames count captures = []
frames_of (suc n) frames count captures = frame_of frames count captures n ∷ frames_of n frames count captures
