-- What an entry of the frames says. Assumes nothing.
use Rattle.std.specs.Prelude.{List, ◌≡◌, ℕ, eqb}
use Rattle.table_rows.specs.Entries.{number}
use Rattle.table_frames.specs.declared.Frame.{Frame}

pub record FrameAt (frames : List ℕ) (i : ℕ) (f : Frame) : Type 0 where
  pub defining : f.is_defining ≡ eqb (number frames i 0) 1
  pub first : f.first_local ≡ number frames i 1
  pub locals : f.n_locals ≡ number frames i 2
  pub from : f.captures_from ≡ number frames i 3
