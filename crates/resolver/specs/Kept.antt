-- What is kept of the open frames and the log of their captures between calls. Assumes nothing.
use Rattle.std.specs.Prelude.{List, ◌≡◌, ℕ, ◌*◌, ◌≤◌, ◌<◌, length}
use Rattle.table_rows.specs.Entries.{number}
use Rattle.table_captures.specs.Meaning.{logged_at, captures_of, SmallSource}

-- of the first n frames, whatever stands above them: the tables hold them, a frame's captures stand from its `captures_from` on,
-- which rises from frame to frame, and slots fit sixteen bits
pub record KeptBelow (n : ℕ) (frames : List ℕ) (count : ℕ) (captures : List ℕ) : Type 0 where
  pub frames_fit : 16 * n ≤ length frames
  pub captures_fit : 16 * count ≤ length captures
  pub from_within : (f : ℕ) → f < n → number frames f 3 ≤ count
  pub from_rises : (f g : ℕ) → f < g → g < n → number frames f 3 ≤ number frames g 3
  pub from_first : (f i : ℕ) → f < n → i < count → (logged_at captures i).owner ≡ f → number frames f 3 ≤ i
  pub few_locals : (f : ℕ) → f < n → number frames f 2 ≤ 65535
  pub few_captures : (f : ℕ) → f < n → length (captures_of f count captures) ≤ 65536
  pub small_sources : (i : ℕ) → i < count → SmallSource captures i

abbrev pub Owned : (n count : ℕ) → (captures : List ℕ) → Type 0
Owned n count captures = (i : ℕ) → i < count → (logged_at captures i).owner < n

-- of all open frames: the log has no other captures
pub record Kept (n : ℕ) (frames : List ℕ) (count : ℕ) (captures : List ℕ) : Type 0 where
  pub below : KeptBelow n frames count captures
  pub owned : Owned n count captures
