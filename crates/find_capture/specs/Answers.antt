-- What the searches answer. Assumes nothing.
use Rattle.std.specs.Prelude.{List, [], ◌∷◌, ◌++◌, ◌≡◌, ℕ, ◌-◌, ◌≤◌, ◌<◌, length, Option, Some, None, Result, Ok, Err}
use Rattle.std.proofs.Math.Option as rules_option
use Rattle.std.proofs.Math.Option.{some, none}
use Rattle.rules.specs.Frames as rules
use Rattle.table_captures.specs.Meaning.{slot, logged_at, captures_of}
use Rattle.table_captures.specs.declared.CaptureSlot.{CaptureSlot}
use Rattle.table_captures.specs.declared.LSlot.{LSlot}

abbrev pub found : Result CaptureSlot ℕ → rules_option.Option ℕ
found (Ok k) = some k.0
found (Err k) = none

abbrev pub Counts : Result CaptureSlot ℕ → ℕ → Type 0
Counts (Ok k) n = k.0 < n
Counts (Err k) n = k ≡ n

-- an id looked for among a frame's captures
pub record Searched (r : Result CaptureSlot ℕ) (captures : List ℕ) (owner count id : ℕ) : Type 0 where
  pub same : found r ≡ rules.capture_of id 0 (captures_of owner count captures)
  pub counts : Counts r (length (captures_of owner count captures))

-- the owner's captures up to where the log goes on are those up to `at` and one more, or there is none
abbrev pub Follows : Option (ℕ × LSlot) → (captures : List ℕ) → (owner at count : ℕ) → Type 0
Follows (Some (i, s)) captures owner at count =
    (at < i) × (i ≤ count)
    × (captures_of owner i captures ≡ captures_of owner at captures ++ (record { target = (logged_at captures (i - 1)).capture.target; source = slot s } ∷ []))
Follows None captures owner at count = captures_of owner count captures ≡ captures_of owner at captures
