-- What a slot and the log of all open frames' captures mean, and a frame's captures in the log. Assumes nothing.
use Rattle.std.specs.Prelude.{Bool, List, [], ◌∷◌, ◌++◌, map, ℕ, zero, suc, ◌≤◌, get_or, eqb}
use Rattle.rules.specs.Outcome.{choose}
use Rattle.rules.specs.Frames as rules
use Rattle.rules.specs.Writing.{slot_number}
use Rattle.table_rows.specs.Rows.{row, rows}
use Rattle.table_captures.specs.declared.LSlot.{LSlot}
use Rattle.table_captures.specs.declared.LSlot.TheVariants as slot_is
use Rattle.table_captures.specs.declared.Capture.{Capture}

unfoldable pub slot : LSlot → rules.LSlot
slot (slot_is.Local s) = rules.local_slot s.0
slot (slot_is.Capture s) = rules.capture_slot s.0

-- a slot as two numbers: its kind, 0 a local and 1 a capture, and its own
unfoldable pub slot_kind : rules.LSlot → ℕ
slot_kind (rules.local_slot n) = 0
slot_kind (rules.capture_slot n) = 1

unfoldable pub slot_of : (kind own : ℕ) → rules.LSlot
slot_of zero own = rules.local_slot own
slot_of (suc kind) own = rules.capture_slot own

-- an entry of the log: the frame that captured, by its position, and the capture
pub record Logged : Type 0 where
  pub owner : ℕ
  pub capture : rules.Capture

abbrev pub taking : (owner target : ℕ) → (source : rules.LSlot) → Logged
taking owner target source = record { owner = owner; capture = record { target = target; source = source } }

unfoldable pub logged : Capture → Logged
logged c = taking c.owner c.target.0 (slot c.source)

-- that of an entry's numbers; the other twelve are unused
unfoldable pub logged_of_row : List ℕ → Logged
logged_of_row r = taking (get_or r 0 0) (get_or r 1 0) (slot_of (get_or r 2 0) (get_or r 3 0))

unfoldable pub logged_at : (captures : List ℕ) → ℕ → Logged
logged_at captures i = logged_of_row (row i captures)

-- the log's first n entries, the oldest first
unfoldable pub log_of : ℕ → List ℕ → List Logged
log_of n captures = map logged_of_row (rows n captures)

unfoldable pub log_at : List Logged → ℕ → Logged
log_at log i = get_or log i (taking 0 0 (rules.local_slot 0))

unfoldable pub if_owned : Bool → rules.Capture → List rules.Capture
if_owned b c = choose b (λ _. c ∷ []) (λ _. [])

-- the owner's among the captures of a log
unfoldable pub taken_by : (owner : ℕ) → List Logged → List rules.Capture
taken_by owner [] = []
taken_by owner (e ∷ log) = if_owned (eqb e.owner owner) e.capture ++ taken_by owner log

-- the owner's among the log's first `count`
unfoldable pub captures_of : (owner count : ℕ) → (captures : List ℕ) → List rules.Capture
captures_of owner count captures = taken_by owner (log_of count captures)

-- the source of an entry of the log fits sixteen bits
abbrev pub SmallSource : (captures : List ℕ) → ℕ → Type 0
SmallSource captures i = slot_number (logged_at captures i).capture.source ≤ 65535
