-- What the functions answer and leave. Assumes nothing.
use Rattle.std.specs.Prelude.{Bool, true, false, List, ◌∷◌, ◌⊎◌, ◌≡◌, ℕ, suc, ◌+◌, ◌-◌, ◌≤◌, ◌<◌, Option, Some, None, Result, Ok, Err}
use Rattle.rules.specs.Outcome.{Outcome, ok, refuse}
use Rattle.rules.specs.Frames as rules
use Rattle.rules.specs.Writing.{slot_number}
use Rattle.refusal.specs.Meaning.{number_of}
use Rattle.refusal.specs.declared.Reason.{Reason}
use Rattle.refusal.specs.declared.Reason.TheVariants as reason
use Rattle.table_frames.specs.declared.Frame.{Frame}
use Rattle.table_captures.specs.Meaning.{slot, taking, logged_at, captures_of}
use Rattle.table_captures.specs.Answers.{PutCapture}
use Rattle.table_captures.specs.declared.LocalSlot.{LocalSlot}
use Rattle.table_captures.specs.declared.LSlot.{LSlot}
use Rattle.resolver.specs.Meaning.{frames_of}
use Rattle.resolver.specs.Kept.{KeptBelow, Kept, Owned}

-- a new frame stands on the others
pub record Opened (before after : List ℕ) (n : ℕ) (is_defining : Bool) (first_local n_locals count : ℕ) : Type 0 where
  pub same : (captures : List ℕ) → Owned n count captures
      → frames_of (suc n) after count captures ≡ rules.new_frame is_defining first_local n_locals ∷ frames_of n before count captures
  pub kept : (captures : List ℕ) → Kept n before count captures → Kept (suc n) after count captures

-- the first id and the number of locals of the frame that the first n define in
pub record Home (frames : List ℕ) (n : ℕ) (f : Frame) : Type 0 where
  pub first : (count : ℕ) (captures : List ℕ) → (rules.defining (frames_of n frames count captures)).first_local ≡ f.first_local
  pub locals : (count : ℕ) (captures : List ℕ) → (rules.defining (frames_of n frames count captures)).n_locals ≡ f.n_locals
  pub few : f.n_locals ≤ 65535

-- none of the first n frames is one that they define in
abbrev pub NoHome : (frames : List ℕ) → (n : ℕ) → Type 0
NoHome frames n = (count : ℕ) (captures : List ℕ) → rules.defining (frames_of n frames count captures) ≡ rules.no_frame

-- the slot of an id where the first n frames define it, which takes a frame
abbrev pub HeldBy : Option LocalSlot → (frames : List ℕ) → (n id : ℕ) → Type 0
HeldBy (Some s) frames n id =
    (0 < n)
    × ((count : ℕ) (captures : List ℕ) → rules.holds (rules.defining (frames_of n frames count captures)) id ≡ true)
    × ((count : ℕ) (captures : List ℕ) → s.0 ≡ rules.slot_in (rules.defining (frames_of n frames count captures)) id)
HeldBy None frames n id = (count : ℕ) (captures : List ℕ) → rules.holds (rules.defining (frames_of n frames count captures)) id ≡ false

-- what resolving answers: a slot and the log's length now, or a reason to refuse
abbrev pub Resolved : Type 0
Resolved = Result (LSlot × ℕ) Reason

abbrev pub seen : Resolved → (place n : ℕ) → (frames captures : List ℕ) → Outcome rules.Resolved
seen (Ok (s, count)) place n frames captures = ok (record { slot = slot s; frames = frames_of n frames count captures })
seen (Err why) place n frames captures = refuse (number_of why) place

-- the log after resolving in the n-th frame: the frames above it have what they had
pub record Grown (n : ℕ) (frames : List ℕ) (count count' : ℕ) (before after : List ℕ) : Type 0 where
  pub kept : KeptBelow n frames count' after
  pub more : count ≤ count'
  pub others : (f : ℕ) → n ≤ f → captures_of f count' after ≡ captures_of f count before
  pub theirs : (f i : ℕ) → n ≤ f → i < count' → (logged_at after i).owner ≡ f → (i < count) × ((logged_at before i).owner ≡ f)
  pub summed : rules.count_captures (frames_of n frames count' after) + count ≡ rules.count_captures (frames_of n frames count before) + count'

abbrev pub Left : Resolved → (n : ℕ) → (frames : List ℕ) → (count : ℕ) → (before after : List ℕ) → Type 0
Left (Ok (s, count')) n frames count before after = Grown n frames count count' before after
Left (Err why) n frames count before after = Unit {0}

-- resolving in the n-th frame; `above` is what the frames above it have captured
pub record Resolves (r : Resolved) (n : ℕ) (frames : List ℕ) (count : ℕ) (before after : List ℕ) (most id : ℕ) : Type 0 where
  pub same : (place above : ℕ) → above + rules.count_captures (frames_of n frames count before) ≡ count
      → seen r place n frames after ≡ rules.resolve_at most place above id (frames_of n frames count before)
  pub left : Left r n frames count before after

-- the slot of the frame beneath put after the log as a capture, or refused: 12 before 8
abbrev pub CapturedFrom : (source : LSlot) (count : ℕ) → Resolved → (before after : List ℕ) → (most owner k id : ℕ) → Type 0
CapturedFrom source count (Ok (s, count')) before after most owner k id =
    (slot s ≡ rules.capture_slot k) × (k ≤ 65535) × (count < most) × (count' ≡ suc count) × (slot_number (slot source) ≤ 65535)
    × PutCapture before after count (taking owner id (slot source))
CapturedFrom source count (Err why) before after most owner k id =
    ((65535 < k) × (why ≡ reason.TooManyCaptures)) ⊎ ((k ≤ 65535) × (most ≤ count) × (why ≡ reason.CaptureLimit))

abbrev pub KeptAfter : Resolved → (n : ℕ) → (frames captures : List ℕ) → Type 0
KeptAfter (Ok (s, count)) n frames captures = Kept n frames count captures
KeptAfter (Err why) n frames captures = Unit {0}

-- resolving in the top frame
pub record ResolvesToSlot (r : Resolved) (n : ℕ) (frames : List ℕ) (count : ℕ) (before after : List ℕ) (most id : ℕ) : Type 0 where
  pub same : (place : ℕ) → seen r place n frames after ≡ rules.resolve_to_slot most place id (frames_of n frames count before)
  pub kept : KeptAfter r n frames after

-- the top frame is gone, with what it had captured
pub record Closed (n : ℕ) (frames : List ℕ) (count : ℕ) (before : List ℕ) (count' : ℕ) (after : List ℕ) : Type 0 where
  pub same : frames_of (n - 1) frames count' after ≡ rules.beneath (frames_of n frames count before)
  pub kept : Kept (n - 1) frames count' after
