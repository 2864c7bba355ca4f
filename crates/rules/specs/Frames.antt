-- Frames, resolving and captures (`ClosureFrame`, `DefiningClosure`, `resolve_at`). Assumes nothing.
use Rattle.std.specs.Prelude.{ℕ, suc, ◌+◌, ◌-◌, Bool, true, ◌&&◌, List, [], ◌∷◌, ◌++◌, length, ltb, leb, eqb}
use Rattle.std.proofs.Math.Option.{Option, none, some}
use Rattle.rules.specs.Outcome.{choose, given, Outcome, ok, ◌>>=◌, need}

-- "`LSlot` stays a choice of the two slot kinds"
pub data LSlot : Type 0 where
  local_slot capture_slot : (number : ℕ) → LSlot

-- a capture: the id of the local that is captured, and where the frame beneath has it
pub record Capture : Type 0 where
  pub target : ℕ
  pub source : LSlot

-- "Frames are defining (root, `LO`, `FN`, `OB`) or using." A frame's locals are `n_locals` from the id `first_local` on; a using frame has none
pub record ClosureFrame : Type 0 where
  pub is_defining : Bool
  pub first_local : ℕ
  pub n_locals : ℕ
  pub captures : List Capture

unfoldable pub new_frame : Bool → (first_local n_locals : ℕ) → ClosureFrame
new_frame is_defining first n = record { is_defining = is_defining; first_local = first; n_locals = n; captures = [] }

-- what stands beneath the root, so that looking a frame up is total
unfoldable pub no_frame : ClosureFrame
no_frame = new_frame true 0 0

-- frames stand newest first

unfoldable pub top : List ClosureFrame → ClosureFrame
top [] = no_frame
top (f ∷ fs) = f

unfoldable pub beneath : List ClosureFrame → List ClosureFrame
beneath [] = []
beneath (f ∷ fs) = fs

-- the top frame if it is defining, and else "the nearest defining frame beneath"
unfoldable pub defining : List ClosureFrame → ClosureFrame
defining [] = no_frame
defining (f ∷ fs) = choose f.is_defining (λ _. f) (λ _. defining fs)

-- the frame defined this id
unfoldable pub holds : ClosureFrame → ℕ → Bool
holds f id = leb f.first_local id && ltb id (f.first_local + f.n_locals)

-- "an id the frame defined with its distance from the frame's first as slot"
unfoldable pub slot_in : ClosureFrame → ℕ → ℕ
slot_in f id = id - f.first_local

-- "Else a recorded capture of the id": its number, counted from k
unfoldable pub capture_of : ℕ → ℕ → List Capture → Option ℕ
capture_of id k [] = none
capture_of id k (c ∷ cs) = choose (eqb id c.target) (λ _. some k) (λ _. capture_of id (suc k) cs)

-- "that answer is appended to this frame's captures"
unfoldable pub with_capture : ℕ → LSlot → ClosureFrame → ClosureFrame
with_capture id source f = record {
  is_defining = f.is_defining;
  first_local = f.first_local;
  n_locals = f.n_locals;
  captures = f.captures ++ (record { target = id; source = source } ∷ []);
}

unfoldable pub with_one_more_local : ClosureFrame → ClosureFrame
with_one_more_local f = record { is_defining = f.is_defining; first_local = f.first_local; n_locals = suc f.n_locals; captures = f.captures }

-- "captures in open frames"
unfoldable pub count_captures : List ClosureFrame → ℕ
count_captures [] = 0
count_captures (f ∷ fs) = length f.captures + count_captures fs

-- the resolver's answer: the slot, and the frames with what they have captured
pub record Resolved : Type 0 where
  pub slot : LSlot
  pub frames : List ClosureFrame

-- "Resolving in a frame", the first of these; `above` counts the captures of the frames above it.
-- "frames are filled from the outermost inward, 12 before 8"; `most` is C
unfoldable pub resolve_at : (most place above id : ℕ) → List ClosureFrame → Outcome Resolved
resolve_at most p above id [] = ok (record { slot = local_slot 0; frames = [] })
resolve_at most p above id (f ∷ fs) =
    let home = defining (f ∷ fs) in
    choose (holds home id)
    (λ _. ok (record { slot = local_slot (slot_in home id); frames = f ∷ fs }))
    (λ _. given (capture_of id 0 f.captures)
    (λ _. do
      let k = length f.captures
      parent ← resolve_at most p (above + k) id fs
      _ ← need (ltb k 65536) 12 p
      _ ← need (ltb (above + k + count_captures parent.frames) most) 8 p
      ok (record { slot = capture_slot k; frames = with_capture id parent.slot f ∷ parent.frames }))
    (λ k. ok (record { slot = capture_slot k; frames = f ∷ fs })))

unfoldable pub resolve_to_slot : (most place id : ℕ) → List ClosureFrame → Outcome Resolved
resolve_to_slot most p id fs = resolve_at most p 0 id fs
