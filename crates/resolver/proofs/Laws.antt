-- Laws of the open frames: the top one, where they define, the same frames in other tables. Assumes nothing.
use mathlib.Core.Path.{◌≡◌, refl, sym, ap, ◌∙◌}
use mathlib.Core.Logic.{◌⊎◌, inl, inr}
use mathlib.Core.List.{List, ◌∷◌}
use Prim.Native.Nat.{ℕ, zero, suc, ◌-◌, ◌≤◌, ◌<◌}
use native.Mathlib.Omega.{arith}
use lib.ListN.{length}
use native.Mathlib.Decide.{dec_lt}
use borrow.Author.Tests.{eq-eqb, ne_eqb}
use Rattle.rules.specs.Outcome.{choose}
use Rattle.rules.specs.Frames as rules
use Rattle.table_rows.specs.Entries.{number}
use Rattle.table_frames.specs.Answers.{FrameAt}
use Rattle.table_frames.specs.declared.Frame.{Frame}
use Rattle.table_captures.specs.Meaning.{captures_of}
use Rattle.resolver.specs.Meaning.{frame_of, frames_of}
use Rattle.resolver.specs.Answers.{Home, NoHome}

pub length_frames : (n : ℕ) (frames : List ℕ) (count : ℕ) (captures : List ℕ) → length (frames_of n frames count captures) ≡ n
unfolding frames_of
length_frames zero frames count captures = refl
length_frames (suc n) frames count captures = ap suc (length_frames n frames count captures)

module _ (frames : List ℕ) (count : ℕ) (captures : List ℕ) where
  pub frames_top : (n : ℕ) → 0 < n → frames_of n frames count captures ≡ frame_of frames count captures (n - 1) ∷ frames_of (n - 1) frames count captures
  unfolding frames_of
  frames_top zero h = absurd (omega arith)
  frames_top (suc n) h = let e : suc n - 1 ≡ n = omega arith in rw e

  pub defining_here : (n : ℕ) → 0 < n → number frames (n - 1) 0 ≡ 1 → rules.defining (frames_of n frames count captures) ≡ frame_of frames count captures (n - 1)
  unfolding rules.defining frame_of choose
  defining_here n h e = rw (frames_top n h, eq-eqb (number frames (n - 1) 0) 1 e)

  pub defining_beneath : (n : ℕ) → 0 < n → (number frames (n - 1) 0 ≡ 1 → ⊥)
      → rules.defining (frames_of n frames count captures) ≡ rules.defining (frames_of (n - 1) frames count captures)
  unfolding rules.defining frame_of choose
  defining_beneath n h ne = rw (frames_top n h, ne_eqb (number frames (n - 1) 0) 1 ne)

  pub defining_none : (n : ℕ) → n ≡ 0 → rules.defining (frames_of n frames count captures) ≡ rules.no_frame
  unfolding rules.defining frames_of
  defining_none n e = rw e

-- where the first n frames define is where the first i do
module _ (frames : List ℕ) (n i : ℕ) (same_home : (count : ℕ) (captures : List ℕ) → rules.defining (frames_of n frames count captures) ≡ rules.defining (frames_of i frames count captures)) where
  pub home_here : (f : Frame) → 0 < i → number frames (i - 1) 0 ≡ 1 → FrameAt frames (i - 1) f → number frames (i - 1) 2 ≤ 65535 → Home frames n f
  unfolding frame_of
  home_here f pos is at few = record {
    first = λ count captures. ap (λ (h : rules.ClosureFrame). h.first_local) (same_home count captures ∙ defining_here frames count captures i pos is) ∙ sym at.first;
    locals = λ count captures. ap (λ (h : rules.ClosureFrame). h.n_locals) (same_home count captures ∙ defining_here frames count captures i pos is) ∙ sym at.locals;
    few = rw at.locals few;
  }

  pub home_nowhere : i ≡ 0 → NoHome frames n
  home_nowhere none_left count captures = same_home count captures ∙ defining_none frames count captures i none_left

-- the same frames in other tables
pub frames_agree : (n : ℕ) (frames frames' : List ℕ) (count count' : ℕ) (captures captures' : List ℕ)
    → ((f j : ℕ) → f < n → j < 4 → number frames' f j ≡ number frames f j) → ((f : ℕ) → f < n → captures_of f count' captures' ≡ captures_of f count captures)
    → frames_of n frames' count' captures' ≡ frames_of n frames count captures
unfolding frames_of frame_of
frames_agree zero frames frames' count count' captures captures' numbers owned = refl
frames_agree (suc n) frames frames' count count' captures captures' numbers owned =
    rw (
      frames_agree n frames frames' count count' captures captures' (λ f j lt. numbers f j (omega arith)) (λ f lt. owned f (omega arith)),
      owned n (omega arith),
      numbers n 0 (omega arith) (omega arith),
      numbers n 1 (omega arith) (omega arith),
      numbers n 2 (omega arith) (omega arith),
    )

pub below_or_top : (f n : ℕ) → f < suc n → (f < n) ⊎ (f ≡ n)
below_or_top f n h = by (dec_lt f n)
  where
    by : Dec (f < n) → (f < n) ⊎ (f ≡ n)
    by (yes lt) = inl lt
    by (no ge) = inr (omega arith)
