-- A new frame on the others is `new_frame` on them, and what was kept is kept. Assumes nothing.
use mathlib.Core.Path.{◌≡◌, refl, sym, ap}
use mathlib.Core.Logic.{⊎_elim}
use mathlib.Core.List.{List, [], ◌∷◌}
use Prim.Native.Nat.{ℕ, suc, ◌+◌, ◌*◌, ◌≤◌, ◌<◌}
use native.Mathlib.Omega.{arith}
use lib.ListN.{length}
use Rattle.rules.specs.Frames as rules
use Rattle.table_rows.specs.Entries.{number}
use Rattle.table_frames.specs.Answers.{FrameAt}
use Rattle.table_frames.specs.declared.Frame.{Frame}
use Rattle.table_captures.specs.Meaning.{captures_of}
use Rattle.resolver.specs.Meaning.{frame_of, frames_of}
use Rattle.resolver.specs.Kept.{Kept, Owned}
use Rattle.resolver.specs.Answers.{Opened}
use Rattle.table_captures.proofs.Laws.{captures_none}
use Rattle.resolver.proofs.Laws.{frames_agree, below_or_top}

module _ (before after : List ℕ) (n : ℕ) (frame : Frame) (at : FrameAt after n frame)
    (others : (k j : ℕ) → (k ≡ n → ⊥) → j < 16 → number after k j ≡ number before k j)
    (room : 16 * n + 16 ≤ length before) (long : length after ≡ length before) (few : frame.n_locals ≤ 65535) where
  -- the log's count when the frame was opened
  module _ (captures : List ℕ) (owned : Owned n frame.captures_from captures) where
    none_yet : captures_of n frame.captures_from captures ≡ []
    none_yet = captures_none n frame.captures_from captures (λ i lt e. omega (arith, owned i lt))

    beneath_same : (f j : ℕ) → f < n → j < 4 → number after f j ≡ number before f j
    beneath_same f j lt small = others f j (λ e. omega arith) (omega arith)

    same : frames_of (suc n) after frame.captures_from captures
        ≡ rules.new_frame frame.is_defining frame.first_local frame.n_locals ∷ frames_of n before frame.captures_from captures
    unfolding frames_of frame_of rules.new_frame
    same =
        rw (
          frames_agree n before after frame.captures_from frame.captures_from captures captures beneath_same (λ f lt. refl),
          none_yet,
          sym at.defining,
          sym at.first,
          sym at.locals,
        )

  kept : (captures : List ℕ) → Kept n before frame.captures_from captures → Kept (suc n) after frame.captures_from captures
  kept captures k = record {
    below = record {
      frames_fit = omega arith;
      captures_fit = k.below.captures_fit;
      from_within = λ f lt. ⊎_elim
          (λ l. rw (others f 3 (λ e. omega arith) (omega arith)) (k.below.from_within f l))
          (λ e. omega (arith, at.from, ap (λ (x : ℕ). number after x 3) e)) (below_or_top f n lt);
      from_rises = λ f g fg lt. ⊎_elim
          (λ l. rw (others f 3 (λ e. omega arith) (omega arith), others g 3 (λ e. omega arith) (omega arith)) (k.below.from_rises f g fg l))
          (λ e. omega (arith, at.from, ap (λ (x : ℕ). number after x 3) e, others f 3 (λ e. omega arith) (omega arith), k.below.from_within f (omega arith))) (below_or_top g n lt);
      from_first = λ f i lt il o. ⊎_elim
          (λ l. rw (others f 3 (λ e. omega arith) (omega arith)) (k.below.from_first f i l il o))
          (λ e. absurd (omega (arith, k.owned i il))) (below_or_top f n lt);
      few_locals = λ f lt. ⊎_elim
          (λ l. rw (others f 2 (λ e. omega arith) (omega arith)) (k.below.few_locals f l))
          (λ e. omega (arith, few, at.locals, ap (λ (x : ℕ). number after x 2) e)) (below_or_top f n lt);
      few_captures = λ f lt. ⊎_elim (k.below.few_captures f)
          (λ e. rw e (rw (none_yet captures k.owned) (omega arith))) (below_or_top f n lt);
      small_sources = k.below.small_sources;
    };
    owned = λ i lt. omega (arith, k.owned i lt);
  }

  pub opened : Opened before after n frame.is_defining frame.first_local frame.n_locals frame.captures_from
  opened = record { same = same; kept = kept }
