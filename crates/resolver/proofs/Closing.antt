-- Closing the top frame: the entries passed that are not its own stand close together, in their order. Assumes nothing.
use mathlib.Core.Path.{◌≡◌, refl, sym, ap, ◌∙◌}
use mathlib.Core.Logic.{⊎_elim}
use mathlib.Core.List.{List, [], ◌∷◌, ◌++◌}
use Prim.Native.Nat.{ℕ, suc, ◌+◌, ◌-◌, ◌≤◌, ◌<◌}
use native.Mathlib.Omega.{arith}
use native.Mathlib.Numerals.{add-one}
use native.Mathlib.Decide.{dec_lt}
use lib.ListN.{length}
use Rattle.rules.specs.Frames as rules
use Rattle.rules.specs.Writing.{slot_number}
use Rattle.table_rows.specs.Entries.{number}
use Rattle.table_captures.specs.Meaning.{Logged, logged, logged_at, log_at, log_of, captures_of, SmallSource}
use Rattle.table_captures.specs.Answers.{PutCapture}
use Rattle.table_captures.specs.declared.Capture.{Capture}
use Rattle.resolver.specs.Kept.{Kept}
use Rattle.resolver.specs.Answers.{Closed}
use Rattle.table_captures.proofs.Laws.{eq_or_not, log_at_is, logged_here, logged_beside, captures_mine, captures_other, captures_put, captures_put_other}
use Rattle.resolver.proofs.Laws.{frames_top, frames_agree, below_or_top}

-- i entries of the log were passed, and `to` of them stay
pub record Closing (top from count : ℕ) (before now : List ℕ) (to i : ℕ) : Type 0 where
  pub started : from ≤ to
  pub behind : to ≤ i
  pub within : i ≤ count
  pub long : length now ≡ length before
  pub ahead : (k : ℕ) → i ≤ k → logged_at now k ≡ logged_at before k
  pub older : (k : ℕ) → k < from → logged_at now k ≡ logged_at before k
  pub stay : (f : ℕ) → (f ≡ top → ⊥) → captures_of f to now ≡ captures_of f i before
  pub owned : (k : ℕ) → k < to → (logged_at now k).owner < top
  pub small : (k : ℕ) → k < to → SmallSource now k

module _ (n : ℕ) (frames : List ℕ) (count : ℕ) (before : List ℕ) (kept : Kept n frames count before) (pos : 0 < n)
    (from : ℕ) (opened : from ≡ number frames (n - 1) 3) where
  -- an entry that is not the top frame's is one of a frame beneath
  beneath_top : (i : ℕ) → i < count → ((logged_at before i).owner ≡ n - 1 → ⊥) → (logged_at before i).owner < n - 1
  beneath_top i lt ne = omega (arith, kept.owned i lt, ne)

  pub closing_begin : Closing (n - 1) from count before before from from
  closing_begin = record {
    started = omega arith;
    behind = omega arith;
    within = omega (arith, opened, kept.below.from_within (n - 1) (omega arith));
    long = refl;
    ahead = λ k le. refl;
    older = λ k lt. refl;
    stay = λ f ne. refl;
    owned = λ k lt. beneath_top k (omega (arith, opened, kept.below.from_within (n - 1) (omega arith)))
        (λ e. omega (arith, opened, kept.below.from_first (n - 1) k (omega arith) (omega (arith, opened, kept.below.from_within (n - 1) (omega arith))) e));
    small = λ k lt. kept.below.small_sources k (omega (arith, opened, kept.below.from_within (n - 1) (omega arith)));
  }

  module _ (now : List ℕ) (to i : ℕ) (c : Closing (n - 1) from count before now to i) where
    -- the entry that comes next is as it was
    next_same : logged_at now i ≡ logged_at before i
    next_same = c.ahead i (omega arith)

    owner_same : (logged_at now i).owner ≡ (logged_at before i).owner
    owner_same = ap (λ (e : Logged). e.owner) next_same

    pub closing_skip : i < count → (logged_at now i).owner ≡ n - 1 → Closing (n - 1) from count before now to (i + 1)
    closing_skip lt mine = record {
      started = c.started;
      behind = omega (arith, c.behind);
      within = omega arith;
      long = c.long;
      ahead = λ k le. c.ahead k (omega arith);
      older = c.older;
      stay = λ f ne. c.stay f ne ∙ rw (add-one i) (sym (captures_other f i before (λ e. ne (sym e ∙ sym owner_same ∙ mine))));
      owned = c.owned;
      small = c.small;
    }

    pub next_small : i < count → SmallSource now i
    next_small lt = rw next_same (kept.below.small_sources i lt)

    module _ (lt : i < count) (other : (logged_at now i).owner ≡ n - 1 → ⊥) (after : List ℕ) (entry : Capture)
        (read : (m : ℕ) → i < m → logged entry ≡ log_at (log_of m now) i) (put : PutCapture now after to (logged entry)) where
      -- what is put is the entry that comes next
      moved : logged entry ≡ logged_at before i
      moved = read (suc i) (omega arith) ∙ log_at_is (suc i) i now (omega arith) ∙ next_same

      stored : PutCapture now after to (logged_at before i)
      stored = rw (sym moved) put

      here : logged_at after to ≡ logged_at before i
      here = logged_here now after to (logged_at before i) stored

      beside : (k : ℕ) → (k ≡ to → ⊥) → logged_at after k ≡ logged_at now k
      beside = logged_beside now after to (logged_at before i) stored

      moved_stay : (f : ℕ) → (f ≡ n - 1 → ⊥) → captures_of f (suc to) after ≡ captures_of f (suc i) before
      moved_stay f ne = ⊎_elim
          (λ mine. captures_put now after to (logged_at before i) stored f mine
          ∙ ap (λ (l : List rules.Capture). l ++ ((logged_at before i).capture ∷ [])) (c.stay f ne) ∙ sym (captures_mine f i before mine))
          (λ differs. captures_put_other now after to (logged_at before i) stored f differs ∙ c.stay f ne ∙ sym (captures_other f i before differs))
          (eq_or_not (logged_at before i).owner f)

      pub closing_move : Closing (n - 1) from count before after (to + 1) (i + 1)
      closing_move = record {
        started = omega (arith, c.started);
        behind = omega (arith, c.behind);
        within = omega arith;
        long = put.size ∙ c.long;
        ahead = λ k le. beside k (λ e. omega (arith, c.behind)) ∙ c.ahead k (omega arith);
        older = λ k l. beside k (λ e. omega (arith, c.started)) ∙ c.older k l;
        stay = λ f ne. rw (add-one to, add-one i) (moved_stay f ne);
        owned = λ k l. ⊎_elim
            (λ less. rw (beside k (λ e. omega arith)) (c.owned k less))
            (λ e. omega (arith, beneath_top i lt (λ same. other (owner_same ∙ same)), ap (λ (l : Logged). l.owner) (ap (logged_at after) e ∙ here))) (below_or_top k to (omega arith));
        small = λ k l. ⊎_elim
            (λ less. rw (beside k (λ e. omega arith)) (c.small k less))
            (λ e. omega (arith, kept.below.small_sources i lt, ap (λ (l : Logged). slot_number l.capture.source) (ap (logged_at after) e ∙ here)))
            (below_or_top k to (omega arith));
      }

    pub closing_end : i ≡ count → Closed n frames count before to now
    unfolding rules.beneath
    closing_end done = record {
      same = rw (frames_top frames count before n pos) (frames_agree (n - 1) frames frames count to before now (λ f j lt l. refl) stays);
      kept = record {
        below = record {
          frames_fit = omega (arith, kept.below.frames_fit);
          captures_fit = omega (arith, kept.below.captures_fit, c.long, c.behind, c.within);
          from_within = λ f lt. omega (arith, opened, c.started, kept.below.from_rises f (n - 1) lt (omega arith));
          from_rises = λ f g fg lt. kept.below.from_rises f g fg (omega arith);
          from_first = λ f k lt l e. placed f k lt l e (dec_lt k from);
          few_locals = λ f lt. kept.below.few_locals f (omega arith);
          few_captures = λ f lt. rw (stays f lt) (kept.below.few_captures f (omega arith));
          small_sources = c.small;
        };
        owned = c.owned;
      };
    }
      where
        stays : (f : ℕ) → f < n - 1 → captures_of f to now ≡ captures_of f count before
        stays f lt = c.stay f (λ e. omega arith) ∙ ap (λ (x : ℕ). captures_of f x before) done

        placed : (f k : ℕ) → f < n - 1 → k < to → (logged_at now k).owner ≡ f → Dec (k < from) → number frames f 3 ≤ k
        placed f k lt l e (yes old) = kept.below.from_first f k (omega arith) (omega (arith, c.behind, c.within)) (ap (λ (e : Logged). e.owner) (sym (c.older k old)) ∙ e)
        placed f k lt l e (no new) = omega (arith, opened, kept.below.from_rises f (n - 1) lt (omega arith))
