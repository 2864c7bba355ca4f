-- Laws of one round over the references, for any loop. Assumes nothing.
use Prim.Native.Nat.{ℕ, ◌+◌, ◌*◌, ◌≤◌, ◌<◌}
use mathlib.Core.Bool.{Bool, false, ◌||◌}
use mathlib.Core.List.{List, [], ◌∷◌}
use mathlib.Core.Path.{◌≡◌, sym, ap, ◌∙◌}
use native.Mathlib.Numerals.{add-one}
use native.Mathlib.Omega.{arith}
use lib.ListN.{length, drop_of_length-le}
use lib.Seq.{drop-cons}
use Rattle.rules.specs.Settling.{Round, Loop, one_round}
use Rattle.table_locals.specs.Meaning.{locals_of}
use Rattle.table_references.specs.Meaning.{reference, refers, references_of, reference_at}
use Rattle.table_references.specs.declared.Reference.{Reference}
use Rattle.table_references.proofs.Keeping.{length_references}
use Rattle.settling.specs.Meaning.{references_between, Below, Inside, round, Propagates, OneRound}
use Rattle.settling.specs.Changed.{Ors}

-- The references that are left

module _ (references : List ℕ) where
  one_more : (k to : ℕ) → k < to → references_between k to references ≡ reference_at (references_of to references) k ∷ references_between (k + 1) to references
  unfolding references_between reference_at
  one_more k to more =
      let inside : k < length (references_of to references) = omega (arith, length_references to references) in
      rw (add-one k) (drop-cons (references_of to references) k (reference 0 0) inside)

  no_more : (k to : ℕ) → to ≤ k → references_between k to references ≡ []
  unfolding references_between
  no_more k to h = let past : length (references_of to references) ≤ k = omega (arith, length_references to references) in drop_of_length-le (references_of to references) past

-- The round

-- at k, with t for the table now: what is left of the round gives what the whole gives
pub record Turn (loop : Loop) (references locals : List ℕ) (from to : ℕ) (t : List ℕ) (changed : Bool) (k : ℕ) : Type 0 where
  pub size : length t ≡ length locals
  pub left_below : (n : ℕ) → Below n (references_between from to references) → Below n (references_between k to references)
  pub same : (n : ℕ) → Below n (references_between from to references)
      → one_round loop (references_between k to references) (round (locals_of n t) changed) ≡ one_round loop (references_between from to references) (round (locals_of n locals) false)

module _ {loop : Loop} {references locals : List ℕ} {from to : ℕ} {t : List ℕ} {changed : Bool} {k : ℕ} (at : Turn loop references locals from to t changed k) where
  pub round_ends : to ≤ k → OneRound loop (references_between from to references) locals t changed
  unfolding one_round
  round_ends h = record { same = λ n below. rw (no_more references k to h) at (at.same n below) }

  -- r is the reference that is read there
  module _ (more : k < to) (r : Reference) (read : (n : ℕ) → k < n → refers r ≡ reference_at (references_of n references) k) where
    next : references_between k to references ≡ refers r ∷ references_between (k + 1) to references
    next = rw (read to more) (one_more references k to more)

    here_below : (n : ℕ) → Below n (references_between from to references) → Below n (refers r ∷ references_between (k + 1) to references)
    here_below n below = rw next at (at.left_below n below)

    -- both locals of the reference have their entries
    pub both_inside : Inside locals references from to → (16 * r.user.0 + 16 ≤ length t) × (16 * r.used.0 + 16 ≤ length t)
    unfolding Below
    both_inside inside =
        let below = here_below inside.entries inside.below in
        (omega (arith, below.0, inside.locals_long, at.size), omega (arith, below.1, inside.locals_long, at.size))

    pub round_goes_on : {t' : List ℕ} {now_changed : Bool} → Ors loop → length t' ≡ length t → Propagates loop t t' r.user.0 r.used.0 now_changed
        → Turn loop references locals from to t' (changed || now_changed) (k + 1)
    unfolding Below one_round
    round_goes_on {t'} {now_changed} ors size propagates = record {
      size = size ∙ at.size;
      left_below = λ n below. (here_below n below).2;
      same = λ n below.
          ap (one_round loop (references_between (k + 1) to references))
          (ap (λ (now : Round). round now.locals (changed || now.changed)) (propagates.same n (here_below n below).0 (here_below n below).1)
          ∙ sym (ors (locals_of n t) changed (refers r)))
          ∙ ap (λ refs. one_round loop refs (round (locals_of n t) changed)) (sym next)
          ∙ at.same n below;
    }
