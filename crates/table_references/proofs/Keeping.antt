-- Laws of notes, of references and of keeping the noted ones. Assumes nothing.
use Prim.Native.Nat.{ℕ, zero, suc, ◌+◌, ◌*◌, ◌≤◌, ◌<◌}
use mathlib.Core.Bool.{Bool, true, false}
use mathlib.Core.List.{List, [], ◌∷◌, ◌++◌, map, append-nil}
use mathlib.Core.Path.{◌≡◌, refl, sym, ap, ◌∙◌}
use native.Mathlib.Numerals.{add-one}
use native.Mathlib.Omega.{arith}
use lib.ListN.{length, get_or, take, drop, set, length-append, length-set, drop_of_length-le}
use lib.Seq.{append_snoc, drop-cons, drop-set-lt, take-suc, take-suc-set, take_all, get_or-set_same, get_or-set_other}
use Rattle.rules.specs.Outcome.{choose}
use Rattle.rules.specs.Numbers.{is_set}
use Rattle.rules.specs.Locals.{LocalDefinition, local_at, no_local, with_scratch_referenced, noted, without_notes}
use Rattle.rules.specs.Settling.{Reference}
use Rattle.table_rows.specs.Rows.{row}
use Rattle.table_rows.proofs.Laws.{row_at, row_set, row_beside, length_entries, entries_at, put_stored, put_behind}
use Rattle.table_locals.specs.Meaning.{local_of_row, locals_of}
use Rattle.table_locals.specs.Tables.{PutLocal}
use Rattle.table_locals.proofs.Laws.{length_locals, locals_at, local_stored}
use Rattle.rules.proofs.Flags.{set_of}
use Rattle.table_references.specs.Meaning.{reference, reference_of_row, references_of, reference_at}
use Rattle.table_references.specs.Tables.{PutReference, NoneNoted, with_noted, cleared, AllKept}

-- Notes

note_at : (k : ℕ) (t : List ℕ) → (local_of_row (row k t)).scratch_referenced ≡ is_set (get_or t (16 * k + 7) 0)
unfolding local_of_row
note_at k t = ap is_set (row_at k 7 t (omega arith))

-- an entry with 0 for its note
cleared_row : (r : List ℕ) → local_of_row (set r 7 0) ≡ with_scratch_referenced false (local_of_row r)
unfolding local_of_row with_scratch_referenced is_set
cleared_row [] = refl
cleared_row (a ∷ []) = refl
cleared_row (a ∷ b ∷ []) = refl
cleared_row (a ∷ b ∷ c ∷ []) = refl
cleared_row (a ∷ b ∷ c ∷ d ∷ []) = refl
cleared_row (a ∷ b ∷ c ∷ d ∷ e ∷ []) = refl
cleared_row (a ∷ b ∷ c ∷ d ∷ e ∷ f ∷ []) = refl
cleared_row (a ∷ b ∷ c ∷ d ∷ e ∷ f ∷ g ∷ []) = refl
cleared_row (a ∷ b ∷ c ∷ d ∷ e ∷ f ∷ g ∷ h ∷ r) = refl

note_cleared : (k : ℕ) (t : List ℕ) → PutLocal t (set t (16 * k + 7) 0) k (with_scratch_referenced false (local_of_row (row k t)))
note_cleared k t =
    local_stored k t (set t (16 * k + 7) 0) (λ i differs. row_beside i k 7 0 t (omega arith) differs) (with_scratch_referenced false (local_of_row (row k t)))
    (length-set t (16 * k + 7) 0) (ap local_of_row (row_set k 7 0 t (omega arith)) ∙ cleared_row (row k t))

-- a local without a note
unnoted : (l : LocalDefinition) → l.scratch_referenced ≡ false → with_scratch_referenced false l ≡ l
unfolding with_scratch_referenced
unnoted l e = ap (λ (b : Bool). with_scratch_referenced b l) (sym e)

-- References

pub length_references : (n : ℕ) (t : List ℕ) → length (references_of n t) ≡ n
unfolding references_of
length_references n t = length_entries reference_of_row n t

pub references_at : (n k : ℕ) (t : List ℕ) → k < n → reference_at (references_of n t) k ≡ reference_of_row (row k t)
unfolding reference_at references_of
references_at n k t h = entries_at reference_of_row n k t (reference 0 0) h

-- the two numbers of an entry
pub reference_read : (n k : ℕ) (t : List ℕ) → k < n → reference (get_or t (16 * k) 0) (get_or t (16 * k + 1) 0) ≡ reference_at (references_of n t) k
unfolding reference_of_row
reference_read n k t h =
    let at : 16 * k + 0 ≡ 16 * k = omega arith in
    sym (references_at n k t h ∙ rw (row_at k 0 t (omega arith), row_at k 1 t (omega arith), at))

pub reference_put : (k user used : ℕ) (t : List ℕ) → 16 * k + 16 ≤ length t → PutReference t (set (set t (16 * k) user) (16 * k + 1) used) k (reference user used)
unfolding references_of reference_of_row
reference_put k user used t inside =
    let u = set t (16 * k) user in
    let v = set u (16 * k + 1) used in
    let at : 16 * k ≡ 16 * k + 0 = omega arith in
    let first : get_or (row k v) 0 0 ≡ user =
    row_at k 0 v (omega arith)
    ∙ get_or-set_other u (16 * k + 1) (16 * k + 0) used 0 (λ e. omega arith)
    ∙ ap (λ (i : ℕ). get_or u i 0) (sym at)
    ∙ get_or-set_same t (16 * k) user 0 (omega arith) in
    let second : get_or (row k v) 1 0 ≡ used = row_at k 1 v (omega arith) ∙ get_or-set_same u (16 * k + 1) used 0 (omega (arith, length-set t (16 * k) user)) in
    put_stored reference_of_row references_of (λ n t. refl) k t v
    (λ i differs. row_beside i k 1 used u (omega arith) differs ∙ ap (λ (m : ℕ). row i (set t m user)) at ∙ row_beside i k 0 user t (omega arith) differs) (reference user used)
    (length-set u (16 * k + 1) used ∙ length-set t (16 * k) user) (rw (first, second))

-- one more after the first k
reference_added : (k : ℕ) (t u : List ℕ) (r : Reference) → PutReference t u k r → references_of (k + 1) u ≡ references_of k t ++ (r ∷ [])
unfolding references_of
reference_added k t u r put = put_behind reference_of_row references_of (λ n t. refl) k t u r put

-- One local further

module _ (user k : ℕ) (ls : List LocalDefinition) (inside : k < length ls) where
  rest : drop k ls ≡ local_at ls k ∷ drop (suc k) ls
  unfolding local_at
  rest = drop-cons ls k no_local inside

  -- where it is noted

  with_noted_kept : (refs : List Reference) → (local_at ls k).scratch_referenced ≡ true
      → with_noted user (suc k) (set ls k (with_scratch_referenced false (local_at ls k))) (refs ++ (reference user k ∷ [])) ≡ with_noted user k ls refs
  unfolding with_noted noted choose
  with_noted_kept refs e =
      rw (drop-set-lt (suc k) ls k (with_scratch_referenced false (local_at ls k)) (omega arith), rest, e)
      (append_snoc refs (reference user k) (map (reference user) (noted (suc k) (drop (suc k) ls))))

  with_noted_longer : (refs : List Reference) → (local_at ls k).scratch_referenced ≡ true → length refs < length (with_noted user k ls refs)
  unfolding with_noted noted choose
  with_noted_longer refs e = rw (rest, e, length-append) (omega arith)

  cleared_kept : cleared (suc k) (set ls k (with_scratch_referenced false (local_at ls k))) ≡ cleared k ls
  unfolding cleared without_notes
  cleared_kept =
      let l = with_scratch_referenced false (local_at ls k) in
      rw (drop-set-lt (suc k) ls k l (omega arith), take-suc-set ls k l inside, rest)
      (append_snoc (take k ls) l (map (with_scratch_referenced false) (drop (suc k) ls)))

  -- where it is not

  with_noted_passed : (refs : List Reference) → (local_at ls k).scratch_referenced ≡ false → with_noted user (suc k) ls refs ≡ with_noted user k ls refs
  unfolding with_noted noted choose
  with_noted_passed refs e = rw (rest, e)

  cleared_passed : (local_at ls k).scratch_referenced ≡ false → cleared (suc k) ls ≡ cleared k ls
  unfolding cleared without_notes local_at
  cleared_passed e =
      rw (take-suc ls k no_local inside, rest, unnoted (local_at ls k) e)
      (append_snoc (take k ls) (local_at ls k) (map (with_scratch_referenced false) (drop (suc k) ls)))

-- past the last

with_noted_none : (user k : ℕ) (ls : List LocalDefinition) (refs : List Reference) → length ls ≤ k → with_noted user k ls refs ≡ refs
unfolding with_noted noted
with_noted_none user k ls refs h = rw (drop_of_length-le ls h) (append-nil refs)

cleared_none : (k : ℕ) (ls : List LocalDefinition) → length ls ≤ k → cleared k ls ≡ ls
unfolding cleared without_notes
cleared_none k ls h = rw (drop_of_length-le ls h) (append-nil (take k ls) ∙ take_all k ls h)

-- The loop

-- at k, with t and u for the tables now: what is left to keep and to clear gives what the whole gives
pub record Keeping (locals references : List ℕ) (user first total kept limit : ℕ) (t u : List ℕ) (count k : ℕ) : Type 0 where
  pub reached : k ≤ total
  pub fits : count ≤ limit
  pub locals_size : length t ≡ length locals
  pub references_size : length u ≡ length references
  pub same_kept : with_noted user k (locals_of total t) (references_of count u) ≡ with_noted user first (locals_of total locals) (references_of kept references)
  pub same_cleared : cleared k (locals_of total t) ≡ cleared first (locals_of total locals)

pub keeping_begins : {locals references : List ℕ} {user first total kept limit : ℕ} → first ≤ total → kept ≤ limit
    → Keeping locals references user first total kept limit locals references kept first
keeping_begins reached fits = record { reached = reached; fits = fits; locals_size = refl; references_size = refl; same_kept = refl; same_cleared = refl }

module _ {locals references : List ℕ} {user first total kept limit : ℕ} {t u : List ℕ} {count k : ℕ} (at : Keeping locals references user first total kept limit t u count k) where
  pub keeping_ends : total ≤ k → AllKept locals t references u user first total kept limit count
  keeping_ends h =
      let past : length (locals_of total t) ≤ k = omega (arith, length_locals total t) in
      record {
        fits = at.fits;
        references_are = sym (with_noted_none user k (locals_of total t) (references_of count u) past) ∙ at.same_kept;
        locals_are = sym (cleared_none k (locals_of total t) past) ∙ at.same_cleared;
      }

  module _ (more : k < total) where
    inside : k < length (locals_of total t)
    inside = omega (arith, length_locals total t)

    note_here : (local_at (locals_of total t) k).scratch_referenced ≡ is_set (get_or t (16 * k + 7) 0)
    note_here = ap (λ l. l.scratch_referenced) (locals_at total k t more) ∙ note_at k t

    pub keeping_passed : get_or t (16 * k + 7) 0 ≡ 0 → Keeping locals references user first total kept limit t u count (k + 1)
    unfolding is_set
    keeping_passed e =
        let unset : (local_at (locals_of total t) k).scratch_referenced ≡ false = note_here ∙ ap is_set e in
        record {
          reached = omega arith;
          fits = at.fits;
          locals_size = at.locals_size;
          references_size = at.references_size;
          same_kept = rw (add-one k) (with_noted_passed user k (locals_of total t) inside (references_of count u) unset ∙ at.same_kept);
          same_cleared = rw (add-one k) (cleared_passed user k (locals_of total t) inside unset ∙ at.same_cleared);
        }

    module _ (noted : get_or t (16 * k + 7) 0 ≡ 0 → ⊥) where
      set_here : (local_at (locals_of total t) k).scratch_referenced ≡ true
      set_here = note_here ∙ set_of noted

      pub keeping_kept : {u' : List ℕ} → PutReference u u' count (reference user k) → count < limit
          → Keeping locals references user first total kept limit (set t (16 * k + 7) 0) u' (count + 1) (k + 1)
      keeping_kept {u'} stored room =
          let added = reference_added count u u' (reference user k) stored in
          let put = note_cleared k t in
          let after : locals_of total (set t (16 * k + 7) 0) ≡ set (locals_of total t) k (with_scratch_referenced false (local_at (locals_of total t) k)) =
          put.held total more ∙ ap (λ l. set (locals_of total t) k (with_scratch_referenced false l)) (sym (locals_at total k t more)) in
          record {
            reached = omega arith;
            fits = omega arith;
            locals_size = put.size ∙ at.locals_size;
            references_size = stored.size ∙ at.references_size;
            same_kept = rw (added, add-one k, after) (with_noted_kept user k (locals_of total t) inside (references_of count u) set_here ∙ at.same_kept);
            same_cleared = rw (add-one k, after) (cleared_kept user k (locals_of total t) inside ∙ at.same_cleared);
          }

      pub keeping_refused : limit ≤ count → limit < length (with_noted user first (locals_of total locals) (references_of kept references))
      keeping_refused full = omega (arith, length_references count u, with_noted_longer user k (locals_of total t) inside (references_of count u) set_here, ap length at.same_kept)

-- Four locals further

module _ {locals references : List ℕ} {user first total kept limit : ℕ} {t u : List ℕ} {count k : ℕ} (begun : Keeping locals references user first total kept limit t u count k) where
  -- so many locals without notes
  keeping_passes : (n : ℕ) → k + n ≤ total → ((j : ℕ) → k ≤ j → j < k + n → get_or t (16 * j + 7) 0 ≡ 0) → Keeping locals references user first total kept limit t u count (k + n)
  keeping_passes zero few none = let here : k + 0 ≡ k = omega arith in rw here begun
  keeping_passes (suc n) few none =
      let one_more : k + suc n ≡ k + n + 1 = omega arith in
      rw one_more (keeping_passed (keeping_passes n (omega arith) (λ j after before. none j after (omega arith))) (omega arith) (none (k + n) (omega arith) (omega arith)))

  pub four_passed : NoneNoted t k total → Keeping locals references user first total kept limit t u count (k + 4)
  four_passed four = keeping_passes 4 four.inside four.none
