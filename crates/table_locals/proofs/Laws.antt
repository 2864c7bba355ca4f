-- Laws of flags, of entries as locals, and of a table in which one local was stored. Assumes nothing.
use Prim.Native.Nat.{ℕ, zero, suc, ◌+◌, ◌*◌, ◌-◌, ◌≤◌, ◌<◌, min}
use mathlib.Core.Bool.{Bool, true, false, not}
use mathlib.Core.List.{List, [], ◌∷◌, ◌++◌}
use mathlib.Core.Path.{◌≡◌, refl, sym, ap, ◌∙◌}
use native.Mathlib.Omega.{arith}
use lib.Dec.{eqb}
use Rattle.std.specs.Prelude.{Option, Some, None, is_some, unwrap_or}
use Rattle.std.specs.Bool.{then_some}
use lib.ListN.{length, set, take, drop, length-set}
use lib.Seq.{drop_at, length-take-le}
use borrow.Rule.Slice.PartMut.{put_mid}
use borrow.Author.Tests.{ne_eqb}
use Rattle.rules.specs.Outcome.{choose}
use Rattle.rules.specs.Numbers.{bit, is_set}
use Rattle.rules.specs.Locals as rules
use Rattle.rules.specs.Locals.{local_at, no_local}
use Rattle.table_rows.specs.Rows.{row}
use Rattle.table_rows.proofs.Laws.{length_row, row_set, row_beside, length_after, others_after, length_entries, entries_at, put_stored}
use Rattle.value_local.specs.Meaning.{local, binding_of, name_of}
use Rattle.value_local.specs.declared.Binding.{Binding}
use Rattle.value_local.specs.declared.Binding.TheVariants as binding_is
use Rattle.value_local.specs.declared.LocalDefinition.{LocalDefinition}
use Rattle.table_locals.specs.Meaning.{binding, named, is_record, place_of, local_of_row, locals_of, with_use, numbers}
use Rattle.table_locals.specs.Tables.{PutLocal}

-- Flags

pub not_zero_set : (n : ℕ) → not (eqb n 0) ≡ is_set n
unfolding is_set
not_zero_set zero = refl
not_zero_set (suc n) = ap not (ne_eqb (suc n) 0 (λ e. omega arith))

is_set_bit : (b : Bool) → is_set (bit b) ≡ b
unfolding is_set
is_set_bit true = refl
is_set_bit false = refl

-- Entries as locals

pub length_locals : (n : ℕ) (t : List ℕ) → length (locals_of n t) ≡ n
unfolding locals_of
length_locals n t = length_entries local_of_row n t

pub locals_at : (n k : ℕ) (t : List ℕ) → k < n → local_at (locals_of n t) k ≡ local_of_row (row k t)
unfolding local_at locals_of
locals_at n k t h = entries_at local_of_row n k t no_local h

-- the part of a table from the first number of an entry to its last
abbrev lent : ℕ → List ℕ → List ℕ
lent id t = take (16 * id + 16 - 16 * id) (drop (16 * id) t)

lent_width : (id : ℕ) → 16 * id + 16 - 16 * id ≡ 16
lent_width id = omega arith

pub local_lent : (n id : ℕ) (t : List ℕ) → id < n → local_of_row (lent id t) ≡ local_at (locals_of n t) id
unfolding row
local_lent n id t h = rw (lent_width id) (sym (locals_at n id t h))

-- what is stored as a flag and a number is read again

named_back : (n : Option ℕ) → named (is_some n) (unwrap_or n 0) ≡ name_of n
unfolding named name_of
named_back (Some name) = refl
named_back None = refl

pub named_read : (has_name : Bool) (name : ℕ) → name_of (then_some has_name name) ≡ named has_name name
unfolding named name_of
named_read true name = refl
named_read false name = refl

binding_back : (b : Binding) → binding (is_record b) (place_of b) ≡ binding_of b
unfolding binding binding_of is_record place_of
binding_back (binding_is.Record place) = refl
binding_back (binding_is.External position) = refl

-- an entry that begins with a local's numbers
entry_holds : (l : LocalDefinition) (rest : List ℕ) → local_of_row (numbers l ++ rest) ≡ local l
unfolding numbers local local_of_row
entry_holds l rest = simp (is_set_bit, named_back, binding_back)

-- A table in which one entry was stored

pub local_stored : (k : ℕ) (t u : List ℕ) → ((i : ℕ) → (i ≡ k → ⊥) → row i u ≡ row i t) → (l : rules.LocalDefinition) → length u ≡ length t → local_of_row (row k u) ≡ l
    → PutLocal t u k l
unfolding locals_of
local_stored k t u others l size here = put_stored local_of_row locals_of (λ n t. refl) k t u others l size here

-- a local's numbers over the first of an entry
pub put_entry : (id n : ℕ) (t r : List ℕ) (l : LocalDefinition) → 16 * id + 16 ≤ length t → n ≡ 13 → r ≡ numbers l → PutLocal t (put_mid (16 * id) n t r) id (local l)
unfolding row numbers
put_entry id n t r l inside size e =
    let few : 13 ≤ 16 = omega arith in
    let within : 16 * id + 13 ≤ length t = omega arith in
    let front : length (take (16 * id) t) ≡ 16 * id = length-take-le (16 * id) t (omega arith) in
    rw (size, e)
    (local_stored id t (put_mid (16 * id) 13 t (numbers l)) (others_after id 13 t (numbers l) few within refl) (local l) (length_after id 13 t (numbers l) few within refl)
    (ap (λ (q : List ℕ). local_of_row (take 16 q)) (drop_at (take (16 * id) t) (numbers l ++ drop 13 (drop (16 * id) t)) (16 * id) front)
    ∙ entry_holds l (take 3 (drop 13 (drop (16 * id) t)))))

-- What a use changes

-- its three numbers in an entry
used_row : (l : LocalDefinition) (r : List ℕ) → 8 ≤ length r
    → local_of_row (set (set (set r 1 l.used_at_depth) 2 (bit l.used_by_sibling)) 7 (bit l.scratch_referenced)) ≡ with_use (local l) (local_of_row r)
unfolding local local_of_row with_use
used_row l [] long = absurd (omega arith)
used_row l (a ∷ []) long = absurd (omega arith)
used_row l (a ∷ b ∷ []) long = absurd (omega arith)
used_row l (a ∷ b ∷ c ∷ []) long = absurd (omega arith)
used_row l (a ∷ b ∷ c ∷ d ∷ []) long = absurd (omega arith)
used_row l (a ∷ b ∷ c ∷ d ∷ e ∷ []) long = absurd (omega arith)
used_row l (a ∷ b ∷ c ∷ d ∷ e ∷ f ∷ []) long = absurd (omega arith)
used_row l (a ∷ b ∷ c ∷ d ∷ e ∷ f ∷ g ∷ []) long = absurd (omega arith)
used_row l (a ∷ b ∷ c ∷ d ∷ e ∷ f ∷ g ∷ h ∷ r) long = simp is_set_bit

pub put_used : (id : ℕ) (t : List ℕ) (l : LocalDefinition) → 16 * id + 16 ≤ length t → with_use (local l) (local_of_row (row id t)) ≡ local l
    → PutLocal t (set (set (set t (16 * id + 1) l.used_at_depth) (16 * id + 2) (bit l.used_by_sibling)) (16 * id + 7) (bit l.scratch_referenced)) id (local l)
put_used id t l inside only =
    let depth = l.used_at_depth in
    let sibling = bit l.used_by_sibling in
    let noted = bit l.scratch_referenced in
    let u = set t (16 * id + 1) depth in
    let v = set u (16 * id + 2) sibling in
    let here : row id (set v (16 * id + 7) noted) ≡ set (set (set (row id t) 1 depth) 2 sibling) 7 noted =
    row_set id 7 noted v (omega arith)
    ∙ ap (λ (r : List ℕ). set r 7 noted) (row_set id 2 sibling u (omega arith) ∙ ap (λ (r : List ℕ). set r 2 sibling) (row_set id 1 depth t (omega arith))) in
    local_stored id t (set v (16 * id + 7) noted)
    (λ i differs. row_beside i id 7 noted v (omega arith) differs ∙ row_beside i id 2 sibling u (omega arith) differs ∙ row_beside i id 1 depth t (omega arith) differs) (local l)
    (length-set v (16 * id + 7) noted ∙ length-set u (16 * id + 2) sibling ∙ length-set t (16 * id + 1) depth)
    (ap local_of_row here ∙ used_row l (row id t) (omega (arith, length_row id t inside)) ∙ only)

-- a use changes no more
module _ (m : rules.LocalDefinition) where
  noted_only : (u : rules.LocalDefinition) → with_use u m ≡ u → with_use (rules.note_reference u) m ≡ rules.note_reference u
  unfolding rules.note_reference rules.with_scratch_referenced with_use choose
  noted_only u e = by (rules.keeps_reference u)
    where
      by : (b : Bool) → with_use (choose b (λ _. rules.with_scratch_referenced true u) (λ _. u)) m ≡ choose b (λ _. rules.with_scratch_referenced true u) (λ _. u)
      by true = ap (rules.with_scratch_referenced true) e
      by false = e

  pub used_only : (depth : ℕ) → with_use (rules.note_reference (rules.use_at depth m)) m ≡ rules.note_reference (rules.use_at depth m)
  unfolding rules.use_at rules.with_used_by_sibling rules.with_used_at_depth with_use choose
  used_only depth = noted_only (rules.use_at depth m) (by (eqb depth m.defined_at_depth))
    where
      by : (b : Bool)
          → with_use (choose b (λ _. rules.with_used_by_sibling m) (λ _. rules.with_used_at_depth (min m.used_at_depth depth) m)) m
          ≡ choose b (λ _. rules.with_used_by_sibling m) (λ _. rules.with_used_at_depth (min m.used_at_depth depth) m)
      by true = refl
      by false = refl
