-- Laws of the search for a name. Assumes nothing.
use Prim.Native.Nat.{ℕ, zero, suc, ◌+◌, ◌*◌, ◌-◌, ◌≤◌, ◌<◌}
use mathlib.Core.Bool.{Bool, true, false}
use mathlib.Core.List.{List}
use mathlib.Core.Option.{some}
use mathlib.Core.Path.{◌≡◌, refl, sym, ap, ◌∙◌}
use native.Mathlib.Omega.{arith}
use lib.ListN.{get_or}
use borrow.Author.Tests.{eq-eqb, ne_eqb}
use Rattle.rules.specs.Outcome.{choose, given}
use Rattle.rules.specs.Numbers.{is_set, same_name}
use Rattle.rules.specs.Locals.{has_name, newest}
use Rattle.table_rows.specs.Rows.{row}
use Rattle.table_rows.proofs.Laws.{row_at}
use Rattle.table_locals.specs.Meaning.{named, local_of_row, locals_of}
use Rattle.table_locals.proofs.Laws.{locals_at}
use Rattle.rules.proofs.Flags.{set_of}
use Rattle.find_name.specs.Answers.{NoneNamed}

-- An entry's name

module _ (name k : ℕ) (t : List ℕ) where
  -- the numbers that a search reads
  abbrev flag_number : ℕ
  flag_number = get_or t (16 * k + 9) 0

  abbrev name_number : ℕ
  name_number = get_or t (16 * k + 10) 0

  name_read : has_name name (local_of_row (row k t)) ≡ given (named (is_set flag_number) name_number) (λ _. false) (λ m. same_name name m)
  unfolding has_name local_of_row
  name_read = rw (row_at k 9 t (omega arith), row_at k 10 t (omega arith))

  without_name : flag_number ≡ 0 → has_name name (local_of_row (row k t)) ≡ false
  unfolding given named is_set
  without_name e = name_read ∙ rw e

  other_name : (name_number ≡ name → ⊥) → has_name name (local_of_row (row k t)) ≡ false
  unfolding given named same_name
  other_name h = name_read ∙ by (is_set flag_number)
    where
      by : (b : Bool) → given (named b name_number) (λ _. false) (λ m. same_name name m) ≡ false
      by true = ne_eqb name name_number (λ e. h (sym e))
      by false = refl

  this_name : (flag_number ≡ 0 → ⊥) → name_number ≡ name → has_name name (local_of_row (row k t)) ≡ true
  unfolding given named same_name
  this_name h e = name_read ∙ rw (set_of h) (eq-eqb name name_number (sym e))

-- The search

-- with so many left, the newest of these is the newest of all
pub record Searching (t : List ℕ) (name first n left : ℕ) : Type 0 where
  pub within : left ≤ n
  pub same : (total : ℕ) → first + n ≤ total → newest name (locals_of total t) first n ≡ newest name (locals_of total t) first left

-- the entry that is tried next
abbrev next : (first left : ℕ) → ℕ
next first left = first + (left - 1)

module _ {t : List ℕ} {name first n left : ℕ} (at : Searching t name first n left) (more : 0 < left) where
  step : (total : ℕ) → first + n ≤ total
      → newest name (locals_of total t) first n
      ≡ choose (has_name name (local_of_row (row (next first left) t))) (λ _. some (next first left)) (λ _. newest name (locals_of total t) first (left - 1))
  unfolding newest
  step total h =
      let one_less : left ≡ suc (left - 1) = omega arith in
      at.same total h
      ∙ ap (newest name (locals_of total t) first) one_less
      ∙ rw (locals_at total (next first left) t (omega arith))

  passed : has_name name (local_of_row (row (next first left) t)) ≡ false → Searching t name first n (left - 1)
  unfolding choose
  passed e = record { within = omega arith; same = λ total h. step total h ∙ rw e }

  pub passed_without_name : get_or t (16 * next first left + 9) 0 ≡ 0 → Searching t name first n (left - 1)
  passed_without_name e = passed (without_name name (next first left) t e)

  pub passed_other_name : (get_or t (16 * next first left + 10) 0 ≡ name → ⊥) → Searching t name first n (left - 1)
  passed_other_name h = passed (other_name name (next first left) t h)

  pub found_here : (get_or t (16 * next first left + 9) 0 ≡ 0 → ⊥) → get_or t (16 * next first left + 10) 0 ≡ name
      → (total : ℕ) → first + n ≤ total → newest name (locals_of total t) first n ≡ some (next first left)
  unfolding choose
  found_here set e total h = step total h ∙ rw (this_name name (next first left) t set e)

-- Four entries at a time

module _ {t : List ℕ} {name first n left : ℕ} (begun : Searching t name first n left) where
  -- so many entries with other names
  passes : (m : ℕ) → m ≤ left → ((k : ℕ) → first + left ≤ k + m → k < first + left → get_or t (16 * k + 10) 0 ≡ name → ⊥) → Searching t name first n (left - m)
  passes zero few others = let all : left - 0 ≡ left = omega arith in rw all begun
  passes (suc m) few others =
      let one_less : left - suc m ≡ left - m - 1 = omega arith in
      rw one_less (passed_other_name (passes m (omega arith) (λ k after before. others k (omega arith) before)) (omega arith) (others (first + (left - m - 1)) (omega arith) (omega arith)))

  pub four_searched : 4 ≤ left → NoneNamed t name (first + (left - 4)) → Searching t name first n (left - 4)
  four_searched more none = passes 4 more (λ k after before. none.others k (omega arith) (omega arith))
