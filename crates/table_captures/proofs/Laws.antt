-- Laws of the log: slots as numbers, an entry read and stored, a frame's captures in it. Assumes nothing.
use mathlib.Core.Path.{◌≡◌, refl, sym, ap, ◌∙◌}
use mathlib.Core.Logic.{◌⊎◌, inl, inr}
use mathlib.Core.Bool.{Bool, true, false}
use mathlib.Core.List.{List, [], ◌∷◌, ◌++◌, append-nil, append_assoc}
use Prim.Native.Nat.{ℕ, zero, suc, ◌≤◌, ◌<◌}
use native.Mathlib.Omega.{arith}
use native.Mathlib.Numerals.{add-one}
use native.Mathlib.Decide.{dec_lt}
use lib.ListN.{length, length-append}
use lib.Dec.{eqb}
use borrow.Author.Tests.{eq-eqb, ne_eqb, eqb-true, eqb-false}
use Rattle.rules.specs.Outcome.{choose}
use Rattle.rules.specs.Frames as rules
use Rattle.rules.specs.Writing.{slot_number}
use Rattle.table_rows.specs.Rows.{rows}
use Rattle.table_rows.proofs.Laws.{row_at, entries_at, one_more_entry, put_stored, put_here, put_behind}
use Rattle.table_rows.specs.Entries.{number, Stored}
use Rattle.table_captures.specs.Meaning.{slot, slot_kind, slot_of, Logged, taking, logged, logged_of_row, logged_at, log_of, log_at, if_owned, taken_by, captures_of, SmallSource}
use Rattle.table_captures.specs.Answers.{PutCapture}
use Rattle.table_captures.specs.declared.Capture.{Capture}

-- slots as numbers

slot_of_number : (kind own : ℕ) → slot_number (slot_of kind own) ≡ own
unfolding slot_of slot_number
slot_of_number zero own = refl
slot_of_number (suc kind) own = refl

slot_back : (s : rules.LSlot) → slot_of (slot_kind s) (slot_number s) ≡ s
unfolding slot_of slot_kind slot_number
slot_back (rules.local_slot n) = refl
slot_back (rules.capture_slot n) = refl

-- the log

pub logged_read : (t : List ℕ) (i : ℕ) → logged_at t i ≡ taking (number t i 0) (number t i 1) (slot_of (number t i 2) (number t i 3))
unfolding logged_at logged_of_row number
logged_read t i = rw (row_at i 0 t (omega arith), row_at i 1 t (omega arith), row_at i 2 t (omega arith), row_at i 3 t (omega arith))

pub log_at_is : (n i : ℕ) (t : List ℕ) → i < n → log_at (log_of n t) i ≡ logged_at t i
unfolding log_at log_of logged_at
log_at_is n i t h = entries_at logged_of_row n i t (taking 0 0 (rules.local_slot 0)) h

pub source_small : (t : List ℕ) (i : ℕ) → SmallSource t i → number t i 3 ≤ 65535
source_small t i small = omega (arith, small, ap (λ (e : Logged). slot_number e.capture.source) (logged_read t i), slot_of_number (number t i 2) (number t i 3))

pub capture_stored : (t u : List ℕ) (i kind own : ℕ) (c : Capture) → Stored t u i (c.owner ∷ c.target.0 ∷ kind ∷ own ∷ []) → kind ≡ slot_kind (slot c.source)
    → own ≡ slot_number (slot c.source) → PutCapture t u i (logged c)
unfolding log_of logged logged_at
capture_stored t u i kind own c stored kind_is own_is =
    put_stored logged_of_row log_of (λ n t. refl) i t u stored.others (logged c) stored.long
    (logged_read u i ∙ rw (stored.here 0 (omega arith), stored.here 1 (omega arith), stored.here 2 (omega arith), stored.here 3 (omega arith), kind_is, own_is, slot_back (slot c.source)))

module _ (t u : List ℕ) (i : ℕ) (e : Logged) (put : PutCapture t u i e) where
  pub logged_here : logged_at u i ≡ e
  unfolding log_of logged_at
  logged_here = put_here logged_of_row log_of (λ n t. refl) i t u e put

  pub logged_beside : (k : ℕ) → (k ≡ i → ⊥) → logged_at u k ≡ logged_at t k
  unfolding logged_at
  logged_beside k ne = ap logged_of_row (put.others k ne)

-- a frame's captures in the log

pub eq_or_not : (a b : ℕ) → (a ≡ b) ⊎ (a ≡ b → ⊥)
eq_or_not a b = by (eqb a b) refl
  where
    by : (x : Bool) → eqb a b ≡ x → (a ≡ b) ⊎ (a ≡ b → ⊥)
    by true e = inl (eqb-true a b e)
    by false e = inr (eqb-false a b e)

taken_append : (o : ℕ) (a b : List Logged) → taken_by o (a ++ b) ≡ taken_by o a ++ taken_by o b
unfolding taken_by
taken_append o [] b = refl
taken_append o (e ∷ a) b =
    ap (λ (l : List rules.Capture). if_owned (eqb e.owner o) e.capture ++ l) (taken_append o a b)
    ∙ sym (append_assoc (if_owned (eqb e.owner o) e.capture) (taken_by o a) (taken_by o b))

-- an entry of the owner is one more, another's is none

taken_one : (o : ℕ) (log : List Logged) (e : Logged) → taken_by o (log ++ (e ∷ [])) ≡ taken_by o log ++ if_owned (eqb e.owner o) e.capture
unfolding taken_by
taken_one o log e = taken_append o log (e ∷ []) ∙ ap (λ (l : List rules.Capture). taken_by o log ++ l) (append-nil (if_owned (eqb e.owner o) e.capture))

taken_mine : (o : ℕ) (log : List Logged) (e : Logged) → e.owner ≡ o → taken_by o (log ++ (e ∷ [])) ≡ taken_by o log ++ (e.capture ∷ [])
unfolding if_owned choose
taken_mine o log e mine = taken_one o log e ∙ rw (eq-eqb e.owner o mine)

taken_other : (o : ℕ) (log : List Logged) (e : Logged) → (e.owner ≡ o → ⊥) → taken_by o (log ++ (e ∷ [])) ≡ taken_by o log
unfolding if_owned choose
taken_other o log e ne = taken_one o log e ∙ rw (ne_eqb e.owner o ne) (append-nil (taken_by o log))

log_more : (i : ℕ) (t : List ℕ) → log_of (suc i) t ≡ log_of i t ++ (logged_at t i ∷ [])
unfolding log_of logged_at
log_more i t = one_more_entry logged_of_row i t

pub captures_start : (o : ℕ) (t : List ℕ) → captures_of o 0 t ≡ []
unfolding captures_of log_of taken_by rows
captures_start o t = refl

pub captures_step : (o i : ℕ) (t : List ℕ) → captures_of o (suc i) t ≡ captures_of o i t ++ if_owned (eqb (logged_at t i).owner o) (logged_at t i).capture
unfolding captures_of
captures_step o i t = ap (taken_by o) (log_more i t) ∙ taken_one o (log_of i t) (logged_at t i)

pub captures_mine : (o i : ℕ) (t : List ℕ) → (logged_at t i).owner ≡ o → captures_of o (suc i) t ≡ captures_of o i t ++ ((logged_at t i).capture ∷ [])
unfolding captures_of
captures_mine o i t e = ap (taken_by o) (log_more i t) ∙ taken_mine o (log_of i t) (logged_at t i) e

pub captures_other : (o i : ℕ) (t : List ℕ) → ((logged_at t i).owner ≡ o → ⊥) → captures_of o (suc i) t ≡ captures_of o i t
unfolding captures_of
captures_other o i t ne = ap (taken_by o) (log_more i t) ∙ taken_other o (log_of i t) (logged_at t i) ne

-- an entry put after the log
module _ (t u : List ℕ) (count : ℕ) (e : Logged) (put : PutCapture t u count e) where
  log_put : log_of (suc count) u ≡ log_of count t ++ (e ∷ [])
  unfolding log_of
  log_put = rw (add-one count) at (put_behind logged_of_row log_of (λ n t. refl) count t u e put)

  pub captures_put : (o : ℕ) → e.owner ≡ o → captures_of o (suc count) u ≡ captures_of o count t ++ (e.capture ∷ [])
  unfolding captures_of
  captures_put o mine = ap (taken_by o) log_put ∙ taken_mine o (log_of count t) e mine

  pub captures_put_other : (o : ℕ) → (e.owner ≡ o → ⊥) → captures_of o (suc count) u ≡ captures_of o count t
  unfolding captures_of
  captures_put_other o ne = ap (taken_by o) log_put ∙ taken_other o (log_of count t) e ne

pub length_mine : (o i : ℕ) (t : List ℕ) → (logged_at t i).owner ≡ o → length (captures_of o (suc i) t) ≡ suc (length (captures_of o i t))
length_mine o i t e = ap length (captures_mine o i t e) ∙ length-append (captures_of o i t) ((logged_at t i).capture ∷ []) ∙ omega arith

pub captures_more : (o i n : ℕ) (t : List ℕ) → i ≤ n → length (captures_of o i t) ≤ length (captures_of o n t)
captures_more o i zero t le = let e : i ≡ 0 = omega arith in rw e (omega arith)
captures_more o i (suc n) t le = by (dec_lt n i) (captures_more o i n t)
  where
    by : Dec (n < i) → (i ≤ n → length (captures_of o i t) ≤ length (captures_of o n t)) → length (captures_of o i t) ≤ length (captures_of o (suc n) t)
    by (yes lt) ih = let e : i ≡ suc n = omega arith in rw e (omega arith)
    by (no ge) ih = rw (captures_step o n t, length-append) (omega (arith, ih (omega arith)))

-- none up to where the frame was opened
pub captures_none : (o n : ℕ) (t : List ℕ) → ((i : ℕ) → i < n → (logged_at t i).owner ≡ o → ⊥) → captures_of o n t ≡ []
captures_none o zero t h = captures_start o t
captures_none o (suc n) t h = captures_other o n t (h n (omega arith)) ∙ captures_none o n t (λ i lt. h i (omega arith))
