-- Laws of the searches: an id looked up among a frame's captures, the captures counted, the next one. Assumes nothing.
use mathlib.Core.Path.{◌≡◌, refl, sym, ap, ◌∙◌}
use mathlib.Core.Logic.{⊎_elim}
use mathlib.Core.Bool.{Bool, true, false}
use mathlib.Core.Option.{Option, none, some}
use mathlib.Core.List.{List, [], ◌∷◌, ◌++◌}
use Prim.Native.Nat.{ℕ, zero, suc, ◌+◌, ◌-◌, ◌≤◌, ◌<◌}
use native.Mathlib.Omega.{arith}
use native.Mathlib.Numerals.{add-one}
use native.Mathlib.Nat.{add-zero, add-suc}
use native.Mathlib.Decide.{dec_lt}
use lib.ListN.{length, length-append}
use lib.Dec.{eqb}
use borrow.Author.Tests.{eq-eqb, ne_eqb}
use Rattle.std.specs.List.{filter, range_with_len}
use Rattle.rules.specs.Outcome.{choose}
use Rattle.rules.specs.Frames as rules
use Rattle.table_captures.specs.Meaning.{slot, Logged, logged, logged_at, log_of, log_at, captures_of}
use Rattle.table_captures.specs.declared.Capture.{Capture}
use Rattle.table_captures.specs.declared.LSlot.{LSlot}
use Rattle.table_captures.specs.declared.CaptureSlot.{CaptureSlot}
use Rattle.table_captures.proofs.Laws.{eq_or_not, log_at_is, captures_start, captures_step, captures_mine, captures_other, captures_more, length_mine}
use Rattle.find_capture.specs.Answers.{Searched, Follows}
use Rattle.std.specs.Prelude.{Ok, Err, MatchOption, IsSomeAnd}
use Rattle.std.specs.declared.option.Option as rust
use Rattle.std.specs.declared.option.Option.TheVariants.{Some, None}

pub captures_few : (o n : ℕ) (t : List ℕ) → length (captures_of o n t) ≤ n
captures_few o zero t = rw (captures_start o t) (omega arith)
captures_few o (suc n) t = ⊎_elim
    (λ e. rw (captures_mine o n t e) (rw length-append (omega (arith, captures_few o n t))))
    (λ ne. rw (captures_other o n t ne) (omega (arith, captures_few o n t))) (eq_or_not (logged_at t n).owner o)

-- looking an id up

module _ (id : ℕ) where
  hit_by : (b : Bool) (k r : ℕ) {X Y : Option ℕ} → choose b (λ _. some k) (λ _. X) ≡ none → (X ≡ none → Y ≡ some r) → choose b (λ _. some k) (λ _. Y) ≡ some r
  unfolding choose
  hit_by true k r h f = absurd (let z : ◌≡◌ {A = ℕ} 0 1 = cc in omega arith)
  hit_by false k r h f = f h

  miss_by : (b : Bool) (k : ℕ) {X Y : Option ℕ} → choose b (λ _. some k) (λ _. X) ≡ none → (X ≡ none → Y ≡ none) → choose b (λ _. some k) (λ _. Y) ≡ none
  unfolding choose
  miss_by true k h f = h
  miss_by false k h f = f h

  stays_by : (b : Bool) (k r : ℕ) {X Y : Option ℕ} → choose b (λ _. some k) (λ _. X) ≡ some r → (X ≡ some r → Y ≡ some r) → choose b (λ _. some k) (λ _. Y) ≡ some r
  unfolding choose
  stays_by true k r h f = h
  stays_by false k r h f = f h

  pub search_hit : (k : ℕ) (cs : List rules.Capture) (c : rules.Capture) → rules.capture_of id k cs ≡ none → id ≡ c.target
      → rules.capture_of id k (cs ++ (c ∷ [])) ≡ some (k + length cs)
  unfolding rules.capture_of choose
  search_hit k [] c h e = rw (eq-eqb id c.target e) (ap some (omega arith))
  search_hit k (d ∷ cs) c h e =
      hit_by (eqb id d.target) k (k + length (d ∷ cs)) h (λ n. search_hit (suc k) cs c n e ∙ ap some (omega arith))

  pub search_miss : (k : ℕ) (cs : List rules.Capture) (c : rules.Capture) → rules.capture_of id k cs ≡ none → (id ≡ c.target → ⊥)
      → rules.capture_of id k (cs ++ (c ∷ [])) ≡ none
  unfolding rules.capture_of choose
  search_miss k [] c h ne = rw (ne_eqb id c.target ne) refl
  search_miss k (d ∷ cs) c h ne = miss_by (eqb id d.target) k h (λ n. search_miss (suc k) cs c n ne)

  search_stays : (k r : ℕ) (cs ds : List rules.Capture) → rules.capture_of id k cs ≡ some r → rules.capture_of id k (cs ++ ds) ≡ some r
  unfolding rules.capture_of
  search_stays k r [] ds h = absurd (let z : ◌≡◌ {A = ℕ} 0 1 = cc in omega arith)
  search_stays k r (d ∷ cs) ds h = stays_by (eqb id d.target) k r h (search_stays (suc k) r cs ds)

  -- what is found among the first entries is found in the whole log
  pub search_on : (o r i n : ℕ) (t : List ℕ) → i ≤ n → rules.capture_of id 0 (captures_of o i t) ≡ some r → rules.capture_of id 0 (captures_of o n t) ≡ some r
  search_on o r i zero t le h = let e : i ≡ 0 = omega arith in rw e at h
  search_on o r i (suc n) t le h = by (dec_lt n i) (λ le'. search_on o r i n t le' h)
    where
      by : Dec (n < i) → (i ≤ n → rules.capture_of id 0 (captures_of o n t) ≡ some r) → rules.capture_of id 0 (captures_of o (suc n) t) ≡ some r
      by (yes lt) ih = let e : i ≡ suc n = omega arith in rw e at h
      by (no ge) ih = rw (captures_step o n t) (search_stays 0 r (captures_of o n t) _ (ih (omega arith)))

-- the search of a frame's captures, i entries on: none is of the id, and they are k
pub record Passed (captures : List ℕ) (owner id k i : ℕ) : Type 0 where
  pub counted : k ≡ length (captures_of owner i captures)
  pub missing : rules.capture_of id 0 (captures_of owner i captures) ≡ none

counted_none : (captures : List ℕ) (owner i : ℕ) → captures_of owner i captures ≡ [] → 0 ≡ length (captures_of owner i captures)
counted_none captures owner i e = rw e

counted_other : (captures : List ℕ) (owner k i : ℕ) → k ≡ length (captures_of owner i captures) → ((logged_at captures i).owner ≡ owner → ⊥) → k ≡ length (captures_of owner (i + 1) captures)
counted_other captures owner k i h ne = rw add-one (h ∙ ap length (sym (captures_other owner i captures ne)))

counted_mine : (captures : List ℕ) (owner k i : ℕ) → k ≡ length (captures_of owner i captures) → (logged_at captures i).owner ≡ owner → k + 1 ≡ length (captures_of owner (i + 1) captures)
counted_mine captures owner k i h e = rw (add-one i) (omega (arith, h, length_mine owner i captures e))

pub passed_none : (captures : List ℕ) (owner id i : ℕ) → captures_of owner i captures ≡ [] → Passed captures owner id 0 i
unfolding rules.capture_of
passed_none captures owner id i e = record { counted = counted_none captures owner i e; missing = rw e }

pub passed_other : (captures : List ℕ) (owner id k i : ℕ) → Passed captures owner id k i → ((logged_at captures i).owner ≡ owner → ⊥) → Passed captures owner id k (i + 1)
passed_other captures owner id k i p ne = record {
  counted = counted_other captures owner k i p.counted ne;
  missing = rw (add-one i) (ap (rules.capture_of id 0) (captures_other owner i captures ne) ∙ p.missing);
}

pub passed_mine : (captures : List ℕ) (owner id k i : ℕ) → Passed captures owner id k i → (logged_at captures i).owner ≡ owner → ((logged_at captures i).capture.target ≡ id → ⊥)
    → Passed captures owner id (k + 1) (i + 1)
passed_mine captures owner id k i p e ne = record {
  counted = counted_mine captures owner k i p.counted e;
  missing = rw (add-one i) (ap (rules.capture_of id 0) (captures_mine owner i captures e)
      ∙ search_miss id 0 (captures_of owner i captures) (logged_at captures i).capture p.missing (λ h. ne (sym h)));
}

pub passed_hit : (captures : List ℕ) (owner id k i count : ℕ) → Passed captures owner id k i → i < count → (logged_at captures i).owner ≡ owner → id ≡ (logged_at captures i).capture.target
    → (rules.capture_of id 0 (captures_of owner count captures) ≡ some k) × (k < length (captures_of owner count captures))
passed_hit captures owner id k i count p lt e same = (
  search_on id owner k (suc i) count captures (omega arith) (ap (rules.capture_of id 0) (captures_mine owner i captures e)
      ∙ search_hit id 0 (captures_of owner i captures) (logged_at captures i).capture p.missing same ∙ ap some (omega (arith, p.counted))),
  omega (arith, p.counted, captures_more owner (suc i) count captures (omega arith), length_mine owner i captures e),
)

pub searched_hit : (captures : List ℕ) (owner id count : ℕ) (k : CaptureSlot)
    → (rules.capture_of id 0 (captures_of owner count captures) ≡ some k.0) × (k.0 < length (captures_of owner count captures)) → Searched (Ok k) captures owner count id
searched_hit captures owner id count k (found, counts) = record { same = sym found; counts = counts }

pub passed_all : (captures : List ℕ) (owner id k i count : ℕ) → Passed captures owner id k i → i ≡ count → Searched (Err k) captures owner count id
passed_all captures owner id k i count p e = rw (sym e) record { same = sym p.missing; counts = p.counted }

-- from one entry to another: none of the owner's is passed
captures_still : (o at n i : ℕ) (t : List ℕ) → at + n ≡ i → ((k : ℕ) → at ≤ k → k < i → (logged_at t k).owner ≡ o → ⊥) → captures_of o i t ≡ captures_of o at t
captures_still o at zero i t e others = let same : i ≡ at = omega arith in rw same refl
captures_still o at (suc n) i t e others =
    rw (sym e, add-suc at n) (captures_other o (at + n) t (others (at + n) (omega arith) (omega arith)) ∙ captures_still o at n (at + n) t refl (λ k low high. others k low (omega arith)))

-- and then one, as the entry i is read
captures_next : (o at i : ℕ) (t : List ℕ) (c : Capture) → at ≤ i → ((k : ℕ) → at ≤ k → k < i → (logged_at t k).owner ≡ o → ⊥) → (logged_at t i).owner ≡ o
    → ((n : ℕ) → i < n → logged c ≡ log_at (log_of n t) i)
    → captures_of o (i + 1) t ≡ captures_of o at t ++ (record { target = (logged_at t (i + 1 - 1)).capture.target; source = slot c.source } ∷ [])
unfolding logged
captures_next o at i t c le others mine read =
    let back : i + 1 - 1 ≡ i = omega arith in
    let source : (logged_at t i).capture.source ≡ slot c.source = ap (λ (l : Logged). l.capture.source) (sym (read (suc i) (omega arith) ∙ log_at_is (suc i) i t (omega arith))) in
    rw (back, add-one i, captures_mine o i t mine, captures_still o at (i - at) i t (omega arith) others, sym source)

-- the entry that a search from `at` on ended at, with the owner's first capture there, or none was found
pub next_follows : (r : rust.Option (ℕ × LSlot)) (o at count : ℕ) (t : List ℕ) (found : rust.Option ℕ) {P : ℕ → ℕ × LSlot → Type 0} → at ≤ count
    → MatchOption found ((k : ℕ) → at ≤ k → k < count → (logged_at t k).owner ≡ o → ⊥)
    (λ i. (at ≤ i) × (i < count) × ((logged_at t i).owner ≡ o) × ((k : ℕ) → at ≤ k → k < i → (logged_at t k).owner ≡ o → ⊥))
    → MatchOption found (r ≡ None) (λ i. IsSomeAnd r (P i))
    → ((i : ℕ) (next : ℕ × LSlot) → P i next → (c : Capture) × ((n : ℕ) → i < n → logged c ≡ log_at (log_of n t) i) × (next ≡ (i + 1, c.source))) → Follows r t o at count
next_follows r o at count t None within others is reads = rw is (captures_still o at (count - at) count t (omega arith) others)
next_follows None o at count t (Some i) within (low, high, mine, others) none_there reads = absurd none_there
next_follows (Some next) o at count t (Some i) within (low, high, mine, others) answer reads =
    let read = reads i next answer in
    rw read.2 (omega arith, omega arith, captures_next o at i t read.0 low others mine read.1)

-- the owner's among n entries from one on
pub captures_counted : (o from n : ℕ) (t : List ℕ)
    → length (captures_of o (from + n) t) ≡ length (captures_of o from t) + length (filter (λ i. eqb (logged_at t i).owner o) (range_with_len from n))
captures_counted o from zero t = rw (add-zero from) (omega arith)
captures_counted o from (suc n) t =
    let next : from + suc n ≡ from + 1 + n = omega arith in
    let after : length (captures_of o (from + suc n) t) ≡ length (captures_of o (suc from) t) + length (filter (λ i. eqb (logged_at t i).owner o) (range_with_len (from + 1) n)) =
    rw (next, ← add-one from) (captures_counted o (from + 1) n t) in
    ⊎_elim
    (λ e. rw (eq-eqb (logged_at t from).owner o e) (omega (arith, after, length_mine o from t e)))
    (λ ne. rw (ne_eqb (logged_at t from).owner o ne) (omega (arith, after, ap length (captures_other o from t ne)))) (eq_or_not (logged_at t from).owner o)
