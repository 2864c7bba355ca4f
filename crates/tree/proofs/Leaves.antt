-- What the leaves of the walk answer: a record that is opened or expected. Assumes nothing.
use Prim.Native.Nat.{ℕ, ◌+◌, ◌≤◌, ◌<◌}
use mathlib.Core.List.{List}
use mathlib.Core.Path.{◌≡◌, sym, subst, ◌∙◌}
use native.Mathlib.Omega.{arith}
use lib.ListN.{length}
use lib.Dec.{ltb}
use borrow.Author.Tests.{le-leb, lt-leb, eq-eqb, ne_eqb, lt-ltb}
use Rattle.rules.specs.Outcome.{ok, refuse, need, ◌>>=◌}
use Rattle.rules.specs.Numbers.{code_at}
use Rattle.rules.proofs.After.{after_ok}
use Rattle.refusal.specs.Meaning.{number_of}
use Rattle.refusal.specs.declared.Reason.TheVariants.{CutShort, WrongMark, TooDeep}
use Rattle.refusal.specs.declared.Refusal.{Refusal}
use Rattle.std.specs.Prelude.{Result, Ok, Err}
use Rattle.tree.specs.Seen.{seen}
use Rattle.bytes_records.specs.Marks.{mark_of}
use Rattle.bytes_skip.specs.Places.{judged_at, expected_at, Within}
use Rattle.tree.specs.Places.{opened_at}
use Rattle.tree.specs.Left.{Opened, Expected}
use Rattle.bytes_skip.proofs.Heads.{judged_within}
use Rattle.tree.proofs.Binding.{past_seen, stopped, apart, same_place}

module _ (s : List ℕ) where
  -- A record that is opened

  module _ (nest c p : ℕ) {w : Result ℕ Refusal} (h : seen w ≡ judged_at s (mark_of c) p) where
    pub opened_refused : {why : Refusal} → w ≡ Err why → Opened s nest c p w
    unfolding opened_at
    opened_refused e = record {
      same = stopped h (λ q. need (ltb 0 nest) 4 p >>= λ _. ok q) e;
      within = λ q f. absurd (apart (sym e ∙ f));
      level = λ q f. absurd (apart (sym e ∙ f));
    }

    pub opened_deep : {q : ℕ} → w ≡ Ok q → nest ≡ 0 → Opened s nest c p (Err (record { reason = TooDeep; place = p }))
    unfolding opened_at need ◌>>=◌
    opened_deep e z = record {
      same = rw (← past_seen h e, z);
      within = λ q f. absurd (apart f);
      level = λ q f. absurd (apart f);
    }

    pub opened_went : {q : ℕ} → w ≡ Ok q → (nest ≡ 0 → ⊥) → Opened s nest c p (Ok q)
    unfolding opened_at need ◌>>=◌
    opened_went {q} e nz =
        let some_left : 0 < nest = omega arith in
        record {
          same = rw (← past_seen h e, lt-ltb 0 nest some_left);
          within = λ r f. subst (λ (x : ℕ). Within s c p x) (same_place f) (after_ok (judged_within s c p) (sym (past_seen h e)));
          level = λ r f. some_left;
        }

  -- A record that is expected

  module _ (c p : ℕ) where
    pub expected_short : length s < p + 2 → expected_at s c p ≡ refuse 1 p
    unfolding expected_at need ◌>>=◌
    expected_short h = rw (lt-leb _ _ h)

    module _ (room : p + 2 ≤ length s) where
      pub expected_other : (code_at s p ≡ c → ⊥) → expected_at s c p ≡ refuse 2 p
      unfolding expected_at need ◌>>=◌
      expected_other ne = rw (le-leb _ _ room, ne_eqb _ _ ne)

      pub expected_first : code_at s p ≡ c → expected_at s c p ≡ judged_at s (mark_of c) p
      unfolding expected_at need ◌>>=◌
      expected_first e = rw (le-leb _ _ room, eq-eqb _ _ e)

    expected_refused : {why : Refusal} → expected_at s c p ≡ refuse (number_of why.reason) why.place → Expected s c p (Err why)
    expected_refused e = record { same = sym e; within = λ q f. absurd (apart f) }

    pub expect_short : length s < p + 2 → Expected s c p (Err (record { reason = CutShort; place = p }))
    expect_short h = expected_refused (expected_short h)

    pub expect_other : p + 2 ≤ length s → {m : ℕ} → m ≡ code_at s p → (m ≡ c → ⊥) → Expected s c p (Err (record { reason = WrongMark; place = p }))
    expect_other room e ne = expected_refused (expected_other room (λ f. ne (e ∙ f)))

    pub expect_first : p + 2 ≤ length s → {m : ℕ} → m ≡ code_at s p → m ≡ c → {w : Result ℕ Refusal} → seen w ≡ judged_at s (mark_of c) p → Expected s c p w
    expect_first room e f h = record {
      same = h ∙ sym (expected_first room (sym e ∙ f));
      within = λ q g. after_ok (judged_within s c p) (sym (past_seen h g));
    }
