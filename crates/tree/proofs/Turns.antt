-- Turns of the walk's loops: what is left of the work, from here, gives what the whole gives. Assumes nothing.
use Prim.Native.Nat.{ℕ, suc, ◌+◌, ◌-◌, ◌≤◌, ◌<◌}
use mathlib.Core.Path.{◌≡◌, sym, ap, subst, ◌∙◌}
use native.Mathlib.Omega.{arith}
use Rattle.rules.specs.Outcome.{Outcome, ok, ◌>>=◌}
use Rattle.refusal.specs.declared.Refusal.{Refusal}
use Rattle.std.specs.Prelude.{Result, Ok, Err}
use Rattle.tree.specs.Seen.{seen}
use Rattle.bytes_skip.specs.Places.{over}
use Rattle.tree.proofs.Binding.{past_seen, refused_seen}

-- n turns of f give w; i are done, and p is reached
pub record Turn (f : ℕ → Outcome ℕ) (w : Outcome ℕ) (n i p : ℕ) : Type 0 where
  pub same : over (n - i) f p ≡ w
  pub turns : i ≤ n

module _ (f : ℕ → Outcome ℕ) where
  pub turn_begin : (n p : ℕ) → Turn f (over n f p) n 0 p
  turn_begin n p = let e : n - 0 ≡ n = omega arith in record { same = rw e; turns = omega arith }

  module _ {w : Outcome ℕ} {n i p : ℕ} (T : Turn f w n i p) where
    one_more : i < n → (f p >>= λ q. over (n - (i + 1)) f q) ≡ w
    unfolding over
    one_more lt = let e : n - i ≡ suc (n - (i + 1)) = omega arith in (rw e at T.same)

    pub turn_next : {r : Result ℕ Refusal} {q : ℕ} → i < n → seen r ≡ f p → r ≡ Ok q → Turn f w n (i + 1) q
    unfolding ◌>>=◌
    turn_next {q = q} lt h e =
        record { same = subst (λ (x : Outcome ℕ). (x >>= λ q. over (n - (i + 1)) f q) ≡ w) (sym (past_seen h e)) (one_more lt); turns = omega arith }

    pub turn_stop : {r : Result ℕ Refusal} {why : Refusal} → i < n → seen r ≡ f p → r ≡ Err why → seen r ≡ w
    unfolding ◌>>=◌
    turn_stop lt h e = ap seen e ∙ subst (λ (x : Outcome ℕ). (x >>= λ q. over (n - (i + 1)) f q) ≡ w) (sym (refused_seen h e)) (one_more lt)

    pub turn_end : n ≤ i → ok p ≡ w
    unfolding over
    turn_end le = let e : n - i ≡ 0 = omega arith in (rw e at T.same)
