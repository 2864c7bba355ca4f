-- Laws of the walk's answers one after another. Assumes nothing.
use Prim.Native.Nat.{ℕ}
use mathlib.Core.Path.{◌≡◌, refl, sym, ap, subst, ◌∙◌}
use Rattle.rules.specs.Outcome.{Outcome, ok, refuse, ◌>>=◌}
use Rattle.refusal.specs.Meaning.{number_of}
use Rattle.refusal.specs.declared.Refusal.{Refusal}
use Rattle.std.specs.Prelude.{Result, Ok, Err}
use Rattle.std.specs.Result.{IsErrAnd}
use Rattle.std.proofs.lemmas.Result.{err_from_is_err_and}
use Rattle.tree.specs.Seen.{seen}
use Rattle.tree.specs.Places.{Ends}

module _ {r : Result ℕ Refusal} {x : Outcome ℕ} (h : seen r ≡ x) where
  pub past_seen : {q : ℕ} → r ≡ Ok q → ok q ≡ x
  past_seen e = subst (λ (w : Result ℕ Refusal). seen w ≡ x) e h

  pub refused_seen : {why : Refusal} → r ≡ Err why → refuse (number_of why.reason) why.place ≡ x
  refused_seen e = subst (λ (w : Result ℕ Refusal). seen w ≡ x) e h

  -- the next step begins where this one ended
  pub went : {q : ℕ} (f : ℕ → Outcome ℕ) → r ≡ Ok q → f q ≡ (x >>= f)
  unfolding ◌>>=◌
  went {q} f e = subst (λ (y : Outcome ℕ). f q ≡ (y >>= f)) (past_seen e) refl

  -- a refusal is the whole's
  pub stopped : {why : Refusal} (f : ℕ → Outcome ℕ) → r ≡ Err why → seen r ≡ (x >>= f)
  unfolding ◌>>=◌
  stopped {why} f e = ap seen e ∙ subst (λ (y : Outcome ℕ). refuse (number_of why.reason) why.place ≡ (y >>= f)) (refused_seen e) refl

  pub ends : {q : ℕ} → r ≡ Ok q → Ends x
  ends {q} e = record { place = q; there = sym (past_seen e) }

-- what a `?` hands on is the refusal that it met
pub handed : {r w : Result ℕ Refusal} {why : Refusal} → IsErrAnd r (λ e. e ≡ why) → w ≡ Err why → r ≡ w
handed {r = r} h e = let q = err_from_is_err_and r h in rw (q.1, q.2) (sym e)

-- an answer is one of the two, and has one place

pub apart : {why : Refusal} {q : ℕ} → Err why ≡ Ok q → ⊥
apart e = cc

pub same_place : {p q : ℕ} → ◌≡◌ {A = Result ℕ Refusal} (Ok p) (Ok q) → p ≡ q
same_place e = cc
