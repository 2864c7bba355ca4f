-- What holds of an answer that is no refusal, carried through each way in which the definitions put answers together. Assumes nothing.
use Prim.Native.Nat.{ℕ, zero, suc}
use mathlib.Core.Bool.{Bool, true, false, false≢true}
use mathlib.Core.Option.{Option, none, some}
use mathlib.Core.Path.{◌≡◌, refl, subst}
use Rattle.rules.specs.Outcome.{Outcome, ok, refuse, ◌>>=◌, need, choose, given}
use Rattle.rules.specs.FirstWalk.{many}

-- P holds of the answer, or there is none
pub data After {A : Type 0} (P : A → Type 0) : Outcome A → Type 0 where
  fine : {a : A} → P a → After P (ok a)
  refused : {number place : ℕ} → After P (refuse number place)

-- what holds after an outcome holds of the answer that it is
pub after_ok : {A : Type 0} {P : A → Type 0} {o : Outcome A} {a : A} → After P o → o ≡ ok a → P a
after_ok {A = A} {P = P} {a = a} h e = of_ok (subst (λ (o : Outcome A). After P o) e h)
  where
    of_ok : After P (ok a) → P a
    of_ok (fine h) = h

-- and so does what follows from it
pub after_weaken : {A : Type 0} {P Q : A → Type 0} {o : Outcome A} → After P o → ((a : A) → P a → Q a) → After Q o
after_weaken (fine h) k = fine (k _ h)
after_weaken refused k = refused

-- in two ways
pub after_both : {A : Type 0} {P Q : A → Type 0} {o : Outcome A} → After P o → After Q o → After (λ a. P a × Q a) o
after_both (fine h) (fine k) = fine (h, k)
after_both refused k = refused

-- which answer it is
pub after_self : {A : Type 0} (o : Outcome A) → After (λ a. o ≡ ok a) o
after_self (ok a) = fine refl
after_self (refuse number place) = refused

-- of any answer whatever
pub after_any : {A : Type 0} (o : Outcome A) → After (λ _. Unit {0}) o
after_any o = after_weaken (after_self o) λ _ _. tt

pub after_bind : {A B : Type 0} {P : A → Type 0} {Q : B → Type 0} {o : Outcome A} (f : A → Outcome B) → After P o → ((a : A) → P a → After Q (f a)) → After Q (o >>= f)
unfolding ◌>>=◌
after_bind f (fine h) k = k _ h
after_bind f refused k = refused

pub after_need : {B : Type 0} {Q : B → Type 0} (b : Bool) (number place : ℕ) (f : Unit {0} → Outcome B) → (b ≡ true → After Q (f tt)) → After Q (need b number place >>= f)
unfolding ◌>>=◌ need
after_need true number place f h = h refl
after_need false number place f h = refused

-- what holds of both branches, each where the test chose it
pub chosen : {A : Type 0} (P : A → Type 0) (b : Bool) (x y : Unit {0} → A) → (b ≡ true → P (x tt)) → (b ≡ false → P (y tt)) → P (choose b x y)
unfolding choose
chosen P true x y h k = h refl
chosen P false x y h k = k refl

-- where one test follows another, both have passed
pub both_passed : (a : Bool) (b : Unit {0} → Bool) → choose a b (λ _. false) ≡ true → (a ≡ true) × (b tt ≡ true)
unfolding choose
both_passed true b e = (refl, e)
both_passed false b e = absurd (false≢true e)

pub after_choose : {A : Type 0} {Q : A → Type 0} (b : Bool) (x y : Unit {0} → Outcome A) → (b ≡ true → After Q (x tt)) → (b ≡ false → After Q (y tt)) → After Q (choose b x y)
after_choose {Q = Q} b x y h k = chosen (After Q) b x y h k

pub after_given : {A B : Type 0} {Q : A → Type 0} (o : Option B) (x : Unit {0} → Outcome A) (f : B → Outcome A)
    → (o ≡ none → After Q (x tt)) → ((b : B) → o ≡ some b → After Q (f b)) → After Q (given o x f)
unfolding given
after_given none x f h k = h refl
after_given (some b) x f h k = k b refl

-- P n p a q: `a` is n items and the rest, from p to q; an item that was read at p puts itself before what follows it
abbrev pub Puts : {A : Type 0} → (ℕ → ℕ → A → ℕ → Type 0) → ℕ → (A → A) × ℕ → Type 0
Puts {A = A} P p item = (n : ℕ) (others : A) (r : ℕ) → P n item.1 others r → P (suc n) p (item.0 others) r

pub after_many : {A : Type 0} (P : ℕ → ℕ → A → ℕ → Type 0) (item : ℕ → Outcome ((A → A) × ℕ)) (rest : ℕ → Outcome (A × ℕ))
    → ((p : ℕ) → After (Puts P p) (item p)) → ((p : ℕ) → After (λ a. P 0 p a.0 a.1) (rest p)) → (n p : ℕ) → After (λ a. P n p a.0 a.1) (many item rest n p)
unfolding many
after_many P item rest h k zero p = k p
after_many P item rest h k (suc n) p = after_bind _ (h p) λ i put. after_bind _ (after_many P item rest h k n i.1) λ a all. fine (put n a.0 a.1 all)

-- P holds of what is there, if anything is
pub data Held {A : Type 0} (P : A → Type 0) : Option A → Type 0 where
  there : {a : A} → P a → Held P (some a)
  nothing : Held P none

pub held_some : {A : Type 0} {P : A → Type 0} {o : Option A} {a : A} → Held P o → o ≡ some a → P a
held_some {A = A} {P = P} {a = a} h e = of_some (subst (λ (o : Option A). Held P o) e h)
  where
    of_some : Held P (some a) → P a
    of_some (there h) = h
