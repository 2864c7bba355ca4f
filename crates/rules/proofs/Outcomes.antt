-- The laws of answers that may be refusals: steps one after another, tests and branches. Assumes nothing.
use Prim.Native.Nat.{ℕ}
use native.Mathlib.Omega.{arith}
use mathlib.Core.Bool.{Bool, true, false}
use mathlib.Core.Option.{Option, none, some}
use mathlib.Core.Path.{◌≡◌, refl, ap}
use Rattle.rules.specs.Outcome.{Outcome, ok, refuse, ◌>>=◌, need, choose, given}

-- An answer is one, and no refusal

pub same_ok : {A : Type 0} {a b : A} → ok a ≡ ok b → a ≡ b
same_ok e = cc

pub no_answer : {A : Type 0} {number place : ℕ} {a : A} → ◌≡◌ {A = Outcome A} (refuse number place) (ok a) → ⊥
no_answer e = let z : ◌≡◌ {A = ℕ} 0 1 = cc in omega arith

-- Two steps

-- what was answered goes on
pub bind_fine : {A B : Type 0} {x : Outcome A} {a : A} (f : A → Outcome B) → x ≡ ok a → (x >>= f) ≡ f a
unfolding ◌>>=◌
bind_fine {A = A} f e = ap (λ (y : Outcome A). y >>= f) e

-- a refusal is the whole's
pub bind_refused : {A B : Type 0} {x : Outcome A} {number place : ℕ} (f : A → Outcome B) → x ≡ refuse number place → (x >>= f) ≡ refuse number place
unfolding ◌>>=◌
bind_refused {A = A} f e = ap (λ (y : Outcome A). y >>= f) e

pub bind_unit : {A : Type 0} (x : Outcome A) → (x >>= λ a. ok a) ≡ x
unfolding ◌>>=◌
bind_unit (ok a) = refl
bind_unit (refuse number place) = refl

-- the second step is told what the first answered
pub bind_told : {A B : Type 0} (x : Outcome A) (f g : A → Outcome B) → ((a : A) → x ≡ ok a → f a ≡ g a) → (x >>= f) ≡ (x >>= g)
unfolding ◌>>=◌
bind_told (ok a) f g h = h a refl
bind_told (refuse number place) f g h = refl

pub bind_ext : {A B : Type 0} (x : Outcome A) (f g : A → Outcome B) → ((a : A) → f a ≡ g a) → (x >>= f) ≡ (x >>= g)
bind_ext x f g h = bind_told x f g (λ a _. h a)

-- two steps that answer each answer
pub record Both {A B : Type 0} (x : Outcome A) (f : A → Outcome B) (b : B) : Type 0 where
  pub middle : A
  pub first : x ≡ ok middle
  pub second : f middle ≡ ok b

pub bind_got : {A B : Type 0} (x : Outcome A) (f : A → Outcome B) {b : B} → (x >>= f) ≡ ok b → Both x f b
unfolding ◌>>=◌
bind_got (ok a) f h = record { middle = a; first = refl; second = h }
bind_got (refuse number place) f h = absurd (no_answer h)

-- Three steps and more: the same first step, with what follows put together in one way and in another

pub bind_both : {A B C D : Type 0} (x : Outcome A) (f : A → Outcome B) (g : B → Outcome D) (k : A → Outcome C) (l : C → Outcome D)
    → ((a : A) → (f a >>= g) ≡ (k a >>= l)) → ((x >>= f) >>= g) ≡ ((x >>= k) >>= l)
unfolding ◌>>=◌
bind_both (ok a) f g k l h = h a
bind_both (refuse number place) f g k l h = refl

pub bind_left : {A B C : Type 0} (x : Outcome A) (f : A → Outcome B) (g : B → Outcome C) (k : A → Outcome C) → ((a : A) → (f a >>= g) ≡ k a) → ((x >>= f) >>= g) ≡ (x >>= k)
unfolding ◌>>=◌
bind_left (ok a) f g k h = h a
bind_left (refuse number place) f g k h = refl

pub bind_assoc : {A B C : Type 0} (x : Outcome A) (f : A → Outcome B) (g : B → Outcome C) → ((x >>= f) >>= g) ≡ (x >>= λ a. f a >>= g)
bind_assoc x f g = bind_left x f g _ (λ a. refl)

pub bind_thrice : {A B C D : Type 0} (x : Outcome A) (f : A → Outcome B) (g : B → Outcome C) (k : C → Outcome D)
    → ((x >>= λ a. f a >>= g) >>= k) ≡ (x >>= λ a. f a >>= λ b. g b >>= k)
bind_thrice x f g k = bind_left x _ k _ (λ a. bind_assoc (f a) g k)

pub bind_four : {A B C D E : Type 0} (x : Outcome A) (f : A → Outcome B) (g : B → Outcome C) (h : C → Outcome D) (k : D → Outcome E)
    → ((x >>= λ a. f a >>= λ b. g b >>= h) >>= k) ≡ (x >>= λ a. f a >>= λ b. g b >>= λ c. h c >>= k)
bind_four x f g h k = bind_left x _ k _ (λ a. bind_thrice (f a) g h k)

-- Tests and branches

-- a test that was passed
pub need_true : {A : Type 0} (b : Bool) (number place : ℕ) (f : Unit {0} → Outcome A) {a : A} → (need b number place >>= f) ≡ ok a → (b ≡ true) × (f tt ≡ ok a)
unfolding ◌>>=◌ need
need_true true number place f h = (refl, h)
need_true false number place f h = absurd (no_answer h)

pub chosen_true : {A : Type 0} {t : Bool} (x y : Unit {0} → A) → t ≡ true → choose t x y ≡ x tt
unfolding choose
chosen_true x y e = ap (λ (t : Bool). choose t x y) e

pub chosen_false : {A : Type 0} {t : Bool} (x y : Unit {0} → A) → t ≡ false → choose t x y ≡ y tt
unfolding choose
chosen_false x y e = ap (λ (t : Bool). choose t x y) e

pub chosen_test : (t : Bool) → t ≡ choose t (λ _. true) (λ _. false)
unfolding choose
chosen_test true = refl
chosen_test false = refl

pub given_some : {A B : Type 0} {o : Option B} {b : B} (x : Unit {0} → A) (f : B → A) → o ≡ some b → given o x f ≡ f b
unfolding given
given_some x f e = rw e

pub given_none : {A B : Type 0} {o : Option B} (x : Unit {0} → A) (f : B → A) → o ≡ none → given o x f ≡ x tt
unfolding given
given_none x f e = rw e
