-- The user's first demand, that every call ends with a result or one numbered refusal: answers that may be refusals, and branches by name. Assumes nothing.
use Rattle.std.specs.Prelude.{ℕ, Bool, true, false, ◌&&◌, ◌||◌, leb, eqb}
use Rattle.std.proofs.Math.Option.{Option, none, some}

-- an answer, or a refusal with its number and its place
pub data Outcome (A : Type 0) : Type 0 where
  ok : A → Outcome A
  refuse : (number place : ℕ) → Outcome A

-- "Limits and refusal numbers": 1 to 14, and 17
abbrev pub is_refusal_number : ℕ → Bool
is_refusal_number n = leb 1 n && leb n 14 || eqb n 17

-- the first refusal is the whole's
infixl 10 ◌>>=◌
unfoldable pub ◌>>=◌ : {A B : Type 0} → Outcome A → (A → Outcome B) → Outcome B
◌>>=◌ (ok a) f = f a
◌>>=◌ (refuse number place) f = refuse number place

-- a test that must pass, or else this refusal
unfoldable pub need : Bool → (number place : ℕ) → Outcome (Unit {0})
need true number place = ok tt
need false number place = refuse number place

-- what stands under a λ waits until it is chosen
unfoldable pub choose : {A : Type 0} → Bool → (Unit {0} → A) → (Unit {0} → A) → A
choose true x y = x tt
choose false x y = y tt

unfoldable pub given : {A B : Type 0} → Option B → (Unit {0} → A) → (B → A) → A
given none x f = x tt
given (some b) x f = f b
