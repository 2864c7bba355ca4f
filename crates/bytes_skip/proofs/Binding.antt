-- Laws of the place after answers one after another. Assumes nothing.
use Prim.Native.Nat.{ℕ, zero, suc}
use mathlib.Core.Path.{◌≡◌, refl, sym, ap, ◌∙◌}
use Rattle.rules.specs.Outcome.{Outcome, ok, refuse, ◌>>=◌}
use Rattle.rules.specs.FirstWalk.{many, none_left}
use Rattle.rules.proofs.After.{After, fine, refused}
use Rattle.rules.proofs.Outcomes.{same_ok, no_answer, bind_unit, bind_ext, bind_assoc}
use Rattle.bytes_skip.specs.Places.{past, over}

-- the place after what is read in two steps, of which the second goes on from the first one's place
pub past_after : {A B : Type 0} {P : A × ℕ → Type 0} {x : Outcome (A × ℕ)} (k : A × ℕ → Outcome (B × ℕ)) (g : ℕ → Outcome ℕ)
    → After P x → ((a : A × ℕ) → P a → past (k a) ≡ g a.1) → past (x >>= k) ≡ (past x >>= g)
unfolding past ◌>>=◌
past_after k g (fine p) h = h _ p
past_after k g refused h = refl

pub past_then : {A B : Type 0} (x : Outcome (A × ℕ)) (k : A × ℕ → Outcome (B × ℕ)) (g : ℕ → Outcome ℕ) → ((a : A × ℕ) → past (k a) ≡ g a.1) → past (x >>= k) ≡ (past x >>= g)
unfolding past ◌>>=◌
past_then (ok a) k g h = h a
past_then (refuse number place) k g h = refl

-- and where the second step only puts together
pub past_put : {A B : Type 0} (x : Outcome (A × ℕ)) (put : A → B) → past (x >>= λ a. ok (put a.0, a.1)) ≡ past x
unfolding past ◌>>=◌
past_put (ok a) put = refl
past_put (refuse number place) put = refl

-- the place after a record and what is read below it
pub past_read : {A B : Type 0} (x : Outcome ℕ) (r : ℕ → A) (k : A → Outcome (B × ℕ)) (g : ℕ → Outcome ℕ) → ((q : ℕ) → past (k (r q)) ≡ g q)
    → past ((x >>= λ q. ok (r q)) >>= k) ≡ (x >>= g)
unfolding past ◌>>=◌
past_read (ok q) r k g h = h q
past_read (refuse number place) r k g h = refl

-- the place after many items and the rest
pub past_many : {A : Type 0} (item : ℕ → Outcome ((A → A) × ℕ)) (rest : ℕ → Outcome (A × ℕ)) (f : ℕ → Outcome ℕ) → ((p : ℕ) → past (item p) ≡ f p)
    → (n p : ℕ) → past (many item rest n p) ≡ (over n f p >>= λ q. past (rest q))
unfolding many over ◌>>=◌ past
past_many item rest f h zero p = refl
past_many item rest f h (suc n) p =
    past_then (item p) _ (λ q. past (many item rest n q)) (λ a. past_put (many item rest n a.1) a.0)
    ∙ bind_ext (past (item p)) (λ q. past (many item rest n q)) (λ q. over n f q >>= λ r. past (rest r)) (past_many item rest f h n)
    ∙ ap (λ (x : Outcome ℕ). x >>= λ q. over n f q >>= λ r. past (rest r)) (h p)
    ∙ sym (bind_assoc (f p) (λ q. over n f q) (λ q. past (rest q)))

pub past_list : {A : Type 0} (item : ℕ → Outcome ((A → A) × ℕ)) (nil : A) (f : ℕ → Outcome ℕ) → ((p : ℕ) → past (item p) ≡ f p)
    → (n p : ℕ) → past (many item (none_left nil) n p) ≡ over n f p
unfolding none_left past
past_list item nil f h n p = past_many item (none_left nil) f h n p ∙ bind_unit (over n f p)

pub over_one : (f : ℕ → Outcome ℕ) (p : ℕ) → over 1 f p ≡ f p
unfolding over
over_one f p = bind_unit (f p)

pub record WasRead {A : Type 0} (x : Outcome (A × ℕ)) (q : ℕ) : Type 0 where
  pub what : A
  pub there : x ≡ ok (what, q)

pub past_ok : {A : Type 0} (x : Outcome (A × ℕ)) {q : ℕ} → past x ≡ ok q → WasRead x q
unfolding past
past_ok (ok a) h = record { what = a.0; there = ap (λ (q : ℕ). ok (a.0, q)) (same_ok h) }
past_ok (refuse number place) h = absurd (no_answer h)
