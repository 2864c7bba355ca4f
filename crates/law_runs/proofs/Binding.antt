-- Laws of lists that are read item by item, and of reading before analysing. Assumes nothing.
use Prim.Native.Nat.{ℕ, suc, ◌+◌, ◌*◌, ◌≤◌}
use native.Mathlib.Omega.{arith}
use native.Mathlib.Nat.{mul-suc, mul-zero}
use mathlib.Core.Path.{◌≡◌, refl, sym, ap, ◌∙◌}
use Rattle.rules.specs.Outcome.{Outcome, ok, refuse, ◌>>=◌}
use Rattle.rules.specs.FirstWalk.{many, none_left}
use Rattle.rules.proofs.After.{After, fine, after_weaken, after_many}
use Rattle.rules.proofs.Outcomes.{same_ok, bind_fine, bind_ext, bind_assoc, bind_got, bind_refused}
use Rattle.law_runs.specs.Run.{Accepted}

pub accepted : {A : Type 0} {o : Outcome A} {a : A} → o ≡ ok a → Accepted o
accepted {a = a} e = record { what = a; there = e }

-- what was read is one thing
pub accepted_what : {A : Type 0} {o : Outcome A} {a : A} (x : Accepted o) → o ≡ ok a → x.what ≡ a
accepted_what x e = same_ok (sym x.there ∙ e)

-- Lists

module _ {A : Type 0} (item : ℕ → Outcome ((A → A) × ℕ)) (nil : A) where
  abbrev all : ℕ → ℕ → Outcome (A × ℕ)
  all n p = many item (none_left nil) n p

  -- the first item, and what follows it
  pub record Split (n p : ℕ) (a : A) (r : ℕ) : Type 0 where
    pub put : A → A
    pub behind : ℕ
    pub here : item p ≡ ok (put, behind)
    pub others : A
    pub later : all n behind ≡ ok (others, r)
    pub same : a ≡ put others

  pub many_none : (p : ℕ) → all 0 p ≡ ok (nil, p)
  unfolding many none_left
  many_none p = refl

  pub many_split : (n p : ℕ) {a : A} {r : ℕ} → all (suc n) p ≡ ok (a, r) → Split n p a r
  unfolding many
  many_split n p {a} {r} e =
      let b = bind_got (item p) _ e in
      let c = bind_got (all n b.middle.1) _ b.second in
      let f = same_ok c.second in
      record {
        put = b.middle.0;
        behind = b.middle.1;
        here = b.first;
        others = c.middle.0;
        later = c.first ∙ ap (λ (x : A × ℕ). ok (c.middle.0, x.1)) f;
        same = sym (ap (λ (x : A × ℕ). x.0) f);
      }

  pub many_more : (n p : ℕ) {put : A → A} {q r : ℕ} {others : A} → item p ≡ ok (put, q) → all n q ≡ ok (others, r) → all (suc n) p ≡ ok (put others, r)
  unfolding many
  many_more n p e f = bind_fine _ e ∙ bind_fine _ f

  pub many_one : (p : ℕ) {put : A → A} {q : ℕ} → item p ≡ ok (put, q) → all 1 p ≡ ok (put nil, q)
  many_one p {q = q} e = many_more 0 p e (many_none q)

  -- one alone
  pub record One (p : ℕ) (a : A) (q : ℕ) : Type 0 where
    pub put : A → A
    pub here : item p ≡ ok (put, q)
    pub same : a ≡ put nil

  pub many_alone : (p : ℕ) {a : A} {q : ℕ} → all 1 p ≡ ok (a, q) → One p a q
  many_alone p {a} {q} e =
      let f = many_split 0 p e in
      let g : ◌≡◌ {A = A × ℕ} (nil, f.behind) (f.others, q) = same_ok (sym (many_none f.behind) ∙ f.later) in
      record {
        put = f.put;
        here = f.here ∙ ap (λ (x : A × ℕ). ok (f.put, x.1)) g;
        same = f.same ∙ ap (λ (x : A × ℕ). f.put x.0) (sym g);
      }

  pub many_first : (n p : ℕ) → Accepted (all (suc n) p) → Accepted (all 1 p)
  many_first n p h = accepted (many_one p (many_split n p h.there).here)

  -- the items after the first
  pub many_rest : (n p : ℕ) {a : A} {q : ℕ} → Accepted (all (suc n) p) → all 1 p ≡ ok (a, q) → Accepted (all n q)
  many_rest n p {q = q} h e =
      let f = many_split n p h.there in
      let g = same_ok (sym (many_one p f.here) ∙ e) in
      accepted (ap (λ (x : A × ℕ). all n x.1) (sym g) ∙ f.later)

  -- each item takes m bytes at least, and lies within the first l
  pub many_within : (l m : ℕ) → ((p : ℕ) → After (λ i. (p + m ≤ i.1) × (i.1 ≤ l)) (item p))
      → (n p : ℕ) → After (λ a. (p + m * n ≤ a.1) × (p ≤ l → a.1 ≤ l)) (all n p)
  unfolding none_left
  many_within l m each n p =
      after_many (λ (n p : ℕ) (a : A) (q : ℕ). (p + m * n ≤ q) × (p ≤ l → q ≤ l)) item (none_left nil)
      (λ p. after_weaken (each p) λ i h n others r later. (omega (arith, mul-suc m n, h.0, later.0), λ _. later.1 h.1))
      (λ p. fine (omega (arith, mul-zero m), λ le. le)) n p

-- Reading, and then analysing what was read; `pack` puts the answer and the place after together

module _ {A B C : Type 0} (pack : B → ℕ → C) where
  abbrev running : Outcome (A × ℕ) → (A → Outcome B) → Outcome C
  running x f = x >>= λ a. f a.0 >>= λ b. ok (pack b a.1)

  pub run_read : {x : Outcome (A × ℕ)} {a : A} {q : ℕ} (f : A → Outcome B) → x ≡ ok (a, q) → running x f ≡ (f a >>= λ b. ok (pack b q))
  run_read f e = bind_fine _ e

  -- analysing the first item and then the others is analysing all
  pub run_step : {x y : Outcome (A × ℕ)} (z : ℕ → Outcome (A × ℕ)) (f : A → Outcome B) (g : B → A → Outcome B) (k : C → Outcome C) {one more both : A} {q r : ℕ}
      → x ≡ ok (both, r) → y ≡ ok (one, q) → z q ≡ ok (more, r) → f both ≡ (f one >>= λ b. g b more)
      → ((b : B) → k (pack b q) ≡ running (z q) (g b)) → running x f ≡ (running y f >>= k)
  unfolding ◌>>=◌
  run_step z f g k {one} {more} {both} {q} {r} ex ey ez h goes =
      bind_fine _ ex
      ∙ ap (λ (o : Outcome B). o >>= λ b. ok (pack b r)) h
      ∙ bind_assoc (f one) (λ b. g b more) (λ b. ok (pack b r))
      ∙ bind_ext (f one) _ _ (λ b. sym (goes b ∙ bind_fine _ ez))
      ∙ sym (bind_assoc (f one) (λ b. ok (pack b q)) k)
      ∙ ap (λ (o : Outcome C). o >>= k) (sym (bind_fine _ ey))

  -- what was analysed had been read, up to that place
  pub record Ran (x : Outcome (A × ℕ)) (c : C) : Type 0 where
    pub what : A
    pub place : ℕ
    pub there : x ≡ ok (what, place)
    pub answer : B
    pub same : pack answer place ≡ c

  pub run_ran : (x : Outcome (A × ℕ)) (f : A → Outcome B) {c : C} → running x f ≡ ok c → Ran x c
  run_ran x f e =
      let b = bind_got x _ e in
      let d = bind_got (f b.middle.0) _ b.second in
      record { what = b.middle.0; place = b.middle.1; there = b.first; answer = d.middle; same = same_ok d.second }

-- What is analysed one by one: `run` is n of them from a place and a state on, `parts` takes apart what `pack` put together

pub record OneByOne {A B C : Type 0} (read : (n p : ℕ) → Outcome (A × ℕ)) (run : (n p : ℕ) → B → Outcome C) (pack : B → ℕ → C) (parts : C → B × ℕ) : Type 0 where
  pub none : (p : ℕ) (b : B) → run 0 p b ≡ ok (pack b p)
  -- the items after the first
  pub rest : (n p : ℕ) (b : B) {b' : B} {q : ℕ} → Accepted (read (suc n) p) → run 1 p b ≡ ok (pack b' q) → Accepted (read n q)
  pub step : (n p : ℕ) (b : B) → Accepted (read (suc n) p) → run (suc n) p b ≡ (run 1 p b >>= λ c. run n (parts c).1 (parts c).0)
  -- where the first succeeds the others follow, and where it is refused all are
  pub next : (n p : ℕ) (b : B) {b' : B} {q : ℕ} → Accepted (read (suc n) p) → run 1 p b ≡ ok (pack b' q) → run (suc n) p b ≡ run n q b'
  pub stop : (n p : ℕ) (b : B) {number place : ℕ} → Accepted (read (suc n) p) → run 1 p b ≡ refuse number place → run (suc n) p b ≡ refuse number place

-- so is a list that is read item by item, where an item's analysis goes before that of the others
module _ {A B C : Type 0} (item : ℕ → Outcome ((A → A) × ℕ)) (nil : A) (f : A → B → Outcome B) (pack : B → ℕ → C) (parts : C → B × ℕ)
    (apart : (b : B) (q : ℕ) → parts (pack b q) ≡ (b, q)) (empty : (b : B) → f nil b ≡ ok b)
    (puts : (p : ℕ) (put : A → A) (q : ℕ) → item p ≡ ok (put, q) → (others : A) (b : B) → f (put others) b ≡ (f (put nil) b >>= λ b. f others b)) where
  abbrev run_all : ℕ → ℕ → B → Outcome C
  run_all n p b = many item (none_left nil) n p >>= λ a. f a.0 b >>= λ b. ok (pack b a.1)

  run_first : (n p : ℕ) (b : B) → Accepted (many item (none_left nil) (suc n) p) → run_all (suc n) p b ≡ (run_all 1 p b >>= λ c. run_all n (parts c).1 (parts c).0)
  run_first n p b a =
      let s = many_split item nil n p a.there in
      run_step pack (λ q. many item (none_left nil) n q) (λ a. f a b) (λ b a. f a b) (λ c. run_all n (parts c).1 (parts c).0) a.there (many_one item nil p s.here) s.later
      (ap (λ (a : A). f a b) s.same ∙ puts p s.put s.behind s.here s.others b) (λ b. ap (λ (x : B × ℕ). run_all n x.1 x.0) (apart b s.behind))

  pub one_by_one : OneByOne (λ n p. many item (none_left nil) n p) run_all pack parts
  one_by_one = record {
    none = λ p b. bind_fine _ (many_none item nil p) ∙ bind_fine _ (empty b);
    rest = λ n p b {b'} {q} a e.
        let r = run_ran pack (many item (none_left nil) 1 p) (λ a. f a b) e in
        many_rest item nil n p a (r.there ∙ ap (λ (x : B × ℕ). ok (r.what, x.1)) (sym (apart r.answer r.place) ∙ ap parts r.same ∙ apart b' q));
    step = run_first;
    next = λ n p b {b'} {q} a e. run_first n p b a ∙ bind_fine _ e ∙ ap (λ (x : B × ℕ). run_all n x.1 x.0) (apart b' q);
    stop = λ n p b a e. run_first n p b a ∙ bind_refused _ e;
  }
