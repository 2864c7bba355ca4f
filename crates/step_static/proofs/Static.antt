-- Turns of the loops over heads: whether a name is among the earlier ones, and whether no head is computed and all names differ. Assumes nothing.
use Prim.Native.Nat.{ℕ, zero, suc, ◌+◌, ◌*◌, ◌-◌, ◌≤◌, ◌<◌}
use mathlib.Core.Bool.{Bool, true, false}
use mathlib.Core.List.{List, [], ◌∷◌}
use mathlib.Core.Path.{◌≡◌, refl, sym, ap, ◌∙◌, subst}
use native.Mathlib.Decide.{dec_lt}
use native.Mathlib.Omega.{arith}
use lib.ListN.{length}
use borrow.Author.Tests.{eq-eqb, ne_eqb}
use Rattle.rules.specs.Outcome.{ok, choose}
use Rattle.rules.specs.Numbers.{number_at, same_name}
use Rattle.rules.specs.Tree.{Heads}
use Rattle.rules.specs.Walk.{is_among, is_static}
use Rattle.law_runs.specs.Run.{heads_at}
use Rattle.step_static.specs.Answers.{names_before, NoneAbove, flag_of, Flagged, NowFlagged, HeadsThere, IsStatic}
use Rattle.step_static.proofs.Heads.{first_head, no_head, FirstHead}

module _ (s : List ℕ) (at : ℕ) where
  one_name : (n : ℕ) → 0 < n → names_before s at n ≡ number_at s (at + 26 * (n - 1) + 6) ∷ names_before s at (n - 1)
  unfolding names_before
  one_name n h = let e : n ≡ suc (n - 1) = omega arith in ap (λ (k : ℕ). names_before s at k) e

  -- A name among the first n

  -- it is among them where it is among the first `left`
  pub record Among (name n left : ℕ) : Type 0 where
    pub within : left ≤ n
    pub same : is_among name (names_before s at left) ≡ is_among name (names_before s at n)

  pub among_begin : (name n : ℕ) → Among name n n
  among_begin name n = record { within = omega arith; same = refl }

  module _ {name n left : ℕ} (A : Among name n left) where
    pub among_end : left ≤ 0 → false ≡ is_among name (names_before s at n)
    unfolding names_before is_among
    among_end h = let e : left ≡ 0 = omega arith in (rw e at A.same)

    module _ (h : 0 < left) {x : ℕ} (is : x ≡ number_at s (at + 26 * (left - 1) + 6)) where
      among_split : choose (same_name name x) (λ _. true) (λ _. is_among name (names_before s at (left - 1))) ≡ is_among name (names_before s at n)
      unfolding is_among
      among_split = rw is (ap (λ (l : List ℕ). is_among name l) (sym (one_name left h)) ∙ A.same)

      pub among_found : x ≡ name → true ≡ is_among name (names_before s at n)
      unfolding same_name choose
      among_found e = (rw (eq-eqb name x (sym e)) at among_split)

      pub among_next : (x ≡ name → ⊥) → Among name n (left - 1)
      unfolding same_name choose
      among_next ne = record { within = let w = A.within in omega (arith, w); same = (rw (ne_eqb name x (λ e. ne (sym e))) at among_split) }

  -- A name that is none of the first n

  none_equal : (n : ℕ) {name : ℕ} → ((k : ℕ) → k < n → (name ≡ number_at s (at + 26 * k + 6) → ⊥)) → false ≡ is_among name (names_before s at n)
  unfolding names_before is_among same_name choose
  none_equal zero differ = refl
  none_equal (suc n) {name} differ =
      rw (ne_eqb name (number_at s (at + 26 * n + 6)) (differ n (omega arith))) (none_equal n (λ k lt. differ k (omega (arith, lt))))

  every_next : (P : ℕ → Type 0) (i : ℕ) → ((k : ℕ) → k < i → P k) → P i → (k : ℕ) → k < i + 1 → P k
  every_next P i all here k lt = by (dec_lt k i)
    where
      by : Dec (k < i) → P k
      by (yes h) = all k h
      by (no h) = let e : i ≡ k = omega (arith, lt, h) in subst P e here

  -- it is above all of them

  pub above_begin : (highest : ℕ) → NoneAbove s at 0 highest
  above_begin highest = record { below = λ k h. omega (arith, h) }

  pub above_none : (n : ℕ) {highest name : ℕ} → NoneAbove s at n highest → highest < name → false ≡ is_among name (names_before s at n)
  above_none n none h = none_equal n λ k lt e. let below = none.below k lt in omega (arith, below, h, e)

  pub above_next : {i highest name more : ℕ} → NoneAbove s at i highest → name ≡ number_at s (at + 26 * i + 6) → (highest ≤ more) × (name ≤ more) → NoneAbove s at (i + 1) more
  above_next {i} {highest} {name} {more} none is up =
      let higher = up.0 in
      let own = up.1 in
      record {
        below = every_next (λ k. number_at s (at + 26 * k + 6) ≤ more) i
            (λ k lt. let below = none.below k lt in omega (arith, below, higher))
            (omega (arith, is, own));
      }

  -- or it is not flagged, and they are

  pub flagged_begin : {met : List ℕ} → Flagged s at 0 met
  flagged_begin = record { flags = λ k h. omega (arith, h) }

  pub unflagged_none : (n name : ℕ) {met : List ℕ} → Flagged s at n met → (flag_of met name ≡ 1 → ⊥) → false ≡ is_among name (names_before s at n)
  unflagged_none n name {met} set unset = none_equal n λ k lt e. unset (ap (λ (x : ℕ). flag_of met x) e ∙ set.flags k lt)

  pub flagged_next : {i name : ℕ} {met more : List ℕ} → Flagged s at i met → name ≡ number_at s (at + 26 * i + 6) → NowFlagged met more name → Flagged s at (i + 1) more
  flagged_next {i} {name} {met} {more} set is now = record {
    flags = every_next (λ k. flag_of more (number_at s (at + 26 * k + 6)) ≡ 1) i
        (λ k lt. now.kept _ (set.flags k lt))
        (ap (λ (x : ℕ). flag_of more x) (sym is) ∙ now.own);
  }

  -- All names

  -- the heads that are left, and that the whole is static where they are beside the names before them
  pub record Rest (levels n i : ℕ) (hs : Heads) (q : ℕ) : Type 0 where
    pub rest : Heads
    pub read : heads_at s levels (n - i) (at + 26 * i) ≡ ok (rest, q)
    pub same : is_static [] hs ≡ is_static (names_before s at i) rest

  pub record Static (n i : ℕ) : Type 0 where
    pub turns : i ≤ n
    pub left : (levels : ℕ) (hs : Heads) (q : ℕ) → heads_at s levels n at ≡ ok (hs, q) → Rest levels n i hs q

  pub static_begin : (n : ℕ) → Static n 0
  unfolding names_before
  static_begin n =
      let all : n - 0 ≡ n = omega arith in
      let here : at + 26 * 0 ≡ at = omega arith in
      record { turns = omega arith; left = λ levels hs q read. record { rest = hs; read = rw (all, here) read; same = refl } }

  module _ {n i : ℕ} (S : Static n i) where
    pub static_end : n ≤ i → IsStatic true s at n
    static_end le = record {
      same = λ levels hs q read.
          let r = S.left levels hs q read in
          let e : n - i ≡ 0 = omega arith in
          sym (r.same ∙ no_head s levels (at + 26 * i) r.rest q (rw e at r.read) (names_before s at i));
    }

    module _ (lt : i < n) where
      head_here : (levels : ℕ) (hs : Heads) (q : ℕ) (read : heads_at s levels n at ≡ ok (hs, q)) → FirstHead s levels (n - (i + 1)) (at + 26 * i) (S.left levels hs q read).rest q
      head_here levels hs q read =
          let e : n - i ≡ suc (n - (i + 1)) = omega arith in
          first_head s levels (n - (i + 1)) (at + 26 * i) (S.left levels hs q read).rest q (rw e at (S.left levels hs q read).read)

      -- the head is whole
      pub head_fits : HeadsThere s n at → at + 26 * i + 26 ≤ length s
      head_fits h = (head_here h.levels h.read.what.0 h.read.what.1 h.read.there).fits

      pub static_computed : {kind : ℕ} → kind ≡ number_at s (at + 26 * i + 2) → (kind ≡ 0 → ⊥) → IsStatic false s at n
      static_computed is nz = record {
        same = λ levels hs q read.
            sym ((S.left levels hs q read).same ∙ (head_here levels hs q read).stops (λ z. nz (is ∙ z)) (names_before s at i));
      }

      module _ {kind name : ℕ} (kind_is : kind ≡ number_at s (at + 26 * i + 2)) (fixed : kind ≡ 0) (name_is : name ≡ number_at s (at + 26 * i + 6)) where
        static_split : (levels : ℕ) (hs : Heads) (q : ℕ) (read : heads_at s levels n at ≡ ok (hs, q))
            → is_static [] hs
            ≡ choose (is_among name (names_before s at i)) (λ _. false) (λ _. is_static (name ∷ names_before s at i) (head_here levels hs q read).others)
        static_split levels hs q read =
            (S.left levels hs q read).same
            ∙ (head_here levels hs q read).goes (sym kind_is ∙ fixed) (names_before s at i)
            ∙ ap (λ (x : ℕ). choose (is_among x (names_before s at i)) (λ _. false) (λ _. is_static (x ∷ names_before s at i) (head_here levels hs q read).others)) (sym name_is)

        pub static_repeated : {b : Bool} → b ≡ is_among name (names_before s at i) → b ≡ true → IsStatic false s at n
        unfolding choose
        static_repeated is e = record {
          same = λ levels hs q read.
              sym (static_split levels hs q read
              ∙ ap (λ (x : Bool). choose x (λ _. false) (λ _. is_static (name ∷ names_before s at i) (head_here levels hs q read).others)) (sym is ∙ e));
        }

        pub static_next : {b : Bool} → b ≡ is_among name (names_before s at i) → b ≡ false → Static n (i + 1)
        unfolding choose names_before
        static_next is e =
            let one : i + 1 ≡ suc i = omega arith in
            let behind : at + 26 * (i + 1) ≡ at + 26 * i + 26 = omega arith in
            record {
              turns = omega arith;
              left = λ levels hs q read. record {
                rest = (head_here levels hs q read).others;
                read = rw behind ((head_here levels hs q read).read (sym kind_is ∙ fixed));
                same = static_split levels hs q read
                    ∙ ap (λ (x : Bool). choose x (λ _. false) (λ _. is_static (name ∷ names_before s at i) (head_here levels hs q read).others)) (sym is ∙ e)
                    ∙ ap (λ (x : ℕ). is_static (x ∷ names_before s at i) (head_here levels hs q read).others) name_is
                    ∙ ap (λ (k : ℕ). is_static (names_before s at k) (head_here levels hs q read).others) (sym one);
              };
            }
