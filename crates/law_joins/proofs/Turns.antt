-- The loops of the walkers: what is left of the list, from here, gives what the whole gives. Assumes nothing.
use Prim.Native.Nat.{ℕ, suc, ◌+◌, ◌-◌, ◌<◌, ◌≤◌}
use native.Mathlib.Omega.{arith}
use mathlib.Core.List.{List}
use mathlib.Core.Path.{◌≡◌, refl, sym, ◌∙◌, ap, subst}
use lib.ListN.{length}
use Rattle.rules.specs.Outcome.{Outcome, ok, refuse}
use Rattle.rules.specs.State as rules
use Rattle.rules.specs.Walk as walk
use Rattle.rules.proofs.After.{After, after_ok}
use Rattle.law_steady.specs.Passed.{Passed, PassedSpecs}
use Rattle.law_runs.specs.Run.{Accepted, values_at, heads_at, items_at, binds_at, params_at, run_values, run_items, run_heads, run_binds, run_params}
use Rattle.law_runs.proofs.Lists.{StatesByOne, SpecsByOne, items_first, items_by_one, heads_first, heads_by_one, binds_first, binds_by_one, params_first, params_by_one, values_none, values_first, values_head, values_stop, values_rest, values_next, head_fits, head_behind}
use Rattle.bytes_skip.specs.Behind.{Behind}
use Rattle.law_steady.proofs.Places.{passed_values, passed_items, passed_heads, passed_binds, passed_params}
use Rattle.state.specs.Seen.{Buffers, buffers, stack, limits_of, contents, SameBuffers}
use Rattle.state.specs.declared.Lent.{Lent}
use Rattle.state.specs.Walks.{place_of, walked, specs, Walks, WalksSpecs}
use Rattle.state.specs.declared.AnalysisStack.{AnalysisStack}
use Rattle.state.specs.declared.Limits.{Limits}
use Rattle.state.specs.declared.Place.{Place}
use Rattle.law_joins.specs.Ready.{Ready}
use Rattle.law_joins.proofs.Joining.{Long, Answer, KeptAnswer, limits_kept, went, went_fit, kept_on, kept_fit}
use Rattle.law_joins.proofs.Readiness.{ready_passed, ready_specs}
use Rattle.std.specs.Prelude.{Ok, Err}
use Rattle.refusal.specs.declared.Refusal.{Refusal}
use Rattle.state.specs.Seen.{Walked, Specs}

-- all six buffers are as long as before
pub record Longs (b b' : Buffers) : Type 0 where
  pub out : length b'.out ≡ length b.out
  pub diagnostics : length b'.diagnostics ≡ length b.diagnostics
  pub locals : length b'.locals ≡ length b.locals
  pub frames : length b'.frames ≡ length b.frames
  pub captures : length b'.captures ≡ length b.captures
  pub references : length b'.references ≡ length b.references

pub long : {b b' : Buffers} → Longs b b' → Long b b'
long k = record { out = k.out; diagnostics = k.diagnostics }

-- where both stay as they are, whatever becomes of the others
pub long_same : {o d l l' f f' c c' r r' : List ℕ} → Long (buffers o d l f c r) (buffers o d l' f' c' r')
long_same = record { out = refl; diagnostics = refl }

pub longs_then : {b b' b'' : Buffers} → Longs b b' → Longs b' b'' → Longs b b''
longs_then j k = record {
  out = k.out ∙ j.out;
  diagnostics = k.diagnostics ∙ j.diagnostics;
  locals = k.locals ∙ j.locals;
  frames = k.frames ∙ j.frames;
  captures = k.captures ∙ j.captures;
  references = k.references ∙ j.references;
}

-- the same buffers lent, as `SameBuffers` has it
pub longs_kept : {A B C D E F : Type 0} {b b' : Buffers}
    → A × (length b'.out ≡ length b.out) × B × (length b'.diagnostics ≡ length b.diagnostics) × C × (length b'.locals ≡ length b.locals)
    × D × (length b'.frames ≡ length b.frames) × E × (length b'.captures ≡ length b.captures) × F × (length b'.references ≡ length b.references)
    → Longs b b'
longs_kept k = record { out = k.1; diagnostics = k.3; locals = k.5; frames = k.7; captures = k.9; references = k.11 }

pub long_kept : {A B C D E F : Type 0} {b b' : Buffers}
    → A × (length b'.out ≡ length b.out) × B × (length b'.diagnostics ≡ length b.diagnostics) × C × (length b'.locals ≡ length b.locals)
    × D × (length b'.frames ≡ length b.frames) × E × (length b'.captures ≡ length b.captures) × F × (length b'.references ≡ length b.references)
    → Long b b'
long_kept k = long (longs_kept k)

pub longs_none : {b : Buffers} → Longs b b
longs_none = record { out = refl; diagnostics = refl; locals = refl; frames = refl; captures = refl; references = refl }

abbrev pub Run : Type 0
Run = rules.Limits → rules.AnalysisStack → Outcome Answer

whole : (n : ℕ) → n - 0 ≡ n
whole n = omega arith

left_over : {n i : ℕ} → i < n → suc (n - (i + 1)) ≡ n - i
left_over lt = omega arith

none_over : {n i : ℕ} → i ≤ n → n ≤ i → n - i ≡ 0
none_over le done = omega arith

-- One step, whichever branch it came from

pub record Turned (l : Limits) (before after : Lent) (st : AnalysisStack) (run : Run) (w : Walked) : Type 0 where
  pub walks : Walks w l (contents before) (contents after) st run
  pub same_buffers : SameBuffers before after

pub turned : {l : Limits} {before after : Lent} {st : AnalysisStack} {run : Run} {r : Walked} → Walks r l (contents before) (contents after) st run → SameBuffers before after
    → {left : Lent} {w : Walked} → left ≡ after → w ≡ r → Turned l before left st run w
turned w k e e' = rw (e, e') record { walks = w; same_buffers = k }

-- Lists of items and of heads: what must be there, and what is run, by how many and from where

pub record Turn (there : ℕ → ℕ → Type 0) (run : ℕ → ℕ → Run) (l : Limits) (s : List ℕ) (nest : ℕ) (h : Place) (b₀ : Buffers) (st₀ : AnalysisStack) (p₀ n : ℕ) (b : Buffers) (st : AnalysisStack) (p i : ℕ) : Type 0 where
  pub few : i ≤ n
  pub left : there (n - i) p
  pub ready : Ready l b st s p nest h
  pub same : (L : rules.Limits) → L ≡ limits_of l b₀.out b₀.diagnostics → run (n - i) p L (stack b st) ≡ run n p₀ L (stack b₀ st₀)
  pub longs : Longs b₀ b
  pub begun : i ≡ 0 → p ≡ p₀

-- what such a list is, one at a time
pub record Unrolls (there : ℕ → ℕ → Type 0) (run : ℕ → ℕ → Run) : Type 0 where
  pub none : (p : ℕ) (L : rules.Limits) (σ : rules.AnalysisStack) → run 0 p L σ ≡ ok (σ, p)
  pub first : (n p : ℕ) → there (suc n) p → there 1 p
  pub rest : (n p : ℕ) (L : rules.Limits) (σ : rules.AnalysisStack) {σ' : rules.AnalysisStack} {q : ℕ} → there (suc n) p → run 1 p L σ ≡ ok (σ', q) → there n q
  pub next : (n p : ℕ) (L : rules.Limits) (σ : rules.AnalysisStack) {σ' : rules.AnalysisStack} {q : ℕ} → there (suc n) p → run 1 p L σ ≡ ok (σ', q) → run (suc n) p L σ ≡ run n q L σ'
  pub stop : (n p : ℕ) (L : rules.Limits) (σ : rules.AnalysisStack) {number place : ℕ} → there (suc n) p → run 1 p L σ ≡ refuse number place → run (suc n) p L σ ≡ refuse number place
  pub passes : (p : ℕ) (L : rules.Limits) (σ : rules.AnalysisStack) → After (λ r. Passed p r.1 σ r.0) (run 1 p L σ)

module _ {there : ℕ → ℕ → Type 0} {run : ℕ → ℕ → Run} (u : Unrolls there run) {l : Limits} {s : List ℕ} {nest : ℕ} {h : Place} {b₀ : Buffers} {st₀ : AnalysisStack} {p₀ n : ℕ} where
  pub turn_begin : there n p₀ → Ready l b₀ st₀ s p₀ nest h → Turn there run l s nest h b₀ st₀ p₀ n b₀ st₀ p₀ 0
  turn_begin a r = record { few = omega arith; left = subst (λ (k : ℕ). there k p₀) (sym (whole n)) a; ready = r; same = λ L eL. ap (λ (k : ℕ). run k p₀ L (stack b₀ st₀)) (whole n); longs = longs_none; begun = λ _. refl }

  module _ {b : Buffers} {st : AnalysisStack} {p i : ℕ} (t : Turn there run l s nest h b₀ st₀ p₀ n b st p i) where
    pub turn_end : n ≤ i → Walks (Ok (st, p)) l b₀ b st₀ (λ L σ. run n p₀ L σ)
    turn_end done = record {
      same = λ L eL. sym (u.none p L (stack b st)) ∙ ap (λ (k : ℕ). run k p L (stack b st)) (sym (none_over t.few done)) ∙ t.same L eL;
      fit = t.ready.fit;
    }

    module _ (lt : i < n) where
      more : there (suc (n - (i + 1))) p
      more = subst (λ (k : ℕ). there k p) (sym (left_over lt)) t.left

      pub turn_first : there 1 p
      turn_first = u.first (n - (i + 1)) p more

      module _ {b₁ : Buffers} {r : Walked} (one : Walks r l b b₁ st (λ L σ. run 1 p L σ)) where
        pub turn_stop : {why : Refusal} → r ≡ Err why → Walks (Err why) l b₀ b₁ st₀ (λ L σ. run n p₀ L σ)
        turn_stop e = record {
          same = λ L eL.
              let eL' = eL ∙ limits_kept l (long t.longs) in
              sym (u.stop (n - (i + 1)) p L (stack b st) more (sym (one.same L eL') ∙ ap (λ (r : Walked). walked r b₁) e))
              ∙ ap (λ (k : ℕ). run k p L (stack b st)) (left_over lt) ∙ t.same L eL;
          fit = tt;
        }

        pub turn_next : {st₁ : AnalysisStack} {q : ℕ} → r ≡ Ok (st₁, q) → Longs b b₁ → Turn there run l s nest h b₀ st₀ p₀ n b₁ st₁ q (i + 1)
        turn_next {st₁ = st₁} {q = q} e k = record {
          few = omega (arith, lt);
          left = u.rest (n - (i + 1)) p _ (stack b st) more (went one e _ refl);
          ready = ready_passed t.ready (after_ok (u.passes p _ (stack b st)) (went one e _ refl)) (went_fit one e);
          same = λ L eL.
              let eL' = eL ∙ limits_kept l (long t.longs) in
              sym (u.next (n - (i + 1)) p L (stack b st) more (went one e L eL'))
              ∙ ap (λ (k : ℕ). run k p L (stack b st)) (left_over lt) ∙ t.same L eL;
          longs = longs_then t.longs k;
          begun = λ none. absurd (omega (arith, none));
        }

-- Specs, of which some are kept

abbrev pub RunSpecs : Type 0
RunSpecs = rules.Limits → rules.AnalysisStack → Outcome KeptAnswer

pub record TurnSpecs (there : ℕ → ℕ → Type 0) (run : ℕ → ℕ → ℕ → RunSpecs) (l : Limits) (s : List ℕ) (nest : ℕ) (h : Place) (b₀ : Buffers) (st₀ : AnalysisStack) (p₀ n : ℕ) (b : Buffers) (st : AnalysisStack) (p kept i : ℕ) : Type 0 where
  pub few : i ≤ n
  pub few_kept : kept ≤ i
  pub left : there (n - i) p
  pub ready : Ready l b st s p nest h
  pub same : (L : rules.Limits) → L ≡ limits_of l b₀.out b₀.diagnostics → run (n - i) p kept L (stack b st) ≡ run n p₀ 0 L (stack b₀ st₀)
  pub longs : Longs b₀ b

pub record UnrollsSpecs (there : ℕ → ℕ → Type 0) (run : ℕ → ℕ → ℕ → RunSpecs) : Type 0 where
  pub none : (p kept : ℕ) (L : rules.Limits) (σ : rules.AnalysisStack) → run 0 p kept L σ ≡ ok (kept, (σ, p))
  pub first : (n p : ℕ) → there (suc n) p → there 1 p
  pub rest : (n p kept : ℕ) (L : rules.Limits) (σ : rules.AnalysisStack) {σ' : rules.AnalysisStack} {q k : ℕ} → there (suc n) p → run 1 p kept L σ ≡ ok (k, (σ', q)) → there n q
  pub next : (n p kept : ℕ) (L : rules.Limits) (σ : rules.AnalysisStack) {σ' : rules.AnalysisStack} {q k : ℕ} → there (suc n) p → run 1 p kept L σ ≡ ok (k, (σ', q)) → run (suc n) p kept L σ ≡ run n q k L σ'
  pub stop : (n p kept : ℕ) (L : rules.Limits) (σ : rules.AnalysisStack) {number place : ℕ} → there (suc n) p → run 1 p kept L σ ≡ refuse number place → run (suc n) p kept L σ ≡ refuse number place
  pub passes : (p kept : ℕ) (L : rules.Limits) (σ : rules.AnalysisStack) → After (λ r. PassedSpecs 1 p r.1.1 kept r.0 σ r.1.0) (run 1 p kept L σ)

module _ {there : ℕ → ℕ → Type 0} {run : ℕ → ℕ → ℕ → RunSpecs} (u : UnrollsSpecs there run) {l : Limits} {s : List ℕ} {nest : ℕ} {h : Place} {b₀ : Buffers} {st₀ : AnalysisStack} {p₀ n : ℕ} where
  pub specs_begin : there n p₀ → Ready l b₀ st₀ s p₀ nest h → TurnSpecs there run l s nest h b₀ st₀ p₀ n b₀ st₀ p₀ 0 0
  specs_begin a r = record { few = omega arith; few_kept = omega arith; left = subst (λ (k : ℕ). there k p₀) (sym (whole n)) a; ready = r; same = λ L eL. ap (λ (k : ℕ). run k p₀ 0 L (stack b₀ st₀)) (whole n); longs = longs_none }

  module _ {b : Buffers} {st : AnalysisStack} {p kept i : ℕ} (t : TurnSpecs there run l s nest h b₀ st₀ p₀ n b st p kept i) where
    pub specs_end : n ≤ i → WalksSpecs (Ok (st, p, kept)) l b₀ b st₀ (λ L σ. run n p₀ 0 L σ)
    specs_end done = record {
      same = λ L eL. sym (u.none p kept L (stack b st)) ∙ ap (λ (k : ℕ). run k p kept L (stack b st)) (sym (none_over t.few done)) ∙ t.same L eL;
      fit = t.ready.fit;
    }

    module _ (lt : i < n) where
      more_specs : there (suc (n - (i + 1))) p
      more_specs = subst (λ (k : ℕ). there k p) (sym (left_over lt)) t.left

      pub specs_first : there 1 p
      specs_first = u.first (n - (i + 1)) p more_specs

      module _ {b₁ : Buffers} {r : Specs} (one : WalksSpecs r l b b₁ st (λ L σ. run 1 p kept L σ)) where
        pub specs_stops : {why : Refusal} → r ≡ Err why → WalksSpecs (Err why) l b₀ b₁ st₀ (λ L σ. run n p₀ 0 L σ)
        specs_stops e = record {
          same = λ L eL.
              let eL' = eL ∙ limits_kept l (long t.longs) in
              sym (u.stop (n - (i + 1)) p kept L (stack b st) more_specs (sym (one.same L eL') ∙ ap (λ (r : Specs). specs r b₁) e))
              ∙ ap (λ (k : ℕ). run k p kept L (stack b st)) (left_over lt) ∙ t.same L eL;
          fit = tt;
        }

        pub specs_next : {st₁ : AnalysisStack} {q k : ℕ} → r ≡ Ok (st₁, q, k) → Longs b b₁ → TurnSpecs there run l s nest h b₀ st₀ p₀ n b₁ st₁ q k (i + 1)
        specs_next {st₁ = st₁} {q = q} e j =
            let passed = after_ok (u.passes p kept _ (stack b st)) (kept_on one e _ refl) in
            record {
              few = omega (arith, lt);
              few_kept = omega (arith, passed.few_kept, t.few_kept);
              left = u.rest (n - (i + 1)) p kept _ (stack b st) more_specs (kept_on one e _ refl);
              ready = ready_specs t.ready passed (kept_fit one e);
              same = λ L eL.
                  let eL' = eL ∙ limits_kept l (long t.longs) in
                  sym (u.next (n - (i + 1)) p kept L (stack b st) more_specs (kept_on one e L eL'))
                  ∙ ap (λ (k : ℕ). run k p kept L (stack b st)) (left_over lt) ∙ t.same L eL;
              longs = longs_then t.longs j;
            }

-- The values of fields, with their heads beside them

pub record TurnValues (l : Limits) (s : List ℕ) (nest : ℕ) (h : Place) (b₀ : Buffers) (st₀ : AnalysisStack) (heads₀ p₀ n : ℕ) (b : Buffers) (st : AnalysisStack) (heads p i : ℕ) : Type 0 where
  pub few : i ≤ n
  pub left : Accepted (values_at s nest (n - i) heads p)
  pub ready : Ready l b st s p nest h
  pub same : (L : rules.Limits) → L ≡ limits_of l b₀.out b₀.diagnostics → run_values s L nest (n - i) heads p (place_of h) (stack b st) ≡ run_values s L nest n heads₀ p₀ (place_of h) (stack b₀ st₀)
  pub longs : Longs b₀ b

module _ {l : Limits} {s : List ℕ} {nest : ℕ} {h : Place} {b₀ : Buffers} {st₀ : AnalysisStack} {heads₀ p₀ n : ℕ} where
  pub values_begin : Accepted (values_at s nest n heads₀ p₀) → Ready l b₀ st₀ s p₀ nest h → TurnValues l s nest h b₀ st₀ heads₀ p₀ n b₀ st₀ heads₀ p₀ 0
  values_begin a r = record {
    few = omega arith;
    left = subst (λ (k : ℕ). Accepted (values_at s nest k heads₀ p₀)) (sym (whole n)) a;
    ready = r;
    same = λ L eL. ap (λ (k : ℕ). run_values s L nest k heads₀ p₀ (place_of h) (stack b₀ st₀)) (whole n);
    longs = longs_none;
  }

  module _ {b : Buffers} {st : AnalysisStack} {heads p i : ℕ} (t : TurnValues l s nest h b₀ st₀ heads₀ p₀ n b st heads p i) where
    pub values_end : n ≤ i → Walks (Ok (st, p)) l b₀ b st₀ (λ L σ. run_values s L nest n heads₀ p₀ (place_of h) σ)
    values_end done = record {
      same = λ L eL. sym (values_none s L nest heads p (place_of h) (stack b st)) ∙ ap (λ (k : ℕ). run_values s L nest k heads p (place_of h) (stack b st)) (sym (none_over t.few done)) ∙ t.same L eL;
      fit = t.ready.fit;
    }

    module _ (lt : i < n) where
      more_values : Accepted (values_at s nest (suc (n - (i + 1))) heads p)
      more_values = subst (λ (k : ℕ). Accepted (values_at s nest k heads p)) (sym (left_over lt)) t.left

      pub turn_value : Accepted (values_at s nest 1 heads p)
      turn_value = values_first s nest (n - (i + 1)) heads p more_values

      -- the first head
      pub turn_head : Accepted (heads_at s nest 1 heads)
      turn_head = values_head s nest (n - (i + 1)) heads p more_values

      pub turn_head_fits : heads + 26 ≤ length s
      turn_head_fits = head_fits s nest heads turn_head

      module _ {b₁ : Buffers} {r : Walked} (one : Walks r l b b₁ st (λ L σ. run_values s L nest 1 heads p (place_of h) σ)) where
        pub values_stops : {why : Refusal} → r ≡ Err why → Walks (Err why) l b₀ b₁ st₀ (λ L σ. run_values s L nest n heads₀ p₀ (place_of h) σ)
        values_stops e = record {
          same = λ L eL.
              let eL' = eL ∙ limits_kept l (long t.longs) in
              sym (values_stop s L nest (n - (i + 1)) heads p (place_of h) (stack b st) more_values (sym (one.same L eL') ∙ ap (λ (r : Walked). walked r b₁) e))
              ∙ ap (λ (k : ℕ). run_values s L nest k heads p (place_of h) (stack b st)) (left_over lt) ∙ t.same L eL;
          fit = tt;
        }

        pub values_turn : {st₁ : AnalysisStack} {q heads' : ℕ} → r ≡ Ok (st₁, q) → Behind s heads heads' → Longs b b₁ → TurnValues l s nest h b₀ st₀ heads₀ p₀ n b₁ st₁ heads' q (i + 1)
        values_turn {st₁ = st₁} {q = q} {heads' = heads'} e behind k = record {
          few = omega (arith, lt);
          left = values_rest s _ nest (n - (i + 1)) heads p (place_of h) (stack b st) next_head more_values (went one e _ refl);
          ready = ready_passed t.ready (after_ok (passed_values s _ nest 1 heads p (place_of h) (stack b st)) (went one e _ refl)) (went_fit one e);
          same = λ L eL.
              let eL' = eL ∙ limits_kept l (long t.longs) in
              sym (values_next s L nest (n - (i + 1)) heads p (place_of h) (stack b st) next_head more_values (went one e L eL'))
              ∙ ap (λ (k : ℕ). run_values s L nest k heads p (place_of h) (stack b st)) (left_over lt) ∙ t.same L eL;
          longs = longs_then t.longs k;
        }
          where
            next_head : heads_at s nest 1 heads ≡ ok (turn_head.what.0, heads')
            next_head = turn_head.there ∙ ap (λ (q : ℕ). ok (turn_head.what.0, q)) (sym (head_behind s nest heads behind turn_head.there))

-- The lists of the tree

unrolls : {A : Type 0} {read : ℕ → ℕ → Outcome (A × ℕ)} {run : ℕ → ℕ → Run} → ((n p : ℕ) → Accepted (read (suc n) p) → Accepted (read 1 p)) → ((L : rules.Limits) → StatesByOne read (λ n p σ. run n p L σ))
    → ((p : ℕ) (L : rules.Limits) (σ : rules.AnalysisStack) → After (λ r. Passed p r.1 σ r.0) (run 1 p L σ)) → Unrolls (λ n p. Accepted (read n p)) run
unrolls first each passes = record {
  none = λ p L σ. (each L).none p σ;
  first = first;
  rest = λ n p L σ a e. (each L).rest n p σ a e;
  next = λ n p L σ a e. (each L).next n p σ a e;
  stop = λ n p L σ a e. (each L).stop n p σ a e;
  passes = passes;
}

pub items_unroll : (s : List ℕ) (nest : ℕ) (h : walk.Place) → Unrolls (λ n p. Accepted (items_at s nest n p)) (λ n p L σ. run_items s L nest n p h σ)
items_unroll s nest h = unrolls (items_first s nest) (λ L. items_by_one s L nest h) (λ p L σ. passed_items s L nest 1 p h σ)

pub heads_unroll : (s : List ℕ) (nest : ℕ) (h : walk.Place) → Unrolls (λ n p. Accepted (heads_at s nest n p)) (λ n p L σ. run_heads s L nest n p h σ)
heads_unroll s nest h = unrolls (heads_first s nest) (λ L. heads_by_one s L nest h) (λ p L σ. passed_heads s L nest 1 p h σ)

unrolls_specs : {A : Type 0} {read : ℕ → ℕ → Outcome (A × ℕ)} {run : ℕ → ℕ → ℕ → RunSpecs} → ((n p : ℕ) → Accepted (read (suc n) p) → Accepted (read 1 p)) → ((L : rules.Limits) → SpecsByOne read (λ n p b. run n p b.0 L b.1))
    → ((p kept : ℕ) (L : rules.Limits) (σ : rules.AnalysisStack) → After (λ r. PassedSpecs 1 p r.1.1 kept r.0 σ r.1.0) (run 1 p kept L σ)) → UnrollsSpecs (λ n p. Accepted (read n p)) run
unrolls_specs first each passes = record {
  none = λ p kept L σ. (each L).none p (kept, σ);
  first = first;
  rest = λ n p kept L σ {σ'} {q} {k} a e. (each L).rest n p (kept, σ) {b' = (k, σ')} a e;
  next = λ n p kept L σ {σ'} {q} {k} a e. (each L).next n p (kept, σ) {b' = (k, σ')} a e;
  stop = λ n p kept L σ a e. (each L).stop n p (kept, σ) a e;
  passes = passes;
}

pub binds_unroll : (s : List ℕ) (nest base : ℕ) (h : walk.Place) → UnrollsSpecs (λ n p. Accepted (binds_at s nest n p)) (λ n p kept L σ. run_binds s L nest n p base kept h σ)
binds_unroll s nest base h = unrolls_specs (binds_first s nest) (λ L. binds_by_one s L nest base h) (λ p kept L σ. passed_binds s L nest 1 p base kept h σ)

pub params_unroll : (s : List ℕ) (nest : ℕ) (h : walk.Place) → UnrollsSpecs (λ n p. Accepted (params_at s nest n p)) (λ n p kept L σ. run_params s L nest n p kept h σ)
params_unroll s nest h = unrolls_specs (params_first s nest) (λ L. params_by_one s L nest h) (λ p kept L σ. passed_params s L nest 1 p kept h σ)
