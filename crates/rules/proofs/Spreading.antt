-- A loop that spreads values along references, each value moving one way only, is settled after a round for each local and one that changes nothing. Assumes nothing.
use Prim.Native.Nat.{ℕ, zero, suc, ◌+◌, ◌≤◌, ◌<◌}
use native.Mathlib.Nat.{suc-add}
use native.Mathlib.Omega.{arith}
use mathlib.Core.Bool.{Bool, true, false, ◌||◌, true≢false}
use mathlib.Core.List.{List, [], ◌∷◌, map}
use mathlib.Core.Path.{◌≡◌, refl, sym, ap, ap₂, subst, ◌∙◌}
use lib.ListN.{length, get_or, set, length-set, get_or-map}
use lib.Seq.{map-set_same, get_or-set_same}
use Rattle.rules.specs.Outcome.{choose}
use Rattle.rules.specs.Locals.{LocalDefinition, local_at, no_local}
use Rattle.rules.specs.Settling.{Reference, Round, Loop, one_round, Settled, settle}
use Rattle.rules.proofs.After.{chosen}
use Rattle.rules.proofs.ReadRecords.{Every}
use Rattle.rules.proofs.Growing.{Place, following, link, unreached_at_most, Grows, same, grows_then, grows_back, link_grows, repeated, at_rest}

-- both ends of a reference are among the n locals from `first` on
pub record Inside (first n : ℕ) (ref : Reference) : Type 0 where
  pub user_from : first ≤ ref.user
  pub user_below : ref.user < first + n
  pub used_from : first ≤ ref.used
  pub used_below : ref.used < first + n

-- What such a loop is. At a reference it changes one local, the follower, by what the followed one is.
-- A test asks of a value whether it has come so far: that is the local's place. The follower's new place depends on the two places alone,
-- and the loop tells of a change exactly where it changes a place.
pub record Spreads (loop : Loop) : Type 1 where
  pub follower : Reference → ℕ
  pub followed : Reference → ℕ
  pub inside : (first n : ℕ) (ref : Reference) → Inside first n ref → (first ≤ follower ref) × (follower ref < first + n)
  pub next : LocalDefinition → LocalDefinition → LocalDefinition
  pub differs : LocalDefinition → LocalDefinition → Bool
  pub sets : (r : Round) (ref : Reference) → (loop r ref).locals ≡ set r.locals (follower ref) (next (local_at r.locals (follower ref)) (local_at r.locals (followed ref)))
  pub tells : (r : Round) (ref : Reference) → (loop r ref).changed ≡ (r.changed || differs (local_at r.locals (follower ref)) (local_at r.locals (followed ref)))
  pub Test : Type 0
  pub place : Test → LocalDefinition → Place
  pub follows : (t : Test) (l m : LocalDefinition) → place t (next l m) ≡ following (place t l) (place t m)
  pub same_places : (l m : LocalDefinition) → differs l m ≡ false → (t : Test) → place t (next l m) ≡ place t l
  pub no_difference : (l m : LocalDefinition) → ((t : Test) → place t (next l m) ≡ place t l) → differs l m ≡ false

map_set : {A B : Type 0} (f : A → B) (l : List A) (i : ℕ) (a : A) → map f (set l i a) ≡ set (map f l) i (f a)
map_set f [] i a = refl
map_set f (x ∷ l) zero a = refl
map_set {B = B} f (x ∷ l) (suc i) a = ap (λ (r : List B). f x ∷ r) (map_set f l i a)

neither : (a b : Bool) → (a || b) ≡ false → (a ≡ false) × (b ≡ false)
neither true b e = absurd (true≢false e)
neither false b e = (refl, e)

abbrev begun : List LocalDefinition → Round
begun ls = record { locals = ls; changed = false }

module _ {loop : Loop} (s : Spreads loop) where
  places : s.Test → List LocalDefinition → List Place
  places t ls = map (s.place t) ls

  -- what a round does to the places, which depends on the places alone
  spread : s.Test → List Reference → List Place → List Place
  spread t [] ps = ps
  spread t (ref ∷ refs) ps = spread t refs (link (s.place t no_local) (s.follower ref) (s.followed ref) ps)

  step_places : (t : s.Test) (r : Round) (ref : Reference) → places t (loop r ref).locals ≡ link (s.place t no_local) (s.follower ref) (s.followed ref) (places t r.locals)
  unfolding places link local_at
  step_places t r ref =
      let f = s.place t in
      let ls = r.locals in
      let i = s.follower ref in
      let j = s.followed ref in
      ap (map f) (s.sets r ref) ∙ map_set f ls i _
      ∙ ap (set (map f ls) i) (s.follows t _ _ ∙ sym (ap₂ following (get_or-map f ls i no_local) (get_or-map f ls j no_local)))

  round_places : (t : s.Test) (refs : List Reference) (r : Round) → places t (one_round loop refs r).locals ≡ spread t refs (places t r.locals)
  unfolding one_round spread
  round_places t [] r = refl
  round_places t (ref ∷ refs) r = round_places t refs (loop r ref) ∙ ap (spread t refs) (step_places t r ref)

  step_length : (r : Round) (ref : Reference) → length (loop r ref).locals ≡ length r.locals
  step_length r ref = ap length (s.sets r ref) ∙ length-set r.locals (s.follower ref) _

  round_length : (refs : List Reference) (r : Round) → length (one_round loop refs r).locals ≡ length r.locals
  unfolding one_round
  round_length [] r = refl
  round_length (ref ∷ refs) r = round_length refs (loop r ref) ∙ step_length r ref

  -- A round that tells of no change has changed no place,

  quiet_step : (r : Round) (ref : Reference) → (loop r ref).changed ≡ false → (r.changed ≡ false) × ((t : s.Test) → places t (loop r ref).locals ≡ places t r.locals)
  unfolding places local_at
  quiet_step r ref e =
      let i = s.follower ref in
      let n = neither r.changed _ (sym (s.tells r ref) ∙ e) in
      (n.0, λ t. ap (map (s.place t)) (s.sets r ref) ∙ map-set_same (s.place t) r.locals i _ no_local (s.same_places _ _ n.1 t))

  quiet_round : (refs : List Reference) (r : Round) → (one_round loop refs r).changed ≡ false
      → (r.changed ≡ false) × ((t : s.Test) → places t (one_round loop refs r).locals ≡ places t r.locals)
  unfolding one_round
  quiet_round [] r e = (e, λ t. refl)
  quiet_round (ref ∷ refs) r e =
      let rest = quiet_round refs (loop r ref) e in
      let first = quiet_step r ref rest.0 in
      (first.0, λ t. rest.1 t ∙ first.1 t)

  -- and one that changes no place tells of no change

  still_step : (r : Round) (ref : Reference) → s.follower ref < length r.locals → r.changed ≡ false
      → ((t : s.Test) → places t (loop r ref).locals ≡ places t r.locals) → (loop r ref).changed ≡ false
  unfolding places local_at
  still_step r ref within quiet still =
      s.tells r ref ∙ ap₂ ◌||◌ quiet (s.no_difference l m same_at)
    where
      i : ℕ
      i = s.follower ref

      l : LocalDefinition
      l = local_at r.locals i

      m : LocalDefinition
      m = local_at r.locals (s.followed ref)

      same_at : (t : s.Test) → s.place t (s.next l m) ≡ s.place t l
      same_at t =
          let f = s.place t in
          ap f (sym (get_or-set_same r.locals i (s.next l m) no_local within))
          ∙ sym (get_or-map f (set r.locals i (s.next l m)) i no_local)
          ∙ ap (λ (ps : List Place). get_or ps i (f no_local)) (sym (ap (map f) (s.sets r ref)) ∙ still t)
          ∙ get_or-map f r.locals i no_local

  spread_grows : (t : s.Test) (first n : ℕ) (refs : List Reference) → Every (Inside first n) refs → (ps : List Place) → Grows first n ps (spread t refs ps)
  unfolding spread
  spread_grows t first n [] all ps = same refl
  spread_grows t first n (ref ∷ refs) all ps =
      let i = s.inside first n ref all.0 in
      grows_then (link_grows _ first n _ _ ps i.0 i.1) (spread_grows t first n refs all.1 _)

  round_grows : (t : s.Test) (first n : ℕ) (refs : List Reference) → Every (Inside first n) refs → (r : Round) → Grows first n (places t r.locals) (places t (one_round loop refs r).locals)
  round_grows t first n refs all r =
      subst (λ (ps : List Place). Grows first n (places t r.locals) ps) (sym (round_places t refs r)) (spread_grows t first n refs all (places t r.locals))

  still_round : (first n : ℕ) (refs : List Reference) → Every (Inside first n) refs → (r : Round) → first + n ≤ length r.locals → r.changed ≡ false
      → ((t : s.Test) → places t (one_round loop refs r).locals ≡ places t r.locals) → (one_round loop refs r).changed ≡ false
  unfolding one_round
  still_round first n [] all r fits quiet still = quiet
  still_round first n (ref ∷ refs) all r fits quiet still =
      still_round first n refs all.1 (loop r ref) (omega (arith, step_length r ref)) (still_step r ref (omega (arith, s.inside first n ref all.0)) quiet at_first)
      (λ t. still t ∙ sym (at_first t))
    where
      at_first : (t : s.Test) → places t (loop r ref).locals ≡ places t r.locals
      at_first t = grows_back (round_grows t first n (ref ∷ []) (all.0, tt) r) (round_grows t first n refs all.1 (loop r ref)) (still t)

  -- The rounds of a frame

  module _ (first n : ℕ) (refs : List Reference) (all : Every (Inside first n) refs) where
    -- after k rounds from here no round changes a place
    abbrev Rests : ℕ → List LocalDefinition → Type 0
    Rests k ls = (t : s.Test) → spread t refs (repeated (spread t refs) k (places t ls)) ≡ repeated (spread t refs) k (places t ls)

    rests : (ls : List LocalDefinition) → Rests n ls
    rests ls t = at_rest (spread t refs) (spread_grows t first n refs all) n (places t ls) (unreached_at_most first n (places t ls))

    rests_next : (k : ℕ) (ls : List LocalDefinition) → Rests (suc k) ls → Rests k (one_round loop refs (begun ls)).locals
    rests_next k ls rest t =
        subst (λ (ps : List Place). spread t refs (repeated (spread t refs) k ps) ≡ repeated (spread t refs) k ps) (sym (round_places t refs (begun ls))) (rest t)

    still_next : (ls : List LocalDefinition) → Rests 0 ls → Rests 0 (one_round loop refs (begun ls)).locals
    still_next ls still t =
        let e = round_places t refs (begun ls) ∙ still t in
        ap (spread t refs) e ∙ still t ∙ sym e

    still_quiet : (ls : List LocalDefinition) → first + n ≤ length ls → Rests 0 ls → (one_round loop refs (begun ls)).changed ≡ false
    still_quiet ls fits still = still_round first n refs all (begun ls) fits refl λ t. round_places t refs (begun ls) ∙ still t

    quiet_still : (ls : List LocalDefinition) → (one_round loop refs (begun ls)).changed ≡ false → Rests 0 ls
    quiet_still ls quiet t = sym (round_places t refs (begun ls)) ∙ (quiet_round refs (begun ls) quiet).1 t

    settle_still : (k : ℕ) (ls : List LocalDefinition) → first + n ≤ length ls → Rests k ls → Rests 0 (settle (suc k) loop refs ls).locals
    unfolding settle
    settle_still zero ls fits rest = chosen (λ (x : Settled). Rests 0 x.locals) _ _ _ (λ e. absurd (true≢false (sym e ∙ still_quiet ls fits rest))) (λ _. still_next ls rest)
    settle_still (suc k) ls fits rest =
        chosen (λ (x : Settled). Rests 0 x.locals) _ _ _
        (λ _. settle_still k _ (omega (arith, round_length refs (begun ls))) (rests_next k ls rest))
        (λ e. still_next ls (quiet_still ls e))

    settle_length : (k : ℕ) (ls : List LocalDefinition) → length (settle k loop refs ls).locals ≡ length ls
    unfolding settle
    settle_length zero ls = refl
    settle_length (suc k) ls =
        chosen (λ (x : Settled). length x.locals ≡ length ls) _ _ _ (λ _. settle_length k _ ∙ round_length refs (begun ls)) (λ _. round_length refs (begun ls))

    -- one more round would change nothing
    pub settles : (ls : List LocalDefinition) → first + n ≤ length ls → (one_round loop refs (record { locals = (settle (suc n) loop refs ls).locals; changed = false })).changed ≡ false
    settles ls fits = still_quiet (settle (suc n) loop refs ls).locals (omega (arith, settle_length (suc n) ls)) (settle_still n ls fits (rests ls))

    settle_quiet : (most : ℕ) (ls : List LocalDefinition) → (one_round loop refs (begun ls)).changed ≡ false
        → settle (suc most) loop refs ls ≡ record { locals = (one_round loop refs (begun ls)).locals; rounds = 1 }
    unfolding settle
    settle_quiet most ls quiet =
        chosen (λ (x : Settled). x ≡ record { locals = (one_round loop refs (begun ls)).locals; rounds = 1 }) _ _ _ (λ e. absurd (true≢false (sym e ∙ quiet))) (λ _. refl)

    settle_more : (k j : ℕ) (ls : List LocalDefinition) → first + n ≤ length ls → Rests k ls → settle (suc k + j) loop refs ls ≡ settle (suc k) loop refs ls
    unfolding settle
    settle_more zero j ls fits rest =
        let quiet = still_quiet ls fits rest in
        ap (λ (m : ℕ). settle m loop refs ls) (suc-add zero j) ∙ settle_quiet (zero + j) ls quiet ∙ sym (settle_quiet zero ls quiet)
    settle_more (suc k) j ls fits rest =
        let r = one_round loop refs (begun ls) in
        ap (λ (m : ℕ). settle m loop refs ls) (suc-add (suc k) j)
        ∙ ap (λ (x : Settled). choose r.changed (λ _. record { locals = x.locals; rounds = suc x.rounds }) (λ _. record { locals = r.locals; rounds = 1 }))
        (settle_more k j r.locals (omega (arith, round_length refs (begun ls))) (rests_next k ls rest))

    -- no bound above n + 1 leaves anything else
    pub more_changes_nothing : (k : ℕ) (ls : List LocalDefinition) → first + n ≤ length ls → settle (suc n + k) loop refs ls ≡ settle (suc n) loop refs ls
    more_changes_nothing k ls fits = settle_more n k ls fits (rests ls)
