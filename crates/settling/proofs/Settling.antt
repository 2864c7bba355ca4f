-- Laws of the rounds of a whole loop, for any loop. Assumes nothing.
use Prim.Native.Nat.{ℕ, suc, ◌+◌, ◌-◌, ◌≤◌, ◌<◌}
use mathlib.Core.Bool.{Bool, true, false}
use mathlib.Core.List.{List}
use mathlib.Core.Path.{◌≡◌, refl, sym, ap, ◌∙◌}
use native.Mathlib.Omega.{arith}
use lib.ListN.{length}
use Rattle.rules.specs.Outcome.{choose}
use Rattle.rules.specs.Locals.{LocalDefinition}
use Rattle.rules.specs.Settling.{Reference, Round, Loop, one_round, Settled, settle, settled}
use Rattle.table_locals.specs.Meaning.{locals_of}
use Rattle.settling.specs.Meaning.{Below, round, after_rounds, OneRound, Settles}

-- One round more

-- after one round
abbrev once_more : Settled → Settled
once_more s = after_rounds s.locals (suc s.rounds)

-- after so many rounds
abbrev behind : ℕ → Settled → Settled
behind rounds s = after_rounds s.locals (rounds + s.rounds)

module _ (loop : Loop) (refs : List Reference) (ls : List LocalDefinition) (left : ℕ) (more : 0 < left) where
  first_round : {r : Round} → r ≡ one_round loop refs (round ls false)
      → settle left loop refs ls ≡ choose r.changed (λ _. once_more (settle (left - 1) loop refs r.locals)) (λ _. after_rounds r.locals 1)
  unfolding settle
  first_round e =
      let one_less : left ≡ suc (left - 1) = omega arith in
      ap (λ (m : ℕ). settle m loop refs ls) one_less
      ∙ ap (λ (r : Round). choose r.changed (λ _. once_more (settle (left - 1) loop refs r.locals)) (λ _. after_rounds r.locals 1)) (sym e)

-- The loop

-- before the round `next`, with t for the table now: what is left of the loop gives what the whole gives
pub record Settling (loop : Loop) (refs : List Reference) (locals : List ℕ) (kept : ℕ) (t : List ℕ) (next : ℕ) : Type 0 where
  pub size : length t ≡ length locals
  pub same : (n : ℕ) → Below n refs → behind (next - 1) (settle (kept + 2 - next) loop refs (locals_of n t)) ≡ settled kept loop refs (locals_of n locals)

pub settling_begins : {loop : Loop} {refs : List Reference} {locals : List ℕ} (kept : ℕ) → Settling loop refs locals kept locals 1
unfolding settled
settling_begins {loop} {refs} {locals} kept = record {
  size = refl;
  same = λ n below.
      let whole = settle (suc kept) loop refs (locals_of n locals) in
      let all : kept + 2 - 1 ≡ suc kept = omega arith in
      let none_yet : 0 + whole.rounds ≡ whole.rounds = omega arith in
      rw all (ap (after_rounds whole.locals) none_yet);
}

module _ {loop : Loop} {refs : List Reference} {locals t : List ℕ} {kept next : ℕ} (at : Settling loop refs locals kept t next) (some : 1 ≤ next) (few : next ≤ kept + 1)
    {t' : List ℕ} {changed : Bool} (round_is : OneRound loop refs t t' changed) where
  -- the round and what is left after it
  one_less : kept + 2 - next - 1 ≡ kept + 2 - (next + 1)
  one_less = omega (arith, few)

  split : (n : ℕ) → Below n refs → settle (kept + 2 - next) loop refs (locals_of n t)
      ≡ choose changed (λ _. once_more (settle (kept + 2 - (next + 1)) loop refs (locals_of n t'))) (λ _. after_rounds (locals_of n t') 1)
  split n below = first_round loop refs (locals_of n t) (kept + 2 - next) (omega arith) (round_is.same n below)
      ∙ ap (λ (m : ℕ). choose changed (λ _. once_more (settle m loop refs (locals_of n t'))) (λ _. after_rounds (locals_of n t') 1)) one_less

  pub settling_stops : changed ≡ false → Settles loop refs locals t' kept next
  unfolding choose
  settling_stops nothing = record {
    few = few;
    same = λ n below.
        let rounds : next ≡ next - 1 + 1 = omega (arith, some) in
        ap (after_rounds (locals_of n t')) rounds ∙ ap (behind (next - 1)) (sym (rw nothing at (split n below))) ∙ at.same n below;
  }

  pub settling_goes_on : changed ≡ true → length t' ≡ length t → Settling loop refs locals kept t' (next + 1)
  unfolding choose
  settling_goes_on something size = record {
    size = size ∙ at.size;
    same = λ n below.
        let rest = settle (kept + 2 - (next + 1)) loop refs (locals_of n t') in
        let rounds : next + 1 - 1 + rest.rounds ≡ next - 1 + suc rest.rounds = omega (arith, some) in
        ap (after_rounds rest.locals) rounds ∙ ap (behind (next - 1)) (sym (rw something at (split n below))) ∙ at.same n below;
  }

-- where the last round is done, none is left
pub settling_ends : {loop : Loop} {refs : List Reference} {locals t : List ℕ} {kept next : ℕ} → Settling loop refs locals kept t (next + 1) → kept + 1 ≤ next → next ≤ kept + 1
    → Settles loop refs locals t kept (kept + 1)
unfolding settle
settling_ends {loop} {refs} {t = t} {kept = kept} {next = next} at many few = record {
  few = omega arith;
  same = λ n below.
      let none_left : kept + 2 - (next + 1) ≡ 0 = omega arith in
      let all : kept + 1 ≡ next + 1 - 1 + 0 = omega arith in
      ap (after_rounds (locals_of n t)) all ∙ rw none_left at (at.same n below);
}
