-- Places, and what functions are called. Assumes nothing.
use Prim.Native.Nat.{ℕ, suc, ◌+◌}
use mathlib.Core.Bool.{Bool, true, false, not}
use mathlib.Core.List.{List}
use mathlib.Core.Path.{◌≡◌, refl}
use native.Mathlib.Omega.{arith}
use borrow.Author.Tests.{eq-eqb, ne_eqb}
use Rattle.rules.specs.Outcome.{choose, given}
use Rattle.rules.specs.Numbers.{code, code_at, number_at}
use Rattle.rules.specs.Walk as walk
use Rattle.law_runs.specs.Steps.{bind_naming_at, head_naming_at}
use Rattle.state.specs.Walks.{id_if, place_of, naming_of}
use Rattle.state.specs.declared.Place.{Place}
use Rattle.state.specs.declared.Naming.TheVariants.{Unnamed, AsBind, AsMethod, AsComputedMethod}
use Rattle.rules.proofs.Flags.{set_of, unset_of}
use Rattle.step_place.specs.Answers.{Deeper, InObject}

-- Places

pub gone_deeper : (h : Place) → Deeper (record { depth = h.depth + 1; in_object = h.in_object; this_local = h.this_local; dollar_alias = h.dollar_alias }) h
unfolding place_of walk.deeper
gone_deeper h =
    let e : h.depth + 1 ≡ suc h.depth = omega arith in
    record { same = rw e; depth = refl; in_object = refl; this_local = refl; dollar_alias = refl }

-- an object around another has the outermost's `$`
pub inside_another : (h : Place) (id : ℕ) → h.in_object ≡ true
    → InObject (record { depth = h.depth; in_object = true; this_local = record { 0 = id }; dollar_alias = h.dollar_alias }) h id
unfolding place_of walk.in_object id_if given choose
inside_another h id e = record { same = rw e; depth = refl; in_object = refl; this_local = refl; dollar_alias = rw e }

pub inside_first : (h : Place) (id : ℕ) → h.in_object ≡ false
    → InObject (record { depth = h.depth; in_object = true; this_local = record { 0 = id }; dollar_alias = record { 0 = id } }) h id
unfolding place_of walk.in_object id_if given choose
inside_first h id e = record { same = rw e; depth = refl; in_object = refl; this_local = refl; dollar_alias = rw e }

alias_outermost : (b : Bool) (id : ℕ) → given (id_if b id) (λ _. true) (λ _. false) ≡ not b
unfolding id_if given
alias_outermost true id = refl
alias_outermost false id = refl

-- outermost is what stands in no object
pub outermost_so : (h : Place) → walk.is_outermost (place_of h) ≡ not h.in_object
unfolding place_of walk.is_outermost
outermost_so h = alias_outermost h.in_object h.dollar_alias.0

-- Names of functions

module _ (s : List ℕ) (p : ℕ) where
  pub bind_unnamed : (m : ℕ) → m ≡ code_at s p → (m ≡ 0x4246 → ⊥) → naming_of Unnamed ≡ bind_naming_at s p
  unfolding bind_naming_at walk.bind_naming naming_of code
  bind_unnamed m e ne = rw (← e, ne_eqb m 0x4246 ne)

  pub bind_named : (m name span : ℕ) → m ≡ code_at s p → m ≡ 0x4246 → name ≡ number_at s (p + 2) → span ≡ number_at s (p + 6) → naming_of (AsBind name span) ≡ bind_naming_at s p
  unfolding bind_naming_at walk.bind_naming naming_of code
  bind_named m name span e eq f g = rw (← e, eq-eqb m 0x4246 eq, f, g)

  pub head_unnamed : (flag : ℕ) → flag ≡ number_at s (p + 22) → flag ≡ 0 → naming_of Unnamed ≡ head_naming_at s p
  unfolding head_naming_at naming_of choose
  head_unnamed flag e z = rw (← e, unset_of z)

  pub head_method : (flag kind name span : ℕ) → flag ≡ number_at s (p + 22) → (flag ≡ 0 → ⊥) → kind ≡ number_at s (p + 2) → kind ≡ 0
      → name ≡ number_at s (p + 6) → span ≡ number_at s (p + 10) → naming_of (AsMethod name span) ≡ head_naming_at s p
  unfolding head_naming_at naming_of choose
  head_method flag kind name span e nz f z g h = rw (← e, set_of nz, ← f, unset_of z, ← g, ← h)

  pub head_computed : (flag kind span : ℕ) → flag ≡ number_at s (p + 22) → (flag ≡ 0 → ⊥) → kind ≡ number_at s (p + 2) → (kind ≡ 0 → ⊥)
      → span ≡ number_at s (p + 10) → naming_of (AsComputedMethod span) ≡ head_naming_at s p
  unfolding head_naming_at naming_of choose
  head_computed flag kind span e nz f nk g = rw (← e, set_of nz, ← f, set_of nk, ← g)
