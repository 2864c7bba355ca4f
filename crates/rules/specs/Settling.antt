-- "Both settling loops run as in 000, spec by spec in order, until a round changes nothing": the loops and their rounds. Assumes nothing.
use Rattle.std.specs.Prelude.{ℕ, zero, suc, Bool, true, false, not, ◌||◌, List, [], ◌∷◌, set, ltb}
use Rattle.rules.specs.Outcome.{choose}
use Rattle.rules.specs.Depths.{taint_by, depend_on_local, same_result}
use Rattle.rules.specs.Locals.{LocalDefinition, local_at, with_analysis, with_used_at_depth}

-- a reference kept for a spec: the spec's own local, and the sibling that its value referred to. They stand spec by spec
pub record Reference : Type 0 where
  pub user : ℕ
  pub used : ℕ

-- the locals in the course of a round, and whether the round has changed any
pub record Round : Type 0 where
  pub locals : List LocalDefinition
  pub changed : Bool

-- what one reference does in a round
abbrev pub Loop : Type 0
Loop = Round → Reference → Round

-- the first loop, before the body: the user depends on what the sibling depends on, and on the sibling
unfoldable pub propagate_analysis : Loop
propagate_analysis r ref =
    let user = local_at r.locals ref.user in
    let used = local_at r.locals ref.used in
    let a = depend_on_local used.defined_at_depth (taint_by user.analysis used.analysis) in
    record { locals = set r.locals ref.user (with_analysis a user); changed = r.changed || not (same_result a user.analysis) }

-- the second loop, after the body: a sibling is used where its user is used
unfoldable pub propagate_use : Loop
propagate_use r ref =
    let at = (local_at r.locals ref.user).used_at_depth in
    let used = local_at r.locals ref.used in
    choose (ltb at used.used_at_depth)
    (λ _. record { locals = set r.locals ref.used (with_used_at_depth at used); changed = true })
    (λ _. r)

unfoldable pub one_round : Loop → List Reference → Round → Round
one_round loop [] r = r
one_round loop (ref ∷ refs) r = one_round loop refs (loop r ref)

-- what a loop leaves, and how many rounds it took, the last of which changed nothing
pub record Settled : Type 0 where
  pub locals : List LocalDefinition
  pub rounds : ℕ

-- at most so many rounds
unfoldable pub settle : ℕ → Loop → List Reference → List LocalDefinition → Settled
settle zero loop refs ls = record { locals = ls; rounds = 0 }
settle (suc most) loop refs ls =
    let r = one_round loop refs (record { locals = ls; changed = false }) in
    choose r.changed
    (λ _. (let rest = settle most loop refs r.locals in record { locals = rest.locals; rounds = suc rest.rounds }))
    (λ _. record { locals = r.locals; rounds = 1 })

-- "In a frame of n kept names each takes at most n + 1 rounds"
unfoldable pub settled : (kept : ℕ) → Loop → List Reference → List LocalDefinition → Settled
settled kept loop refs ls = settle (suc kept) loop refs ls
