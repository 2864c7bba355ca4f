-- What opens a frame's scope, as the walkers have it. Assumes nothing.
use Prim.Native.Nat.{ℕ, ◌-◌, ◌+◌}
use mathlib.Core.List.{List}
use mathlib.Core.Path.{◌≡◌, sym, ◌∙◌, ap}
use lib.ListN.{length}
use Rattle.rules.specs.Numbers.{number_at, LO, FN}
use Rattle.rules.specs.Walk as walk
use Rattle.law_runs.specs.Steps.{begun_local, begun_function, begun_object}
use Rattle.state.specs.Seen.{Buffers, buffers, stack, Walked}
use Rattle.state.specs.Walks.{place_of, Walks}
use Rattle.state.specs.declared.AnalysisStack.{AnalysisStack}
use Rattle.state.specs.declared.Limits.{Limits}
use Rattle.state.specs.declared.Place.{Place}
use Rattle.step_open.specs.Answers.{LocalBegun, FunctionBegun, ObjectBegun}
use Rattle.step_place.specs.Answers.{InObject}
use Rattle.law_joins.specs.Ready.{Ready, There, MembersThere}
use Rattle.law_joins.proofs.Asking.{locals_counted}
use Rattle.law_joins.proofs.Stages.{local_binds_there, function_params_there, members_binds_there}

module _ {r : Walked} {s o d d' lo lo' f f' c re : List ℕ} {l : Limits} {st : AnalysisStack} {at nest n : ℕ} {h : Place} where
  pub local_begun : LocalBegun r s d d' lo lo' f f' l st at n h.depth → Ready l (buffers o d lo f c re) st s at nest h → There s nest LO at → n ≡ number_at s (at + 2)
      → Walks r l (buffers o d lo f c re) (buffers o d' lo' f' c re) st (λ L σ. begun_local L s (nest - 1) n at h.depth σ)
  local_begun w ready there e = w.begun (nest - 1) (local_binds_there ready there e) _ _ _ ready.fit

  pub function_begun : FunctionBegun r s d d' lo lo' f f' l st at n h.depth → Ready l (buffers o d lo f c re) st s at nest h → There s nest FN at → n ≡ number_at s (at + 6)
      → Walks r l (buffers o d lo f c re) (buffers o d' lo' f' c re) st (λ L σ. begun_function L s (nest - 1) n at h.depth σ)
  function_begun w ready there e = w.begun (nest - 1) (function_params_there ready there e) _ _ _ ready.fit

  pub members_begun : {binds : ℕ} → ObjectBegun r s d d' lo lo' f f' l st at binds n h → Ready l (buffers o d lo f c re) st s (binds - 14) nest h → MembersThere s nest binds at → n ≡ number_at s (at + 2)
      → Walks r l (buffers o d lo f c re) (buffers o d' lo' f' c re) st (λ L σ. begun_object L s (nest - 1) n at binds (place_of h) σ)
  members_begun w ready there e = w.begun (nest - 1) (members_binds_there ready there e) _ _ _ ready.fit

-- the place inside an object, whose `this` is the next local
pub place_inside : {i h : Place} (b : Buffers) (st : AnalysisStack) → InObject i h st.locals → place_of i ≡ walk.in_object (length (stack b st).locals) (place_of h)
place_inside {h = h} b st w = w.same ∙ ap (λ (k : ℕ). walk.in_object k (place_of h)) (sym (locals_counted b st))
