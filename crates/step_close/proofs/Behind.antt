-- Laws of a record after the frame's end, and of the place after it. Assumes nothing.
use Prim.Native.Nat.{ℕ}
use mathlib.Core.Bool.{Bool}
use mathlib.Core.List.{List, [], ◌∷◌}
use mathlib.Core.Path.{◌≡◌, refl, sym, ap, ◌∙◌}
use lib.ListN.{length}
use Rattle.rules.specs.Outcome.{Outcome, ◌>>=◌}
use Rattle.rules.specs.Numbers.{LO, code, mark_bytes}
use Rattle.rules.specs.State as rules
use Rattle.rules.specs.Writing as writing
use Rattle.rules.specs.Scoping as scoping
use Rattle.law_runs.specs.Steps.{and_place, finished_local, finished_object}
use Rattle.state.specs.Seen.{Buffers, buffers, limits_of, Fit}
use Rattle.state.specs.Walks.{Walks, Steps}
use Rattle.state.specs.declared.AnalysisStack.{AnalysisStack}
use Rattle.state.specs.declared.Limits.{Limits}
use Rattle.step_write.specs.Answers.{Emitted}
use Rattle.step_write.proofs.Laws.{limits_same}
use Rattle.step_record.specs.Answers.{outer_use, leave_object, ObjectLeft}
use Rattle.step_write.proofs.Emitting.{emitted_steps}
use Rattle.step_emit.proofs.Laws.{Placed}
use Rattle.std.specs.Prelude.{Ok, Err}
use Rattle.refusal.specs.declared.Refusal.{Refusal}
use Rattle.state.specs.Seen.{Step, Walked}

-- A record after a step

abbrev Stepping : Type 0
Stepping = rules.Limits → rules.AnalysisStack → Outcome rules.AnalysisStack

module _ (first : Stepping) (l : Limits) (b b₁ : Buffers) (st : AnalysisStack) {r₁ : Step} (steps : Steps r₁ l b b₁ st first) where
  pub walks_on : (then : Stepping) (b₂ : Buffers) {st₁ : AnalysisStack} {r : Step} {w : Walked} (next : ℕ) → r₁ ≡ Ok st₁
      → limits_of l b₁.out b₁.diagnostics ≡ limits_of l b.out b.diagnostics
      → (Fit l b₁ st₁ → Steps r l b₁ b₂ st₁ then) → Placed w r next
      → Walks w l b b₂ st (λ limits S. first limits S >>= λ T. and_place next (then limits T))
  unfolding ◌>>=◌
  walks_on then b₂ {st₁} {r} {w} next is same_limits after placed =
      let done = rw is at steps in
      let later = after done.fit in
      record {
        same = λ limits at.
            placed.same b₂
            ∙ ap (and_place next) (later.same limits (at ∙ sym same_limits))
            ∙ ap (λ (o : Outcome rules.AnalysisStack). o >>= λ T. and_place next (then limits T)) (done.same limits at);
        fit = placed.fit l b₂ later.fit;
      }

  pub walks_nowhere : (then : rules.Limits → rules.AnalysisStack → Outcome (rules.AnalysisStack × ℕ)) {why : Refusal} → r₁ ≡ Err why
      → Walks (Err why) l b b₁ st (λ limits S. first limits S >>= then limits)
  unfolding ◌>>=◌
  walks_nowhere then is =
      let done = rw is at steps in
      record {
        same = λ limits at. ap (λ (o : Outcome rules.AnalysisStack). o >>= then limits) (done.same limits at);
        fit = tt;
      }

-- After the frame's end

module _ {l : Limits} {out out₁ diagnostics diagnostics₁ locals locals₁ frames frames₁ captures captures₁ references references₁ : List ℕ} {st : AnalysisStack} (place kept before next : ℕ) {r₁ : Step}
    (finished : Steps r₁ l (buffers out diagnostics locals frames captures references) (buffers out₁ diagnostics₁ locals₁ frames₁ captures₁ references₁) st
    (λ limits. scoping.finish_frame limits place kept before)) where
  abbrev b : Buffers
  b = buffers out diagnostics locals frames captures references

  abbrev b₁ : Buffers
  b₁ = buffers out₁ diagnostics₁ locals₁ frames₁ captures₁ references₁

  abbrev to : List ℕ → Buffers
  to out₂ = buffers out₂ diagnostics₁ locals₁ frames₁ captures₁ references₁

  pub local_refused : {why : Refusal} → r₁ ≡ Err why → Walks (Err why) l b b₁ st (λ limits. finished_local limits place kept before next)
  unfolding finished_local
  local_refused is =
      walks_nowhere (λ limits. scoping.finish_frame limits place kept before) l b b₁ st finished
      (λ limits T. and_place next (writing.emit limits place LO (kept ∷ []) T)) is

  pub object_refused : {why : Refusal} (outermost : Bool) (outer : rules.ObjectUse) (assertions values : ℕ) (is_static : Bool) → r₁ ≡ Err why
      → Walks (Err why) l b b₁ st (λ limits. finished_object limits place outermost outer kept before assertions values is_static next)
  unfolding finished_object leave_object
  object_refused outermost outer assertions values is_static is =
      walks_nowhere (λ limits. scoping.finish_frame limits place kept before) l b b₁ st finished
      (λ limits T. and_place next (leave_object limits place outermost outer kept assertions values is_static T)) is

  module _ {st₁ : AnalysisStack} (is : r₁ ≡ Ok st₁) (size : length out₁ ≡ length out) (size' : length diagnostics₁ ≡ length diagnostics) where
    pub same_limits : limits_of l out₁ diagnostics₁ ≡ limits_of l out diagnostics
    same_limits = limits_same l out out₁ diagnostics diagnostics₁ size size'

    pub local_finished : {out₂ : List ℕ} {r : Step} {w : Walked} → Emitted r out₁ out₂ st₁ place (0x4c ∷ 0x4f ∷ []) (kept ∷ []) → Placed w r next
        → Walks w l b (to out₂) st (λ limits. finished_local limits place kept before next)
    unfolding finished_local mark_bytes code
    local_finished {out₂} emitted placed =
        walks_on (λ limits. scoping.finish_frame limits place kept before) l b b₁ st finished
        (λ limits. writing.emit limits place LO (kept ∷ [])) (to out₂) next is same_limits
        (emitted_steps emitted LO refl l diagnostics₁ locals₁ frames₁ captures₁ references₁) placed

    pub object_finished : {out₂ : List ℕ} {r : Step} {w : Walked} (outermost self_used super_used : Bool) (assertions values : ℕ) (is_static : Bool)
        → ObjectLeft r out₁ out₂ st₁ place outermost self_used super_used kept assertions values is_static → Placed w r next
        → (d : Bool) → Walks w l b (to out₂) st (λ limits. finished_object limits place outermost (outer_use self_used super_used d) kept before assertions values is_static next)
    unfolding finished_object leave_object
    object_finished {out₂} outermost self_used super_used assertions values is_static left placed d =
        walks_on (λ limits. scoping.finish_frame limits place kept before) l b b₁ st finished
        (λ limits. leave_object limits place outermost (outer_use self_used super_used d) kept assertions values is_static) (to out₂) next is same_limits
        (left.steps d l diagnostics₁ locals₁ frames₁ captures₁ references₁) placed
