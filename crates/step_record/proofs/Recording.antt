-- Laws of a record that is written, and of an object's. Assumes nothing.
use Prim.Native.Nat.{ℕ}
use mathlib.Core.Bool.{Bool}
use mathlib.Core.List.{List, [], ◌∷◌}
use mathlib.Core.Path.{◌≡◌, refl, ap, ◌∙◌}
use Rattle.rules.specs.Numbers.{OB, code, mark_bytes}
use Rattle.rules.specs.State as rules
use Rattle.rules.specs.Writing as writing
use Rattle.rules.specs.Walk as walk
use Rattle.law_runs.specs.Steps.{object_record}
use Rattle.state.specs.Seen.{Buffers, buffers, stack}
use Rattle.state.specs.declared.AnalysisStack.{AnalysisStack}
use Rattle.state.proofs.Changing.{marks_to}
use Rattle.state.proofs.Fitting.{fit_values}
use Rattle.step_write.specs.Answers.{Emitted}
use Rattle.step_write.proofs.Emitting.{emitted_steps}
use Rattle.step_record.specs.Answers.{leave_object, ObjectLeft}
use Rattle.state.specs.Seen.{Step}

-- an object's record, and the marks of the object around
pub object_left : {r : Step} {out out' : List ℕ} (st : AnalysisStack) {place : ℕ} (outermost self_used super_used : Bool) (kept assertions values : ℕ) (is_static : Bool) {ns : List ℕ}
    → Emitted r out out' (marks_to self_used super_used st.dollar_used st) place (0x4f ∷ 0x42 ∷ []) ns
    → ((b : Buffers) → ns ≡ object_record outermost (stack b st).object_use kept assertions values is_static)
    → ObjectLeft r out out' st place outermost self_used super_used kept assertions values is_static
unfolding leave_object mark_bytes code stack rules.with_object_use walk.left_use
object_left {r} {out} {out'} st {place} outermost self_used super_used kept assertions values is_static {ns} emitted numbered = record {
  steps = λ d l ds ls fs cs rs f.
      let b = buffers out ds ls fs cs rs in
      let wrote = emitted_steps emitted OB refl l ds ls fs cs rs (fit_values f) in
      record {
        same = λ limits at. wrote.same limits at ∙ ap (λ (k : List ℕ). writing.emit limits place OB k (stack b (marks_to self_used super_used st.dollar_used st))) (numbered b);
        fit = wrote.fit;
      };
}
