-- A value's frame. Assumes nothing.
use Prim.Native.Nat.{ℕ}
use mathlib.Core.Bool.{false}
use mathlib.Core.List.{List}
use mathlib.Core.Path.{◌≡◌, sym, ap, ◌∙◌}
use Rattle.rules.specs.State as rules
use Rattle.rules.specs.Depths.{no_dependence}
use Rattle.rules.specs.Writing.{open_frame}
use Rattle.law_runs.specs.Steps.{opened_value}
use Rattle.value_depths.specs.Meaning.{result_of}
use Rattle.value_depths.specs.declared.AnalysisResult.{AnalysisResult}
use Rattle.state.specs.Seen.{Buffers, buffers, stack, limits_of, Fit}
use Rattle.state.specs.declared.AnalysisStack.{AnalysisStack}
use Rattle.state.specs.declared.Limits.{Limits}
use Rattle.state.proofs.Changing.{taint_to}
use Rattle.state.proofs.Fitting.{fit_values}
use Rattle.step_frame.specs.Answers.{FrameOpened}
use Rattle.step_open.specs.Answers.{ValueOpened}
use Rattle.state.specs.Seen.{Step}

pub fit_depending : {l : Limits} {b : Buffers} {st : AnalysisStack} (a : AnalysisResult) → Fit l b st → Fit l b (taint_to a st)
fit_depending a f = fit_values f

pub stack_depending : (b : Buffers) (st : AnalysisStack) (a : AnalysisResult) → result_of a ≡ no_dependence → stack b (taint_to a st) ≡ rules.with_taint no_dependence (stack b st)
unfolding stack rules.with_taint
stack_depending b st a e = rw e

pub value_opened : (r : Step) (frames frames' : List ℕ) (l : Limits) (st : AnalysisStack) (at : ℕ) (a : AnalysisResult) → result_of a ≡ no_dependence
    → FrameOpened r frames frames' l (taint_to a st) at false → ValueOpened r frames frames' l st at
unfolding opened_value
value_opened r frames frames' l st at a e opened = record {
  opened = λ out diagnostics locals captures references f. record {
    same = λ L is.
        opened.same out diagnostics locals captures references (fit_depending a f)
        ∙ ap (λ (x : rules.AnalysisStack). open_frame (limits_of l out diagnostics) at false x) (stack_depending (buffers out diagnostics locals frames captures references) st a e)
        ∙ ap (λ (L : rules.Limits). open_frame L at false (rules.with_taint no_dependence (stack (buffers out diagnostics locals frames captures references) st))) (sym is);
    fit = opened.fit out diagnostics locals captures references (fit_depending a f);
  };
}
