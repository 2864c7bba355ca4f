-- A state that fits still fits where tables of the same length, or some of its numbers, were changed. Assumes nothing.
use Prim.Native.Nat.{ℕ, ◌≤◌, ◌<◌}
use mathlib.Core.Bool.{Bool}
use mathlib.Core.List.{List}
use mathlib.Core.Path.{◌≡◌, refl}
use native.Mathlib.Omega.{arith}
use lib.ListN.{length}
use Rattle.value_depths.specs.declared.AnalysisResult.{AnalysisResult}
use Rattle.table_rows.specs.Entries.{number}
use Rattle.resolver.specs.Kept.{Kept}
use Rattle.state.specs.Seen.{Buffers, buffers, Fit}
use Rattle.state.specs.declared.AnalysisStack.{AnalysisStack}
use Rattle.state.specs.declared.Limits.{Limits}
use Rattle.state.proofs.Changing.{tables_to, beside_to}

module _ {l : Limits} {b : Buffers} {st : AnalysisStack} (fit : Fit l b st) where
  -- the counts of both byte buffers are within them, and of the rest nothing is asked
  pub fit_beside : {out diagnostics : List ℕ} {n m : ℕ} {self_used super_used dollar_used : Bool} {taint : AnalysisResult} {errored : Bool} {rounds : ℕ}
      → n ≤ length out → m ≤ length diagnostics
      → Fit l (buffers out diagnostics b.locals b.frames b.captures b.references) (beside_to n m self_used super_used dollar_used taint errored rounds st)
  fit_beside within within' = record {
    locals_long = fit.locals_long;
    frames_long = fit.frames_long;
    captures_long = fit.captures_long;
    references_long = fit.references_long;
    few_locals = fit.few_locals;
    few_frames = fit.few_frames;
    few_captures = fit.few_captures;
    few_references = fit.few_references;
    out_long = within;
    diagnostics_long = within';
    frames_kept = fit.frames_kept;
    first_there = fit.first_there;
    first_rises = fit.first_rises;
  }

  -- so nothing is where the bytes stay
  pub fit_values : {self_used super_used dollar_used : Bool} {taint : AnalysisResult} {errored : Bool} {rounds : ℕ}
      → Fit l b (beside_to st.out st.diagnostics self_used super_used dollar_used taint errored rounds st)
  fit_values = fit_beside fit.out_long fit.diagnostics_long

  -- and output may be taken back
  pub fit_back : {n : ℕ} {taint : AnalysisResult} → n ≤ st.out → Fit l b (beside_to n st.diagnostics st.self_used st.super_used st.dollar_used taint st.errored st.rounds st)
  fit_back le = fit_beside (omega (arith, fit.out_long)) fit.diagnostics_long

  -- locals and references: no frame begins after the locals
  pub fit_names : {locals references : List ℕ} {n m : ℕ} → length locals ≡ length b.locals → length references ≡ length b.references
      → n ≤ l.max_locals → m ≤ l.max_references → ((f : ℕ) → f < st.frames → number b.frames f 1 ≤ n)
      → Fit l (buffers b.out b.diagnostics locals b.frames b.captures references) (tables_to n st.frames st.captures m st)
  fit_names same same' few few' there = record {
    locals_long = omega (arith, fit.locals_long);
    frames_long = fit.frames_long;
    captures_long = fit.captures_long;
    references_long = omega (arith, fit.references_long);
    few_locals = few;
    few_frames = fit.few_frames;
    few_captures = fit.few_captures;
    few_references = few';
    out_long = fit.out_long;
    diagnostics_long = fit.diagnostics_long;
    frames_kept = fit.frames_kept;
    first_there = there;
    first_rises = fit.first_rises;
  }

  -- what the entries of the locals hold does not matter
  pub fit_entries : {locals : List ℕ} → length locals ≡ length b.locals → Fit l (buffers b.out b.diagnostics locals b.frames b.captures b.references) st
  fit_entries same = fit_names same refl fit.few_locals fit.few_references fit.first_there

  -- frames and captures: what is kept of them is kept again, and the frames' first locals are there and rise
  pub fit_frames : {frames captures : List ℕ} {n m : ℕ} → length frames ≡ length b.frames → length captures ≡ length b.captures
      → n ≤ l.max_frames → m ≤ l.max_captures → Kept n frames m captures
      → ((f : ℕ) → f < n → number frames f 1 ≤ st.locals) → ((f g : ℕ) → f < g → g < n → number frames f 1 ≤ number frames g 1)
      → Fit l (buffers b.out b.diagnostics b.locals frames captures b.references) (tables_to st.locals n m st.references st)
  fit_frames same same' few few' kept there rises = record {
    locals_long = fit.locals_long;
    frames_long = omega (arith, fit.frames_long);
    captures_long = omega (arith, fit.captures_long);
    references_long = fit.references_long;
    few_locals = fit.few_locals;
    few_frames = few;
    few_captures = few';
    few_references = fit.few_references;
    out_long = fit.out_long;
    diagnostics_long = fit.diagnostics_long;
    frames_kept = kept;
    first_there = there;
    first_rises = rises;
  }
