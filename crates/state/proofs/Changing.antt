-- A state with some of its numbers changed. Assumes nothing.
use Prim.Native.Nat.{ℕ}
use mathlib.Core.Bool.{Bool}
use Rattle.value_depths.specs.declared.AnalysisResult.{AnalysisResult}
use Rattle.state.specs.declared.AnalysisStack.{AnalysisStack}

-- How many entries of the tables are in use

abbrev pub tables_to : (locals frames captures references : ℕ) → AnalysisStack → AnalysisStack
tables_to locals frames captures references st = record {
  locals = locals;
  frames = frames;
  captures = captures;
  references = references;
  out = st.out;
  diagnostics = st.diagnostics;
  self_used = st.self_used;
  super_used = st.super_used;
  dollar_used = st.dollar_used;
  taint = st.taint;
  errored = st.errored;
  rounds = st.rounds;
}

abbrev pub locals_to : ℕ → AnalysisStack → AnalysisStack
locals_to n st = tables_to n st.frames st.captures st.references st

abbrev pub frames_to : ℕ → AnalysisStack → AnalysisStack
frames_to n st = tables_to st.locals n st.captures st.references st

abbrev pub captures_to : ℕ → AnalysisStack → AnalysisStack
captures_to n st = tables_to st.locals st.frames n st.references st

abbrev pub references_to : ℕ → AnalysisStack → AnalysisStack
references_to n st = tables_to st.locals st.frames st.captures n st

-- What stands beside the tables

abbrev pub beside_to : (out diagnostics : ℕ) → (self_used super_used dollar_used : Bool) → (taint : AnalysisResult) → (errored : Bool) → (rounds : ℕ) → AnalysisStack → AnalysisStack
beside_to out diagnostics self_used super_used dollar_used taint errored rounds st = record {
  locals = st.locals;
  frames = st.frames;
  captures = st.captures;
  references = st.references;
  out = out;
  diagnostics = diagnostics;
  self_used = self_used;
  super_used = super_used;
  dollar_used = dollar_used;
  taint = taint;
  errored = errored;
  rounds = rounds;
}

abbrev pub bytes_to : (out diagnostics : ℕ) → (errored : Bool) → AnalysisStack → AnalysisStack
bytes_to out diagnostics errored st = beside_to out diagnostics st.self_used st.super_used st.dollar_used st.taint errored st.rounds st

abbrev pub out_to : ℕ → AnalysisStack → AnalysisStack
out_to out st = bytes_to out st.diagnostics st.errored st

abbrev pub diagnostics_to : ℕ → (errored : Bool) → AnalysisStack → AnalysisStack
diagnostics_to diagnostics errored st = bytes_to st.out diagnostics errored st

abbrev pub marks_to : (self_used super_used dollar_used : Bool) → AnalysisStack → AnalysisStack
marks_to self_used super_used dollar_used st = beside_to st.out st.diagnostics self_used super_used dollar_used st.taint st.errored st.rounds st

abbrev pub taint_to : AnalysisResult → AnalysisStack → AnalysisStack
taint_to taint st = beside_to st.out st.diagnostics st.self_used st.super_used st.dollar_used taint st.errored st.rounds st

abbrev pub rounds_to : ℕ → AnalysisStack → AnalysisStack
rounds_to rounds st = beside_to st.out st.diagnostics st.self_used st.super_used st.dollar_used st.taint st.errored rounds st
