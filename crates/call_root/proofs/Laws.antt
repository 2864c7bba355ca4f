-- Laws of the state before the root's walk, of the report and of what is cleared. Assumes nothing.
use mathlib.Core.Bool.{false}
use mathlib.Core.Path.{◌≡◌, refl}
use native.Mathlib.Omega.{arith}
use lib.Seq.{length-take-le}
use Rattle.rules.specs.Depths as rules_depths
use Rattle.rules.specs.State as rules
use Rattle.rules.specs.Call as call
use Rattle.value_depths.specs.declared.AnalysisResult.{AnalysisResult}
use Rattle.value_depths.specs.Meaning.{result_of}
use Rattle.table_rows.specs.Rows.{rows}
use Rattle.table_locals.specs.Meaning.{locals_of}
use Rattle.table_references.specs.Meaning.{references_of}
use Rattle.resolver.specs.Meaning.{frames_of}
use Rattle.state.specs.Seen.{stack}
use Rattle.state.specs.declared.AnalysisStack.{AnalysisStack}
use Rattle.call_root.specs.Answers.{report_meaning, ReportsState, EmptyStack}
use Rattle.call_root.specs.declared.AnalysisReport.{AnalysisReport}

-- The state before anything was met

abbrev empty_with : AnalysisResult → AnalysisStack
empty_with a = record {
  locals = 0;
  frames = 0;
  captures = 0;
  references = 0;
  out = 0;
  diagnostics = 0;
  self_used = false;
  super_used = false;
  dollar_used = false;
  taint = a;
  errored = false;
  rounds = 0;
}

pub empty : (a : AnalysisResult) → result_of a ≡ rules_depths.no_dependence → EmptyStack (empty_with a)
unfolding stack rules.empty_stack locals_of references_of frames_of rows
empty a e = record {
  same = λ b. rw e refl;
  fit = λ l b long. record {
    locals_long = long.locals_long;
    frames_long = long.frames_long;
    captures_long = long.captures_long;
    references_long = long.references_long;
    few_locals = omega arith;
    few_frames = omega arith;
    few_captures = omega arith;
    few_references = omega arith;
    out_long = omega arith;
    diagnostics_long = omega arith;
    frames_kept = record {
      below = record {
        frames_fit = omega arith;
        captures_fit = omega arith;
        from_within = λ f lt. absurd (omega arith);
        from_rises = λ f g fg lt. absurd (omega arith);
        from_first = λ f i lt. absurd (omega arith);
        few_locals = λ f lt. absurd (omega arith);
        few_captures = λ f lt. absurd (omega arith);
        small_sources = λ i lt. absurd (omega arith);
      };
      owned = λ i lt. absurd (omega arith);
    };
    first_there = λ f lt. absurd (omega arith);
    first_rises = λ f g fg lt. absurd (omega arith);
  };
}

-- The report

abbrev report_with : AnalysisStack → AnalysisReport
report_with st = record {
  number = 0;
  place = 0;
  out_length = st.out;
  diagnostics_length = st.diagnostics;
  errored = st.errored;
  rounds = st.rounds;
  depths = st.taint;
}

pub reports : (st : AnalysisStack) → ReportsState (report_with st) st
unfolding report_meaning call.report_of stack
reports st = record { same = λ b o d. rw (length-take-le st.out b.out o, length-take-le st.diagnostics b.diagnostics d) refl }
