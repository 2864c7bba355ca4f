-- Worked cases as tables: a call, and the whole answer that it must have. Assumes nothing.
use Rattle.std.specs.Prelude.{ℕ, ◌*◌, Bool, true, false, List, [], ◌∷◌, length, replicate}
use Rattle.rules.specs.Numbers.{Record, records_bytes, never}
use Rattle.rules.specs.Numbers.{JT, ID, TV, VA, AR, BI, LO, FN, OB, BV, PA, FH, LS, CS, BL, IY, FV, SH, DG}
use Rattle.rules.specs.State.{Limits}
use Rattle.rules.specs.Call.{Lent, AnalysisReport, run, report_of, out_of, diagnostics_of}

-- a report, and both buffers up to their lengths
pub record Answer : Type 0 where
  pub report : AnalysisReport
  pub out : List ℕ
  pub diagnostics : List ℕ

pub record Case : Type 0 where
  pub lent : Lent
  pub answer : Answer

-- tables of just 16 numbers an entry
unfoldable pub lend : Limits → List ℕ → Lent
lend limits tree = record {
  tree = tree;
  out = replicate limits.out 0;
  diagnostics = replicate limits.diagnostics 0;
  locals = replicate (16 * limits.locals) 0;
  frames = replicate (16 * limits.frames) 0;
  captures = replicate (16 * limits.captures) 0;
  references = replicate (16 * limits.references) 0;
  max_locals = limits.locals;
  max_frames = limits.frames;
  max_captures = limits.captures;
  max_references = limits.references;
}

unfoldable pub ample : Limits
ample = record { locals = 8; frames = 8; captures = 8; references = 8; out = 512; diagnostics = 128 }

-- an accepted call: its output and diagnostics as records, then errored, rounds and the three depths
unfoldable pub accepted : Limits → (tree out diagnostics : List Record) → (errored : Bool) → (rounds object local local_max : ℕ) → Case
accepted limits tree out diagnostics errored rounds object local local_max = record {
  lent = lend limits (records_bytes tree);
  answer = record {
    report = record {
      number = 0;
      place = 0;
      out_length = length (records_bytes out);
      diagnostics_length = length (records_bytes diagnostics);
      errored = errored;
      rounds = rounds;
      depths = record { object_dependent_depth = object; local_dependent_depth = local; local_dependent_depth_max = local_max };
    };
    out = records_bytes out;
    diagnostics = records_bytes diagnostics;
  };
}

-- what the rules answer to a case
unfoldable pub answered : Case → Answer
answered c = let r = run c.lent in record { report = report_of r; out = out_of r; diagnostics = diagnostics_of r }

-- The starred cases of document 01

-- 1: local x = 1; x
abbrev pub one : Case
one = accepted ample
    ((JT, 0 ∷ []) ∷ (LO, 1 ∷ []) ∷ (BV, 5 ∷ 9 ∷ []) ∷ (TV, 3 ∷ []) ∷ (VA, 5 ∷ 8 ∷ []) ∷ [])
    ((TV, 3 ∷ []) ∷ (SH, 0 ∷ 0 ∷ []) ∷ (BV, 0 ∷ []) ∷ (LS, 0 ∷ []) ∷ (SH, 1 ∷ 0 ∷ []) ∷ (LO, 1 ∷ []) ∷ (SH, 0 ∷ 0 ∷ []) ∷ [])
    []
    false 2 never 0 0

-- 2: local a = 1, b = a; b
abbrev pub two : Case
two = accepted ample
    ((JT, 0 ∷ []) ∷ (LO, 2 ∷ []) ∷ (BV, 1 ∷ 11 ∷ []) ∷ (TV, 7 ∷ []) ∷ (BV, 2 ∷ 12 ∷ []) ∷ (VA, 1 ∷ 13 ∷ []) ∷ (VA, 2 ∷ 14 ∷ []) ∷ [])
    ((TV, 7 ∷ []) ∷ (SH, 0 ∷ 0 ∷ []) ∷ (BV, 0 ∷ []) ∷ (LS, 0 ∷ []) ∷ (SH, 0 ∷ 0 ∷ []) ∷ (BV, 1 ∷ []) ∷ (LS, 1 ∷ []) ∷ (SH, 2 ∷ 0 ∷ []) ∷ (LO, 2 ∷ []) ∷ (SH, 0 ∷ 0 ∷ []) ∷ [])
    ((DG, 1 ∷ 8 ∷ 1 ∷ 11 ∷ []) ∷ [])
    false 2 never 0 0

-- 2, "with b written first": local b = a, a = 1; b
abbrev pub two_turned : Case
two_turned = accepted ample
    ((JT, 0 ∷ []) ∷ (LO, 2 ∷ []) ∷ (BV, 2 ∷ 12 ∷ []) ∷ (VA, 1 ∷ 13 ∷ []) ∷ (BV, 1 ∷ 11 ∷ []) ∷ (TV, 7 ∷ []) ∷ (VA, 2 ∷ 14 ∷ []) ∷ [])
    ((LS, 1 ∷ []) ∷ (SH, 0 ∷ 0 ∷ []) ∷ (BV, 0 ∷ []) ∷ (TV, 7 ∷ []) ∷ (SH, 0 ∷ 0 ∷ []) ∷ (BV, 1 ∷ []) ∷ (LS, 0 ∷ []) ∷ (SH, 2 ∷ 0 ∷ []) ∷ (LO, 2 ∷ []) ∷ (SH, 0 ∷ 0 ∷ []) ∷ [])
    []
    false 3 never 0 0

-- 3: local x = 1; function(y) x + y
abbrev pub three : Case
three = accepted ample
    ((JT, 0 ∷ []) ∷ (LO, 1 ∷ []) ∷ (BV, 5 ∷ 9 ∷ []) ∷ (TV, 3 ∷ []) ∷ (FN, 20 ∷ 1 ∷ []) ∷ (PA, 6 ∷ 21 ∷ 0 ∷ []) ∷ (BI, 30 ∷ []) ∷ (VA, 5 ∷ 22 ∷ []) ∷ (VA, 6 ∷ 23 ∷ []) ∷ [])
    ((TV, 3 ∷ []) ∷ (SH, 0 ∷ 0 ∷ []) ∷ (BV, 0 ∷ []) ∷ (PA, 6 ∷ 0 ∷ 0 ∷ []) ∷ (CS, 0 ∷ []) ∷ (LS, 0 ∷ []) ∷ (BI, 30 ∷ []) ∷ (SH, 1 ∷ 1 ∷ 0 ∷ 0 ∷ []) ∷ (FN, 0 ∷ 0 ∷ 1 ∷ []) ∷ (SH, 1 ∷ 0 ∷ []) ∷ (LO, 1 ∷ []) ∷ (SH, 0 ∷ 0 ∷ []) ∷ [])
    ((DG, 1 ∷ 9 ∷ 6 ∷ 21 ∷ []) ∷ [])
    false 4 never 0 1

-- 4: external x, [[x]]
abbrev pub four : Case
four = accepted ample
    ((JT, 1 ∷ 5 ∷ []) ∷ (AR, 1 ∷ []) ∷ (AR, 1 ∷ []) ∷ (VA, 5 ∷ 8 ∷ []) ∷ [])
    ((LS, 0 ∷ []) ∷ (SH, 0 ∷ 0 ∷ []) ∷ (AR, 1 ∷ []) ∷ (SH, 0 ∷ 0 ∷ []) ∷ (AR, 1 ∷ []) ∷ (SH, 1 ∷ 0 ∷ []) ∷ [])
    []
    false 0 never 0 0

-- 5: function(y) [x], x external
abbrev pub five : Case
five = accepted ample
    ((JT, 1 ∷ 5 ∷ []) ∷ (FN, 20 ∷ 1 ∷ []) ∷ (PA, 6 ∷ 21 ∷ 0 ∷ []) ∷ (AR, 1 ∷ []) ∷ (VA, 5 ∷ 8 ∷ []) ∷ [])
    ((PA, 6 ∷ 0 ∷ 0 ∷ []) ∷ (CS, 0 ∷ []) ∷ (SH, 0 ∷ 1 ∷ 1 ∷ 0 ∷ []) ∷ (AR, 1 ∷ []) ∷ (SH, 1 ∷ 1 ∷ 0 ∷ 0 ∷ []) ∷ (FN, 0 ∷ 0 ∷ 1 ∷ []) ∷ (SH, 1 ∷ 0 ∷ []) ∷ [])
    ((DG, 1 ∷ 7 ∷ 6 ∷ 21 ∷ []) ∷ [])
    false 2 never 0 0

-- 6: local x = 1, x = 2; x
abbrev pub six : Case
six = accepted ample
    ((JT, 0 ∷ []) ∷ (LO, 2 ∷ []) ∷ (BV, 5 ∷ 9 ∷ []) ∷ (TV, 1 ∷ []) ∷ (BV, 5 ∷ 10 ∷ []) ∷ (TV, 2 ∷ []) ∷ (VA, 5 ∷ 8 ∷ []) ∷ [])
    ((TV, 1 ∷ []) ∷ (SH, 0 ∷ 0 ∷ []) ∷ (BV, 0 ∷ []) ∷ (LS, 0 ∷ []) ∷ (SH, 1 ∷ 0 ∷ []) ∷ (LO, 1 ∷ []) ∷ (SH, 0 ∷ 0 ∷ []) ∷ [])
    ((DG, 0 ∷ 2 ∷ 5 ∷ 10 ∷ []) ∷ [])
    true 2 never 0 0

-- 7: function(x, x) x
abbrev pub seven : Case
seven = accepted ample
    ((JT, 0 ∷ []) ∷ (FN, 20 ∷ 2 ∷ []) ∷ (PA, 5 ∷ 21 ∷ 0 ∷ []) ∷ (PA, 5 ∷ 22 ∷ 0 ∷ []) ∷ (VA, 5 ∷ 23 ∷ []) ∷ [])
    ((IY, []) ∷ (SH, 0 ∷ 0 ∷ []) ∷ [])
    ((DG, 0 ∷ 2 ∷ 5 ∷ 22 ∷ []) ∷ (DG, 1 ∷ 10 ∷ 0 ∷ 20 ∷ []) ∷ [])
    true 2 never 0 0

-- 8: {[self]: 1}
abbrev pub eight : Case
eight = accepted ample
    ((JT, 0 ∷ []) ∷ (OB, 0 ∷ 0 ∷ 1 ∷ []) ∷ (FH, 1 ∷ 0 ∷ 40 ∷ 0 ∷ 0 ∷ 0 ∷ []) ∷ (ID, 0 ∷ 41 ∷ []) ∷ (TV, 1 ∷ []) ∷ [])
    ((BL, 0 ∷ []) ∷ (FH, 1 ∷ 0 ∷ 0 ∷ 0 ∷ []) ∷ (TV, 1 ∷ []) ∷ (SH, 0 ∷ 0 ∷ []) ∷ (FV, []) ∷ (SH, 1 ∷ 0 ∷ []) ∷ (OB, 0 ∷ 0 ∷ 0 ∷ 0 ∷ 0 ∷ 1 ∷ 0 ∷ []) ∷ (SH, 0 ∷ 0 ∷ []) ∷ [])
    ((DG, 0 ∷ 3 ∷ 0 ∷ 41 ∷ []) ∷ [])
    true 2 never never 0

-- 8: {}
abbrev pub eight_static : Case
eight_static = accepted ample
    ((JT, 0 ∷ []) ∷ (OB, 0 ∷ 0 ∷ 0 ∷ []) ∷ [])
    ((SH, 1 ∷ 0 ∷ []) ∷ (OB, 0 ∷ 0 ∷ 0 ∷ 0 ∷ 0 ∷ 0 ∷ 1 ∷ []) ∷ (SH, 0 ∷ 0 ∷ []) ∷ [])
    []
    false 2 never never 0

-- 8: {a: 1, a: 2}
abbrev pub eight_twice : Case
eight_twice = accepted ample
    ((JT, 0 ∷ []) ∷ (OB, 0 ∷ 0 ∷ 2 ∷ []) ∷ (FH, 0 ∷ 5 ∷ 40 ∷ 0 ∷ 0 ∷ 0 ∷ []) ∷ (FH, 0 ∷ 5 ∷ 41 ∷ 0 ∷ 0 ∷ 0 ∷ []) ∷ (TV, 1 ∷ []) ∷ (TV, 2 ∷ []) ∷ [])
    ((FH, 0 ∷ 5 ∷ 0 ∷ 0 ∷ []) ∷ (FH, 0 ∷ 5 ∷ 0 ∷ 0 ∷ []) ∷ (TV, 1 ∷ []) ∷ (SH, 0 ∷ 0 ∷ []) ∷ (FV, []) ∷ (TV, 2 ∷ []) ∷ (SH, 0 ∷ 0 ∷ []) ∷ (FV, []) ∷ (SH, 1 ∷ 0 ∷ []) ∷ (OB, 0 ∷ 0 ∷ 0 ∷ 0 ∷ 0 ∷ 2 ∷ 0 ∷ []) ∷ (SH, 0 ∷ 0 ∷ []) ∷ [])
    []
    false 2 never never 0

abbrev pub starred : List Case
starred = one ∷ two ∷ two_turned ∷ three ∷ four ∷ five ∷ six ∷ seven ∷ eight ∷ eight_static ∷ eight_twice ∷ []
