-- Our own table of worked cases: small trees for the rules that the starred cases pass over, and each refusal that a small tree can have. Assumes nothing.
-- The answers to accepted trees are the original Rust's, the refusals are those of a model written from document 01 alone.
-- A name is a letter by its place in the alphabet; spans count from 101 in the tree's order; + is 60, unary - is 61.
use Rattle.std.specs.Prelude.{ℕ, zero, suc, true, false, List, [], ◌∷◌, ◌++◌, replicate}
use Rattle.rules.specs.Numbers.{Record, records_bytes, never}
use Rattle.rules.specs.Numbers.{JT, ID, TV, VA, AR, OX, UN, BI, AS, LO, ER, IM, AP, IX, FN, IF, SC, OB, BV, BF, PA, AT, FH, NA, PT, LS, CS, SU, BL, AC, IY, FV, SH, DG}
use Rattle.rules.specs.State.{Limits}
use Rattle.rules.specs.Call.{Lent}
use Rattle.rules.specs.Cases.{Case, lend, ample, accepted}

unfoldable pub room : (locals frames captures references out diagnostics : ℕ) → Limits
room locals frames captures references out diagnostics = record {
  locals = locals;
  frames = frames;
  captures = captures;
  references = references;
  out = out;
  diagnostics = diagnostics;
}

-- tables of these lengths, in numbers
unfoldable pub lend_tables : Limits → (locals frames captures references : ℕ) → List ℕ → Lent
lend_tables limits locals frames captures references tree =
    let tight = lend limits tree in
    record {
      tree = tree;
      out = tight.out;
      diagnostics = tight.diagnostics;
      locals = replicate locals 0;
      frames = replicate frames 0;
      captures = replicate captures 0;
      references = replicate references 0;
      max_locals = tight.max_locals;
      max_frames = tight.max_frames;
      max_captures = tight.max_captures;
      max_references = tight.max_references;
    }

-- a refused call: "its number and the offset of the record being handled .., other numbers 0"
unfoldable pub refused : Lent → (number place : ℕ) → Case
refused lent number place = record {
  lent = lent;
  answer = record {
    report = record {
      number = number;
      place = place;
      out_length = 0;
      diagnostics_length = 0;
      errored = false;
      rounds = 0;
      depths = record { object_dependent_depth = 0; local_dependent_depth = 0; local_dependent_depth_max = 0 };
    };
    out = [];
    diagnostics = [];
  };
}

-- Names, frames and captures

-- 1: local x = 1; local x = 2; x
abbrev pub hidden_once : Case
hidden_once = accepted ample
    ((JT, 0 ∷ []) ∷ (LO, 1 ∷ []) ∷ (BV, 24 ∷ 101 ∷ []) ∷ (TV, 1 ∷ []) ∷ (LO, 1 ∷ []) ∷ (BV, 24 ∷ 102 ∷ []) ∷ (TV, 2 ∷ []) ∷ (VA, 24 ∷ 103 ∷ []) ∷ [])
    ((TV, 1 ∷ []) ∷ (SH, 0 ∷ 0 ∷ []) ∷ (BV, 0 ∷ []) ∷ (TV, 2 ∷ []) ∷ (SH, 0 ∷ 0 ∷ []) ∷ (BV, 0 ∷ []) ∷ (LS, 0 ∷ []) ∷ (SH, 1 ∷ 0 ∷ []) ∷ (LO, 1 ∷ []) ∷ (SH, 1 ∷ 0 ∷ []) ∷ (LO, 1 ∷ []) ∷ (SH, 0 ∷ 0 ∷ []) ∷ [])
    ((DG, 1 ∷ 9 ∷ 24 ∷ 102 ∷ []) ∷ (DG, 1 ∷ 7 ∷ 24 ∷ 101 ∷ []) ∷ [])
    false 4 never 1 1

-- 2: local x = 1; [x, (local x = 2; x), x]
abbrev pub hidden_between : Case
hidden_between = accepted ample
    ((JT, 0 ∷ []) ∷ (LO, 1 ∷ []) ∷ (BV, 24 ∷ 101 ∷ []) ∷ (TV, 1 ∷ []) ∷ (AR, 3 ∷ []) ∷ (VA, 24 ∷ 102 ∷ []) ∷ (LO, 1 ∷ []) ∷ (BV, 24 ∷ 103 ∷ []) ∷ (TV, 2 ∷ []) ∷ (VA, 24 ∷ 104 ∷ []) ∷ (VA, 24 ∷ 105 ∷ []) ∷ [])
    ((TV, 1 ∷ []) ∷ (SH, 0 ∷ 0 ∷ []) ∷ (BV, 0 ∷ []) ∷ (LS, 0 ∷ []) ∷ (TV, 2 ∷ []) ∷ (SH, 0 ∷ 0 ∷ []) ∷ (BV, 0 ∷ []) ∷ (LS, 0 ∷ []) ∷ (SH, 1 ∷ 0 ∷ []) ∷ (LO, 1 ∷ []) ∷ (LS, 0 ∷ []) ∷ (SH, 0 ∷ 0 ∷ []) ∷ (AR, 3 ∷ []) ∷ (SH, 1 ∷ 0 ∷ []) ∷ (LO, 1 ∷ []) ∷ (SH, 0 ∷ 0 ∷ []) ∷ [])
    ((DG, 1 ∷ 9 ∷ 24 ∷ 103 ∷ []) ∷ [])
    false 4 never 0 1

-- 3: local x = 1; [x, function(x) -x, x]
abbrev pub hidden_by_parameter : Case
hidden_by_parameter = accepted ample
    ((JT, 0 ∷ []) ∷ (LO, 1 ∷ []) ∷ (BV, 24 ∷ 101 ∷ []) ∷ (TV, 1 ∷ []) ∷ (AR, 3 ∷ []) ∷ (VA, 24 ∷ 102 ∷ []) ∷ (FN, 103 ∷ 1 ∷ []) ∷ (PA, 24 ∷ 104 ∷ 0 ∷ []) ∷ (UN, 61 ∷ []) ∷ (VA, 24 ∷ 105 ∷ []) ∷ (VA, 24 ∷ 106 ∷ []) ∷ [])
    ((TV, 1 ∷ []) ∷ (SH, 0 ∷ 0 ∷ []) ∷ (BV, 0 ∷ []) ∷ (LS, 0 ∷ []) ∷ (PA, 24 ∷ 0 ∷ 0 ∷ []) ∷ (LS, 0 ∷ []) ∷ (UN, 61 ∷ []) ∷ (SH, 1 ∷ 0 ∷ []) ∷ (FN, 0 ∷ 0 ∷ 1 ∷ []) ∷ (LS, 0 ∷ []) ∷ (SH, 0 ∷ 0 ∷ []) ∷ (AR, 3 ∷ []) ∷ (SH, 1 ∷ 0 ∷ []) ∷ (LO, 1 ∷ []) ∷ (SH, 0 ∷ 0 ∷ []) ∷ [])
    ((DG, 1 ∷ 9 ∷ 24 ∷ 104 ∷ []) ∷ [])
    false 4 never 0 1

-- 4: local x = 1; function(y) [x, (local x = y; [x, y]), x]
abbrev pub hidden_across_frames : Case
hidden_across_frames = accepted ample
    ((JT, 0 ∷ []) ∷ (LO, 1 ∷ []) ∷ (BV, 24 ∷ 101 ∷ []) ∷ (TV, 1 ∷ []) ∷ (FN, 102 ∷ 1 ∷ []) ∷ (PA, 25 ∷ 103 ∷ 0 ∷ []) ∷ (AR, 3 ∷ []) ∷ (VA, 24 ∷ 104 ∷ []) ∷ (LO, 1 ∷ []) ∷ (BV, 24 ∷ 105 ∷ []) ∷ (VA, 25 ∷ 106 ∷ []) ∷ (AR, 2 ∷ []) ∷ (VA, 24 ∷ 107 ∷ []) ∷ (VA, 25 ∷ 108 ∷ []) ∷ (VA, 24 ∷ 109 ∷ []) ∷ [])
    ((TV, 1 ∷ []) ∷ (SH, 0 ∷ 0 ∷ []) ∷ (BV, 0 ∷ []) ∷ (PA, 25 ∷ 0 ∷ 0 ∷ []) ∷ (CS, 0 ∷ []) ∷ (CS, 0 ∷ []) ∷ (SH, 0 ∷ 1 ∷ 1 ∷ 0 ∷ []) ∷ (BV, 0 ∷ []) ∷ (LS, 0 ∷ []) ∷ (CS, 0 ∷ []) ∷ (SH, 0 ∷ 1 ∷ 1 ∷ 0 ∷ []) ∷ (AR, 2 ∷ []) ∷ (SH, 1 ∷ 1 ∷ 0 ∷ 0 ∷ []) ∷ (LO, 1 ∷ []) ∷ (CS, 0 ∷ []) ∷ (SH, 0 ∷ 1 ∷ 1 ∷ 0 ∷ []) ∷ (AR, 3 ∷ []) ∷ (SH, 1 ∷ 1 ∷ 0 ∷ 0 ∷ []) ∷ (FN, 0 ∷ 0 ∷ 1 ∷ []) ∷ (SH, 1 ∷ 0 ∷ []) ∷ (LO, 1 ∷ []) ∷ (SH, 0 ∷ 0 ∷ []) ∷ [])
    ((DG, 1 ∷ 9 ∷ 25 ∷ 103 ∷ []) ∷ [])
    false 6 never 0 2

-- 5: local x = 1; function() function() function() x
abbrev pub captured_through_three : Case
captured_through_three = accepted ample
    ((JT, 0 ∷ []) ∷ (LO, 1 ∷ []) ∷ (BV, 24 ∷ 101 ∷ []) ∷ (TV, 1 ∷ []) ∷ (FN, 102 ∷ 0 ∷ []) ∷ (FN, 103 ∷ 0 ∷ []) ∷ (FN, 104 ∷ 0 ∷ []) ∷ (VA, 24 ∷ 105 ∷ []) ∷ [])
    ((TV, 1 ∷ []) ∷ (SH, 0 ∷ 0 ∷ []) ∷ (BV, 0 ∷ []) ∷ (CS, 0 ∷ []) ∷ (SH, 0 ∷ 1 ∷ 1 ∷ 0 ∷ []) ∷ (FN, 0 ∷ 0 ∷ 0 ∷ []) ∷ (SH, 0 ∷ 1 ∷ 1 ∷ 0 ∷ []) ∷ (FN, 0 ∷ 0 ∷ 0 ∷ []) ∷ (SH, 0 ∷ 1 ∷ 0 ∷ 0 ∷ []) ∷ (FN, 0 ∷ 0 ∷ 0 ∷ []) ∷ (SH, 1 ∷ 0 ∷ []) ∷ (LO, 1 ∷ []) ∷ (SH, 0 ∷ 0 ∷ []) ∷ [])
    []
    false 8 never 0 0

-- 6: function(a) function(b) function(c) [c, b, a]
abbrev pub captured_at_three_levels : Case
captured_at_three_levels = accepted ample
    ((JT, 0 ∷ []) ∷ (FN, 101 ∷ 1 ∷ []) ∷ (PA, 1 ∷ 102 ∷ 0 ∷ []) ∷ (FN, 103 ∷ 1 ∷ []) ∷ (PA, 2 ∷ 104 ∷ 0 ∷ []) ∷ (FN, 105 ∷ 1 ∷ []) ∷ (PA, 3 ∷ 106 ∷ 0 ∷ []) ∷ (AR, 3 ∷ []) ∷ (VA, 3 ∷ 107 ∷ []) ∷ (VA, 2 ∷ 108 ∷ []) ∷ (VA, 1 ∷ 109 ∷ []) ∷ [])
    ((PA, 1 ∷ 0 ∷ 0 ∷ []) ∷ (PA, 2 ∷ 0 ∷ 0 ∷ []) ∷ (PA, 3 ∷ 0 ∷ 0 ∷ []) ∷ (LS, 0 ∷ []) ∷ (CS, 0 ∷ []) ∷ (CS, 1 ∷ []) ∷ (SH, 0 ∷ 2 ∷ 1 ∷ 0 ∷ 1 ∷ 1 ∷ []) ∷ (AR, 3 ∷ []) ∷ (SH, 1 ∷ 2 ∷ 0 ∷ 0 ∷ 1 ∷ 0 ∷ []) ∷ (FN, 0 ∷ 0 ∷ 1 ∷ []) ∷ (SH, 1 ∷ 1 ∷ 0 ∷ 0 ∷ []) ∷ (FN, 0 ∷ 0 ∷ 1 ∷ []) ∷ (SH, 1 ∷ 0 ∷ []) ∷ (FN, 0 ∷ 0 ∷ 1 ∷ []) ∷ (SH, 0 ∷ 0 ∷ []) ∷ [])
    ((DG, 1 ∷ 9 ∷ 3 ∷ 106 ∷ []) ∷ (DG, 1 ∷ 9 ∷ 2 ∷ 104 ∷ []) ∷ [])
    false 6 never 0 2

-- 7: local a = 1, b = 2; [function() [a, b, a], function() [b, a, b]]
abbrev pub captured_in_both_orders : Case
captured_in_both_orders = accepted ample
    ((JT, 0 ∷ []) ∷ (LO, 2 ∷ []) ∷ (BV, 1 ∷ 101 ∷ []) ∷ (TV, 1 ∷ []) ∷ (BV, 2 ∷ 102 ∷ []) ∷ (TV, 2 ∷ []) ∷ (AR, 2 ∷ []) ∷ (FN, 103 ∷ 0 ∷ []) ∷ (AR, 3 ∷ []) ∷ (VA, 1 ∷ 104 ∷ []) ∷ (VA, 2 ∷ 105 ∷ []) ∷ (VA, 1 ∷ 106 ∷ []) ∷ (FN, 107 ∷ 0 ∷ []) ∷ (AR, 3 ∷ []) ∷ (VA, 2 ∷ 108 ∷ []) ∷ (VA, 1 ∷ 109 ∷ []) ∷ (VA, 2 ∷ 110 ∷ []) ∷ [])
    ((TV, 1 ∷ []) ∷ (SH, 0 ∷ 0 ∷ []) ∷ (BV, 0 ∷ []) ∷ (TV, 2 ∷ []) ∷ (SH, 0 ∷ 0 ∷ []) ∷ (BV, 1 ∷ []) ∷ (CS, 0 ∷ []) ∷ (CS, 1 ∷ []) ∷ (CS, 0 ∷ []) ∷ (SH, 0 ∷ 2 ∷ 1 ∷ 0 ∷ 1 ∷ 1 ∷ []) ∷ (AR, 3 ∷ []) ∷ (SH, 0 ∷ 2 ∷ 0 ∷ 0 ∷ 0 ∷ 1 ∷ []) ∷ (FN, 0 ∷ 0 ∷ 0 ∷ []) ∷ (CS, 0 ∷ []) ∷ (CS, 1 ∷ []) ∷ (CS, 0 ∷ []) ∷ (SH, 0 ∷ 2 ∷ 1 ∷ 0 ∷ 1 ∷ 1 ∷ []) ∷ (AR, 3 ∷ []) ∷ (SH, 0 ∷ 2 ∷ 0 ∷ 1 ∷ 0 ∷ 0 ∷ []) ∷ (FN, 0 ∷ 0 ∷ 0 ∷ []) ∷ (SH, 0 ∷ 0 ∷ []) ∷ (AR, 2 ∷ []) ∷ (SH, 2 ∷ 0 ∷ []) ∷ (LO, 2 ∷ []) ∷ (SH, 0 ∷ 0 ∷ []) ∷ [])
    []
    false 6 never 0 0

-- 8: function() [x, y] with externals x, y, x
abbrev pub externals_of_one_name : Case
externals_of_one_name = accepted ample
    ((JT, 3 ∷ 24 ∷ 25 ∷ 24 ∷ []) ∷ (FN, 101 ∷ 0 ∷ []) ∷ (AR, 2 ∷ []) ∷ (VA, 24 ∷ 102 ∷ []) ∷ (VA, 25 ∷ 103 ∷ []) ∷ [])
    ((CS, 0 ∷ []) ∷ (CS, 1 ∷ []) ∷ (SH, 0 ∷ 2 ∷ 1 ∷ 0 ∷ 1 ∷ 1 ∷ []) ∷ (AR, 2 ∷ []) ∷ (SH, 0 ∷ 2 ∷ 0 ∷ 2 ∷ 0 ∷ 1 ∷ []) ∷ (FN, 0 ∷ 0 ∷ 0 ∷ []) ∷ (SH, 3 ∷ 0 ∷ []) ∷ [])
    []
    false 2 never 0 0

-- 9: [x, (local x = x; x), x] with the external x
abbrev pub external_hidden : Case
external_hidden = accepted ample
    ((JT, 1 ∷ 24 ∷ []) ∷ (AR, 3 ∷ []) ∷ (VA, 24 ∷ 101 ∷ []) ∷ (LO, 1 ∷ []) ∷ (BV, 24 ∷ 102 ∷ []) ∷ (VA, 24 ∷ 103 ∷ []) ∷ (VA, 24 ∷ 104 ∷ []) ∷ (VA, 24 ∷ 105 ∷ []) ∷ [])
    ((LS, 0 ∷ []) ∷ (LS, 0 ∷ []) ∷ (SH, 0 ∷ 0 ∷ []) ∷ (BV, 0 ∷ []) ∷ (LS, 0 ∷ []) ∷ (SH, 1 ∷ 0 ∷ []) ∷ (LO, 1 ∷ []) ∷ (LS, 0 ∷ []) ∷ (SH, 0 ∷ 0 ∷ []) ∷ (AR, 3 ∷ []) ∷ (SH, 1 ∷ 0 ∷ []) ∷ [])
    []
    false 2 never 0 0

-- 10: [x, (local x = 1; x), x]
abbrev pub undefined : Case
undefined = accepted ample
    ((JT, 0 ∷ []) ∷ (AR, 3 ∷ []) ∷ (VA, 24 ∷ 101 ∷ []) ∷ (LO, 1 ∷ []) ∷ (BV, 24 ∷ 102 ∷ []) ∷ (TV, 1 ∷ []) ∷ (VA, 24 ∷ 103 ∷ []) ∷ (VA, 24 ∷ 104 ∷ []) ∷ [])
    ((BL, 3 ∷ []) ∷ (TV, 1 ∷ []) ∷ (SH, 0 ∷ 0 ∷ []) ∷ (BV, 0 ∷ []) ∷ (LS, 0 ∷ []) ∷ (SH, 1 ∷ 0 ∷ []) ∷ (LO, 1 ∷ []) ∷ (BL, 3 ∷ []) ∷ (SH, 0 ∷ 0 ∷ []) ∷ (AR, 3 ∷ []) ∷ (SH, 0 ∷ 0 ∷ []) ∷ [])
    ((DG, 0 ∷ 1 ∷ 24 ∷ 101 ∷ []) ∷ (DG, 0 ∷ 1 ∷ 24 ∷ 104 ∷ []) ∷ [])
    true 2 never 0 0

-- 11: local x = x; 0
abbrev pub its_own_sibling : Case
its_own_sibling = accepted ample
    ((JT, 0 ∷ []) ∷ (LO, 1 ∷ []) ∷ (BV, 24 ∷ 101 ∷ []) ∷ (VA, 24 ∷ 102 ∷ []) ∷ (TV, 0 ∷ []) ∷ [])
    ((LS, 0 ∷ []) ∷ (SH, 0 ∷ 0 ∷ []) ∷ (BV, 0 ∷ []) ∷ (TV, 0 ∷ []) ∷ (SH, 1 ∷ 0 ∷ []) ∷ (LO, 1 ∷ []) ∷ (SH, 0 ∷ 0 ∷ []) ∷ [])
    ((DG, 1 ∷ 8 ∷ 24 ∷ 101 ∷ []) ∷ [])
    false 2 never 0 0

-- 12: local a = (local t = b; t), b = 1; a
abbrev pub kept_through_a_frame : Case
kept_through_a_frame = accepted ample
    ((JT, 0 ∷ []) ∷ (LO, 2 ∷ []) ∷ (BV, 1 ∷ 101 ∷ []) ∷ (LO, 1 ∷ []) ∷ (BV, 20 ∷ 102 ∷ []) ∷ (VA, 2 ∷ 103 ∷ []) ∷ (VA, 20 ∷ 104 ∷ []) ∷ (BV, 2 ∷ 105 ∷ []) ∷ (TV, 1 ∷ []) ∷ (VA, 1 ∷ 106 ∷ []) ∷ [])
    ((CS, 0 ∷ []) ∷ (SH, 0 ∷ 1 ∷ 1 ∷ 0 ∷ []) ∷ (BV, 0 ∷ []) ∷ (LS, 0 ∷ []) ∷ (SH, 1 ∷ 1 ∷ 0 ∷ 1 ∷ []) ∷ (LO, 1 ∷ []) ∷ (SH, 0 ∷ 0 ∷ []) ∷ (BV, 0 ∷ []) ∷ (TV, 1 ∷ []) ∷ (SH, 0 ∷ 0 ∷ []) ∷ (BV, 1 ∷ []) ∷ (LS, 0 ∷ []) ∷ (SH, 2 ∷ 0 ∷ []) ∷ (LO, 2 ∷ []) ∷ (SH, 0 ∷ 0 ∷ []) ∷ [])
    []
    false 5 never 0 0

-- 13: local a = 1, b = function() a; 1
abbrev pub used_in_the_body_of_a_sibling : Case
used_in_the_body_of_a_sibling = accepted ample
    ((JT, 0 ∷ []) ∷ (LO, 2 ∷ []) ∷ (BV, 1 ∷ 101 ∷ []) ∷ (TV, 1 ∷ []) ∷ (BV, 2 ∷ 102 ∷ []) ∷ (FN, 103 ∷ 0 ∷ []) ∷ (VA, 1 ∷ 104 ∷ []) ∷ (TV, 1 ∷ []) ∷ [])
    ((TV, 1 ∷ []) ∷ (SH, 0 ∷ 0 ∷ []) ∷ (BV, 0 ∷ []) ∷ (CS, 0 ∷ []) ∷ (SH, 0 ∷ 1 ∷ 0 ∷ 0 ∷ []) ∷ (FN, 0 ∷ 0 ∷ 0 ∷ []) ∷ (SH, 0 ∷ 0 ∷ []) ∷ (BV, 1 ∷ []) ∷ (TV, 1 ∷ []) ∷ (SH, 2 ∷ 0 ∷ []) ∷ (LO, 2 ∷ []) ∷ (SH, 0 ∷ 0 ∷ []) ∷ [])
    ((DG, 1 ∷ 7 ∷ 2 ∷ 102 ∷ []) ∷ [])
    false 4 never 0 0

-- 14: local x = 1, y = (local z = x; z); y
abbrev pub used_in_a_bind_of_a_sibling : Case
used_in_a_bind_of_a_sibling = accepted ample
    ((JT, 0 ∷ []) ∷ (LO, 2 ∷ []) ∷ (BV, 24 ∷ 101 ∷ []) ∷ (TV, 1 ∷ []) ∷ (BV, 25 ∷ 102 ∷ []) ∷ (LO, 1 ∷ []) ∷ (BV, 26 ∷ 103 ∷ []) ∷ (VA, 24 ∷ 104 ∷ []) ∷ (VA, 26 ∷ 105 ∷ []) ∷ (VA, 25 ∷ 106 ∷ []) ∷ [])
    ((TV, 1 ∷ []) ∷ (SH, 0 ∷ 0 ∷ []) ∷ (BV, 0 ∷ []) ∷ (CS, 0 ∷ []) ∷ (SH, 0 ∷ 1 ∷ 1 ∷ 0 ∷ []) ∷ (BV, 0 ∷ []) ∷ (LS, 0 ∷ []) ∷ (SH, 1 ∷ 1 ∷ 0 ∷ 0 ∷ []) ∷ (LO, 1 ∷ []) ∷ (SH, 0 ∷ 0 ∷ []) ∷ (BV, 1 ∷ []) ∷ (LS, 1 ∷ []) ∷ (SH, 2 ∷ 0 ∷ []) ∷ (LO, 2 ∷ []) ∷ (SH, 0 ∷ 0 ∷ []) ∷ [])
    ((DG, 1 ∷ 8 ∷ 24 ∷ 101 ∷ []) ∷ [])
    false 4 never 0 0

-- 15: function(p) local a = b, b = c, c = d, d = p; a
abbrev pub a_chain_of_siblings : Case
a_chain_of_siblings = accepted ample
    ((JT, 0 ∷ []) ∷ (FN, 101 ∷ 1 ∷ []) ∷ (PA, 16 ∷ 102 ∷ 0 ∷ []) ∷ (LO, 4 ∷ []) ∷ (BV, 1 ∷ 103 ∷ []) ∷ (VA, 2 ∷ 104 ∷ []) ∷ (BV, 2 ∷ 105 ∷ []) ∷ (VA, 3 ∷ 106 ∷ []) ∷ (BV, 3 ∷ 107 ∷ []) ∷ (VA, 4 ∷ 108 ∷ []) ∷ (BV, 4 ∷ 109 ∷ []) ∷ (VA, 16 ∷ 110 ∷ []) ∷ (VA, 1 ∷ 111 ∷ []) ∷ [])
    ((PA, 16 ∷ 0 ∷ 0 ∷ []) ∷ (LS, 1 ∷ []) ∷ (SH, 0 ∷ 0 ∷ []) ∷ (BV, 0 ∷ []) ∷ (LS, 2 ∷ []) ∷ (SH, 0 ∷ 0 ∷ []) ∷ (BV, 1 ∷ []) ∷ (LS, 3 ∷ []) ∷ (SH, 0 ∷ 0 ∷ []) ∷ (BV, 2 ∷ []) ∷ (CS, 0 ∷ []) ∷ (SH, 0 ∷ 1 ∷ 1 ∷ 0 ∷ []) ∷ (BV, 3 ∷ []) ∷ (LS, 0 ∷ []) ∷ (SH, 4 ∷ 1 ∷ 0 ∷ 0 ∷ []) ∷ (LO, 4 ∷ []) ∷ (SH, 1 ∷ 0 ∷ []) ∷ (FN, 0 ∷ 0 ∷ 1 ∷ []) ∷ (SH, 0 ∷ 0 ∷ []) ∷ [])
    []
    false 8 never 0 1

-- 16: function(p) local a = b, b = c, c = [a, p]; c
abbrev pub siblings_in_a_ring : Case
siblings_in_a_ring = accepted ample
    ((JT, 0 ∷ []) ∷ (FN, 101 ∷ 1 ∷ []) ∷ (PA, 16 ∷ 102 ∷ 0 ∷ []) ∷ (LO, 3 ∷ []) ∷ (BV, 1 ∷ 103 ∷ []) ∷ (VA, 2 ∷ 104 ∷ []) ∷ (BV, 2 ∷ 105 ∷ []) ∷ (VA, 3 ∷ 106 ∷ []) ∷ (BV, 3 ∷ 107 ∷ []) ∷ (AR, 2 ∷ []) ∷ (VA, 1 ∷ 108 ∷ []) ∷ (VA, 16 ∷ 109 ∷ []) ∷ (VA, 3 ∷ 110 ∷ []) ∷ [])
    ((PA, 16 ∷ 0 ∷ 0 ∷ []) ∷ (LS, 1 ∷ []) ∷ (SH, 0 ∷ 0 ∷ []) ∷ (BV, 0 ∷ []) ∷ (LS, 2 ∷ []) ∷ (SH, 0 ∷ 0 ∷ []) ∷ (BV, 1 ∷ []) ∷ (LS, 0 ∷ []) ∷ (CS, 0 ∷ []) ∷ (SH, 0 ∷ 1 ∷ 1 ∷ 0 ∷ []) ∷ (AR, 2 ∷ []) ∷ (SH, 0 ∷ 1 ∷ 1 ∷ 0 ∷ []) ∷ (BV, 2 ∷ []) ∷ (LS, 2 ∷ []) ∷ (SH, 3 ∷ 1 ∷ 0 ∷ 0 ∷ []) ∷ (LO, 3 ∷ []) ∷ (SH, 1 ∷ 0 ∷ []) ∷ (FN, 0 ∷ 0 ∷ 1 ∷ []) ∷ (SH, 0 ∷ 0 ∷ []) ∷ [])
    ((DG, 1 ∷ 8 ∷ 2 ∷ 105 ∷ []) ∷ (DG, 1 ∷ 8 ∷ 1 ∷ 103 ∷ []) ∷ [])
    false 6 never 0 1

-- 17: function() local a = 1, b = a, c = 3; [c, function(q) q]
abbrev pub every_warning : Case
every_warning = accepted ample
    ((JT, 0 ∷ []) ∷ (FN, 101 ∷ 0 ∷ []) ∷ (LO, 3 ∷ []) ∷ (BV, 1 ∷ 102 ∷ []) ∷ (TV, 1 ∷ []) ∷ (BV, 2 ∷ 103 ∷ []) ∷ (VA, 1 ∷ 104 ∷ []) ∷ (BV, 3 ∷ 105 ∷ []) ∷ (TV, 3 ∷ []) ∷ (AR, 2 ∷ []) ∷ (VA, 3 ∷ 106 ∷ []) ∷ (FN, 107 ∷ 1 ∷ []) ∷ (PA, 17 ∷ 108 ∷ 0 ∷ []) ∷ (VA, 17 ∷ 109 ∷ []) ∷ [])
    ((TV, 1 ∷ []) ∷ (SH, 0 ∷ 0 ∷ []) ∷ (BV, 0 ∷ []) ∷ (LS, 0 ∷ []) ∷ (SH, 0 ∷ 0 ∷ []) ∷ (BV, 1 ∷ []) ∷ (TV, 3 ∷ []) ∷ (SH, 0 ∷ 0 ∷ []) ∷ (BV, 2 ∷ []) ∷ (LS, 2 ∷ []) ∷ (IY, []) ∷ (SH, 0 ∷ 0 ∷ []) ∷ (AR, 2 ∷ []) ∷ (SH, 3 ∷ 0 ∷ []) ∷ (LO, 3 ∷ []) ∷ (SH, 0 ∷ 0 ∷ []) ∷ (FN, 0 ∷ 0 ∷ 0 ∷ []) ∷ (SH, 0 ∷ 0 ∷ []) ∷ [])
    ((DG, 1 ∷ 9 ∷ 17 ∷ 108 ∷ []) ∷ (DG, 1 ∷ 10 ∷ 0 ∷ 107 ∷ []) ∷ (DG, 1 ∷ 9 ∷ 3 ∷ 105 ∷ []) ∷ (DG, 1 ∷ 7 ∷ 2 ∷ 103 ∷ []) ∷ (DG, 1 ∷ 8 ∷ 1 ∷ 102 ∷ []) ∷ [])
    false 6 never 1 2

-- 18: local a = 1, a = b, c = 0, b = 2; c
abbrev pub dropped_bind : Case
dropped_bind = accepted ample
    ((JT, 0 ∷ []) ∷ (LO, 4 ∷ []) ∷ (BV, 1 ∷ 101 ∷ []) ∷ (TV, 1 ∷ []) ∷ (BV, 1 ∷ 102 ∷ []) ∷ (VA, 2 ∷ 103 ∷ []) ∷ (BV, 3 ∷ 104 ∷ []) ∷ (TV, 0 ∷ []) ∷ (BV, 2 ∷ 105 ∷ []) ∷ (TV, 2 ∷ []) ∷ (VA, 3 ∷ 106 ∷ []) ∷ [])
    ((TV, 1 ∷ []) ∷ (SH, 0 ∷ 0 ∷ []) ∷ (BV, 0 ∷ []) ∷ (TV, 0 ∷ []) ∷ (SH, 0 ∷ 0 ∷ []) ∷ (BV, 1 ∷ []) ∷ (TV, 2 ∷ []) ∷ (SH, 0 ∷ 0 ∷ []) ∷ (BV, 2 ∷ []) ∷ (LS, 1 ∷ []) ∷ (SH, 3 ∷ 0 ∷ []) ∷ (LO, 3 ∷ []) ∷ (SH, 0 ∷ 0 ∷ []) ∷ [])
    ((DG, 0 ∷ 2 ∷ 1 ∷ 102 ∷ []) ∷ (DG, 1 ∷ 7 ∷ 1 ∷ 101 ∷ []) ∷ [])
    true 4 never 0 0

-- 19: local a = 0, a = x; u with the external x
abbrev pub dropped_bind_of_an_external : Case
dropped_bind_of_an_external = accepted ample
    ((JT, 1 ∷ 24 ∷ []) ∷ (LO, 2 ∷ []) ∷ (BV, 1 ∷ 101 ∷ []) ∷ (TV, 0 ∷ []) ∷ (BV, 1 ∷ 102 ∷ []) ∷ (VA, 24 ∷ 103 ∷ []) ∷ (VA, 21 ∷ 104 ∷ []) ∷ [])
    ((TV, 0 ∷ []) ∷ (SH, 0 ∷ 0 ∷ []) ∷ (BV, 0 ∷ []) ∷ (BL, 3 ∷ []) ∷ (SH, 1 ∷ 1 ∷ 0 ∷ 0 ∷ []) ∷ (LO, 1 ∷ []) ∷ (SH, 1 ∷ 0 ∷ []) ∷ [])
    ((DG, 0 ∷ 2 ∷ 1 ∷ 102 ∷ []) ∷ (DG, 0 ∷ 1 ∷ 21 ∷ 104 ∷ []) ∷ (DG, 1 ∷ 7 ∷ 1 ∷ 101 ∷ []) ∷ [])
    true 2 never 0 0

-- 20: function(y) local a = 1, a = [y, y], a = function(z) z; a
abbrev pub dropped_twice : Case
dropped_twice = accepted ample
    ((JT, 0 ∷ []) ∷ (FN, 101 ∷ 1 ∷ []) ∷ (PA, 25 ∷ 102 ∷ 0 ∷ []) ∷ (LO, 3 ∷ []) ∷ (BV, 1 ∷ 103 ∷ []) ∷ (TV, 1 ∷ []) ∷ (BV, 1 ∷ 104 ∷ []) ∷ (AR, 2 ∷ []) ∷ (VA, 25 ∷ 105 ∷ []) ∷ (VA, 25 ∷ 106 ∷ []) ∷ (BV, 1 ∷ 107 ∷ []) ∷ (FN, 108 ∷ 1 ∷ []) ∷ (PA, 26 ∷ 109 ∷ 0 ∷ []) ∷ (VA, 26 ∷ 110 ∷ []) ∷ (VA, 1 ∷ 111 ∷ []) ∷ [])
    ((PA, 25 ∷ 0 ∷ 0 ∷ []) ∷ (TV, 1 ∷ []) ∷ (SH, 0 ∷ 0 ∷ []) ∷ (BV, 0 ∷ []) ∷ (LS, 0 ∷ []) ∷ (SH, 1 ∷ 1 ∷ 0 ∷ 0 ∷ []) ∷ (LO, 1 ∷ []) ∷ (SH, 1 ∷ 0 ∷ []) ∷ (FN, 0 ∷ 0 ∷ 1 ∷ []) ∷ (SH, 0 ∷ 0 ∷ []) ∷ [])
    ((DG, 0 ∷ 2 ∷ 1 ∷ 104 ∷ []) ∷ (DG, 0 ∷ 2 ∷ 1 ∷ 107 ∷ []) ∷ (DG, 1 ∷ 9 ∷ 26 ∷ 109 ∷ []) ∷ (DG, 1 ∷ 10 ∷ 0 ∷ 108 ∷ []) ∷ (DG, 1 ∷ 9 ∷ 1 ∷ 103 ∷ []) ∷ [])
    true 6 never 0 1

-- 21: [(local; 1), x, (local; x)] with the external x (two LO 0)
abbrev pub no_binds : Case
no_binds = accepted ample
    ((JT, 1 ∷ 24 ∷ []) ∷ (AR, 3 ∷ []) ∷ (LO, 0 ∷ []) ∷ (TV, 1 ∷ []) ∷ (VA, 24 ∷ 101 ∷ []) ∷ (LO, 0 ∷ []) ∷ (VA, 24 ∷ 102 ∷ []) ∷ [])
    ((TV, 1 ∷ []) ∷ (LS, 0 ∷ []) ∷ (LS, 0 ∷ []) ∷ (SH, 0 ∷ 0 ∷ []) ∷ (AR, 3 ∷ []) ∷ (SH, 1 ∷ 0 ∷ []) ∷ [])
    []
    false 0 never 0 0

abbrev pub own_names : List Case
own_names = hidden_once ∷ hidden_between ∷ hidden_by_parameter ∷ hidden_across_frames ∷ captured_through_three ∷ captured_at_three_levels ∷ captured_in_both_orders ∷ externals_of_one_name ∷ external_hidden ∷ undefined ∷ its_own_sibling ∷ kept_through_a_frame ∷ used_in_the_body_of_a_sibling ∷ used_in_a_bind_of_a_sibling ∷ a_chain_of_siblings ∷ siblings_in_a_ring ∷ every_warning ∷ dropped_bind ∷ dropped_bind_of_an_external ∷ dropped_twice ∷ no_binds ∷ []

-- Functions

-- 22: function(a = b, b = 1, c = a) c
abbrev pub defaults_both_ways : Case
defaults_both_ways = accepted ample
    ((JT, 0 ∷ []) ∷ (FN, 101 ∷ 3 ∷ []) ∷ (PA, 1 ∷ 102 ∷ 1 ∷ []) ∷ (VA, 2 ∷ 103 ∷ []) ∷ (PA, 2 ∷ 104 ∷ 1 ∷ []) ∷ (TV, 1 ∷ []) ∷ (PA, 3 ∷ 105 ∷ 1 ∷ []) ∷ (VA, 1 ∷ 106 ∷ []) ∷ (VA, 3 ∷ 107 ∷ []) ∷ [])
    ((LS, 1 ∷ []) ∷ (SH, 0 ∷ 0 ∷ []) ∷ (PA, 1 ∷ 0 ∷ 1 ∷ []) ∷ (TV, 1 ∷ []) ∷ (SH, 0 ∷ 0 ∷ []) ∷ (PA, 2 ∷ 1 ∷ 1 ∷ []) ∷ (LS, 0 ∷ []) ∷ (SH, 0 ∷ 0 ∷ []) ∷ (PA, 3 ∷ 2 ∷ 1 ∷ []) ∷ (LS, 2 ∷ []) ∷ (SH, 3 ∷ 0 ∷ []) ∷ (FN, 0 ∷ 0 ∷ 3 ∷ []) ∷ (SH, 0 ∷ 0 ∷ []) ∷ [])
    ((DG, 1 ∷ 8 ∷ 2 ∷ 104 ∷ []) ∷ (DG, 1 ∷ 8 ∷ 1 ∷ 102 ∷ []) ∷ [])
    false 2 never 0 0

-- 23: local f(x = y, y = x) = [x, y]; f
abbrev pub defaults_of_a_named_function : Case
defaults_of_a_named_function = accepted ample
    ((JT, 0 ∷ []) ∷ (LO, 1 ∷ []) ∷ (BF, 6 ∷ 101 ∷ []) ∷ (FN, 102 ∷ 2 ∷ []) ∷ (PA, 24 ∷ 103 ∷ 1 ∷ []) ∷ (VA, 25 ∷ 104 ∷ []) ∷ (PA, 25 ∷ 105 ∷ 1 ∷ []) ∷ (VA, 24 ∷ 106 ∷ []) ∷ (AR, 2 ∷ []) ∷ (VA, 24 ∷ 107 ∷ []) ∷ (VA, 25 ∷ 108 ∷ []) ∷ (VA, 6 ∷ 109 ∷ []) ∷ [])
    ((LS, 1 ∷ []) ∷ (SH, 0 ∷ 0 ∷ []) ∷ (PA, 24 ∷ 0 ∷ 1 ∷ []) ∷ (LS, 0 ∷ []) ∷ (SH, 0 ∷ 0 ∷ []) ∷ (PA, 25 ∷ 1 ∷ 1 ∷ []) ∷ (LS, 0 ∷ []) ∷ (LS, 1 ∷ []) ∷ (SH, 0 ∷ 0 ∷ []) ∷ (AR, 2 ∷ []) ∷ (SH, 2 ∷ 0 ∷ []) ∷ (FN, 1 ∷ 6 ∷ 2 ∷ []) ∷ (SH, 0 ∷ 0 ∷ []) ∷ (BV, 0 ∷ []) ∷ (LS, 0 ∷ []) ∷ (SH, 1 ∷ 0 ∷ []) ∷ (LO, 1 ∷ []) ∷ (SH, 0 ∷ 0 ∷ []) ∷ [])
    []
    false 4 never 0 0

-- 24: function(a, a = b, b = b) 0
abbrev pub dropped_parameter : Case
dropped_parameter = accepted ample
    ((JT, 0 ∷ []) ∷ (FN, 101 ∷ 3 ∷ []) ∷ (PA, 1 ∷ 102 ∷ 0 ∷ []) ∷ (PA, 1 ∷ 103 ∷ 1 ∷ []) ∷ (VA, 2 ∷ 104 ∷ []) ∷ (PA, 2 ∷ 105 ∷ 1 ∷ []) ∷ (VA, 2 ∷ 106 ∷ []) ∷ (TV, 0 ∷ []) ∷ [])
    ((PA, 1 ∷ 0 ∷ 0 ∷ []) ∷ (LS, 1 ∷ []) ∷ (SH, 0 ∷ 0 ∷ []) ∷ (PA, 2 ∷ 1 ∷ 1 ∷ []) ∷ (TV, 0 ∷ []) ∷ (SH, 2 ∷ 0 ∷ []) ∷ (FN, 0 ∷ 0 ∷ 2 ∷ []) ∷ (SH, 0 ∷ 0 ∷ []) ∷ [])
    ((DG, 0 ∷ 2 ∷ 1 ∷ 103 ∷ []) ∷ (DG, 1 ∷ 8 ∷ 2 ∷ 105 ∷ []) ∷ (DG, 1 ∷ 7 ∷ 1 ∷ 102 ∷ []) ∷ [])
    true 2 never 0 0

-- 25: function(a, a = c, b, c = 1) b
abbrev pub dropped_before_one_without_default : Case
dropped_before_one_without_default = accepted ample
    ((JT, 0 ∷ []) ∷ (FN, 101 ∷ 4 ∷ []) ∷ (PA, 1 ∷ 102 ∷ 0 ∷ []) ∷ (PA, 1 ∷ 103 ∷ 1 ∷ []) ∷ (VA, 3 ∷ 104 ∷ []) ∷ (PA, 2 ∷ 105 ∷ 0 ∷ []) ∷ (PA, 3 ∷ 106 ∷ 1 ∷ []) ∷ (TV, 1 ∷ []) ∷ (VA, 2 ∷ 107 ∷ []) ∷ [])
    ((PA, 1 ∷ 0 ∷ 0 ∷ []) ∷ (PA, 2 ∷ 1 ∷ 0 ∷ []) ∷ (TV, 1 ∷ []) ∷ (SH, 0 ∷ 0 ∷ []) ∷ (PA, 3 ∷ 2 ∷ 1 ∷ []) ∷ (LS, 1 ∷ []) ∷ (SH, 3 ∷ 0 ∷ []) ∷ (FN, 0 ∷ 0 ∷ 3 ∷ []) ∷ (SH, 0 ∷ 0 ∷ []) ∷ [])
    ((DG, 0 ∷ 2 ∷ 1 ∷ 103 ∷ []) ∷ (DG, 1 ∷ 7 ∷ 1 ∷ 102 ∷ []) ∷ [])
    true 4 never 0 0

-- 26: local f(x) = x; f
abbrev pub identity_in_a_function_bind : Case
identity_in_a_function_bind = accepted ample
    ((JT, 0 ∷ []) ∷ (LO, 1 ∷ []) ∷ (BF, 6 ∷ 101 ∷ []) ∷ (FN, 102 ∷ 1 ∷ []) ∷ (PA, 24 ∷ 103 ∷ 0 ∷ []) ∷ (VA, 24 ∷ 104 ∷ []) ∷ (VA, 6 ∷ 105 ∷ []) ∷ [])
    ((IY, []) ∷ (SH, 0 ∷ 0 ∷ []) ∷ (BV, 0 ∷ []) ∷ (LS, 0 ∷ []) ∷ (SH, 1 ∷ 0 ∷ []) ∷ (LO, 1 ∷ []) ∷ (SH, 0 ∷ 0 ∷ []) ∷ [])
    ((DG, 1 ∷ 10 ∷ 0 ∷ 101 ∷ []) ∷ [])
    false 4 never 0 0

-- 27: local f = function(x) x; f
abbrev pub identity_in_a_bind : Case
identity_in_a_bind = accepted ample
    ((JT, 0 ∷ []) ∷ (LO, 1 ∷ []) ∷ (BV, 6 ∷ 101 ∷ []) ∷ (FN, 102 ∷ 1 ∷ []) ∷ (PA, 24 ∷ 103 ∷ 0 ∷ []) ∷ (VA, 24 ∷ 104 ∷ []) ∷ (VA, 6 ∷ 105 ∷ []) ∷ [])
    ((IY, []) ∷ (SH, 0 ∷ 0 ∷ []) ∷ (BV, 0 ∷ []) ∷ (LS, 0 ∷ []) ∷ (SH, 1 ∷ 0 ∷ []) ∷ (LO, 1 ∷ []) ∷ (SH, 0 ∷ 0 ∷ []) ∷ [])
    ((DG, 1 ∷ 10 ∷ 0 ∷ 102 ∷ []) ∷ [])
    false 4 never 0 0

-- 28: { m(x): x, [x](y): y } with the external x
abbrev pub identity_in_a_method : Case
identity_in_a_method = accepted ample
    ((JT, 1 ∷ 24 ∷ []) ∷ (OB, 0 ∷ 0 ∷ 2 ∷ []) ∷ (FH, 0 ∷ 13 ∷ 101 ∷ 0 ∷ 0 ∷ 1 ∷ []) ∷ (FH, 1 ∷ 0 ∷ 102 ∷ 0 ∷ 0 ∷ 1 ∷ []) ∷ (VA, 24 ∷ 103 ∷ []) ∷ (FN, 104 ∷ 1 ∷ []) ∷ (PA, 24 ∷ 105 ∷ 0 ∷ []) ∷ (VA, 24 ∷ 106 ∷ []) ∷ (FN, 107 ∷ 1 ∷ []) ∷ (PA, 25 ∷ 108 ∷ 0 ∷ []) ∷ (VA, 25 ∷ 109 ∷ []) ∷ [])
    ((FH, 0 ∷ 13 ∷ 0 ∷ 0 ∷ []) ∷ (LS, 0 ∷ []) ∷ (FH, 1 ∷ 0 ∷ 0 ∷ 0 ∷ []) ∷ (IY, []) ∷ (SH, 0 ∷ 0 ∷ []) ∷ (FV, []) ∷ (IY, []) ∷ (SH, 0 ∷ 0 ∷ []) ∷ (FV, []) ∷ (SH, 1 ∷ 0 ∷ []) ∷ (OB, 0 ∷ 0 ∷ 0 ∷ 0 ∷ 0 ∷ 2 ∷ 0 ∷ []) ∷ (SH, 1 ∷ 0 ∷ []) ∷ [])
    ((DG, 1 ∷ 9 ∷ 24 ∷ 105 ∷ []) ∷ (DG, 1 ∷ 10 ∷ 0 ∷ 101 ∷ []) ∷ (DG, 1 ∷ 9 ∷ 25 ∷ 108 ∷ []) ∷ (DG, 1 ∷ 10 ∷ 0 ∷ 102 ∷ []) ∷ [])
    false 6 never 0 1

-- 29: function(x, x = 1) (local; x) (an LO 0)
abbrev pub identity_under_no_binds : Case
identity_under_no_binds = accepted ample
    ((JT, 0 ∷ []) ∷ (FN, 101 ∷ 2 ∷ []) ∷ (PA, 24 ∷ 102 ∷ 0 ∷ []) ∷ (PA, 24 ∷ 103 ∷ 1 ∷ []) ∷ (TV, 1 ∷ []) ∷ (LO, 0 ∷ []) ∷ (VA, 24 ∷ 104 ∷ []) ∷ [])
    ((IY, []) ∷ (SH, 0 ∷ 0 ∷ []) ∷ [])
    ((DG, 0 ∷ 2 ∷ 24 ∷ 103 ∷ []) ∷ (DG, 1 ∷ 10 ∷ 0 ∷ 101 ∷ []) ∷ [])
    true 2 never 0 0

-- 30: function(x = 1) x
abbrev pub near_identity_with_default : Case
near_identity_with_default = accepted ample
    ((JT, 0 ∷ []) ∷ (FN, 101 ∷ 1 ∷ []) ∷ (PA, 24 ∷ 102 ∷ 1 ∷ []) ∷ (TV, 1 ∷ []) ∷ (VA, 24 ∷ 103 ∷ []) ∷ [])
    ((TV, 1 ∷ []) ∷ (SH, 0 ∷ 0 ∷ []) ∷ (PA, 24 ∷ 0 ∷ 1 ∷ []) ∷ (LS, 0 ∷ []) ∷ (SH, 1 ∷ 0 ∷ []) ∷ (FN, 0 ∷ 0 ∷ 1 ∷ []) ∷ (SH, 0 ∷ 0 ∷ []) ∷ [])
    []
    false 2 never 0 0

-- 31: [function(x, y) x, function(y) x, function(x) [x]] with the external x
abbrev pub near_identities : Case
near_identities = accepted ample
    ((JT, 1 ∷ 24 ∷ []) ∷ (AR, 3 ∷ []) ∷ (FN, 101 ∷ 2 ∷ []) ∷ (PA, 24 ∷ 102 ∷ 0 ∷ []) ∷ (PA, 25 ∷ 103 ∷ 0 ∷ []) ∷ (VA, 24 ∷ 104 ∷ []) ∷ (FN, 105 ∷ 1 ∷ []) ∷ (PA, 25 ∷ 106 ∷ 0 ∷ []) ∷ (VA, 24 ∷ 107 ∷ []) ∷ (FN, 108 ∷ 1 ∷ []) ∷ (PA, 24 ∷ 109 ∷ 0 ∷ []) ∷ (AR, 1 ∷ []) ∷ (VA, 24 ∷ 110 ∷ []) ∷ [])
    ((PA, 24 ∷ 0 ∷ 0 ∷ []) ∷ (PA, 25 ∷ 1 ∷ 0 ∷ []) ∷ (LS, 0 ∷ []) ∷ (SH, 2 ∷ 0 ∷ []) ∷ (FN, 0 ∷ 0 ∷ 2 ∷ []) ∷ (PA, 25 ∷ 0 ∷ 0 ∷ []) ∷ (CS, 0 ∷ []) ∷ (SH, 1 ∷ 1 ∷ 0 ∷ 0 ∷ []) ∷ (FN, 0 ∷ 0 ∷ 1 ∷ []) ∷ (PA, 24 ∷ 0 ∷ 0 ∷ []) ∷ (LS, 0 ∷ []) ∷ (SH, 0 ∷ 0 ∷ []) ∷ (AR, 1 ∷ []) ∷ (SH, 1 ∷ 0 ∷ []) ∷ (FN, 0 ∷ 0 ∷ 1 ∷ []) ∷ (SH, 0 ∷ 0 ∷ []) ∷ (AR, 3 ∷ []) ∷ (SH, 1 ∷ 0 ∷ []) ∷ [])
    ((DG, 1 ∷ 7 ∷ 25 ∷ 103 ∷ []) ∷ (DG, 1 ∷ 7 ∷ 25 ∷ 106 ∷ []) ∷ [])
    false 6 never 0 0

-- 32: local f(x) = g(x), g = function(x) f(x); { m(x): f(x), [f](y): g(y) }
abbrev pub functions_named_and_not : Case
functions_named_and_not = accepted ample
    ((JT, 0 ∷ []) ∷ (LO, 2 ∷ []) ∷ (BF, 6 ∷ 101 ∷ []) ∷ (FN, 102 ∷ 1 ∷ []) ∷ (PA, 24 ∷ 103 ∷ 0 ∷ []) ∷ (AP, 1 ∷ 0 ∷ 0 ∷ 104 ∷ []) ∷ (VA, 7 ∷ 105 ∷ []) ∷ (VA, 24 ∷ 106 ∷ []) ∷ (BV, 7 ∷ 107 ∷ []) ∷ (FN, 108 ∷ 1 ∷ []) ∷ (PA, 24 ∷ 109 ∷ 0 ∷ []) ∷ (AP, 1 ∷ 0 ∷ 0 ∷ 110 ∷ []) ∷ (VA, 6 ∷ 111 ∷ []) ∷ (VA, 24 ∷ 112 ∷ []) ∷ (OB, 0 ∷ 0 ∷ 2 ∷ []) ∷ (FH, 0 ∷ 13 ∷ 113 ∷ 0 ∷ 0 ∷ 1 ∷ []) ∷ (FH, 1 ∷ 0 ∷ 114 ∷ 0 ∷ 0 ∷ 1 ∷ []) ∷ (VA, 6 ∷ 115 ∷ []) ∷ (FN, 116 ∷ 1 ∷ []) ∷ (PA, 24 ∷ 117 ∷ 0 ∷ []) ∷ (AP, 1 ∷ 0 ∷ 0 ∷ 118 ∷ []) ∷ (VA, 6 ∷ 119 ∷ []) ∷ (VA, 24 ∷ 120 ∷ []) ∷ (FN, 121 ∷ 1 ∷ []) ∷ (PA, 25 ∷ 122 ∷ 0 ∷ []) ∷ (AP, 1 ∷ 0 ∷ 0 ∷ 123 ∷ []) ∷ (VA, 7 ∷ 124 ∷ []) ∷ (VA, 25 ∷ 125 ∷ []) ∷ [])
    ((PA, 24 ∷ 0 ∷ 0 ∷ []) ∷ (CS, 0 ∷ []) ∷ (LS, 0 ∷ []) ∷ (AP, 1 ∷ 0 ∷ 0 ∷ 104 ∷ []) ∷ (SH, 1 ∷ 1 ∷ 0 ∷ 1 ∷ []) ∷ (FN, 1 ∷ 6 ∷ 1 ∷ []) ∷ (SH, 0 ∷ 0 ∷ []) ∷ (BV, 0 ∷ []) ∷ (PA, 24 ∷ 0 ∷ 0 ∷ []) ∷ (CS, 0 ∷ []) ∷ (LS, 0 ∷ []) ∷ (AP, 1 ∷ 0 ∷ 0 ∷ 110 ∷ []) ∷ (SH, 1 ∷ 1 ∷ 0 ∷ 0 ∷ []) ∷ (FN, 0 ∷ 0 ∷ 1 ∷ []) ∷ (SH, 0 ∷ 0 ∷ []) ∷ (BV, 1 ∷ []) ∷ (FH, 0 ∷ 13 ∷ 0 ∷ 0 ∷ []) ∷ (LS, 0 ∷ []) ∷ (FH, 1 ∷ 0 ∷ 0 ∷ 0 ∷ []) ∷ (PA, 24 ∷ 0 ∷ 0 ∷ []) ∷ (CS, 0 ∷ []) ∷ (LS, 0 ∷ []) ∷ (AP, 1 ∷ 0 ∷ 0 ∷ 118 ∷ []) ∷ (SH, 1 ∷ 1 ∷ 1 ∷ 0 ∷ []) ∷ (FN, 1 ∷ 13 ∷ 1 ∷ []) ∷ (SH, 0 ∷ 1 ∷ 1 ∷ 0 ∷ []) ∷ (FV, []) ∷ (PA, 25 ∷ 0 ∷ 0 ∷ []) ∷ (CS, 0 ∷ []) ∷ (LS, 0 ∷ []) ∷ (AP, 1 ∷ 0 ∷ 0 ∷ 123 ∷ []) ∷ (SH, 1 ∷ 1 ∷ 1 ∷ 0 ∷ []) ∷ (FN, 0 ∷ 0 ∷ 1 ∷ []) ∷ (SH, 0 ∷ 1 ∷ 1 ∷ 1 ∷ []) ∷ (FV, []) ∷ (SH, 1 ∷ 2 ∷ 0 ∷ 0 ∷ 0 ∷ 1 ∷ []) ∷ (OB, 0 ∷ 0 ∷ 0 ∷ 0 ∷ 0 ∷ 2 ∷ 0 ∷ []) ∷ (SH, 2 ∷ 0 ∷ []) ∷ (LO, 2 ∷ []) ∷ (SH, 0 ∷ 0 ∷ []) ∷ [])
    ((DG, 1 ∷ 9 ∷ 24 ∷ 117 ∷ []) ∷ (DG, 1 ∷ 9 ∷ 25 ∷ 122 ∷ []) ∷ [])
    false 12 never 0 2

-- 33: function() 1
abbrev pub function_without_parameters : Case
function_without_parameters = accepted ample
    ((JT, 0 ∷ []) ∷ (FN, 101 ∷ 0 ∷ []) ∷ (TV, 1 ∷ []) ∷ [])
    ((TV, 1 ∷ []) ∷ (SH, 0 ∷ 0 ∷ []) ∷ (FN, 0 ∷ 0 ∷ 0 ∷ []) ∷ (SH, 0 ∷ 0 ∷ []) ∷ [])
    []
    false 2 never never 0

abbrev pub own_functions : List Case
own_functions = defaults_both_ways ∷ defaults_of_a_named_function ∷ dropped_parameter ∷ dropped_before_one_without_default ∷ identity_in_a_function_bind ∷ identity_in_a_bind ∷ identity_in_a_method ∷ identity_under_no_binds ∷ near_identity_with_default ∷ near_identities ∷ functions_named_and_not ∷ function_without_parameters ∷ []

-- Objects

-- 34: { a: self, b: { c: self, d: super, e: $ } }
abbrev pub objects_in_objects : Case
objects_in_objects = accepted ample
    ((JT, 0 ∷ []) ∷ (OB, 0 ∷ 0 ∷ 2 ∷ []) ∷ (FH, 0 ∷ 1 ∷ 101 ∷ 0 ∷ 0 ∷ 0 ∷ []) ∷ (FH, 0 ∷ 2 ∷ 102 ∷ 0 ∷ 0 ∷ 0 ∷ []) ∷ (ID, 0 ∷ 103 ∷ []) ∷ (OB, 0 ∷ 0 ∷ 3 ∷ []) ∷ (FH, 0 ∷ 3 ∷ 104 ∷ 0 ∷ 0 ∷ 0 ∷ []) ∷ (FH, 0 ∷ 4 ∷ 105 ∷ 0 ∷ 0 ∷ 0 ∷ []) ∷ (FH, 0 ∷ 5 ∷ 106 ∷ 0 ∷ 0 ∷ 0 ∷ []) ∷ (ID, 0 ∷ 107 ∷ []) ∷ (ID, 1 ∷ 108 ∷ []) ∷ (ID, 2 ∷ 109 ∷ []) ∷ [])
    ((FH, 0 ∷ 1 ∷ 0 ∷ 0 ∷ []) ∷ (FH, 0 ∷ 2 ∷ 0 ∷ 0 ∷ []) ∷ (LS, 0 ∷ []) ∷ (SH, 0 ∷ 0 ∷ []) ∷ (FV, []) ∷ (FH, 0 ∷ 3 ∷ 0 ∷ 0 ∷ []) ∷ (FH, 0 ∷ 4 ∷ 0 ∷ 0 ∷ []) ∷ (FH, 0 ∷ 5 ∷ 0 ∷ 0 ∷ []) ∷ (LS, 0 ∷ []) ∷ (SH, 0 ∷ 0 ∷ []) ∷ (FV, []) ∷ (SU, []) ∷ (SH, 0 ∷ 0 ∷ []) ∷ (FV, []) ∷ (CS, 0 ∷ []) ∷ (SH, 0 ∷ 1 ∷ 1 ∷ 0 ∷ []) ∷ (FV, []) ∷ (SH, 1 ∷ 1 ∷ 0 ∷ 0 ∷ []) ∷ (OB, 1 ∷ 0 ∷ 1 ∷ 0 ∷ 0 ∷ 3 ∷ 1 ∷ []) ∷ (SH, 0 ∷ 0 ∷ []) ∷ (FV, []) ∷ (SH, 1 ∷ 0 ∷ []) ∷ (OB, 1 ∷ 1 ∷ 0 ∷ 0 ∷ 0 ∷ 2 ∷ 1 ∷ []) ∷ (SH, 0 ∷ 0 ∷ []) ∷ [])
    []
    false 4 0 0 1

-- 35: { a: { b: $ } }
abbrev pub dollar_only_inside : Case
dollar_only_inside = accepted ample
    ((JT, 0 ∷ []) ∷ (OB, 0 ∷ 0 ∷ 1 ∷ []) ∷ (FH, 0 ∷ 1 ∷ 101 ∷ 0 ∷ 0 ∷ 0 ∷ []) ∷ (OB, 0 ∷ 0 ∷ 1 ∷ []) ∷ (FH, 0 ∷ 2 ∷ 102 ∷ 0 ∷ 0 ∷ 0 ∷ []) ∷ (ID, 2 ∷ 103 ∷ []) ∷ [])
    ((FH, 0 ∷ 1 ∷ 0 ∷ 0 ∷ []) ∷ (FH, 0 ∷ 2 ∷ 0 ∷ 0 ∷ []) ∷ (CS, 0 ∷ []) ∷ (SH, 0 ∷ 1 ∷ 1 ∷ 0 ∷ []) ∷ (FV, []) ∷ (SH, 1 ∷ 1 ∷ 0 ∷ 0 ∷ []) ∷ (OB, 0 ∷ 0 ∷ 0 ∷ 0 ∷ 0 ∷ 1 ∷ 1 ∷ []) ∷ (SH, 0 ∷ 0 ∷ []) ∷ (FV, []) ∷ (SH, 1 ∷ 0 ∷ []) ∷ (OB, 1 ∷ 1 ∷ 0 ∷ 0 ∷ 0 ∷ 1 ∷ 1 ∷ []) ∷ (SH, 0 ∷ 0 ∷ []) ∷ [])
    []
    false 4 0 0 0

-- 36: { a: super }
abbrev pub super_alone : Case
super_alone = accepted ample
    ((JT, 0 ∷ []) ∷ (OB, 0 ∷ 0 ∷ 1 ∷ []) ∷ (FH, 0 ∷ 1 ∷ 101 ∷ 0 ∷ 0 ∷ 0 ∷ []) ∷ (ID, 1 ∷ 102 ∷ []) ∷ [])
    ((FH, 0 ∷ 1 ∷ 0 ∷ 0 ∷ []) ∷ (SU, []) ∷ (SH, 0 ∷ 0 ∷ []) ∷ (FV, []) ∷ (SH, 1 ∷ 0 ∷ []) ∷ (OB, 1 ∷ 0 ∷ 1 ∷ 0 ∷ 0 ∷ 1 ∷ 1 ∷ []) ∷ (SH, 0 ∷ 0 ∷ []) ∷ [])
    []
    false 2 0 0 0

-- 37: [{ a: $ }, $]
abbrev pub dollar_after_the_outermost : Case
dollar_after_the_outermost = accepted ample
    ((JT, 0 ∷ []) ∷ (AR, 2 ∷ []) ∷ (OB, 0 ∷ 0 ∷ 1 ∷ []) ∷ (FH, 0 ∷ 1 ∷ 101 ∷ 0 ∷ 0 ∷ 0 ∷ []) ∷ (ID, 2 ∷ 102 ∷ []) ∷ (ID, 2 ∷ 103 ∷ []) ∷ [])
    ((FH, 0 ∷ 1 ∷ 0 ∷ 0 ∷ []) ∷ (LS, 0 ∷ []) ∷ (SH, 0 ∷ 0 ∷ []) ∷ (FV, []) ∷ (SH, 1 ∷ 0 ∷ []) ∷ (OB, 1 ∷ 1 ∷ 0 ∷ 0 ∷ 0 ∷ 1 ∷ 1 ∷ []) ∷ (BL, 2 ∷ []) ∷ (SH, 0 ∷ 0 ∷ []) ∷ (AR, 2 ∷ []) ∷ (SH, 0 ∷ 0 ∷ []) ∷ [])
    ((DG, 0 ∷ 5 ∷ 0 ∷ 103 ∷ []) ∷ [])
    true 2 0 0 0

-- 38: { a: $ } + { b: { c: self } }
abbrev pub two_outermost : Case
two_outermost = accepted ample
    ((JT, 0 ∷ []) ∷ (BI, 60 ∷ []) ∷ (OB, 0 ∷ 0 ∷ 1 ∷ []) ∷ (FH, 0 ∷ 1 ∷ 101 ∷ 0 ∷ 0 ∷ 0 ∷ []) ∷ (ID, 2 ∷ 102 ∷ []) ∷ (OB, 0 ∷ 0 ∷ 1 ∷ []) ∷ (FH, 0 ∷ 2 ∷ 103 ∷ 0 ∷ 0 ∷ 0 ∷ []) ∷ (OB, 0 ∷ 0 ∷ 1 ∷ []) ∷ (FH, 0 ∷ 3 ∷ 104 ∷ 0 ∷ 0 ∷ 0 ∷ []) ∷ (ID, 0 ∷ 105 ∷ []) ∷ [])
    ((FH, 0 ∷ 1 ∷ 0 ∷ 0 ∷ []) ∷ (LS, 0 ∷ []) ∷ (SH, 0 ∷ 0 ∷ []) ∷ (FV, []) ∷ (SH, 1 ∷ 0 ∷ []) ∷ (OB, 1 ∷ 1 ∷ 0 ∷ 0 ∷ 0 ∷ 1 ∷ 1 ∷ []) ∷ (FH, 0 ∷ 2 ∷ 0 ∷ 0 ∷ []) ∷ (FH, 0 ∷ 3 ∷ 0 ∷ 0 ∷ []) ∷ (LS, 0 ∷ []) ∷ (SH, 0 ∷ 0 ∷ []) ∷ (FV, []) ∷ (SH, 1 ∷ 0 ∷ []) ∷ (OB, 1 ∷ 0 ∷ 0 ∷ 0 ∷ 0 ∷ 1 ∷ 1 ∷ []) ∷ (SH, 0 ∷ 0 ∷ []) ∷ (FV, []) ∷ (SH, 1 ∷ 0 ∷ []) ∷ (OB, 0 ∷ 0 ∷ 0 ∷ 0 ∷ 0 ∷ 1 ∷ 1 ∷ []) ∷ (BI, 60 ∷ []) ∷ (SH, 0 ∷ 0 ∷ []) ∷ [])
    []
    false 6 0 0 1

-- 39: [self, super, $]
abbrev pub none_outside : Case
none_outside = accepted ample
    ((JT, 0 ∷ []) ∷ (AR, 3 ∷ []) ∷ (ID, 0 ∷ 101 ∷ []) ∷ (ID, 1 ∷ 102 ∷ []) ∷ (ID, 2 ∷ 103 ∷ []) ∷ [])
    ((BL, 0 ∷ []) ∷ (BL, 1 ∷ []) ∷ (BL, 2 ∷ []) ∷ (SH, 0 ∷ 0 ∷ []) ∷ (AR, 3 ∷ []) ∷ (SH, 0 ∷ 0 ∷ []) ∷ [])
    ((DG, 0 ∷ 3 ∷ 0 ∷ 101 ∷ []) ∷ (DG, 0 ∷ 4 ∷ 0 ∷ 102 ∷ []) ∷ (DG, 0 ∷ 5 ∷ 0 ∷ 103 ∷ []) ∷ [])
    true 0 never never 0

-- 40: local x = 1; { local x = 2, [x]: x }
abbrev pub computed_names_outside : Case
computed_names_outside = accepted ample
    ((JT, 0 ∷ []) ∷ (LO, 1 ∷ []) ∷ (BV, 24 ∷ 101 ∷ []) ∷ (TV, 1 ∷ []) ∷ (OB, 1 ∷ 0 ∷ 1 ∷ []) ∷ (FH, 1 ∷ 0 ∷ 102 ∷ 0 ∷ 0 ∷ 0 ∷ []) ∷ (VA, 24 ∷ 103 ∷ []) ∷ (BV, 24 ∷ 104 ∷ []) ∷ (TV, 2 ∷ []) ∷ (VA, 24 ∷ 105 ∷ []) ∷ [])
    ((TV, 1 ∷ []) ∷ (SH, 0 ∷ 0 ∷ []) ∷ (BV, 0 ∷ []) ∷ (LS, 0 ∷ []) ∷ (FH, 1 ∷ 0 ∷ 0 ∷ 0 ∷ []) ∷ (TV, 2 ∷ []) ∷ (SH, 0 ∷ 0 ∷ []) ∷ (BV, 1 ∷ []) ∷ (LS, 1 ∷ []) ∷ (SH, 0 ∷ 0 ∷ []) ∷ (FV, []) ∷ (SH, 2 ∷ 0 ∷ []) ∷ (OB, 0 ∷ 0 ∷ 0 ∷ 1 ∷ 0 ∷ 1 ∷ 0 ∷ []) ∷ (SH, 1 ∷ 0 ∷ []) ∷ (LO, 1 ∷ []) ∷ (SH, 0 ∷ 0 ∷ []) ∷ [])
    ((DG, 1 ∷ 9 ∷ 24 ∷ 104 ∷ []) ∷ [])
    false 4 never 0 1

-- 41: { a: { [self]: self, [$]: super } }
abbrev pub computed_names_of_the_outer : Case
computed_names_of_the_outer = accepted ample
    ((JT, 0 ∷ []) ∷ (OB, 0 ∷ 0 ∷ 1 ∷ []) ∷ (FH, 0 ∷ 1 ∷ 101 ∷ 0 ∷ 0 ∷ 0 ∷ []) ∷ (OB, 0 ∷ 0 ∷ 2 ∷ []) ∷ (FH, 1 ∷ 0 ∷ 102 ∷ 0 ∷ 0 ∷ 0 ∷ []) ∷ (ID, 0 ∷ 103 ∷ []) ∷ (FH, 1 ∷ 0 ∷ 104 ∷ 0 ∷ 0 ∷ 0 ∷ []) ∷ (ID, 2 ∷ 105 ∷ []) ∷ (ID, 0 ∷ 106 ∷ []) ∷ (ID, 1 ∷ 107 ∷ []) ∷ [])
    ((FH, 0 ∷ 1 ∷ 0 ∷ 0 ∷ []) ∷ (LS, 0 ∷ []) ∷ (FH, 1 ∷ 0 ∷ 0 ∷ 0 ∷ []) ∷ (LS, 0 ∷ []) ∷ (FH, 1 ∷ 0 ∷ 0 ∷ 0 ∷ []) ∷ (LS, 0 ∷ []) ∷ (SH, 0 ∷ 0 ∷ []) ∷ (FV, []) ∷ (SU, []) ∷ (SH, 0 ∷ 0 ∷ []) ∷ (FV, []) ∷ (SH, 1 ∷ 0 ∷ []) ∷ (OB, 1 ∷ 0 ∷ 1 ∷ 0 ∷ 0 ∷ 2 ∷ 0 ∷ []) ∷ (SH, 0 ∷ 0 ∷ []) ∷ (FV, []) ∷ (SH, 1 ∷ 0 ∷ []) ∷ (OB, 1 ∷ 1 ∷ 0 ∷ 0 ∷ 0 ∷ 1 ∷ 1 ∷ []) ∷ (SH, 0 ∷ 0 ∷ []) ∷ [])
    []
    false 4 0 0 1

-- 42: { a+: 1, b:: 2, c+::: [] }
abbrev pub fields_of_every_sort : Case
fields_of_every_sort = accepted ample
    ((JT, 0 ∷ []) ∷ (OB, 0 ∷ 0 ∷ 3 ∷ []) ∷ (FH, 0 ∷ 1 ∷ 101 ∷ 1 ∷ 0 ∷ 0 ∷ []) ∷ (FH, 0 ∷ 2 ∷ 102 ∷ 0 ∷ 1 ∷ 0 ∷ []) ∷ (FH, 0 ∷ 3 ∷ 103 ∷ 1 ∷ 2 ∷ 0 ∷ []) ∷ (TV, 1 ∷ []) ∷ (TV, 2 ∷ []) ∷ (AR, 0 ∷ []) ∷ [])
    ((FH, 0 ∷ 1 ∷ 1 ∷ 0 ∷ []) ∷ (FH, 0 ∷ 2 ∷ 0 ∷ 1 ∷ []) ∷ (FH, 0 ∷ 3 ∷ 1 ∷ 2 ∷ []) ∷ (TV, 1 ∷ []) ∷ (SH, 0 ∷ 0 ∷ []) ∷ (FV, []) ∷ (TV, 2 ∷ []) ∷ (SH, 0 ∷ 0 ∷ []) ∷ (FV, []) ∷ (AC, 0 ∷ []) ∷ (SH, 0 ∷ 0 ∷ []) ∷ (FV, []) ∷ (SH, 1 ∷ 0 ∷ []) ∷ (OB, 0 ∷ 0 ∷ 0 ∷ 0 ∷ 0 ∷ 3 ∷ 1 ∷ []) ∷ (SH, 0 ∷ 0 ∷ []) ∷ [])
    []
    false 2 never never 0

-- 43: { m(x): x + 1, ['n'](y): self.m(y) }
abbrev pub methods : Case
methods = accepted ample
    ((JT, 0 ∷ []) ∷ (OB, 0 ∷ 0 ∷ 2 ∷ []) ∷ (FH, 0 ∷ 13 ∷ 101 ∷ 0 ∷ 0 ∷ 1 ∷ []) ∷ (FH, 1 ∷ 0 ∷ 102 ∷ 0 ∷ 0 ∷ 1 ∷ []) ∷ (TV, 90 ∷ []) ∷ (FN, 103 ∷ 1 ∷ []) ∷ (PA, 24 ∷ 104 ∷ 0 ∷ []) ∷ (BI, 60 ∷ []) ∷ (VA, 24 ∷ 105 ∷ []) ∷ (TV, 1 ∷ []) ∷ (FN, 106 ∷ 1 ∷ []) ∷ (PA, 25 ∷ 107 ∷ 0 ∷ []) ∷ (AP, 1 ∷ 0 ∷ 0 ∷ 108 ∷ []) ∷ (IX, 1 ∷ []) ∷ (ID, 0 ∷ 109 ∷ []) ∷ (PT, 110 ∷ []) ∷ (TV, 91 ∷ []) ∷ (VA, 25 ∷ 111 ∷ []) ∷ [])
    ((FH, 0 ∷ 13 ∷ 0 ∷ 0 ∷ []) ∷ (TV, 90 ∷ []) ∷ (FH, 1 ∷ 0 ∷ 0 ∷ 0 ∷ []) ∷ (PA, 24 ∷ 0 ∷ 0 ∷ []) ∷ (LS, 0 ∷ []) ∷ (TV, 1 ∷ []) ∷ (BI, 60 ∷ []) ∷ (SH, 1 ∷ 0 ∷ []) ∷ (FN, 1 ∷ 13 ∷ 1 ∷ []) ∷ (SH, 0 ∷ 0 ∷ []) ∷ (FV, []) ∷ (PA, 25 ∷ 0 ∷ 0 ∷ []) ∷ (CS, 0 ∷ []) ∷ (TV, 91 ∷ []) ∷ (PT, 110 ∷ []) ∷ (IX, 1 ∷ []) ∷ (LS, 0 ∷ []) ∷ (AP, 1 ∷ 0 ∷ 0 ∷ 108 ∷ []) ∷ (SH, 1 ∷ 1 ∷ 0 ∷ 0 ∷ []) ∷ (FN, 0 ∷ 0 ∷ 1 ∷ []) ∷ (SH, 0 ∷ 0 ∷ []) ∷ (FV, []) ∷ (SH, 1 ∷ 0 ∷ []) ∷ (OB, 1 ∷ 0 ∷ 0 ∷ 0 ∷ 0 ∷ 2 ∷ 0 ∷ []) ∷ (SH, 0 ∷ 0 ∷ []) ∷ [])
    ((DG, 1 ∷ 9 ∷ 24 ∷ 104 ∷ []) ∷ (DG, 1 ∷ 9 ∷ 25 ∷ 107 ∷ []) ∷ [])
    false 6 0 0 1

-- 44: { local b = 1, local c = self, assert b, assert c : 'm', a: b }
abbrev pub assertions : Case
assertions = accepted ample
    ((JT, 0 ∷ []) ∷ (OB, 2 ∷ 2 ∷ 1 ∷ []) ∷ (FH, 0 ∷ 1 ∷ 101 ∷ 0 ∷ 0 ∷ 0 ∷ []) ∷ (BV, 2 ∷ 102 ∷ []) ∷ (TV, 1 ∷ []) ∷ (BV, 3 ∷ 103 ∷ []) ∷ (ID, 0 ∷ 104 ∷ []) ∷ (AT, 0 ∷ []) ∷ (VA, 2 ∷ 105 ∷ []) ∷ (AT, 1 ∷ []) ∷ (VA, 3 ∷ 106 ∷ []) ∷ (TV, 92 ∷ []) ∷ (VA, 2 ∷ 107 ∷ []) ∷ [])
    ((FH, 0 ∷ 1 ∷ 0 ∷ 0 ∷ []) ∷ (TV, 1 ∷ []) ∷ (SH, 0 ∷ 0 ∷ []) ∷ (BV, 1 ∷ []) ∷ (LS, 0 ∷ []) ∷ (SH, 0 ∷ 0 ∷ []) ∷ (BV, 2 ∷ []) ∷ (LS, 1 ∷ []) ∷ (AT, 0 ∷ []) ∷ (LS, 2 ∷ []) ∷ (TV, 92 ∷ []) ∷ (AT, 1 ∷ []) ∷ (SH, 0 ∷ 0 ∷ []) ∷ (LS, 1 ∷ []) ∷ (SH, 0 ∷ 0 ∷ []) ∷ (FV, []) ∷ (SH, 3 ∷ 0 ∷ []) ∷ (OB, 1 ∷ 0 ∷ 0 ∷ 2 ∷ 2 ∷ 1 ∷ 1 ∷ []) ∷ (SH, 0 ∷ 0 ∷ []) ∷ [])
    []
    false 2 0 0 0

-- 45: local x = 1; { assert x, assert x : $, a: x }
abbrev pub assertions_that_capture : Case
assertions_that_capture = accepted ample
    ((JT, 0 ∷ []) ∷ (LO, 1 ∷ []) ∷ (BV, 24 ∷ 101 ∷ []) ∷ (TV, 1 ∷ []) ∷ (OB, 0 ∷ 2 ∷ 1 ∷ []) ∷ (FH, 0 ∷ 1 ∷ 102 ∷ 0 ∷ 0 ∷ 0 ∷ []) ∷ (AT, 0 ∷ []) ∷ (VA, 24 ∷ 103 ∷ []) ∷ (AT, 1 ∷ []) ∷ (VA, 24 ∷ 104 ∷ []) ∷ (ID, 2 ∷ 105 ∷ []) ∷ (VA, 24 ∷ 106 ∷ []) ∷ [])
    ((TV, 1 ∷ []) ∷ (SH, 0 ∷ 0 ∷ []) ∷ (BV, 0 ∷ []) ∷ (FH, 0 ∷ 1 ∷ 0 ∷ 0 ∷ []) ∷ (CS, 0 ∷ []) ∷ (AT, 0 ∷ []) ∷ (CS, 0 ∷ []) ∷ (LS, 0 ∷ []) ∷ (AT, 1 ∷ []) ∷ (SH, 0 ∷ 1 ∷ 1 ∷ 0 ∷ []) ∷ (CS, 0 ∷ []) ∷ (SH, 0 ∷ 1 ∷ 1 ∷ 0 ∷ []) ∷ (FV, []) ∷ (SH, 1 ∷ 1 ∷ 0 ∷ 0 ∷ []) ∷ (OB, 1 ∷ 1 ∷ 0 ∷ 0 ∷ 2 ∷ 1 ∷ 1 ∷ []) ∷ (SH, 1 ∷ 0 ∷ []) ∷ (LO, 1 ∷ []) ∷ (SH, 0 ∷ 0 ∷ []) ∷ [])
    []
    false 4 1 0 1

-- 46: { local a = 1, local a = b, local f(x) = self, local b = f, c: [a, b] }
abbrev pub object_binds : Case
object_binds = accepted ample
    ((JT, 0 ∷ []) ∷ (OB, 4 ∷ 0 ∷ 1 ∷ []) ∷ (FH, 0 ∷ 3 ∷ 101 ∷ 0 ∷ 0 ∷ 0 ∷ []) ∷ (BV, 1 ∷ 102 ∷ []) ∷ (TV, 1 ∷ []) ∷ (BV, 1 ∷ 103 ∷ []) ∷ (VA, 2 ∷ 104 ∷ []) ∷ (BF, 6 ∷ 105 ∷ []) ∷ (FN, 106 ∷ 1 ∷ []) ∷ (PA, 24 ∷ 107 ∷ 0 ∷ []) ∷ (ID, 0 ∷ 108 ∷ []) ∷ (BV, 2 ∷ 109 ∷ []) ∷ (VA, 6 ∷ 110 ∷ []) ∷ (AR, 2 ∷ []) ∷ (VA, 1 ∷ 111 ∷ []) ∷ (VA, 2 ∷ 112 ∷ []) ∷ [])
    ((FH, 0 ∷ 3 ∷ 0 ∷ 0 ∷ []) ∷ (TV, 1 ∷ []) ∷ (SH, 0 ∷ 0 ∷ []) ∷ (BV, 1 ∷ []) ∷ (PA, 24 ∷ 0 ∷ 0 ∷ []) ∷ (CS, 0 ∷ []) ∷ (SH, 1 ∷ 1 ∷ 0 ∷ 0 ∷ []) ∷ (FN, 1 ∷ 6 ∷ 1 ∷ []) ∷ (SH, 0 ∷ 0 ∷ []) ∷ (BV, 2 ∷ []) ∷ (LS, 2 ∷ []) ∷ (SH, 0 ∷ 0 ∷ []) ∷ (BV, 3 ∷ []) ∷ (LS, 1 ∷ []) ∷ (LS, 3 ∷ []) ∷ (SH, 0 ∷ 0 ∷ []) ∷ (AR, 2 ∷ []) ∷ (SH, 0 ∷ 0 ∷ []) ∷ (FV, []) ∷ (SH, 4 ∷ 0 ∷ []) ∷ (OB, 1 ∷ 0 ∷ 0 ∷ 3 ∷ 0 ∷ 1 ∷ 1 ∷ []) ∷ (SH, 0 ∷ 0 ∷ []) ∷ [])
    ((DG, 0 ∷ 2 ∷ 1 ∷ 103 ∷ []) ∷ (DG, 1 ∷ 7 ∷ 24 ∷ 107 ∷ []) ∷ (DG, 1 ∷ 8 ∷ 6 ∷ 105 ∷ []) ∷ [])
    true 4 0 0 0

-- 47: { a: function(x) [self, x], b: { local s = $, c: function() s } }
abbrev pub this_captured : Case
this_captured = accepted ample
    ((JT, 0 ∷ []) ∷ (OB, 0 ∷ 0 ∷ 2 ∷ []) ∷ (FH, 0 ∷ 1 ∷ 101 ∷ 0 ∷ 0 ∷ 0 ∷ []) ∷ (FH, 0 ∷ 2 ∷ 102 ∷ 0 ∷ 0 ∷ 0 ∷ []) ∷ (FN, 103 ∷ 1 ∷ []) ∷ (PA, 24 ∷ 104 ∷ 0 ∷ []) ∷ (AR, 2 ∷ []) ∷ (ID, 0 ∷ 105 ∷ []) ∷ (VA, 24 ∷ 106 ∷ []) ∷ (OB, 1 ∷ 0 ∷ 1 ∷ []) ∷ (FH, 0 ∷ 3 ∷ 107 ∷ 0 ∷ 0 ∷ 0 ∷ []) ∷ (BV, 19 ∷ 108 ∷ []) ∷ (ID, 2 ∷ 109 ∷ []) ∷ (FN, 110 ∷ 0 ∷ []) ∷ (VA, 19 ∷ 111 ∷ []) ∷ [])
    ((FH, 0 ∷ 1 ∷ 0 ∷ 0 ∷ []) ∷ (FH, 0 ∷ 2 ∷ 0 ∷ 0 ∷ []) ∷ (PA, 24 ∷ 0 ∷ 0 ∷ []) ∷ (CS, 0 ∷ []) ∷ (LS, 0 ∷ []) ∷ (SH, 0 ∷ 1 ∷ 1 ∷ 0 ∷ []) ∷ (AR, 2 ∷ []) ∷ (SH, 1 ∷ 1 ∷ 0 ∷ 0 ∷ []) ∷ (FN, 0 ∷ 0 ∷ 1 ∷ []) ∷ (SH, 0 ∷ 0 ∷ []) ∷ (FV, []) ∷ (FH, 0 ∷ 3 ∷ 0 ∷ 0 ∷ []) ∷ (CS, 0 ∷ []) ∷ (SH, 0 ∷ 1 ∷ 1 ∷ 0 ∷ []) ∷ (BV, 1 ∷ []) ∷ (CS, 0 ∷ []) ∷ (SH, 0 ∷ 1 ∷ 0 ∷ 1 ∷ []) ∷ (FN, 0 ∷ 0 ∷ 0 ∷ []) ∷ (SH, 0 ∷ 0 ∷ []) ∷ (FV, []) ∷ (SH, 2 ∷ 1 ∷ 0 ∷ 0 ∷ []) ∷ (OB, 0 ∷ 0 ∷ 0 ∷ 1 ∷ 0 ∷ 1 ∷ 1 ∷ []) ∷ (SH, 0 ∷ 0 ∷ []) ∷ (FV, []) ∷ (SH, 1 ∷ 0 ∷ []) ∷ (OB, 1 ∷ 1 ∷ 0 ∷ 0 ∷ 0 ∷ 2 ∷ 1 ∷ []) ∷ (SH, 0 ∷ 0 ∷ []) ∷ [])
    ((DG, 1 ∷ 9 ∷ 24 ∷ 104 ∷ []) ∷ [])
    false 8 0 0 1

-- 48: x { a: super.b, b: self } with the external x
abbrev pub extended : Case
extended = accepted ample
    ((JT, 1 ∷ 24 ∷ []) ∷ (OX, []) ∷ (VA, 24 ∷ 101 ∷ []) ∷ (OB, 0 ∷ 0 ∷ 2 ∷ []) ∷ (FH, 0 ∷ 1 ∷ 102 ∷ 0 ∷ 0 ∷ 0 ∷ []) ∷ (FH, 0 ∷ 2 ∷ 103 ∷ 0 ∷ 0 ∷ 0 ∷ []) ∷ (IX, 1 ∷ []) ∷ (ID, 1 ∷ 104 ∷ []) ∷ (PT, 105 ∷ []) ∷ (TV, 93 ∷ []) ∷ (ID, 0 ∷ 106 ∷ []) ∷ [])
    ((LS, 0 ∷ []) ∷ (FH, 0 ∷ 1 ∷ 0 ∷ 0 ∷ []) ∷ (FH, 0 ∷ 2 ∷ 0 ∷ 0 ∷ []) ∷ (SU, []) ∷ (TV, 93 ∷ []) ∷ (PT, 105 ∷ []) ∷ (IX, 1 ∷ []) ∷ (SH, 0 ∷ 0 ∷ []) ∷ (FV, []) ∷ (LS, 0 ∷ []) ∷ (SH, 0 ∷ 0 ∷ []) ∷ (FV, []) ∷ (SH, 1 ∷ 0 ∷ []) ∷ (OB, 1 ∷ 0 ∷ 1 ∷ 0 ∷ 0 ∷ 2 ∷ 1 ∷ []) ∷ (OX, []) ∷ (SH, 1 ∷ 0 ∷ []) ∷ [])
    []
    false 2 0 0 0

-- 49: { a: self { b: super, c: $ } }
abbrev pub super_in_an_extension : Case
super_in_an_extension = accepted ample
    ((JT, 0 ∷ []) ∷ (OB, 0 ∷ 0 ∷ 1 ∷ []) ∷ (FH, 0 ∷ 1 ∷ 101 ∷ 0 ∷ 0 ∷ 0 ∷ []) ∷ (OX, []) ∷ (ID, 0 ∷ 102 ∷ []) ∷ (OB, 0 ∷ 0 ∷ 2 ∷ []) ∷ (FH, 0 ∷ 2 ∷ 103 ∷ 0 ∷ 0 ∷ 0 ∷ []) ∷ (FH, 0 ∷ 3 ∷ 104 ∷ 0 ∷ 0 ∷ 0 ∷ []) ∷ (ID, 1 ∷ 105 ∷ []) ∷ (ID, 2 ∷ 106 ∷ []) ∷ [])
    ((FH, 0 ∷ 1 ∷ 0 ∷ 0 ∷ []) ∷ (LS, 0 ∷ []) ∷ (FH, 0 ∷ 2 ∷ 0 ∷ 0 ∷ []) ∷ (FH, 0 ∷ 3 ∷ 0 ∷ 0 ∷ []) ∷ (SU, []) ∷ (SH, 0 ∷ 0 ∷ []) ∷ (FV, []) ∷ (CS, 0 ∷ []) ∷ (SH, 0 ∷ 1 ∷ 1 ∷ 0 ∷ []) ∷ (FV, []) ∷ (SH, 1 ∷ 1 ∷ 0 ∷ 0 ∷ []) ∷ (OB, 1 ∷ 0 ∷ 1 ∷ 0 ∷ 0 ∷ 2 ∷ 1 ∷ []) ∷ (OX, []) ∷ (SH, 0 ∷ 0 ∷ []) ∷ (FV, []) ∷ (SH, 1 ∷ 0 ∷ []) ∷ (OB, 1 ∷ 1 ∷ 0 ∷ 0 ∷ 0 ∷ 1 ∷ 1 ∷ []) ∷ (SH, 0 ∷ 0 ∷ []) ∷ [])
    []
    false 4 0 0 1

abbrev pub own_objects : List Case
own_objects = objects_in_objects ∷ dollar_only_inside ∷ super_alone ∷ dollar_after_the_outermost ∷ two_outermost ∷ none_outside ∷ computed_names_outside ∷ computed_names_of_the_outer ∷ fields_of_every_sort ∷ methods ∷ assertions ∷ assertions_that_capture ∷ object_binds ∷ this_captured ∷ extended ∷ super_in_an_extension ∷ []

-- Records that bind nothing

-- 50: [[1, 2], [], [1, x], [[3]]] with the external x
abbrev pub arrays : Case
arrays = accepted ample
    ((JT, 1 ∷ 24 ∷ []) ∷ (AR, 4 ∷ []) ∷ (AR, 2 ∷ []) ∷ (TV, 1 ∷ []) ∷ (TV, 2 ∷ []) ∷ (AR, 0 ∷ []) ∷ (AR, 2 ∷ []) ∷ (TV, 1 ∷ []) ∷ (VA, 24 ∷ 101 ∷ []) ∷ (AR, 1 ∷ []) ∷ (AR, 1 ∷ []) ∷ (TV, 3 ∷ []) ∷ [])
    ((AC, 2 ∷ 1 ∷ 2 ∷ []) ∷ (AC, 0 ∷ []) ∷ (TV, 1 ∷ []) ∷ (LS, 0 ∷ []) ∷ (SH, 0 ∷ 0 ∷ []) ∷ (AR, 2 ∷ []) ∷ (AC, 1 ∷ 3 ∷ []) ∷ (SH, 0 ∷ 0 ∷ []) ∷ (AR, 1 ∷ []) ∷ (SH, 0 ∷ 0 ∷ []) ∷ (AR, 4 ∷ []) ∷ (SH, 1 ∷ 0 ∷ []) ∷ [])
    []
    false 0 never 0 0

-- 51: [import 'p', importstr ('p' + 'q'), importbin 'r']
abbrev pub imports : Case
imports = accepted ample
    ((JT, 0 ∷ []) ∷ (AR, 3 ∷ []) ∷ (IM, 0 ∷ 101 ∷ 1 ∷ 95 ∷ []) ∷ (IM, 1 ∷ 102 ∷ 0 ∷ 0 ∷ []) ∷ (IM, 2 ∷ 103 ∷ 1 ∷ 96 ∷ []) ∷ [])
    ((IM, 0 ∷ 101 ∷ 95 ∷ []) ∷ (BL, 4 ∷ []) ∷ (IM, 2 ∷ 103 ∷ 96 ∷ []) ∷ (SH, 0 ∷ 0 ∷ []) ∷ (AR, 3 ∷ []) ∷ (SH, 0 ∷ 0 ∷ []) ∷ [])
    ((DG, 0 ∷ 6 ∷ 0 ∷ 102 ∷ []) ∷ [])
    true 0 never never 0

-- 52: x[1].b[y] with the externals x, y
abbrev pub indexes : Case
indexes = accepted ample
    ((JT, 2 ∷ 24 ∷ 25 ∷ []) ∷ (IX, 3 ∷ []) ∷ (VA, 24 ∷ 101 ∷ []) ∷ (PT, 102 ∷ []) ∷ (TV, 1 ∷ []) ∷ (PT, 103 ∷ []) ∷ (TV, 91 ∷ []) ∷ (PT, 104 ∷ []) ∷ (VA, 25 ∷ 105 ∷ []) ∷ [])
    ((LS, 0 ∷ []) ∷ (TV, 1 ∷ []) ∷ (PT, 102 ∷ []) ∷ (TV, 91 ∷ []) ∷ (PT, 103 ∷ []) ∷ (LS, 1 ∷ []) ∷ (PT, 104 ∷ []) ∷ (IX, 3 ∷ []) ∷ (SH, 2 ∷ 0 ∷ []) ∷ [])
    []
    false 0 never 0 0

-- 53: [f(1, x, b = x, a = 2) tailstrict, f()] with the externals f, x
abbrev pub calls : Case
calls = accepted ample
    ((JT, 2 ∷ 6 ∷ 24 ∷ []) ∷ (AR, 2 ∷ []) ∷ (AP, 2 ∷ 2 ∷ 1 ∷ 101 ∷ []) ∷ (VA, 6 ∷ 102 ∷ []) ∷ (TV, 1 ∷ []) ∷ (VA, 24 ∷ 103 ∷ []) ∷ (NA, 2 ∷ []) ∷ (VA, 24 ∷ 104 ∷ []) ∷ (NA, 1 ∷ []) ∷ (TV, 2 ∷ []) ∷ (AP, 0 ∷ 0 ∷ 0 ∷ 105 ∷ []) ∷ (VA, 6 ∷ 106 ∷ []) ∷ [])
    ((LS, 0 ∷ []) ∷ (TV, 1 ∷ []) ∷ (LS, 1 ∷ []) ∷ (LS, 1 ∷ []) ∷ (NA, 2 ∷ []) ∷ (TV, 2 ∷ []) ∷ (NA, 1 ∷ []) ∷ (AP, 2 ∷ 2 ∷ 1 ∷ 101 ∷ []) ∷ (LS, 0 ∷ []) ∷ (AP, 0 ∷ 0 ∷ 0 ∷ 105 ∷ []) ∷ (SH, 0 ∷ 0 ∷ []) ∷ (AR, 2 ∷ []) ∷ (SH, 2 ∷ 0 ∷ []) ∷ [])
    []
    false 0 never 0 0

-- 54: [x[::], x[1::], x[:1:], x[::y], x[1::3], x[y:2:3]] with the externals x, y
abbrev pub slices : Case
slices = accepted ample
    ((JT, 2 ∷ 24 ∷ 25 ∷ []) ∷ (AR, 6 ∷ []) ∷ (SC, 0 ∷ []) ∷ (VA, 24 ∷ 101 ∷ []) ∷ (SC, 1 ∷ []) ∷ (VA, 24 ∷ 102 ∷ []) ∷ (TV, 1 ∷ []) ∷ (SC, 2 ∷ []) ∷ (VA, 24 ∷ 103 ∷ []) ∷ (TV, 1 ∷ []) ∷ (SC, 4 ∷ []) ∷ (VA, 24 ∷ 104 ∷ []) ∷ (VA, 25 ∷ 105 ∷ []) ∷ (SC, 5 ∷ []) ∷ (VA, 24 ∷ 106 ∷ []) ∷ (TV, 1 ∷ []) ∷ (TV, 3 ∷ []) ∷ (SC, 7 ∷ []) ∷ (VA, 24 ∷ 107 ∷ []) ∷ (VA, 25 ∷ 108 ∷ []) ∷ (TV, 2 ∷ []) ∷ (TV, 3 ∷ []) ∷ [])
    ((LS, 0 ∷ []) ∷ (SC, 0 ∷ []) ∷ (LS, 0 ∷ []) ∷ (TV, 1 ∷ []) ∷ (SC, 1 ∷ []) ∷ (LS, 0 ∷ []) ∷ (TV, 1 ∷ []) ∷ (SC, 2 ∷ []) ∷ (LS, 0 ∷ []) ∷ (LS, 1 ∷ []) ∷ (SC, 4 ∷ []) ∷ (LS, 0 ∷ []) ∷ (TV, 1 ∷ []) ∷ (TV, 3 ∷ []) ∷ (SC, 5 ∷ []) ∷ (LS, 0 ∷ []) ∷ (LS, 1 ∷ []) ∷ (TV, 2 ∷ []) ∷ (TV, 3 ∷ []) ∷ (SC, 7 ∷ []) ∷ (SH, 0 ∷ 0 ∷ []) ∷ (AR, 6 ∷ []) ∷ (SH, 2 ∷ 0 ∷ []) ∷ [])
    []
    false 0 never 0 0

-- 55: if x then -x else if 1 then error x with the external x
abbrev pub conditions : Case
conditions = accepted ample
    ((JT, 1 ∷ 24 ∷ []) ∷ (IF, 1 ∷ []) ∷ (VA, 24 ∷ 101 ∷ []) ∷ (UN, 61 ∷ []) ∷ (VA, 24 ∷ 102 ∷ []) ∷ (IF, 0 ∷ []) ∷ (TV, 1 ∷ []) ∷ (ER, 103 ∷ []) ∷ (VA, 24 ∷ 104 ∷ []) ∷ [])
    ((LS, 0 ∷ []) ∷ (LS, 0 ∷ []) ∷ (UN, 61 ∷ []) ∷ (TV, 1 ∷ []) ∷ (LS, 0 ∷ []) ∷ (ER, 103 ∷ []) ∷ (IF, 0 ∷ []) ∷ (IF, 1 ∷ []) ∷ (SH, 1 ∷ 0 ∷ []) ∷ [])
    []
    false 0 never 0 0

-- 56: assert x; assert x : y; local z = x; z with the externals x, y
abbrev pub asserts : Case
asserts = accepted ample
    ((JT, 2 ∷ 24 ∷ 25 ∷ []) ∷ (AS, 0 ∷ []) ∷ (VA, 24 ∷ 101 ∷ []) ∷ (AS, 1 ∷ []) ∷ (VA, 24 ∷ 102 ∷ []) ∷ (VA, 25 ∷ 103 ∷ []) ∷ (LO, 1 ∷ []) ∷ (BV, 26 ∷ 104 ∷ []) ∷ (VA, 24 ∷ 105 ∷ []) ∷ (VA, 26 ∷ 106 ∷ []) ∷ [])
    ((LS, 0 ∷ []) ∷ (LS, 0 ∷ []) ∷ (LS, 1 ∷ []) ∷ (CS, 0 ∷ []) ∷ (SH, 0 ∷ 1 ∷ 1 ∷ 0 ∷ []) ∷ (BV, 0 ∷ []) ∷ (LS, 0 ∷ []) ∷ (SH, 1 ∷ 1 ∷ 0 ∷ 0 ∷ []) ∷ (LO, 1 ∷ []) ∷ (AS, 1 ∷ []) ∷ (AS, 0 ∷ []) ∷ (SH, 2 ∷ 0 ∷ []) ∷ [])
    []
    false 2 never 0 0

abbrev pub own_records : List Case
own_records = arrays ∷ imports ∷ indexes ∷ calls ∷ slices ∷ conditions ∷ asserts ∷ []

-- Limits: a tree with just the room that it takes, and then with less

unfoldable pub two_names : List Record
two_names = ((JT, 0 ∷ []) ∷ (LO, 2 ∷ []) ∷ (BV, 24 ∷ 101 ∷ []) ∷ (TV, 1 ∷ []) ∷ (BV, 25 ∷ 102 ∷ []) ∷ (TV, 2 ∷ []) ∷ (BI, 60 ∷ []) ∷ (VA, 24 ∷ 103 ∷ []) ∷ (VA, 25 ∷ 104 ∷ []) ∷ [])

-- 57: local x = 1, y = 2; x + y, with just the room that it takes
abbrev pub two_names_fits : Case
two_names_fits = accepted (room 2 3 0 0 88 0)
    two_names
    ((TV, 1 ∷ []) ∷ (SH, 0 ∷ 0 ∷ []) ∷ (BV, 0 ∷ []) ∷ (TV, 2 ∷ []) ∷ (SH, 0 ∷ 0 ∷ []) ∷ (BV, 1 ∷ []) ∷ (LS, 0 ∷ []) ∷ (LS, 1 ∷ []) ∷ (BI, 60 ∷ []) ∷ (SH, 2 ∷ 0 ∷ []) ∷ (LO, 2 ∷ []) ∷ (SH, 0 ∷ 0 ∷ []) ∷ [])
    []
    false 2 never 0 0

-- 58: local x = 1, y = 2; x + y, with one local less
abbrev pub a_local_too_many : Case
a_local_too_many = refused (lend (room 1 3 0 0 88 0) (records_bytes two_names)) 6 28

-- 59: local x = 1, y = 2; x + y, with no locals: the first is too many
abbrev pub a_first_local_too_many : Case
a_first_local_too_many = refused (lend (room 0 3 0 0 88 0) (records_bytes two_names)) 6 12

unfoldable pub an_external : List Record
an_external = ((JT, 1 ∷ 24 ∷ []) ∷ (VA, 24 ∷ 101 ∷ []) ∷ [])

-- 60: x with the external x, with just the room that it takes
abbrev pub an_external_fits : Case
an_external_fits = accepted (room 1 1 0 0 16 0)
    an_external
    ((LS, 0 ∷ []) ∷ (SH, 1 ∷ 0 ∷ []) ∷ [])
    []
    false 0 never 0 0

-- 61: x with the external x, with no locals and no frames: externals are defined before the root opens
abbrev pub an_external_too_many : Case
an_external_too_many = refused (lend (room 0 0 0 0 16 0) (records_bytes an_external)) 6 0

-- 62: x with the external x, with no frames
abbrev pub the_root_too_many : Case
the_root_too_many = refused (lend (room 1 0 0 0 16 0) (records_bytes an_external)) 7 0

unfoldable pub an_object : List Record
an_object = ((JT, 0 ∷ []) ∷ (OB, 1 ∷ 1 ∷ 1 ∷ []) ∷ (FH, 0 ∷ 1 ∷ 101 ∷ 0 ∷ 0 ∷ 0 ∷ []) ∷ (BV, 2 ∷ 102 ∷ []) ∷ (TV, 1 ∷ []) ∷ (AT, 0 ∷ []) ∷ (VA, 2 ∷ 103 ∷ []) ∷ (VA, 2 ∷ 104 ∷ []) ∷ [])

-- 63: { local b = 1, assert b, a: b }, with just the room that it takes
abbrev pub an_object_fits : Case
an_object_fits = accepted (room 2 3 0 0 130 0)
    an_object
    ((FH, 0 ∷ 1 ∷ 0 ∷ 0 ∷ []) ∷ (TV, 1 ∷ []) ∷ (SH, 0 ∷ 0 ∷ []) ∷ (BV, 1 ∷ []) ∷ (LS, 1 ∷ []) ∷ (AT, 0 ∷ []) ∷ (SH, 0 ∷ 0 ∷ []) ∷ (LS, 1 ∷ []) ∷ (SH, 0 ∷ 0 ∷ []) ∷ (FV, []) ∷ (SH, 2 ∷ 0 ∷ []) ∷ (OB, 0 ∷ 0 ∷ 0 ∷ 1 ∷ 1 ∷ 1 ∷ 1 ∷ []) ∷ (SH, 0 ∷ 0 ∷ []) ∷ [])
    []
    false 2 never 0 0

-- 64: { local b = 1, assert b, a: b }, with no locals: the object's `this` is too many
abbrev pub a_this_too_many : Case
a_this_too_many = refused (lend (room 0 3 0 0 130 0) (records_bytes an_object)) 6 6

-- 65: { local b = 1, assert b, a: b }, with one local less
abbrev pub a_bind_of_an_object_too_many : Case
a_bind_of_an_object_too_many = refused (lend (room 1 3 0 0 130 0) (records_bytes an_object)) 6 46

-- 66: { local b = 1, assert b, a: b }, with room for the root's frame alone, and no locals: an object opens its frame before `this`
abbrev pub a_frame_of_an_object_too_many : Case
a_frame_of_an_object_too_many = refused (lend (room 0 1 0 0 130 0) (records_bytes an_object)) 7 6

-- 67: { local b = 1, assert b, a: b }, with one frame less
abbrev pub a_frame_of_a_bind_too_many : Case
a_frame_of_a_bind_too_many = refused (lend (room 2 2 0 0 130 0) (records_bytes an_object)) 7 46

unfoldable pub arrays_in_arrays : List Record
arrays_in_arrays = ((JT, 1 ∷ 24 ∷ []) ∷ (AR, 1 ∷ []) ∷ (AR, 1 ∷ []) ∷ (VA, 24 ∷ 101 ∷ []) ∷ [])

-- 68: [[x]] with the external x, with just the room that it takes
abbrev pub arrays_in_arrays_fits : Case
arrays_in_arrays_fits = accepted (room 1 3 0 0 48 0)
    arrays_in_arrays
    ((LS, 0 ∷ []) ∷ (SH, 0 ∷ 0 ∷ []) ∷ (AR, 1 ∷ []) ∷ (SH, 0 ∷ 0 ∷ []) ∷ (AR, 1 ∷ []) ∷ (SH, 1 ∷ 0 ∷ []) ∷ [])
    []
    false 0 never 0 0

-- 69: [[x]] with the external x, with one frame less
abbrev pub a_frame_of_an_array_too_many : Case
a_frame_of_an_array_too_many = refused (lend (room 1 2 0 0 48 0) (records_bytes arrays_in_arrays)) 7 16

unfoldable pub a_message : List Record
a_message = ((JT, 0 ∷ []) ∷ (OB, 0 ∷ 1 ∷ 0 ∷ []) ∷ (AT, 1 ∷ []) ∷ (TV, 1 ∷ []) ∷ (TV, 2 ∷ []) ∷ [])

-- 70: { assert 1 : 2 }, with just the room that it takes
abbrev pub a_message_fits : Case
a_message_fits = accepted (room 1 3 0 0 78 0)
    a_message
    ((TV, 1 ∷ []) ∷ (TV, 2 ∷ []) ∷ (AT, 1 ∷ []) ∷ (SH, 0 ∷ 0 ∷ []) ∷ (SH, 1 ∷ 0 ∷ []) ∷ (OB, 0 ∷ 0 ∷ 0 ∷ 0 ∷ 1 ∷ 0 ∷ 1 ∷ []) ∷ (SH, 0 ∷ 0 ∷ []) ∷ [])
    []
    false 2 never never 0

-- 71: { assert 1 : 2 }, with one frame less
abbrev pub a_frame_of_assertions_too_many : Case
a_frame_of_assertions_too_many = refused (lend (room 1 2 0 0 78 0) (records_bytes a_message)) 7 20

unfoldable pub a_field : List Record
a_field = ((JT, 0 ∷ []) ∷ (OB, 0 ∷ 0 ∷ 1 ∷ []) ∷ (FH, 0 ∷ 1 ∷ 101 ∷ 0 ∷ 0 ∷ 0 ∷ []) ∷ (TV, 1 ∷ []) ∷ [])

-- 72: { a: 1 }, with just the room that it takes
abbrev pub a_field_fits : Case
a_field_fits = accepted (room 1 3 0 0 86 0)
    a_field
    ((FH, 0 ∷ 1 ∷ 0 ∷ 0 ∷ []) ∷ (TV, 1 ∷ []) ∷ (SH, 0 ∷ 0 ∷ []) ∷ (FV, []) ∷ (SH, 1 ∷ 0 ∷ []) ∷ (OB, 0 ∷ 0 ∷ 0 ∷ 0 ∷ 0 ∷ 1 ∷ 1 ∷ []) ∷ (SH, 0 ∷ 0 ∷ []) ∷ [])
    []
    false 2 never never 0

-- 73: { a: 1 }, with one frame less
abbrev pub a_frame_of_a_value_too_many : Case
a_frame_of_a_value_too_many = refused (lend (room 1 2 0 0 86 0) (records_bytes a_field)) 7 46

unfoldable pub a_default : List Record
a_default = ((JT, 0 ∷ []) ∷ (FN, 101 ∷ 1 ∷ []) ∷ (PA, 1 ∷ 102 ∷ 1 ∷ []) ∷ (TV, 1 ∷ []) ∷ (TV, 2 ∷ []) ∷ [])

-- 74: function(a = 1) 2, with just the room that it takes
abbrev pub a_default_fits : Case
a_default_fits = accepted (room 1 3 0 0 70 18)
    a_default
    ((TV, 1 ∷ []) ∷ (SH, 0 ∷ 0 ∷ []) ∷ (PA, 1 ∷ 0 ∷ 1 ∷ []) ∷ (TV, 2 ∷ []) ∷ (SH, 1 ∷ 0 ∷ []) ∷ (FN, 0 ∷ 0 ∷ 1 ∷ []) ∷ (SH, 0 ∷ 0 ∷ []) ∷ [])
    ((DG, 1 ∷ 7 ∷ 1 ∷ 102 ∷ []) ∷ [])
    false 2 never never 0

-- 75: function(a = 1) 2, with one frame less
abbrev pub a_frame_of_a_default_too_many : Case
a_frame_of_a_default_too_many = refused (lend (room 1 2 0 0 70 18) (records_bytes a_default)) 7 16

unfoldable pub captures_in_two : List Record
captures_in_two = ((JT, 1 ∷ 24 ∷ []) ∷ (FN, 101 ∷ 0 ∷ []) ∷ (AR, 2 ∷ []) ∷ (TV, 1 ∷ []) ∷ (VA, 24 ∷ 102 ∷ []) ∷ [])

-- 76: function() [1, x] with the external x, with just the room that it takes
abbrev pub captures_in_two_fits : Case
captures_in_two_fits = accepted (room 1 3 2 0 78 0)
    captures_in_two
    ((TV, 1 ∷ []) ∷ (CS, 0 ∷ []) ∷ (SH, 0 ∷ 1 ∷ 1 ∷ 0 ∷ []) ∷ (AR, 2 ∷ []) ∷ (SH, 0 ∷ 1 ∷ 0 ∷ 0 ∷ []) ∷ (FN, 0 ∷ 0 ∷ 0 ∷ []) ∷ (SH, 1 ∷ 0 ∷ []) ∷ [])
    []
    false 2 never 0 0

-- 77: function() [1, x] with the external x, with one capture less
abbrev pub a_capture_too_many : Case
a_capture_too_many = refused (lend (room 1 3 1 0 78 0) (records_bytes captures_in_two)) 8 32

-- 78: function() [1, x] with the external x, with no captures
abbrev pub a_first_capture_too_many : Case
a_first_capture_too_many = refused (lend (room 1 3 0 0 78 0) (records_bytes captures_in_two)) 8 32

unfoldable pub an_identity : List Record
an_identity = ((JT, 0 ∷ []) ∷ (FN, 101 ∷ 1 ∷ []) ∷ (PA, 24 ∷ 102 ∷ 0 ∷ []) ∷ (VA, 24 ∷ 103 ∷ []) ∷ [])

-- 79: function(x) x, with just the room that it takes
abbrev pub an_identity_fits : Case
an_identity_fits = accepted (room 1 2 0 0 30 18)
    an_identity
    ((IY, []) ∷ (SH, 0 ∷ 0 ∷ []) ∷ [])
    ((DG, 1 ∷ 10 ∷ 0 ∷ 101 ∷ []) ∷ [])
    false 2 never 0 0

-- 80: function(x) x, with one byte of output less: what is taken back had to fit
abbrev pub taken_back_too_long : Case
taken_back_too_long = refused (lend (room 1 2 0 0 29 18) (records_bytes an_identity)) 9 6

-- 81: function(x) x, with room for one byte less than the parameter's record
abbrev pub an_output_record_too_long : Case
an_output_record_too_long = refused (lend (room 1 2 0 0 13 18) (records_bytes an_identity)) 9 16

-- 82: function(x) x, with one byte of diagnostics less: the warning comes before the output
abbrev pub an_identity_warning_too_long : Case
an_identity_warning_too_long = refused (lend (room 1 2 0 0 30 17) (records_bytes an_identity)) 10 6

unfoldable pub a_dropped_one : List Record
a_dropped_one = ((JT, 1 ∷ 24 ∷ []) ∷ (LO, 2 ∷ []) ∷ (BV, 1 ∷ 101 ∷ []) ∷ (TV, 1 ∷ []) ∷ (BV, 1 ∷ 102 ∷ []) ∷ (AR, 2 ∷ []) ∷ (TV, 2 ∷ []) ∷ (VA, 24 ∷ 103 ∷ []) ∷ (VA, 1 ∷ 104 ∷ []) ∷ [])

-- 83: local a = 1, a = [2, x]; a with the external x, with just the room that it takes
abbrev pub a_dropped_one_fits : Case
a_dropped_one_fits = accepted (room 2 4 3 0 76 18)
    a_dropped_one
    ((TV, 1 ∷ []) ∷ (SH, 0 ∷ 0 ∷ []) ∷ (BV, 0 ∷ []) ∷ (LS, 0 ∷ []) ∷ (SH, 1 ∷ 1 ∷ 0 ∷ 0 ∷ []) ∷ (LO, 1 ∷ []) ∷ (SH, 1 ∷ 0 ∷ []) ∷ [])
    ((DG, 0 ∷ 2 ∷ 1 ∷ 102 ∷ []) ∷ [])
    true 2 never 0 0

-- 84: local a = 1, a = [2, x]; a with the external x, with one byte of output less: the dropped bind's shape had to fit
abbrev pub a_dropped_one_too_long : Case
a_dropped_one_too_long = refused (lend (room 2 4 3 0 75 18) (records_bytes a_dropped_one)) 9 32

-- 85: local a = 1, a = [2, x]; a with the external x, with room for all but the last byte of the array's record
abbrev pub a_record_taken_back_too_long : Case
a_record_taken_back_too_long = refused (lend (room 2 4 3 0 57 18) (records_bytes a_dropped_one)) 9 42

unfoldable pub a_constant : List Record
a_constant = ((JT, 0 ∷ []) ∷ (TV, 1 ∷ []) ∷ [])

-- 86: 1, with just the room that it takes
abbrev pub a_constant_fits : Case
a_constant_fits = accepted (room 0 1 0 0 16 0)
    a_constant
    ((TV, 1 ∷ []) ∷ (SH, 0 ∷ 0 ∷ []) ∷ [])
    []
    false 0 never never 0

-- 87: 1, with one byte of output less: the root's shape
abbrev pub the_last_shape_too_long : Case
the_last_shape_too_long = refused (lend (room 0 1 0 0 15 0) (records_bytes a_constant)) 9 0

unfoldable pub two_diagnostics : List Record
two_diagnostics = ((JT, 0 ∷ []) ∷ (FN, 101 ∷ 2 ∷ []) ∷ (PA, 24 ∷ 102 ∷ 0 ∷ []) ∷ (PA, 24 ∷ 103 ∷ 0 ∷ []) ∷ (TV, 1 ∷ []) ∷ [])

-- 88: function(x, x) 1, with just the room that it takes
abbrev pub two_diagnostics_fits : Case
two_diagnostics_fits = accepted (room 1 2 0 0 54 36)
    two_diagnostics
    ((PA, 24 ∷ 0 ∷ 0 ∷ []) ∷ (TV, 1 ∷ []) ∷ (SH, 1 ∷ 0 ∷ []) ∷ (FN, 0 ∷ 0 ∷ 1 ∷ []) ∷ (SH, 0 ∷ 0 ∷ []) ∷ [])
    ((DG, 0 ∷ 2 ∷ 24 ∷ 103 ∷ []) ∷ (DG, 1 ∷ 7 ∷ 24 ∷ 102 ∷ []) ∷ [])
    true 2 never never 0

-- 89: function(x, x) 1, with one byte of diagnostics less
abbrev pub a_warning_too_long : Case
a_warning_too_long = refused (lend (room 1 2 0 0 54 35) (records_bytes two_diagnostics)) 10 6

-- 90: function(x, x) 1, with one byte less than one diagnostic
abbrev pub an_error_too_long : Case
an_error_too_long = refused (lend (room 1 2 0 0 54 17) (records_bytes two_diagnostics)) 10 30

unfoldable pub a_sibling : List Record
a_sibling = ((JT, 0 ∷ []) ∷ (LO, 2 ∷ []) ∷ (BV, 1 ∷ 101 ∷ []) ∷ (VA, 2 ∷ 102 ∷ []) ∷ (BV, 2 ∷ 103 ∷ []) ∷ (TV, 1 ∷ []) ∷ (VA, 1 ∷ 104 ∷ []) ∷ [])

-- 91: local a = b, b = 1; a, with just the room that it takes
abbrev pub a_sibling_fits : Case
a_sibling_fits = accepted (room 2 3 0 1 76 0)
    a_sibling
    ((LS, 1 ∷ []) ∷ (SH, 0 ∷ 0 ∷ []) ∷ (BV, 0 ∷ []) ∷ (TV, 1 ∷ []) ∷ (SH, 0 ∷ 0 ∷ []) ∷ (BV, 1 ∷ []) ∷ (LS, 0 ∷ []) ∷ (SH, 2 ∷ 0 ∷ []) ∷ (LO, 2 ∷ []) ∷ (SH, 0 ∷ 0 ∷ []) ∷ [])
    []
    false 3 never 0 0

-- 92: local a = b, b = 1; a, with no references
abbrev pub a_reference_too_many : Case
a_reference_too_many = refused (lend (room 2 3 0 0 76 0) (records_bytes a_sibling)) 17 12

unfoldable pub a_reference_passed_on : List Record
a_reference_passed_on = ((JT, 0 ∷ []) ∷ (FN, 101 ∷ 3 ∷ []) ∷ (PA, 1 ∷ 102 ∷ 0 ∷ []) ∷ (PA, 1 ∷ 103 ∷ 1 ∷ []) ∷ (VA, 2 ∷ 104 ∷ []) ∷ (PA, 2 ∷ 105 ∷ 1 ∷ []) ∷ (VA, 2 ∷ 106 ∷ []) ∷ (TV, 0 ∷ []) ∷ [])

-- 93: function(a, a = b, b = b) 0, with just the room that it takes
abbrev pub a_reference_passed_on_fits : Case
a_reference_passed_on_fits = accepted (room 2 3 0 1 84 54)
    a_reference_passed_on
    ((PA, 1 ∷ 0 ∷ 0 ∷ []) ∷ (LS, 1 ∷ []) ∷ (SH, 0 ∷ 0 ∷ []) ∷ (PA, 2 ∷ 1 ∷ 1 ∷ []) ∷ (TV, 0 ∷ []) ∷ (SH, 2 ∷ 0 ∷ []) ∷ (FN, 0 ∷ 0 ∷ 2 ∷ []) ∷ (SH, 0 ∷ 0 ∷ []) ∷ [])
    ((DG, 0 ∷ 2 ∷ 1 ∷ 103 ∷ []) ∷ (DG, 1 ∷ 8 ∷ 2 ∷ 105 ∷ []) ∷ (DG, 1 ∷ 7 ∷ 1 ∷ 102 ∷ []) ∷ [])
    true 2 never 0 0

-- 94: function(a, a = b, b = b) 0, with no references: they count where they are kept
abbrev pub a_passed_reference_too_many : Case
a_passed_reference_too_many = refused (lend (room 2 3 0 0 84 54) (records_bytes a_reference_passed_on)) 17 54

unfoldable pub every_table : List Record
every_table = ((JT, 1 ∷ 24 ∷ []) ∷ (LO, 2 ∷ []) ∷ (BV, 1 ∷ 101 ∷ []) ∷ (VA, 2 ∷ 102 ∷ []) ∷ (BV, 2 ∷ 103 ∷ []) ∷ (AR, 2 ∷ []) ∷ (VA, 24 ∷ 104 ∷ []) ∷ (TV, 1 ∷ []) ∷ (VA, 1 ∷ 105 ∷ []) ∷ [])

-- 95: local a = b, b = [x, 1]; a with the external x, with just the room that it takes
abbrev pub every_table_fits : Case
every_table_fits = accepted (room 3 4 3 1 122 0)
    every_table
    ((LS, 1 ∷ []) ∷ (SH, 0 ∷ 0 ∷ []) ∷ (BV, 0 ∷ []) ∷ (CS, 0 ∷ []) ∷ (TV, 1 ∷ []) ∷ (SH, 0 ∷ 1 ∷ 1 ∷ 0 ∷ []) ∷ (AR, 2 ∷ []) ∷ (SH, 0 ∷ 1 ∷ 1 ∷ 0 ∷ []) ∷ (BV, 1 ∷ []) ∷ (LS, 0 ∷ []) ∷ (SH, 2 ∷ 1 ∷ 0 ∷ 0 ∷ []) ∷ (LO, 2 ∷ []) ∷ (SH, 1 ∷ 0 ∷ []) ∷ [])
    []
    false 3 never 0 0

-- 96: the table of locals one number short
abbrev pub short_locals : Case
short_locals = refused (lend_tables (room 3 4 3 1 122 0) 47 64 48 16 (records_bytes every_table)) 13 0

-- 97: the table of frames one number short
abbrev pub short_frames : Case
short_frames = refused (lend_tables (room 3 4 3 1 122 0) 48 63 48 16 (records_bytes every_table)) 13 0

-- 98: the table of captures one number short
abbrev pub short_captures : Case
short_captures = refused (lend_tables (room 3 4 3 1 122 0) 48 64 47 16 (records_bytes every_table)) 13 0

-- 99: the table of references one number short
abbrev pub short_references : Case
short_references = refused (lend_tables (room 3 4 3 1 122 0) 48 64 48 15 (records_bytes every_table)) 13 0

-- 100: no bytes, and the table of locals one number short
abbrev pub short_before_damaged : Case
short_before_damaged = refused (lend_tables (room 1 1 1 1 0 0) 15 16 16 16 []) 13 0

abbrev pub own_limits : List Case
own_limits = two_names_fits ∷ a_local_too_many ∷ a_first_local_too_many ∷ an_external_fits ∷ an_external_too_many ∷ the_root_too_many ∷ an_object_fits ∷ a_this_too_many ∷ a_bind_of_an_object_too_many ∷ a_frame_of_an_object_too_many ∷ a_frame_of_a_bind_too_many ∷ arrays_in_arrays_fits ∷ a_frame_of_an_array_too_many ∷ a_message_fits ∷ a_frame_of_assertions_too_many ∷ a_field_fits ∷ a_frame_of_a_value_too_many ∷ a_default_fits ∷ a_frame_of_a_default_too_many ∷ captures_in_two_fits ∷ a_capture_too_many ∷ a_first_capture_too_many ∷ an_identity_fits ∷ taken_back_too_long ∷ an_output_record_too_long ∷ an_identity_warning_too_long ∷ a_dropped_one_fits ∷ a_dropped_one_too_long ∷ a_record_taken_back_too_long ∷ a_constant_fits ∷ the_last_shape_too_long ∷ two_diagnostics_fits ∷ a_warning_too_long ∷ an_error_too_long ∷ a_sibling_fits ∷ a_reference_too_many ∷ a_reference_passed_on_fits ∷ a_passed_reference_too_many ∷ every_table_fits ∷ short_locals ∷ short_frames ∷ short_captures ∷ short_references ∷ short_before_damaged ∷ []

-- Trees that the first walk refuses

-- 101: no bytes
abbrev pub nothing : Case
nothing = refused (lend ample []) 1 0

-- 102: a single byte
abbrev pub one_byte : Case
one_byte = refused (lend ample (74 ∷ [])) 1 0

-- 103: `JT` and nothing
abbrev pub no_externals_number : Case
no_externals_number = refused (lend ample (74 ∷ 84 ∷ [])) 1 0

-- 104: `JT` 2 and one name
abbrev pub names_missing : Case
names_missing = refused (lend ample (records_bytes ((JT, 2 ∷ 24 ∷ []) ∷ []))) 1 0

-- 105: `JT` 0 and nothing
abbrev pub no_expression : Case
no_expression = refused (lend ample (records_bytes ((JT, 0 ∷ []) ∷ []))) 1 6

-- 106: one byte where an expression should begin
abbrev pub half_a_mark : Case
half_a_mark = refused (lend ample (records_bytes ((JT, 0 ∷ []) ∷ []) ++ (84 ∷ []))) 1 6

-- 107: a `TV` that lacks its last byte
abbrev pub fields_missing : Case
fields_missing = refused (lend ample (records_bytes ((JT, 0 ∷ []) ∷ []) ++ (84 ∷ 86 ∷ 1 ∷ 0 ∷ 0 ∷ []))) 1 6

-- 108: 1 + nothing
abbrev pub a_child_missing : Case
a_child_missing = refused (lend ample (records_bytes ((JT, 0 ∷ []) ∷ (BI, 60 ∷ []) ∷ (TV, 1 ∷ []) ∷ []))) 1 18

-- 109: an array of 3 that ends after [1, 2
abbrev pub a_constant_missing : Case
a_constant_missing = refused (lend ample (records_bytes ((JT, 0 ∷ []) ∷ (AR, 3 ∷ []) ∷ (TV, 1 ∷ []) ∷ (TV, 2 ∷ []) ∷ []))) 1 24

-- 110: `TV` 1 without a `JT`
abbrev pub no_tree : Case
no_tree = refused (lend ample (records_bytes ((TV, 1 ∷ []) ∷ []))) 2 0

-- 111: `XX` where an expression should begin, and nothing after it
abbrev pub no_mark : Case
no_mark = refused (lend ample (records_bytes ((JT, 0 ∷ []) ∷ []) ++ (88 ∷ 88 ∷ []))) 2 6

-- 112: `LS` 0 as an expression
abbrev pub an_output_mark : Case
an_output_mark = refused (lend ample (records_bytes ((JT, 0 ∷ []) ∷ (LS, 0 ∷ []) ∷ []))) 2 6

-- 113: a `PA` where a bind should stand
abbrev pub a_parameter_as_bind : Case
a_parameter_as_bind = refused (lend ample (records_bytes ((JT, 0 ∷ []) ∷ (LO, 1 ∷ []) ∷ (PA, 24 ∷ 101 ∷ 0 ∷ []) ∷ (TV, 1 ∷ []) ∷ []))) 2 12

-- 114: `BF` and a `TV`
abbrev pub a_bind_of_no_function : Case
a_bind_of_no_function = refused (lend ample (records_bytes ((JT, 0 ∷ []) ∷ (LO, 1 ∷ []) ∷ (BF, 6 ∷ 101 ∷ []) ∷ (TV, 1 ∷ []) ∷ (TV, 2 ∷ []) ∷ []))) 2 22

-- 115: { m(): 1 } with a `TV` for its `FN`
abbrev pub a_method_of_no_function : Case
a_method_of_no_function = refused (lend ample (records_bytes ((JT, 0 ∷ []) ∷ (OB, 0 ∷ 0 ∷ 1 ∷ []) ∷ (FH, 0 ∷ 13 ∷ 101 ∷ 0 ∷ 0 ∷ 1 ∷ []) ∷ (TV, 1 ∷ []) ∷ []))) 2 46

-- 116: `OX` with a `TV` for its `OB`
abbrev pub an_extension_of_no_object : Case
an_extension_of_no_object = refused (lend ample (records_bytes ((JT, 0 ∷ []) ∷ (OX, []) ∷ (TV, 1 ∷ []) ∷ (TV, 2 ∷ []) ∷ []))) 2 14

-- 117: an `ID` of kind 3
abbrev pub no_identity : Case
no_identity = refused (lend ample (records_bytes ((JT, 0 ∷ []) ∷ (ID, 3 ∷ 101 ∷ []) ∷ []))) 3 6

-- 118: an `SC` of set 8
abbrev pub no_set : Case
no_set = refused (lend ample (records_bytes ((JT, 0 ∷ []) ∷ (SC, 8 ∷ []) ∷ (TV, 1 ∷ []) ∷ []))) 3 6

-- 119: an `AS` of message-flag 2
abbrev pub no_flag : Case
no_flag = refused (lend ample (records_bytes ((JT, 0 ∷ []) ∷ (AS, 2 ∷ []) ∷ (TV, 1 ∷ []) ∷ (TV, 1 ∷ []) ∷ (TV, 1 ∷ []) ∷ []))) 3 6

-- 120: { a: 1 } of visibility 3
abbrev pub no_visibility : Case
no_visibility = refused (lend ample (records_bytes ((JT, 0 ∷ []) ∷ (OB, 0 ∷ 0 ∷ 1 ∷ []) ∷ (FH, 0 ∷ 1 ∷ 101 ∷ 0 ∷ 3 ∷ 0 ∷ []) ∷ (TV, 1 ∷ []) ∷ []))) 3 20

-- 121: an `ID` of kind 3 that lacks its last byte: missing comes before out of range
abbrev pub no_kind_cut_short : Case
no_kind_cut_short = refused (lend ample (records_bytes ((JT, 0 ∷ []) ∷ []) ++ (73 ∷ 68 ∷ 3 ∷ 0 ∷ 0 ∷ 0 ∷ 101 ∷ 0 ∷ 0 ∷ []))) 1 6

-- 122: 1 and a byte after it
abbrev pub a_byte_behind : Case
a_byte_behind = refused (lend ample (records_bytes ((JT, 0 ∷ []) ∷ (TV, 1 ∷ []) ∷ []) ++ (0 ∷ []))) 5 12

-- 123: `JT` 70000 and nothing: tested before the names are read
abbrev pub too_many_externals : Case
too_many_externals = refused (lend ample (records_bytes ((JT, 70000 ∷ []) ∷ []))) 11 0

-- 124: `JT` 65535 and nothing
abbrev pub externals_missing : Case
externals_missing = refused (lend ample (records_bytes ((JT, 65535 ∷ []) ∷ []))) 1 0

abbrev pub own_damage : List Case
own_damage = nothing ∷ one_byte ∷ no_externals_number ∷ names_missing ∷ no_expression ∷ half_a_mark ∷ fields_missing ∷ a_child_missing ∷ a_constant_missing ∷ no_tree ∷ no_mark ∷ an_output_mark ∷ a_parameter_as_bind ∷ a_bind_of_no_function ∷ a_method_of_no_function ∷ an_extension_of_no_object ∷ no_identity ∷ no_set ∷ no_flag ∷ no_visibility ∷ no_kind_cut_short ∷ a_byte_behind ∷ too_many_externals ∷ externals_missing ∷ []

-- Nesting

-- n times a unary operator, and then these
unfoldable pub below_unary : ℕ → List Record → List Record
below_unary zero rs = rs
below_unary (suc n) rs = (UN, 61 ∷ []) ∷ below_unary n rs

-- 125: - - .. 1, the constant at nesting 200
abbrev pub nested_200 : Case
nested_200 = accepted (room 0 1 0 0 1210 0)
    ((JT, 0 ∷ []) ∷ below_unary 199 ((TV, 1 ∷ []) ∷ []))
    ((TV, 1 ∷ []) ∷ below_unary 199 ((SH, 0 ∷ 0 ∷ []) ∷ []))
    []
    false 0 never never 0

-- 126: - - .. 1, the constant at nesting 201
abbrev pub nested_201 : Case
nested_201 = refused (lend (room 0 2 0 0 1300 0) (records_bytes ((JT, 0 ∷ []) ∷ below_unary 200 ((TV, 1 ∷ []) ∷ [])))) 4 1206

-- 127: - - .. [1, 2], the array at nesting 200, with no room for output: its items do not count, so it is analysed
abbrev pub constants_at_200 : Case
constants_at_200 = refused (lend (room 0 2 0 0 0 0) (records_bytes ((JT, 0 ∷ []) ∷ below_unary 199 ((AR, 2 ∷ []) ∷ (TV, 1 ∷ []) ∷ (TV, 2 ∷ []) ∷ [])))) 9 1200

-- 128: - - .. [1, x], the array at nesting 200
abbrev pub items_at_201 : Case
items_at_201 = refused (lend (room 0 2 0 0 1300 0) (records_bytes ((JT, 0 ∷ []) ∷ below_unary 199 ((AR, 2 ∷ []) ∷ (TV, 1 ∷ []) ∷ (VA, 24 ∷ 101 ∷ []) ∷ [])))) 4 1206

-- 129: - - .. with an `ID` of kind 3 at nesting 201: out of range comes before nesting
abbrev pub out_of_range_at_201 : Case
out_of_range_at_201 = refused (lend (room 0 2 0 0 1300 0) (records_bytes ((JT, 0 ∷ []) ∷ below_unary 200 ((ID, 3 ∷ 101 ∷ []) ∷ [])))) 3 1206

abbrev pub own_nested : List Case
own_nested = nested_200 ∷ nested_201 ∷ constants_at_200 ∷ items_at_201 ∷ out_of_range_at_201 ∷ []

-- All but the nested ones, which take longer

abbrev pub own : List Case
own = own_names ++ own_functions ++ own_objects ++ own_records ++ own_limits ++ own_damage
