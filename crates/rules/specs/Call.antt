-- The whole call: what it answers and what it leaves in every buffer lent to it, for every input. Assumes nothing.
use Rattle.std.specs.Prelude.{ℕ, suc, ◌*◌, ◌-◌, Bool, true, false, ◌&&◌, List, [], ◌∷◌, ◌++◌, ◌≡◌, length, replicate, leb}
use Rattle.std.proofs.Math.Option.{some}
use Rattle.rules.specs.Outcome.{Outcome, ok, refuse, ◌>>=◌, need}
use Rattle.rules.specs.Numbers.{Name}
use Rattle.rules.specs.Records.{no_span}
use Rattle.rules.specs.Depths.{AnalysisResult}
use Rattle.rules.specs.Tree.{Tree, external}
use Rattle.rules.specs.FirstWalk.{tree_at}
use Rattle.rules.specs.Locals.{new_local}
use Rattle.rules.specs.Frames.{new_frame}
use Rattle.rules.specs.State.{Limits, AnalysisStack, empty_stack, with_frames}
use Rattle.rules.specs.Writing.{open_frame, close_frame}
use Rattle.rules.specs.Scoping.{push_local}
use Rattle.rules.specs.Walk.{unnamed, at_root, analyze}

-- "The caller lends the tree, an output, a diagnostics buffer, three working tables of 32-bit numbers, a fourth for references, and limits L, F, C, R"
pub record Lent : Type 0 where
  pub tree : List ℕ
  pub out : List ℕ
  pub diagnostics : List ℕ
  pub locals : List ℕ
  pub frames : List ℕ
  pub captures : List ℕ
  pub references : List ℕ
  pub max_locals : ℕ
  pub max_frames : ℕ
  pub max_captures : ℕ
  pub max_references : ℕ

unfoldable pub limits_of : Lent → Limits
limits_of b = record {
  locals = b.max_locals;
  frames = b.max_frames;
  captures = b.max_captures;
  references = b.max_references;
  out = length b.out;
  diagnostics = length b.diagnostics;
}

-- "number 0, place 0, both lengths, whether an error was reported, the rounds and the root's three depths"
pub record AnalysisReport : Type 0 where
  pub number : ℕ
  pub place : ℕ
  pub out_length : ℕ
  pub diagnostics_length : ℕ
  pub errored : Bool
  pub rounds : ℕ
  pub depths : AnalysisResult

-- the report, and the six buffers that may be written to
pub record Left : Type 0 where
  pub report : AnalysisReport
  pub out : List ℕ
  pub diagnostics : List ℕ
  pub locals : List ℕ
  pub frames : List ℕ
  pub captures : List ℕ
  pub references : List ℕ

module _ (limits : Limits) where
  -- "externals are at depth 0 in the root frame. Two may share a name: the later hides the earlier"; k is the position of the next
  unfoldable pub define_externals : (position : ℕ) → List Name → AnalysisStack → Outcome AnalysisStack
  define_externals k [] st = ok st
  define_externals k (name ∷ names) st = do
    st ← push_local limits 0 (new_local (external k) (some name) no_span 0 true) st
    define_externals (suc k) names st

  -- "Externals are defined (6) before the root opens (7)"
  unfoldable pub open_root : (externals : ℕ) → AnalysisStack → Outcome AnalysisStack
  open_root n st = do
    st ← open_frame limits 0 true st
    ok (with_frames (new_frame true 0 n ∷ []) st)

  -- "The root's `SH` is last"
  unfoldable pub analyze_root : Tree → Outcome AnalysisStack
  analyze_root t = do
    st ← define_externals 0 t.externals empty_stack
    st ← open_root (length t.externals) st
    st ← analyze limits t.root unnamed at_root st
    close_frame limits 0 st

-- "a table is shorter than 16 numbers per entry of its limit" (13)
unfoldable pub tables_fit : Lent → Bool
tables_fit b =
    leb (16 * b.max_locals) (length b.locals) && leb (16 * b.max_frames) (length b.frames)
    && leb (16 * b.max_captures) (length b.captures) && leb (16 * b.max_references) (length b.references)

-- "13, then 14. Then a first walk .. Only a tree that passes is analysed"
unfoldable pub run : Lent → Outcome AnalysisStack
run b = do
  _ ← need (tables_fit b) 13 0
  _ ← need (leb (length b.tree) 16777216) 14 0
  t ← tree_at b.tree
  analyze_root (limits_of b) t

-- what was written, then zeros up to the buffer's length
unfoldable pub filled : List ℕ → List ℕ → List ℕ
filled buffer written = written ++ replicate (length buffer - length written) 0

unfoldable pub zeroed : List ℕ → List ℕ
zeroed buffer = replicate (length buffer) 0

-- "A refusal returns its number and the offset of the record being handled .., other numbers 0"
unfoldable pub report_of : Outcome AnalysisStack → AnalysisReport
report_of (ok st) = record {
  number = 0;
  place = 0;
  out_length = length st.sink.out;
  diagnostics_length = length st.sink.diagnostics;
  errored = st.sink.errored;
  rounds = st.sink.rounds;
  depths = st.taint;
}
report_of (refuse number place) = record {
  number = number;
  place = place;
  out_length = 0;
  diagnostics_length = 0;
  errored = false;
  rounds = 0;
  depths = record { object_dependent_depth = 0; local_dependent_depth = 0; local_dependent_depth_max = 0 };
}

unfoldable pub out_of : Outcome AnalysisStack → List ℕ
out_of (ok st) = st.sink.out
out_of (refuse number place) = []

unfoldable pub diagnostics_of : Outcome AnalysisStack → List ℕ
diagnostics_of (ok st) = st.sink.diagnostics
diagnostics_of (refuse number place) = []

-- "After every call the tables are zero; output and diagnostics are zero past their lengths, and wholly zero on refusal"
unfoldable pub left_by : Lent → Outcome AnalysisStack → Left
left_by b r = record {
  report = report_of r;
  out = filled b.out (out_of r);
  diagnostics = filled b.diagnostics (diagnostics_of r);
  locals = zeroed b.locals;
  frames = zeroed b.frames;
  captures = zeroed b.captures;
  references = zeroed b.references;
}

unfoldable pub call : Lent → Left
call b = left_by b (run b)

-- the statement of the public function: what a call may leave
unfoldable pub Allows : Lent → Left → Type 0
Allows b left = left ≡ call b
