-- What the analysis carries from record to record (`AnalysisStack`), and what it may not pass. Assumes nothing.
use Rattle.std.specs.Prelude.{ℕ, Bool, false, List, [], length, take}
use Rattle.rules.specs.Depths.{AnalysisResult, no_dependence}
use Rattle.rules.specs.Locals.{LocalDefinition}
use Rattle.rules.specs.Frames.{ClosureFrame}
use Rattle.rules.specs.Settling.{Reference}

-- "limits L, F, C, R: live locals, open frames, captures in open frames, references kept in them"; and the lengths of both buffers
pub record Limits : Type 0 where
  pub locals : ℕ
  pub frames : ℕ
  pub captures : ℕ
  pub references : ℕ
  pub out : ℕ
  pub diagnostics : ℕ

-- "`self` and `super` mark the present object used; `$` marks the outermost"
pub record ObjectUse : Type 0 where
  pub self_used : Bool
  pub super_used : Bool
  pub dollar_used : Bool

-- what was written, whether an error was reported, and all rounds so far
pub record Sink : Type 0 where
  pub out : List ℕ
  pub diagnostics : List ℕ
  pub errored : Bool
  pub rounds : ℕ

-- locals oldest first, frames newest first, references in the order in which they were kept; `taint` is what the present value depends on
pub record AnalysisStack : Type 0 where
  pub locals : List LocalDefinition
  pub frames : List ClosureFrame
  pub references : List Reference
  pub object_use : ObjectUse
  pub taint : AnalysisResult
  pub sink : Sink

unfoldable pub empty_stack : AnalysisStack
empty_stack = record {
  locals = [];
  frames = [];
  references = [];
  object_use = record { self_used = false; super_used = false; dollar_used = false };
  taint = no_dependence;
  sink = record { out = []; diagnostics = []; errored = false; rounds = 0 };
}

-- The same state but for one part

unfoldable pub with_locals : List LocalDefinition → AnalysisStack → AnalysisStack
with_locals x st = record { locals = x; frames = st.frames; references = st.references; object_use = st.object_use; taint = st.taint; sink = st.sink }

unfoldable pub with_frames : List ClosureFrame → AnalysisStack → AnalysisStack
with_frames x st = record { locals = st.locals; frames = x; references = st.references; object_use = st.object_use; taint = st.taint; sink = st.sink }

unfoldable pub with_references : List Reference → AnalysisStack → AnalysisStack
with_references x st = record { locals = st.locals; frames = st.frames; references = x; object_use = st.object_use; taint = st.taint; sink = st.sink }

unfoldable pub with_object_use : ObjectUse → AnalysisStack → AnalysisStack
with_object_use x st = record { locals = st.locals; frames = st.frames; references = st.references; object_use = x; taint = st.taint; sink = st.sink }

unfoldable pub with_taint : AnalysisResult → AnalysisStack → AnalysisStack
with_taint x st = record { locals = st.locals; frames = st.frames; references = st.references; object_use = st.object_use; taint = x; sink = st.sink }

unfoldable pub with_sink : Sink → AnalysisStack → AnalysisStack
with_sink x st = record { locals = st.locals; frames = st.frames; references = st.references; object_use = st.object_use; taint = st.taint; sink = x }

unfoldable pub with_out : List ℕ → AnalysisStack → AnalysisStack
with_out x st = with_sink (record { out = x; diagnostics = st.sink.diagnostics; errored = st.sink.errored; rounds = st.sink.rounds }) st

unfoldable pub with_rounds : ℕ → AnalysisStack → AnalysisStack
with_rounds x st = with_sink (record { out = st.sink.out; diagnostics = st.sink.diagnostics; errored = st.sink.errored; rounds = x }) st

-- how many bytes of output there are, and the output taken back to so many
unfoldable pub written : AnalysisStack → ℕ
written st = length st.sink.out

unfoldable pub taken_back : ℕ → AnalysisStack → AnalysisStack
taken_back n st = with_out (take n st.sink.out) st
