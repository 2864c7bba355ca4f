-- What the parts of a call around its walk answer and leave. A primed list is what a step leaves of a buffer. Assumes nothing.
use Rattle.std.specs.Prelude.{ℕ, ◌*◌, ◌-◌, ◌≤◌, List, ◌++◌, ◌≡◌, length, take, replicate}
use Rattle.rules.specs.Outcome.{ok, ◌>>=◌}
use Rattle.rules.specs.Numbers.{numbers_at}
use Rattle.rules.specs.State as rules
use Rattle.rules.specs.Call as call
use Rattle.value_depths.specs.Meaning.{result_of}
use Rattle.state.specs.Seen.{Buffers, buffers, stack, seen, limits_of, Fit, Fits}
use Rattle.state.specs.declared.AnalysisStack.{AnalysisStack}
use Rattle.state.specs.declared.Limits.{Limits}
use Rattle.call_root.specs.declared.AnalysisReport.{AnalysisReport}
use Rattle.state.specs.Seen.{Step}

-- the rules' report that a report is
unfoldable pub report_meaning : AnalysisReport → call.AnalysisReport
report_meaning r = record {
  number = r.number;
  place = r.place;
  out_length = r.out_length;
  diagnostics_length = r.diagnostics_length;
  errored = r.errored;
  rounds = r.rounds;
  depths = result_of r.depths;
}

-- the report of the state that the buffers hold
pub record ReportsState (r : AnalysisReport) (st : AnalysisStack) : Type 0 where
  pub same : (b : Buffers) → st.out ≤ length b.out → st.diagnostics ≤ length b.diagnostics → report_meaning r ≡ call.report_of (ok (stack b st))

-- each table has sixteen numbers for each entry of its limit
pub record LongTables (l : Limits) (b : Buffers) : Type 0 where
  pub locals_long : 16 * l.max_locals ≤ length b.locals
  pub frames_long : 16 * l.max_frames ≤ length b.frames
  pub captures_long : 16 * l.max_captures ≤ length b.captures
  pub references_long : 16 * l.max_references ≤ length b.references

-- the state before anything was met, whatever the buffers hold
pub record EmptyStack (r : AnalysisStack) : Type 0 where
  pub same : (b : Buffers) → stack b r ≡ rules.empty_stack
  pub fit : (l : Limits) (b : Buffers) → LongTables l b → Fit l b r

-- the names of n externals after the locals
pub record DefinedExternals (r : Step) (s locals locals' : List ℕ) (limits : Limits) (st : AnalysisStack) (n : ℕ) : Type 0 where
  pub same : (out diagnostics frames captures references : List ℕ)
      → seen r (buffers out diagnostics locals' frames captures references)
      ≡ call.define_externals (limits_of limits out diagnostics) 0 (numbers_at s n 6) (stack (buffers out diagnostics locals frames captures references) st)
  pub fit : (out diagnostics frames captures references : List ℕ)
      → Fit limits (buffers out diagnostics locals frames captures references) st → Fits limits r (buffers out diagnostics locals' frames captures references)

-- the root's frame, with n locals
pub record OpenedRoot (r : Step) (frames frames' : List ℕ) (limits : Limits) (st : AnalysisStack) (n : ℕ) : Type 0 where
  pub same : (out diagnostics locals captures references : List ℕ)
      → Fit limits (buffers out diagnostics locals frames captures references) st
      → seen r (buffers out diagnostics locals frames' captures references)
      ≡ call.open_root (limits_of limits out diagnostics) n (stack (buffers out diagnostics locals frames captures references) st)
  pub fit : (out diagnostics locals captures references : List ℕ)
      → Fit limits (buffers out diagnostics locals frames captures references) st → Fits limits r (buffers out diagnostics locals frames' captures references)

-- both, from the empty state
pub record BegunRoot (r : Step) (s locals locals' frames frames' : List ℕ) (limits : Limits) (n : ℕ) : Type 0 where
  pub same : (out diagnostics captures references : List ℕ)
      → LongTables limits (buffers out diagnostics locals frames captures references)
      → seen r (buffers out diagnostics locals' frames' captures references)
      ≡ (call.define_externals (limits_of limits out diagnostics) 0 (numbers_at s n 6) rules.empty_stack >>= λ σ. call.open_root (limits_of limits out diagnostics) n σ)
  pub fit : (out diagnostics captures references : List ℕ)
      → LongTables limits (buffers out diagnostics locals frames captures references)
      → Fits limits r (buffers out diagnostics locals' frames' captures references)

-- the first bytes as they were, and zeros after them
abbrev pub ZeroedBehind : (kept : ℕ) → (before after : List ℕ) → Type 0
ZeroedBehind kept before after = after ≡ take kept before ++ replicate (length before - kept) 0

abbrev pub Zeroed : (before after : List ℕ) → Type 0
Zeroed before after = after ≡ replicate (length before) 0

-- both byte buffers after what is kept of them, and the tables wholly
pub record Cleared (out_length diagnostics_length : ℕ) (b b' : Buffers) : Type 0 where
  pub out : ZeroedBehind out_length b.out b'.out
  pub diagnostics : ZeroedBehind diagnostics_length b.diagnostics b'.diagnostics
  pub locals : Zeroed b.locals b'.locals
  pub frames : Zeroed b.frames b'.frames
  pub captures : Zeroed b.captures b'.captures
  pub references : Zeroed b.references b'.references

-- The whole call

-- what is lent to it
unfoldable pub lent : (tree : List ℕ) → Buffers → Limits → call.Lent
lent tree b l = record {
  tree = tree;
  out = b.out;
  diagnostics = b.diagnostics;
  locals = b.locals;
  frames = b.frames;
  captures = b.captures;
  references = b.references;
  max_locals = l.max_locals;
  max_frames = l.max_frames;
  max_captures = l.max_captures;
  max_references = l.max_references;
}

-- what it leaves
unfoldable pub left : AnalysisReport → Buffers → call.Left
left r b = record {
  report = report_meaning r;
  out = b.out;
  diagnostics = b.diagnostics;
  locals = b.locals;
  frames = b.frames;
  captures = b.captures;
  references = b.references;
}
