-- What the answers of steps, the state and the six buffers mean: the rules' state. And what is kept of them between steps. Assumes nothing.
use Rattle.std.specs.Prelude.{ℕ, ◌*◌, ◌≤◌, ◌<◌, List, ◌≡◌, length, take, Result, Ok, Err}
use Rattle.refusal.specs.Meaning.{number_of}
use Rattle.rules.specs.Outcome.{Outcome, ok, refuse}
use Rattle.rules.specs.Records.{Span}
use Rattle.rules.specs.State as rules
use Rattle.value_depths.specs.Meaning.{result_of}
use Rattle.table_locals.specs.Meaning.{locals_of}
use Rattle.table_references.specs.Meaning.{references_of}
use Rattle.table_rows.specs.Entries.{number}
use Rattle.resolver.specs.Meaning.{frames_of}
use Rattle.resolver.specs.Kept.{Kept}
use Rattle.state.specs.declared.AnalysisStack.{AnalysisStack}
use Rattle.state.specs.declared.Limits.{Limits}
use Rattle.refusal.specs.declared.Refusal.{Refusal}
use Rattle.state.specs.declared.Lent.{Lent}
use Rattle.state.specs.declared.Within.{Within}

-- the answers of steps and walks, by their names in the code

abbrev pub Step : Type 0
Step = Result AnalysisStack Refusal

abbrev pub Walked : Type 0
Walked = Result (AnalysisStack × ℕ) Refusal

abbrev pub Specs : Type 0
Specs = Result (AnalysisStack × ℕ × ℕ) Refusal

-- the contents of the six buffers that are written to
pub record Buffers : Type 0 where
  pub out : List ℕ
  pub diagnostics : List ℕ
  pub locals : List ℕ
  pub frames : List ℕ
  pub captures : List ℕ
  pub references : List ℕ

abbrev pub buffers : (out diagnostics locals frames captures references : List ℕ) → Buffers
buffers out diagnostics locals frames captures references =
    record { out = out; diagnostics = diagnostics; locals = locals; frames = frames; captures = captures; references = references }

abbrev pub contents : Lent → Buffers
contents lent = buffers lent.out.now lent.diagnostics.now lent.locals.now lent.frames.now lent.captures.now lent.references.now

-- the same buffers are still lent, each as long as before
abbrev pub SameBuffers : Lent → Lent → Type 0
SameBuffers before after =
    (after.out.ghost_name ≡ before.out.ghost_name) × (length after.out.now ≡ length before.out.now)
    × (after.diagnostics.ghost_name ≡ before.diagnostics.ghost_name) × (length after.diagnostics.now ≡ length before.diagnostics.now)
    × (after.locals.ghost_name ≡ before.locals.ghost_name) × (length after.locals.now ≡ length before.locals.now)
    × (after.frames.ghost_name ≡ before.frames.ghost_name) × (length after.frames.now ≡ length before.frames.now)
    × (after.captures.ghost_name ≡ before.captures.ghost_name) × (length after.captures.now ≡ length before.captures.now)
    × (after.references.ghost_name ≡ before.references.ghost_name) × (length after.references.now ≡ length before.references.now)

-- the same two of what is lent to a step that only reads frames and references
abbrev pub contents_within : Within → Buffers
contents_within w = buffers w.out.now w.diagnostics.now w.locals.now w.frames.now w.captures.now w.references.now

abbrev pub SameWithin : Within → Within → Type 0
SameWithin before after =
    (after.out.ghost_name ≡ before.out.ghost_name) × (length after.out.now ≡ length before.out.now)
    × (after.diagnostics.ghost_name ≡ before.diagnostics.ghost_name) × (length after.diagnostics.now ≡ length before.diagnostics.now)
    × (after.locals.ghost_name ≡ before.locals.ghost_name) × (length after.locals.now ≡ length before.locals.now)
    × (after.captures.ghost_name ≡ before.captures.ghost_name) × (length after.captures.now ≡ length before.captures.now)

-- and these two stay as they were
abbrev pub OnlyRead : (before after : Within) → Type 0
OnlyRead before after = (after.frames.now ≡ before.frames.now) × (after.references.now ≡ before.references.now)

-- a span by its number, as the code has it
abbrev pub span_of : ℕ → Span
span_of span = record { number = span }

-- the rules' state that they hold
unfoldable pub stack : Buffers → AnalysisStack → rules.AnalysisStack
stack b st = record {
  locals = locals_of st.locals b.locals;
  frames = frames_of st.frames b.frames st.captures b.captures;
  references = references_of st.references b.references;
  object_use = record { self_used = st.self_used; super_used = st.super_used; dollar_used = st.dollar_used };
  taint = result_of st.taint;
  sink = record {
    out = take st.out b.out;
    diagnostics = take st.diagnostics b.diagnostics;
    errored = st.errored;
    rounds = st.rounds;
  };
}

-- what a step's answer means over the buffers that it leaves
abbrev pub seen : Step → Buffers → Outcome rules.AnalysisStack
seen (Ok st) b = ok (stack b st)
seen (Err why) b = refuse (number_of why.reason) why.place

-- the rules' limits, with the lengths of both byte buffers
unfoldable pub limits_of : Limits → (out diagnostics : List ℕ) → rules.Limits
limits_of l out diagnostics = record {
  locals = l.max_locals;
  frames = l.max_frames;
  captures = l.max_captures;
  references = l.max_references;
  out = length out;
  diagnostics = length diagnostics;
}

-- the tables hold their limits' entries and the counts are within them; a frame's first local is there, and rises from frame to frame
pub record Fit (l : Limits) (b : Buffers) (st : AnalysisStack) : Type 0 where
  pub locals_long : 16 * l.max_locals ≤ length b.locals
  pub frames_long : 16 * l.max_frames ≤ length b.frames
  pub captures_long : 16 * l.max_captures ≤ length b.captures
  pub references_long : 16 * l.max_references ≤ length b.references
  pub few_locals : st.locals ≤ l.max_locals
  pub few_frames : st.frames ≤ l.max_frames
  pub few_captures : st.captures ≤ l.max_captures
  pub few_references : st.references ≤ l.max_references
  pub out_long : st.out ≤ length b.out
  pub diagnostics_long : st.diagnostics ≤ length b.diagnostics
  pub frames_kept : Kept st.frames b.frames st.captures b.captures
  pub first_there : (f : ℕ) → f < st.frames → number b.frames f 1 ≤ st.locals
  pub first_rises : (f g : ℕ) → f < g → g < st.frames → number b.frames f 1 ≤ number b.frames g 1

-- an answer's state fits the buffers that it leaves; a refusal's need not, because the caller clears them
abbrev pub Fits : Limits → Step → Buffers → Type 0
Fits l (Ok st) b = Fit l b st
Fits l (Err why) b = Unit {0}
