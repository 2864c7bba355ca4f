-- What the answers of walks mean, where an expression stands and what a function is called; and the statement that every walk and step of the
-- analysis makes: the rules' step, on the state that the buffers hold. Assumes nothing.
use Rattle.std.specs.Prelude.{ℕ, ◌<◌, Bool, true, false, ◌≡◌, Ok, Err}
use Rattle.std.proofs.Math.Option.{Option, none, some}
use Rattle.refusal.specs.Meaning.{number_of}
use Rattle.rules.specs.Outcome.{Outcome, ok, refuse}
use Rattle.rules.specs.State as rules
use Rattle.rules.specs.Walk as walk
use Rattle.state.specs.Seen.{Step, Walked, Specs, Buffers, span_of, stack, seen, limits_of, Fit, Fits}
use Rattle.state.specs.declared.AnalysisStack.{AnalysisStack}
use Rattle.state.specs.declared.Limits.{Limits}
use Rattle.state.specs.declared.Place.{Place}
use Rattle.state.specs.declared.Naming.{Naming}
use Rattle.state.specs.declared.Naming.TheVariants.{Unnamed, AsBind, AsMethod, AsComputedMethod}

-- an id, where there is one
unfoldable pub id_if : Bool → ℕ → Option ℕ
id_if true id = some id
id_if false id = none

unfoldable pub place_of : Place → walk.Place
place_of h = record {
  depth = h.depth;
  this_local = id_if h.in_object h.this_local.0;
  dollar_alias = id_if h.in_object h.dollar_alias.0;
}

unfoldable pub naming_of : Naming → walk.Naming
naming_of Unnamed = walk.unnamed
naming_of (AsBind name span) = walk.as_bind name (span_of span)
naming_of (AsMethod name span) = walk.as_method name (span_of span)
naming_of (AsComputedMethod span) = walk.as_computed_method (span_of span)

-- an object's two ids are of locals that are there
pub record Stands (h : Place) (st : AnalysisStack) : Type 0 where
  pub this_there : h.in_object ≡ true → h.this_local.0 < st.locals
  pub dollar_there : h.in_object ≡ true → h.dollar_alias.0 < st.locals

-- the state and the place after
abbrev pub walked : Walked → Buffers → Outcome (rules.AnalysisStack × ℕ)
walked (Ok (st, next)) b = ok (stack b st, next)
walked (Err why) b = refuse (number_of why.reason) why.place

abbrev pub WalkedFits : Limits → Walked → Buffers → Type 0
WalkedFits l (Ok (st, next)) b = Fit l b st
WalkedFits l (Err why) b = Unit {0}

-- how many are kept, the state and the place after
abbrev pub specs : Specs → Buffers → Outcome (ℕ × (rules.AnalysisStack × ℕ))
specs (Ok (st, next, kept)) b = ok (kept, (stack b st, next))
specs (Err why) b = refuse (number_of why.reason) why.place

abbrev pub SpecsFits : Limits → Specs → Buffers → Type 0
SpecsFits l (Ok (st, next, kept)) b = Fit l b st
SpecsFits l (Err why) b = Unit {0}

-- What a walk or a step answers, and leaves of the buffers b as b': the rules' step under the limits that they give

pub record Walks (r : Walked) (l : Limits) (b b' : Buffers) (st : AnalysisStack) (step : rules.Limits → rules.AnalysisStack → Outcome (rules.AnalysisStack × ℕ)) : Type 0 where
  pub same : (limits : rules.Limits) → limits ≡ limits_of l b.out b.diagnostics → walked r b' ≡ step limits (stack b st)
  pub fit : WalkedFits l r b'

pub record WalksSpecs (r : Specs) (l : Limits) (b b' : Buffers) (st : AnalysisStack) (step : rules.Limits → rules.AnalysisStack → Outcome (ℕ × (rules.AnalysisStack × ℕ))) : Type 0 where
  pub same : (limits : rules.Limits) → limits ≡ limits_of l b.out b.diagnostics → specs r b' ≡ step limits (stack b st)
  pub fit : SpecsFits l r b'

pub record Steps (r : Step) (l : Limits) (b b' : Buffers) (st : AnalysisStack) (step : rules.Limits → rules.AnalysisStack → Outcome rules.AnalysisStack) : Type 0 where
  pub same : (limits : rules.Limits) → limits ≡ limits_of l b.out b.diagnostics → seen r b' ≡ step limits (stack b st)
  pub fit : Fits l r b'

-- a step that cannot be refused
pub record Becomes (r : AnalysisStack) (l : Limits) (b b' : Buffers) (st : AnalysisStack) (step : rules.AnalysisStack → rules.AnalysisStack) : Type 0 where
  pub same : stack b' r ≡ step (stack b st)
  pub fit : Fit l b' r
