-- What a walker asks of the state, of the place and of the bytes there; and the steps of an object in two parts. Assumes nothing.
use Rattle.std.specs.Prelude.{ℕ, ◌+◌, ◌-◌, ◌≤◌, ◌<◌, Bool, false, List, [], ◌≡◌, length}
use Rattle.std.proofs.Math.Option.{some}
use Rattle.rules.specs.Outcome.{Outcome, ok, refuse, ◌>>=◌}
use Rattle.rules.specs.Numbers.{Mark, code, code_at, number_at, ID, TV, VA, AR, IM, LO, FN, OB, NA, PT, AT}
use Rattle.rules.specs.Tree.{Heads}
use Rattle.rules.specs.FirstWalk.{any_expression, expr_at}
use Rattle.rules.specs.Settling.{propagate_analysis}
use Rattle.rules.specs.State as rules
use Rattle.rules.specs.Scoping.{settle_frame}
use Rattle.rules.specs.Walk as walk
use Rattle.law_steady.specs.Steady.{Sound}
use Rattle.law_runs.specs.Run.{Accepted, items_at, heads_at, values_at, run_binds, run_assertions, run_values}
use Rattle.law_runs.specs.Steps.{begun_object, finished_object}
use Rattle.state.specs.Seen.{Buffers, stack, Fit}
use Rattle.state.specs.Walks.{place_of}
use Rattle.state.specs.declared.AnalysisStack.{AnalysisStack}
use Rattle.state.specs.declared.Limits.{Limits}
use Rattle.state.specs.declared.Place.{Place}

-- a place's ids are of locals that are there
pub record Within (h : walk.Place) (n : ℕ) : Type 0 where
  pub this_there : (id : ℕ) → h.this_local ≡ some id → id < n
  pub dollar_there : (id : ℕ) → h.dollar_alias ≡ some id → id < n

-- what holds of the state wherever a walk begins, at this place of the bytes: there were no more rounds than bytes
pub record Sturdy (at : ℕ) (h : walk.Place) (σ : rules.AnalysisStack) : Type 0 where
  pub sound : Sound σ
  pub within : Within h (length σ.locals)
  pub few_rounds : σ.sink.rounds ≤ at

pub record Ready (l : Limits) (b : Buffers) (st : AnalysisStack) (s : List ℕ) (at nest : ℕ) (h : Place) : Type 0 where
  pub fit : Fit l b st
  pub sturdy : Sturdy at (place_of h) (stack b st)
  pub shallow : h.depth + nest ≤ 200
  pub short : length s ≤ 16777216

-- an expression with this mark stands there
pub record There (s : List ℕ) (nest : ℕ) (m : Mark) (at : ℕ) : Type 0 where
  pub read : Accepted (expr_at s nest any_expression at)
  pub marked : code_at s at ≡ code m

-- an expression stands there whose mark has this number, and it is none of those that are walked on their own
pub record PlainThere (s : List ℕ) (nest mark at : ℕ) : Type 0 where
  pub read : Accepted (expr_at s nest any_expression at)
  pub marked : code_at s at ≡ mark
  pub not_identity : mark ≡ code ID → ⊥
  pub not_constant : mark ≡ code TV → ⊥
  pub not_variable : mark ≡ code VA → ⊥
  pub not_array : mark ≡ code AR → ⊥
  pub not_import : mark ≡ code IM → ⊥
  pub not_local : mark ≡ code LO → ⊥
  pub not_function : mark ≡ code FN → ⊥
  pub not_object : mark ≡ code OB → ⊥

-- whether an object is static, by its heads
unfoldable pub static_of : Outcome (Heads × ℕ) → Bool
static_of (ok (hs, q)) = walk.is_static [] hs
static_of (refuse number place) = false

-- the number of a mark that holds expressions and counts for no level
pub data Holder (mark : ℕ) : Type 0 where
  an_argument : mark ≡ code NA → Holder mark
  a_part : mark ≡ code PT → Holder mark
  an_assertion : mark ≡ code AT → Holder mark

pub record HeldThere (s : List ℕ) (nest mark at : ℕ) : Type 0 where
  pub read : Accepted (items_at s nest 1 at)
  pub marked : code_at s at ≡ mark
  pub holder : Holder mark

-- an object stands there, and its binds after its heads
pub record MembersThere (s : List ℕ) (nest binds at : ℕ) : Type 0 where
  pub there : There s nest OB at
  pub heads : Heads
  pub behind : heads_at s (nest - 1) (number_at s (at + 10)) (at + 14) ≡ ok (heads, binds)

-- the assertions of an object, and after them its values; so many levels are left for them
pub record FieldsThere (s : List ℕ) (levels object at : ℕ) : Type 0 where
  pub fits : object + 14 ≤ length s
  pub inside : at ≤ length s
  pub assertions : Accepted (items_at s levels (number_at s (object + 6)) at)
  pub values : Accepted (values_at s levels (number_at s (object + 10)) (object + 14) assertions.what.1)

module _ (s : List ℕ) (limits : rules.Limits) where
  -- the assertions and the values of the object at `object`
  unfoldable pub fields_steps : (levels object p : ℕ) → walk.Place → rules.AnalysisStack → Outcome (rules.AnalysisStack × ℕ)
  fields_steps levels object p h σ = do
    (σ, q) ← run_assertions s limits levels (number_at s (object + 6)) p h σ
    run_values s limits levels (number_at s (object + 10)) (object + 14) q h σ

  -- what stands after the heads of the object at p
  unfoldable pub members_steps : (nest binds p : ℕ) → walk.Place → rules.AnalysisStack → Outcome (rules.AnalysisStack × ℕ)
  members_steps nest binds p h σ =
      let n = number_at s (p + 2) in
      let fields = number_at s (p + 10) in
      let before = length σ.references in
      let outer = σ.object_use in
      let inside = walk.in_object (length σ.locals) h in do
        (σ, defined) ← begun_object limits s (nest - 1) n p binds h σ
        (kept, (σ, q)) ← run_binds s limits (nest - 1) n binds 1 0 inside σ
        (σ, q) ← fields_steps (nest - 1) p q (walk.deeper inside) (settle_frame propagate_analysis kept before σ)
        finished_object limits p (walk.is_outermost h) outer kept before (number_at s (p + 6)) fields (static_of (heads_at s (nest - 1) fields (p + 14))) q σ
