-- What defining the names of binds and of parameters asks for, answers and leaves, whatever the buffers hold that a function does not have. A
-- primed list is what a step leaves of a buffer. Assumes nothing.
use Rattle.std.specs.Prelude.{ℕ, ◌+◌, List, ◌≡◌}
use Rattle.rules.specs.Numbers.{number_at}
use Rattle.bytes_skip.specs.Behind.{Skipped}
use Rattle.law_runs.specs.Run.{Accepted, binds_at, params_at, run_define_binds, run_define_params}
use Rattle.state.specs.Seen.{buffers, Fit}
use Rattle.state.specs.Walks.{Walks}
use Rattle.state.specs.declared.AnalysisStack.{AnalysisStack}
use Rattle.state.specs.declared.Limits.{Limits}
use Rattle.state.specs.Seen.{Walked}

-- What is asked for

-- n binds or parameters were read there under some levels

pub record BindsThere (s : List ℕ) (n at : ℕ) : Type 0 where
  pub levels : ℕ
  pub read : Accepted (binds_at s levels n at)

pub record ParamsThere (s : List ℕ) (n at : ℕ) : Type 0 where
  pub levels : ℕ
  pub read : Accepted (params_at s levels n at)

-- the state fits the buffers that a function has, with some of those that it does not have
pub record Fitting (limits : Limits) (diagnostics locals frames : List ℕ) (st : AnalysisStack) : Type 0 where
  pub out : List ℕ
  pub captures : List ℕ
  pub references : List ℕ
  pub fit : Fit limits (buffers out diagnostics locals frames captures references) st

-- Names

pub record BindsDefined (r : Walked) (s diagnostics diagnostics' locals locals' frames frames' : List ℕ) (limits : Limits) (st : AnalysisStack) (at n depth : ℕ) : Type 0 where
  pub defined : (levels : ℕ) → Accepted (binds_at s levels n at)
      → (out captures references : List ℕ)
      → Fit limits (buffers out diagnostics locals frames captures references) st
      → Walks r limits (buffers out diagnostics locals frames captures references) (buffers out diagnostics' locals' frames' captures references) st
      (λ limits st. run_define_binds s limits levels n at depth st)

pub record ParamsDefined (r : Walked) (s diagnostics diagnostics' locals locals' frames frames' : List ℕ) (limits : Limits) (st : AnalysisStack) (at n depth : ℕ) : Type 0 where
  pub defined : (levels : ℕ) → Accepted (params_at s levels n at)
      → (out captures references : List ℕ)
      → Fit limits (buffers out diagnostics locals frames captures references) st
      → Walks r limits (buffers out diagnostics locals frames captures references) (buffers out diagnostics' locals' frames' captures references) st
      (λ limits st. run_define_params s limits levels n at depth st)

-- the place after the parameter: its default follows it where it has one
abbrev pub AfterParam : List ℕ → (from to : ℕ) → Type 0
AfterParam s from to = (number_at s (from + 10) ≡ 0 → to ≡ from + 14) × ((number_at s (from + 10) ≡ 0 → ⊥) → Skipped s (from + 14) to)
