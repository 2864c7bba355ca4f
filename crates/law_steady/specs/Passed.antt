-- What the analysis of what stands from a place p to a place q of the tree's bytes leaves as it was: the bytes bound the rounds. Assumes nothing.
use Rattle.std.specs.Prelude.{ℕ, ◌+◌, ◌*◌, ◌≤◌, ◌≡◌, length}
use Rattle.rules.specs.State.{AnalysisStack}
use Rattle.law_steady.specs.Steady.{frame_heads, Begins, Sound}

-- expressions
pub record Passed (p q : ℕ) (st st' : AnalysisStack) : Type 0 where
  pub onward : p ≤ q
  pub same_count : length st'.locals ≡ length st.locals
  pub same_references : st'.references ≡ st.references
  pub same_frames : frame_heads st' ≡ frame_heads st
  pub few_rounds : st'.sink.rounds + p ≤ st.sink.rounds + q
  pub longer : length st.sink.out ≤ length st'.sink.out
  pub sound : Sound st → Sound st'

-- n binds or parameters: of their bytes, two for each are left over for their frame's own rounds
pub record PassedSpecs (n p q kept kept' : ℕ) (st st' : AnalysisStack) : Type 0 where
  pub onward : p + 2 * n ≤ q
  pub same_count : length st'.locals ≡ length st.locals
  pub more_references : Begins st.references st'.references
  pub same_frames : frame_heads st' ≡ frame_heads st
  pub few_rounds : st'.sink.rounds + p + 2 * n ≤ st.sink.rounds + q
  pub few_kept : kept' ≤ kept + n
  pub longer : length st.sink.out ≤ length st'.sink.out
  pub sound : Sound st → Sound st'
