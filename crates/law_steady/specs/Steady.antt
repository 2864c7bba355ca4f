-- What the rules' analysis of a part of the tree leaves as it was, and by how much the rest can grow. Assumes nothing.
use Rattle.std.specs.Prelude.{ℕ, ◌+◌, ◌*◌, ◌≤◌, ◌<◌, Bool, List, ◌++◌, map, ◌≡◌, length}
use Rattle.rules.specs.Frames.{ClosureFrame, beneath}
use Rattle.rules.specs.Settling.{Reference}
use Rattle.rules.specs.State.{AnalysisStack}
use Rattle.rules.specs.Scoping.{first_in_frame}
use Rattle.rules.specs.Tree.{Expr, Exprs, Binds, Params, Heads, count_binds, count_params}
use Rattle.rules.specs.Tree.{identity, constant, variable, constants, array, plain, import, local, function, object}
use Rattle.rules.specs.Tree.{no_exprs, ◌then◌, no_binds, bind, no_params, param, param_or, no_heads, fixed, computed}
use Rattle.settling.specs.Meaning.{Below}

-- a frame but for its captures
pub record FrameHead : Type 0 where
  pub is_defining : Bool
  pub first_local : ℕ
  pub n_locals : ℕ

unfoldable pub frame_head : ClosureFrame → FrameHead
frame_head f = record { is_defining = f.is_defining; first_local = f.first_local; n_locals = f.n_locals }

-- all frames of a state but for their captures
unfoldable pub frame_heads : AnalysisStack → List FrameHead
frame_heads st = map frame_head st.frames

-- where the locals of each frame of a state begin
unfoldable pub first_locals : AnalysisStack → List ℕ
first_locals st = map (λ (f : ClosureFrame). f.first_local) st.frames

-- the frames beneath the top one but for their captures
unfoldable pub heads_beneath : AnalysisStack → List FrameHead
heads_beneath st = map frame_head (beneath st.frames)

-- each reference that is kept is to two of the locals
unfoldable pub Sound : AnalysisStack → Type 0
Sound st = Below (length st.locals) st.references

-- how many rounds an expression can take at most: two loops for each frame that defines names, each of at most one round more than it has names
unfoldable mutual
  pub weight : Expr → ℕ
  weight (identity place which span) = 0
  weight (constant place value) = 0
  weight (variable place name span) = 0
  weight (constants place values) = 0
  weight (array place items) = weight_all items
  weight (plain place mark numbers children) = weight_all children
  weight (import place which span is_literal path) = 0
  weight (local place binds body) = 2 * (count_binds binds + 1) + weight_binds binds + weight body
  weight (function place span params body) = 2 * (count_params params + 1) + weight_params params + weight body
  weight (object place heads locals assertions values) =
      2 * (count_binds locals + 1) + weight_heads heads + weight_binds locals + weight_all assertions + weight_all values

  pub weight_all : Exprs → ℕ
  weight_all no_exprs = 0
  weight_all (e then es) = weight e + weight_all es

  pub weight_binds : Binds → ℕ
  weight_binds no_binds = 0
  weight_binds (bind place name span is_function value bs) = weight value + weight_binds bs

  pub weight_params : Params → ℕ
  weight_params no_params = 0
  weight_params (param place name span ps) = weight_params ps
  weight_params (param_or place name span default ps) = weight default + weight_params ps

  pub weight_heads : Heads → ℕ
  weight_heads no_heads = 0
  weight_heads (fixed place head hs) = weight_heads hs
  weight_heads (computed place head name hs) = weight name + weight_heads hs

-- what an expression leaves as it was; it takes at most so many rounds, and the output only grows
pub record Steady (most : ℕ) (st st' : AnalysisStack) : Type 0 where
  pub same_count : length st'.locals ≡ length st.locals
  pub same_references : st'.references ≡ st.references
  pub same_frames : frame_heads st' ≡ frame_heads st
  pub few_rounds : st'.sink.rounds ≤ st.sink.rounds + most
  pub longer : length st.sink.out ≤ length st'.sink.out

-- these references are those, and more after them
pub record Begins (refs refs' : List Reference) : Type 0 where
  pub more : List Reference
  pub is : refs' ≡ refs ++ more

-- what the binds or parameters of a frame leave as it was: the references of kept ones are appended
pub record SteadySpecs (most count kept kept' : ℕ) (st st' : AnalysisStack) : Type 0 where
  pub same_count : length st'.locals ≡ length st.locals
  pub more_references : Begins st.references st'.references
  pub same_frames : frame_heads st' ≡ frame_heads st
  pub few_rounds : st'.sink.rounds ≤ st.sink.rounds + most
  pub few_kept : kept' ≤ kept + count
  pub longer : length st.sink.out ≤ length st'.sink.out
  pub sound : Sound st → Sound st'

-- what defining names in the top frame leaves as it was: there are more locals, and the top frame has more of them. Where no frame is open, the definitions put one there
pub record Defined (st st' : AnalysisStack) : Type 0 where
  pub more_locals : length st.locals ≤ length st'.locals
  pub same_references : st'.references ≡ st.references
  pub same_rounds : st'.sink.rounds ≡ st.sink.rounds
  pub same_out : st'.sink.out ≡ st.sink.out
  pub same_frame_count : 0 < length st.frames → length st'.frames ≡ length st.frames
  pub same_firsts : 0 < length st.frames → first_locals st' ≡ first_locals st
  pub same_first : first_in_frame st' ≡ first_in_frame st
  pub same_beneath : heads_beneath st' ≡ heads_beneath st
  pub sound : Sound st → Sound st'
