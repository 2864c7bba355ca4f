-- Depths: on which objects and locals a value depends (`AnalysisResult`). Assumes nothing.
use Rattle.std.specs.Prelude.{ℕ, min, max, Bool, ◌&&◌, eqb}
use Rattle.rules.specs.Numbers.{never}

-- the outermost object, the outermost local and the innermost local
pub record AnalysisResult : Type 0 where
  pub object_dependent_depth : ℕ
  pub local_dependent_depth : ℕ
  pub local_dependent_depth_max : ℕ

-- "no dependence is (object 4294967295, local 4294967295, max 0)"
unfoldable pub no_dependence : AnalysisResult
no_dependence = record { object_dependent_depth = never; local_dependent_depth = never; local_dependent_depth_max = 0 }

-- "`taint_by` takes minimum, minimum, maximum"
unfoldable pub taint_by : AnalysisResult → AnalysisResult → AnalysisResult
taint_by a b = record {
  object_dependent_depth = min a.object_dependent_depth b.object_dependent_depth;
  local_dependent_depth = min a.local_dependent_depth b.local_dependent_depth;
  local_dependent_depth_max = max a.local_dependent_depth_max b.local_dependent_depth_max;
}

-- "`depend_on_local` lowers the second and raises the third"
unfoldable pub depend_on_local : ℕ → AnalysisResult → AnalysisResult
depend_on_local depth a = record {
  object_dependent_depth = a.object_dependent_depth;
  local_dependent_depth = min a.local_dependent_depth depth;
  local_dependent_depth_max = max a.local_dependent_depth_max depth;
}

-- "`depend_on_object` lowers the first"
unfoldable pub depend_on_object : ℕ → AnalysisResult → AnalysisResult
depend_on_object depth a = record {
  object_dependent_depth = min a.object_dependent_depth depth;
  local_dependent_depth = a.local_dependent_depth;
  local_dependent_depth_max = a.local_dependent_depth_max;
}

unfoldable pub same_result : AnalysisResult → AnalysisResult → Bool
same_result a b =
    eqb a.object_dependent_depth b.object_dependent_depth
    && eqb a.local_dependent_depth b.local_dependent_depth
    && eqb a.local_dependent_depth_max b.local_dependent_depth_max
