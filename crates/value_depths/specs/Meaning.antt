-- What the struct means: the rules' record with the same three depths. Assumes nothing.
use Rattle.rules.specs.Depths as depths
use Rattle.value_depths.specs.declared.AnalysisResult.{AnalysisResult}

abbrev pub result_of : AnalysisResult → depths.AnalysisResult
result_of a = record {
  object_dependent_depth = a.object_dependent_depth;
  local_dependent_depth = a.local_dependent_depth;
  local_dependent_depth_max = a.local_dependent_depth_max;
}
