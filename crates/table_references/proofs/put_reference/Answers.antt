-- `put_reference` stores a reference, and the other entries stay. Assumes nothing.
use Rattle.std.proofs.Common.{rules}
use Rattle.table_references.proofs.Keeping.{reference_put}
use Rattle.table_references.proofs.put_reference.Goals as goal

pub returns : goal.returns
returns c = reference_put _ _ _ _ (search rules)
