-- `reference_at` answers an entry's reference. Assumes nothing.
use Rattle.table_references.proofs.Keeping.{reference_read}
use Rattle.table_references.proofs.reference_at.Goals as goal

pub returns : goal.returns
returns c = λ n h. reference_read n _ _ h
