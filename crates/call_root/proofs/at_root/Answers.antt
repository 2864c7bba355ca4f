-- `at_root` is the rules' place of the root. Assumes nothing.
use Rattle.std.proofs.Common.{refl}
use Rattle.call_root.proofs.Beginning.{root_place}
use Rattle.call_root.proofs.at_root.Goals as goal

pub returns : goal.returns
returns c = (root_place _ refl refl, refl, refl)
