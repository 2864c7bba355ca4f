-- `open_root` is the rules' `open_root`. Assumes nothing.
use Rattle.std.proofs.Common.{rules}
use Rattle.call_root.proofs.Beginning.{root_refused, root_opened}
use Rattle.call_root.proofs.open_root.Goals as goal

pub returns-then-limits-eq0 : goal.returns-then-limits-eq0
returns-then-limits-eq0 c = root_refused _ _ _ _ (search rules) (search rules)

pub returns : goal.returns
returns c = root_opened _ _ _ _ (search rules) _ c.if-limits-eq0.false c.push_frame.auto.frames c.push_frame.ensures
