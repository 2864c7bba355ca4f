-- `tree::opened` meets its contract. A refusal is passed on; where a level is left, the place after the record is too. Assumes nothing.
use Rattle.tree.proofs.Binding.{handed}
use Rattle.tree.proofs.Leaves.{opened_refused, opened_deep, opened_went}
use Rattle.tree.proofs.opened.Goals as goal

pub returns-in_err-next : goal.returns-in_err-next
returns-in_err-next c =
    rw (handed c.from_residual.ensures.1 c.in_err-next.was) (opened_refused c.args.tree.now c.args.nest c.args.mark c.args.at c.judged.ensures c.in_err-next.was)

pub returns-then-nest-eq0 : goal.returns-then-nest-eq0
returns-then-nest-eq0 c =
    rw c.at.ensures (opened_deep c.args.tree.now c.args.nest c.args.mark c.args.at c.judged.ensures c.in_ok-next.was c.if-nest-eq0.true)

pub returns : goal.returns
returns c =
    opened_went c.args.tree.now c.args.nest c.args.mark c.args.at c.judged.ensures c.in_ok-next.was c.if-nest-eq0.false
