-- `run` is the rules' run of whatever was lent. Assumes nothing.
use Rattle.std.proofs.lemmas.Result.{err_from_is_err_and}
use Rattle.state.specs.Seen.{contents}
use Rattle.call_enter.proofs.Laws.{rooted, not_entered}
use Rattle.analyze.proofs.Laws.{ran_refused}
use Rattle.analyze.proofs.run.Goals as goal

pub walk_root-requires : goal.walk_root-requires
walk_root-requires c =
    rooted c.args.tree.now (contents c.args.lent.now) c.args.limits (c.enter.ensures c.args.lent.now.out.now c.args.lent.now.diagnostics.now) c.in_ok-enter.was

pub returns-in_err-enter-clause-ran : goal.returns-in_err-enter-clause-ran
returns-in_err-enter-clause-ran c =
    let b = contents c.args.lent.now in
    let q = err_from_is_err_and c.from_residual.result c.from_residual.ensures.1 in
    rw (q.1, q.2) (ran_refused c.args.tree.now b b c.args.limits (not_entered c.args.tree.now b c.args.limits (c.enter.ensures c.args.lent.now.out.now c.args.lent.now.diagnostics.now) c.in_err-enter.was))
