-- `define_externals` is the rules' `define_externals`. The loop's invariant: what is left, from here, gives what the whole gives. Assumes nothing.
use Rattle.std.proofs.lemmas.Result.{err_from_is_err_and}
use Rattle.call_root.proofs.Beginning.{externals_next, externals_stop, externals_end}
use Rattle.call_root.proofs.define_externals.Goals as goal

pub returns-in_err-reached : goal.returns-in_err-reached
returns-in_err-reached c =
    let q = err_from_is_err_and c.from_residual.result c.from_residual.ensures.1 in
    rw (q.1, q.2) (externals_stop c.loop-i.invariant c.loop-i-test.true c.number_at-name.ensures c.new-l.ensures c.push_local.ensures c.in_err-reached.was)

pub loop-i-preserved : goal.loop-i-preserved
loop-i-preserved c =
    externals_next c.loop-i.invariant c.loop-i-test.true c.number_at-name.ensures c.new-l.ensures c.push_local.ensures c.in_ok-reached.was c.push_local.auto.locals

pub returns : goal.returns
returns c = externals_end c.loop-i.invariant c.loop-i-test.false
