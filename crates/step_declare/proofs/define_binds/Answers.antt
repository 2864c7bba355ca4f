-- `step_declare::define_binds` meets its contract. The loop's invariant: what is left, from here, gives what the whole gives. Assumes nothing.
use Rattle.std.proofs.Common.{arith, rules}
use Rattle.std.proofs.lemmas.Result.{err_from_is_err_and}
use Rattle.step_declare.proofs.Turns.{binds_on, bind_there, defining_next, binds_needs, binds_stop}
use Rattle.step_declare.proofs.define_binds.Goals as goal

pub define_at-requires : goal.define_at-requires
define_at-requires c = search binds_needs

pub returns-in_err-reached : goal.returns-in_err-reached
returns-in_err-reached c =
    let q = err_from_is_err_and c.from_residual.result c.from_residual.ensures.1 in
    rw (q.1, q.2) (binds_stop c.loop.invariant c.loop-test.true c.define_at.ensures c.in_err-reached.was)

pub overflow_add-p : goal.overflow_add-p
overflow_add-p c = omega (arith, bind_there c.loop.invariant c.loop-test.true c.requires.0, c.requires.1)

pub loop-preserved : goal.loop-preserved
loop-preserved c =
    defining_next _ _ _ c.loop.invariant c.loop-test.true (binds_on _ _ _ c.skip-p.ensures) c.define_at.ensures c.in_ok-reached.was (search rules) (search rules) (search rules)

pub returns : goal.returns
returns c = search binds_needs
