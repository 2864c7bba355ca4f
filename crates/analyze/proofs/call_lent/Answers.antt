-- `call_lent` answers and leaves what the rules' call does, for every input. Assumes nothing.
use Rattle.call_root.proofs.Entry.{call_refused, call_accepted}
use Rattle.analyze.proofs.Laws.{ran_not, ran_ok, ran_fit, same_lengths}
use Rattle.analyze.proofs.call_lent.Goals as goal

pub returns-in-Ok-clause-called : goal.returns-in-Ok-clause-called
returns-in-Ok-clause-called c =
    let f = ran_fit c.run.ensures.ran c.in-Ok.is in
    call_accepted c.args.tree.now c.args.limits (same_lengths c.args.lent.now c.run.new.lent c.run.ensures.same_buffers) c.accepted.result c.clear.ensures.cleared f.out_long f.diagnostics_long (ran_ok c.run.ensures.ran c.in-Ok.is) c.accepted.ensures

pub returns-in-Err-clause-called : goal.returns-in-Err-clause-called
returns-in-Err-clause-called c =
    call_refused c.args.tree.now c.args.limits (same_lengths c.args.lent.now c.run.new.lent c.run.ensures.same_buffers) c.refused.result c.clear-in-Err.ensures.cleared (ran_not c.run.ensures.ran c.in-Err.is) (rw c.number.ensures.number at c.refused.ensures)
