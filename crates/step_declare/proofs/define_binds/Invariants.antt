-- `step_declare::define_binds` meets its contract. The loop's invariant: what is left, from here, gives what the whole gives. Assumes nothing.
use Rattle.step_declare.proofs.Turns.{Defining, BindsRead, binds_run}
use Rattle.step_declare.proofs.define_binds.Given as goal

abbrev pub invariant-loop : goal.invariant-loop
invariant-loop l = Defining l.tree (BindsRead l.tree) (binds_run l.tree) l.limits l.initial.diagnostics l.initial.locals l.initial.frames l.initial.reached l.initial.p l.n l.depth l.counter l.p l.reached l.diagnostics l.locals l.frames
