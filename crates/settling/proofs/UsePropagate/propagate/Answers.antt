-- The second loop's `propagate` does what the rules' does for one reference. Assumes nothing.
use Rattle.settling.proofs.Propagating.{use_lowered, use_stays}
use Rattle.settling.proofs.UsePropagate.propagate.Goals as goal

pub returns-then-min_used_at-locals : goal.returns-then-min_used_at-locals
returns-then-min_used_at-locals c = use_lowered c.args.locals.now c.args.user.0 c.args.used.0 c.requires.1 c.if-min_used_at-locals.true

pub returns : goal.returns
returns c = use_stays c.args.locals.now c.args.user.0 c.args.used.0 c.if-min_used_at-locals.false
