-- `resolve` answers the slot of an id where the frames define it. Assumes nothing.
use Rattle.std.proofs.Common.{arith, rules}
use Rattle.resolver.proofs.Resolving.{held_before, held_from, held_nowhere}
use Rattle.resolver.proofs.resolve.Goals as goal

pub returns-in_err-home : goal.returns-in_err-home
returns-in_err-home c = rw c.from_residual.ensures (held_nowhere _ _ _ c.in_err-home.ensures)

pub returns-in_err-own : goal.returns-in_err-own
returns-in_err-own c = rw c.from_residual-in_err-own.ensures (held_before _ _ _ _ c.in_ok-home.ensures (omega (arith, c.in_err-own.ensures)))

pub returns : goal.returns
returns c =
    let own = c.in_ok-own.ensures in
    held_from _ _ _ _ c.in_ok-home.ensures own.0 _ (rw own.1 at c.then.ensures.variant) c.then.ensures.some (λ s k. search rules)
