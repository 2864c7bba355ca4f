-- `put_pairs` puts a pair for each of the owner's captures. The loop's invariant is `Pairing`, the measure what is left of the log. Assumes nothing.
use Rattle.step_frame.proofs.Closing.{pairing_begin, pairing_next, pairing_full}
use Rattle.step_frame.proofs.put_pairs.Goals as goal

pub loop-i-init : goal.loop-i-init
loop-i-init c = pairing_begin _ _ _ _ _ _ c.requires.le_used.1 c.requires.count_in_bounds.1 c.requires.count_in_bounds.2

pub returns-in_err-to : goal.returns-in_err-to
returns-in_err-to c =
    let follows = c.in-Some.ensures in
    rw c.from_residual.ensures
    (pairing_full _ _ _ _ _ _ _ _ c.loop-i.invariant _ _ _ _ _ follows.1 follows.2 c.slot_kind.ensures c.slot_number.ensures.0 c.in_err-to.ensures)

pub loop-i-preserved : goal.loop-i-preserved
loop-i-preserved c =
    let follows = c.in-Some.ensures in
    pairing_next _ _ _ _ _ _ _ _ c.loop-i.invariant _ _ _ _ _ follows.1 follows.2 c.slot_kind.ensures c.slot_number.ensures.0 _ _ c.put_pair.auto.out c.in_ok-to.ensures
