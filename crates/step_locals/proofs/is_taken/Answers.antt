-- `is_taken` tells whether the search from the frame's first local finds the name. Assumes nothing.
use Rattle.std.proofs.Common.{arith}
use Rattle.step_locals.proofs.Finding.{first_within, taken}
use Rattle.step_locals.proofs.is_taken.Goals as goal

pub overflow_sub-n : goal.overflow_sub-n
overflow_sub-n c = first_within c.args.frames.now c.args.st _ c.first_in_frame-first.ensures c.requires.2

pub newest-requires : goal.newest-requires
newest-requires c =
    let within = first_within c.args.frames.now c.args.st _ c.first_in_frame-first.ensures c.requires.2 in
    (omega arith, omega arith)

pub returns : goal.returns
returns c =
    rw c.is_some.ensures (taken _ _ _ _ c.first_in_frame-first.ensures _ _ (first_within c.args.frames.now c.args.st _ c.first_in_frame-first.ensures c.requires.2) c.newest.ensures)
