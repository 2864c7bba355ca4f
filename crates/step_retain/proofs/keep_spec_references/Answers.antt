-- `keep_spec_references` keeps what was noted in the frame on top, or refuses with 17. Assumes nothing.
use Rattle.step_retain.proofs.Keeping.{references_kept, no_room_for_references}
use Rattle.step_locals.proofs.Finding.{first_within}
use Rattle.step_retain.proofs.keep_spec_references.Goals as goal

pub returns : goal.returns
returns c =
    references_kept _ _ _ _ _ _ _ _ _ _ c.first_in_frame-first.ensures (first_within c.args.frames.now c.args.st _ c.first_in_frame-first.ensures c.requires.first_there) _ c.keep_references-kept.auto.locals c.keep_references-kept.auto.references (rw c.in-Some.is at c.keep_references-kept.ensures)

pub returns-in_default : goal.returns-in_default
returns-in_default c =
    rw c.at.ensures
    (no_room_for_references _ _ _ _ _ _ _ _ _ _ c.first_in_frame-first.ensures (first_within c.args.frames.now c.args.st _ c.first_in_frame-first.ensures c.requires.first_there) (rw c.in_default.is at c.keep_references-kept.ensures))
