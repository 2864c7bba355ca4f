-- `define_new` is `define_local` where the name isn't taken: 11, then 6. Assumes nothing.
use Rattle.std.proofs.Common.{arith}
use Rattle.value_local.specs.Meaning.{binding_of, name_of}
use Rattle.step_locals.proofs.Defining.{frame_full, new_defined}
use Rattle.step_locals.proofs.define_new.Goals as goal

pub returns-then-top-ge65535 : goal.returns-then-top-ge65535
returns-then-top-ge65535 c = frame_full c.requires.2 (omega (arith, c.frame_at-top.ensures.locals, c.if-top-ge65535.true))

pub returns : goal.returns
unfolding binding_of name_of
returns c =
    new_defined c.push_in_frame.ensures _ _ _ c.requires.2 (omega (arith, c.frame_at-top.ensures.locals, c.if-top-ge65535.false)) c.new-l.ensures
