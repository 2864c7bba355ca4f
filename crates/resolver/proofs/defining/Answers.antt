-- `defining` answers the frame that the top frame defines in. The loop's invariant: the frames below the next one define where all do. Assumes nothing.
use Rattle.std.proofs.Common.{arith, eqb-true, sym, ◌∙◌}
use borrow.Author.Tests.{eqb-false}
use Rattle.resolver.proofs.Laws.{home_here, home_nowhere, defining_beneath}
use Rattle.resolver.proofs.defining.Goals as goal

pub returns-then-f : goal.returns-then-f
returns-then-f c =
    home_here _ _ _ c.loop-i.invariant _ c.loop-i-test.true (eqb-true _ _ (sym c.frame_at-f.ensures.defining ∙ c.if-f.true)) c.frame_at-f.ensures (c.requires.1 _ (omega arith))

pub loop-i-preserved : goal.loop-i-preserved
loop-i-preserved c = λ count captures. c.loop-i.invariant count captures
    ∙ defining_beneath _ count captures _ c.loop-i-test.true (eqb-false _ _ (sym c.frame_at-f.ensures.defining ∙ c.if-f.false))

pub returns : goal.returns
returns c = home_nowhere _ _ _ c.loop-i.invariant (omega arith)
