-- `keep_references` keeps what was noted, within the limit, and clears the notes. The invariant: what is left to keep and to clear gives what the whole gives. Assumes nothing.
use Rattle.table_references.proofs.Keeping.{keeping_passed, four_passed, keeping_kept, keeping_refused, keeping_ends}
use Rattle.table_references.proofs.keep_references.Goals as goal

pub loop-next-preserved-then-none_noted : goal.loop-next-preserved-then-none_noted
loop-next-preserved-then-none_noted c = four_passed c.loop-next.invariant (c.none_noted.ensures c.if-none_noted.true)

pub returns-then-max_references-count : goal.returns-then-max_references-count
returns-then-max_references-count c =
    keeping_refused c.loop-next.invariant c.loop-next-test.true c.if-locals-k-ne0.true c.if-max_references-count.true

pub loop-next-preserved-then-locals-k-ne0 : goal.loop-next-preserved-then-locals-k-ne0
loop-next-preserved-then-locals-k-ne0 c =
    keeping_kept c.loop-next.invariant c.loop-next-test.true c.if-locals-k-ne0.true c.put_reference.ensures c.if-max_references-count.false

pub loop-next-preserved : goal.loop-next-preserved
loop-next-preserved c = keeping_passed c.loop-next.invariant c.loop-next-test.true c.if-locals-k-ne0.false

pub returns : goal.returns
returns c = keeping_ends c.loop-next.invariant c.loop-next-test.false
