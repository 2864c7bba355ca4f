-- `constants` answers whether n constants stand one after the other. Assumes nothing.
use Rattle.bytes_records.proofs.Turns.{constants_stop, constants_next, constants_end}
use Rattle.bytes_records.proofs.constants.Goals as goal

pub returns-then-not-constant : goal.returns-then-not-constant
returns-then-not-constant c =
    constants_stop c.args.tree.now c.loop.invariant c.loop-test.true c.constant.ensures c.if-not-constant.true

pub loop-preserved : goal.loop-preserved
loop-preserved c = constants_next c.args.tree.now c.loop.invariant c.loop-test.true c.constant.ensures c.if-not-constant.false

pub returns : goal.returns
returns c = constants_end c.args.tree.now c.loop.invariant c.loop-test.false
