-- `step_static::is_repeated` meets its contract. Assumes nothing.
use Rattle.std.proofs.Common.{rules}
use Rattle.step_static.proofs.Static.{among_begin, among_found, among_next, among_end}
use Rattle.step_static.proofs.is_repeated.Goals as goal

pub loop-i-init : goal.loop-i-init
loop-i-init c = among_begin c.args.tree.now c.args.at _ _

pub returns-then-number_at-name : goal.returns-then-number_at-name
returns-then-number_at-name c =
    among_found c.args.tree.now c.args.at c.loop-i.invariant c.loop-i-test.true c.number_at.ensures c.if-number_at-name.true

pub loop-i-preserved : goal.loop-i-preserved
loop-i-preserved c =
    among_next c.args.tree.now c.args.at c.loop-i.invariant c.loop-i-test.true c.number_at.ensures c.if-number_at-name.false

pub returns : goal.returns
returns c = among_end c.args.tree.now c.args.at c.loop-i.invariant (search rules)
