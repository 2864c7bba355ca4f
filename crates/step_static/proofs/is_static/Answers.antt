-- `step_static::is_static` meets its contract. Assumes nothing.
use Rattle.std.proofs.Common.{arith, rules}
use Rattle.step_static.proofs.Static.{static_begin, static_computed, static_repeated, static_next, static_end, head_fits, above_begin, above_next, flagged_begin, flagged_next}
use Rattle.step_static.proofs.is_static.Goals as goal

pub loop-i-init : goal.loop-i-init
loop-i-init c =
    (static_begin c.args.tree.now c.args.at _, above_begin c.args.tree.now c.args.at _, flagged_begin c.args.tree.now c.args.at)

pub overflow_add-p : goal.overflow_add-p
overflow_add-p c =
    let fits· = head_fits c.args.tree.now c.args.at c.loop-i.invariant.0 c.loop-i-test.true c.requires in search rules

pub overflow_add-p-in-loop-i : goal.overflow_add-p-in-loop-i
overflow_add-p-in-loop-i c =
    let fits· = head_fits c.args.tree.now c.args.at c.loop-i.invariant.0 c.loop-i-test.true c.requires in search rules

pub returns-then-number_at-ne0 : goal.returns-then-number_at-ne0
returns-then-number_at-ne0 c =
    static_computed c.args.tree.now c.args.at c.loop-i.invariant.0 c.loop-i-test.true c.number_at.ensures c.if-number_at-ne0.true

pub overflow_add-p-in-loop-i-2 : goal.overflow_add-p-in-loop-i-2
overflow_add-p-in-loop-i-2 c =
    let fits· = head_fits c.args.tree.now c.args.at c.loop-i.invariant.0 c.loop-i-test.true c.requires in search rules

pub is_met-requires : goal.is_met-requires
is_met-requires c =
    (omega (arith, head_fits c.args.tree.now c.args.at c.loop-i.invariant.0 c.loop-i-test.true c.requires), c.loop-i.invariant.1, c.loop-i.invariant.2)

pub returns-then-is_met : goal.returns-then-is_met
returns-then-is_met c =
    static_repeated c.args.tree.now c.args.at c.loop-i.invariant.0 c.loop-i-test.true c.number_at.ensures c.if-number_at-ne0.false c.number_at-name.ensures c.is_met.ensures c.if-is_met.true

pub loop-i-preserved : goal.loop-i-preserved
loop-i-preserved c = (
  static_next c.args.tree.now c.args.at c.loop-i.invariant.0 c.loop-i-test.true c.number_at.ensures c.if-number_at-ne0.false c.number_at-name.ensures c.is_met.ensures c.if-is_met.false,
  above_next c.args.tree.now c.args.at c.loop-i.invariant.1 c.number_at-name.ensures (omega arith, omega arith),
  flagged_next c.args.tree.now c.args.at c.loop-i.invariant.2 c.number_at-name.ensures c.flag.ensures,
)

pub returns : goal.returns
returns c = static_end c.args.tree.now c.args.at c.loop-i.invariant.0 (search rules)
