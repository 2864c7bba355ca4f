-- `fill_from` stores the value in one place more. Assumes nothing.
use Rattle.std.proofs.Common.{set, ap, ◌∙◌, arith, rules}
use Rattle.bytes_write.proofs.Laws.{filled_more}
use Rattle.bytes_write.proofs.fill_from.Goals as goal

pub loop-i-preserved : goal.loop-i-preserved
loop-i-preserved g c = (
  search rules,
  ap (λ r. set r c.loop-i.i c.args.value) c.loop-i.invariant.1
      ∙ filled_more c.args.row.now c.args.from c.loop-i.i c.args.value (omega arith) (omega arith),
)
