-- `copy_values` copies the values of n constants. The invariant: the first i are copied, and the length is as it was. Assumes nothing.
use Rattle.std.proofs.Common.{List, ap, arith, drop, length, refl, take, ℕ, ◌*◌, ◌+◌, ◌∙◌}
use lib.Seq.{sets, length-sets}
use Rattle.rules.specs.Numbers.{numbers_bytes}
use Rattle.law_runs.specs.Steps.{values_from}
use Rattle.step_copy.proofs.Laws.{value_more}
use Rattle.step_copy.proofs.copy_values.Goals as goal

pub loop-i-init : goal.loop-i-init
unfolding values_from numbers_bytes
loop-i-init c = (omega arith, refl, refl)

pub loop-i-preserved : goal.loop-i-preserved
loop-i-preserved c =
    let e = c.copy_four.ensures ∙ ap (λ (l : List ℕ). sets l (c.args.used + 4 * c.loop-i.i) (take 4 (drop (c.args.at + 6 * c.loop-i.i + 2) c.args.tree.now))) c.loop-i.invariant.2 ∙ value_more c.args.out.now c.args.used c.args.tree.now (λ (k : ℕ). omega (arith, c.type_inv.tree k)) c.args.at c.loop-i.i c.args.n (omega arith) c.requires.1 in
    (omega arith, ap length e ∙ simp length-sets, e)
