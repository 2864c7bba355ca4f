-- `copy_bytes` copies a mark and n numbers. Assumes nothing.
use Rattle.std.proofs.Common.{List, ap, arith, drop, length, take, ℕ, ◌*◌, ◌+◌, ◌∙◌}
use lib.Seq.{sets, length-sets}
use Rattle.step_copy.proofs.Laws.{part_copied, number_more}
use Rattle.step_copy.proofs.copy_bytes.Goals as goal

pub loop-i-init : goal.loop-i-init
loop-i-init c =
    let e = part_copied c.args.out.now c.args.tree.now _ c.args.used c.args.at 2 c.copy_from_slice.ensures.after (omega (arith, c.requires.0)) (omega (arith, c.requires.1)) in
    (omega arith, ap length e ∙ simp length-sets, e)

pub loop-i-preserved : goal.loop-i-preserved
loop-i-preserved c =
    let e = c.copy_four.ensures ∙ ap (λ (l : List ℕ). sets l (c.args.used + (2 + 4 * c.loop-i.i)) (take 4 (drop (c.args.at + (2 + 4 * c.loop-i.i)) c.args.tree.now))) c.loop-i.invariant.2 ∙ number_more c.args.out.now c.args.used c.args.tree.now c.args.at c.loop-i.i (omega (arith, c.requires.1, c.loop-i-test.true)) in
    (omega (arith, c.loop-i-test.true), ap length e ∙ simp length-sets, e)
