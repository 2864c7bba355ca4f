-- `put_numbers` stores all numbers. Assumes nothing.
use Rattle.std.proofs.Common.{◌+◌, ◌*◌, List, ℕ, length, get_or, refl, ap, ◌∙◌, arith}
use Rattle.std.proofs.Math.Seq.{length-sets}
use Rattle.std.proofs.lemmas.List.Edits.{sets}
use Rattle.rules.specs.Numbers.{number_bytes, numbers_bytes}
use Rattle.bytes_write.proofs.Laws.{numbers_more}
use Rattle.bytes_write.proofs.put_numbers.Goals as goal

pub loop-i-init : goal.loop-i-init
unfolding numbers_bytes
loop-i-init c = (refl, refl)

pub loop-i-preserved : goal.loop-i-preserved
loop-i-preserved c =
    let e = c.put_number.ensures
    ∙ ap (λ (l : List ℕ). sets l (c.args.at + 4 * c.loop-i.i) (number_bytes (get_or c.args.ns.now c.loop-i.i 0))) c.loop-i.invariant.1
    ∙ numbers_more c.args.out.now c.args.at c.args.ns.now c.loop-i.i (omega arith) in
    (ap length e ∙ simp length-sets, e)
