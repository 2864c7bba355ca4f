-- `newest` finds the newest local with a name. The invariant: the newest of those that are left is the newest of all. Assumes nothing.
use Rattle.std.proofs.Common.{arith, sym, ◌∙◌, ◌≡◌}
use Rattle.rules.specs.Locals.{newest}
use Rattle.find_name.specs.Answers.{found}
use Rattle.find_name.proofs.Finding.{passed_without_name, passed_other_name, found_here}
use Rattle.find_name.proofs.newest.Goals as goal
use Rattle.find_name.proofs.newest.Goals.{else-locals-at-via-then-locals-at+else-locals-at-ne0, else-locals-at-via-else-locals-at}

pub returns-then-locals-at-ne0 : goal.returns-then-locals-at-ne0
unfolding found
returns-then-locals-at-ne0 c =
    λ total h. sym (found_here c.loop-k.invariant c.loop-k-test.true c.if-locals-at-ne0.true c.if-locals-at.true total h)

pub loop-k-preserved : goal.loop-k-preserved
loop-k-preserved c = elim c.else-locals-at.branch [
  | else-locals-at-via-then-locals-at+else-locals-at-ne0 w ↦ passed_without_name c.loop-k.invariant c.loop-k-test.true w.if-locals-at-ne0.false
  | else-locals-at-via-else-locals-at w ↦ passed_other_name c.loop-k.invariant c.loop-k-test.true w.if-locals-at.false
]

pub returns : goal.returns
unfolding found newest
returns c =
    λ total h.
    let none_left : c.loop-k.k ≡ 0 = omega arith in
    sym (c.loop-k.invariant.same total h ∙ rw none_left)
