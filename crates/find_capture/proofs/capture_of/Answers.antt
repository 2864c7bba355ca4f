-- `capture_of` finds an id among the owner's captures. The loop's invariant: it is not among those of the entries passed, which are k. Assumes nothing.
use Rattle.std.proofs.Common.{arith, sym, ◌∙◌}
use Rattle.find_capture.proofs.Laws.{captures_few, passed_none, passed_other, passed_mine, passed_hit, searched_hit, passed_all}
use Rattle.find_capture.proofs.capture_of.Goals as goal
use Rattle.find_capture.proofs.capture_of.Goals.{then-owner_at-owner+else-target-id, else-owner_at-owner}

pub loop-i-init : goal.loop-i-init
loop-i-init c = passed_none _ _ _ _ c.requires.2

pub overflow_cast-result : goal.overflow_cast-result
overflow_cast-result c =
    omega (
      arith,
      c.requires.3,
      (passed_hit _ _ _ _ _ _ c.loop-i.invariant c.loop-i-test.true (sym c.owner_at.ensures ∙ c.if-owner_at-owner.true)
          (sym c.if-target-id.true ∙ c.target_at-target.ensures)).1,
    )

pub returns-then-target-id : goal.returns-then-target-id
returns-then-target-id c =
    searched_hit _ _ _ _ _ (passed_hit _ _ _ _ _ _ c.loop-i.invariant c.loop-i-test.true (sym c.owner_at.ensures ∙ c.if-owner_at-owner.true)
    (sym c.if-target-id.true ∙ c.target_at-target.ensures))

pub overflow_add-k : goal.overflow_add-k
overflow_add-k c = omega (arith, c.loop-i.invariant.counted, captures_few c.args.owner c.loop-i.i c.args.captures.now)

pub loop-i-preserved : goal.loop-i-preserved
loop-i-preserved c = elim c.if-owner_at-owner.branch [
  | then-owner_at-owner+else-target-id w ↦ rw w.k-is (passed_mine _ _ _ _ _ c.loop-i.invariant (sym c.owner_at.ensures ∙ w.if-owner_at-owner.true) (λ e. w.if-target-id.false (w.target_at-target.ensures ∙ e)))
  | else-owner_at-owner w ↦ rw w.k-is (passed_other _ _ _ _ _ c.loop-i.invariant (λ e. w.if-owner_at-owner.false (c.owner_at.ensures ∙ e)))
]

pub returns : goal.returns
returns c = passed_all _ _ _ _ _ _ c.loop-i.invariant (omega arith)
