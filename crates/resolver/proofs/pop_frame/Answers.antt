-- `pop_frame` takes the top frame's captures out of the log. The loop's invariant is `Closing`. Assumes nothing.
use Rattle.std.proofs.Common.{arith, sym, ◌∙◌}
use Rattle.resolver.proofs.Closing.{closing_begin, closing_skip, next_small, closing_move, closing_end}
use Rattle.resolver.proofs.pop_frame.Goals as goal
use Rattle.resolver.proofs.pop_frame.Goals.{then-owner_at-top, else-owner_at-top}

pub loop-i-init : goal.loop-i-init
loop-i-init c = closing_begin _ _ _ _ c.requires.0 c.requires.1 _ c.frame_at-from.ensures.from

pub capture_at-requires : goal.capture_at-requires
capture_at-requires c = (
  omega (arith, c.loop-i.invariant.long, c.loop-i-test.true, c.requires.0.below.captures_fit),
  next_small _ _ _ _ c.requires.0 c.requires.1 _ c.frame_at-from.ensures.from _ _ _ c.loop-i.invariant c.loop-i-test.true,
)

pub loop-i-preserved : goal.loop-i-preserved
loop-i-preserved c = elim c.if-owner_at-top.branch [
  | then-owner_at-top w ↦ rw (w.captures-is, w.to-is) (closing_move _ _ _ _ c.requires.0 c.requires.1 _ c.frame_at-from.ensures.from _ _ _ c.loop-i.invariant c.loop-i-test.true (λ e. w.if-owner_at-top.true (c.owner_at.ensures ∙ e)) _
      _ w.capture_at.ensures w.put_capture.ensures.at)
  | else-owner_at-top w ↦ rw (w.captures-is, w.to-is) (closing_skip _ _ _ _ c.requires.0 c.requires.1 _ c.frame_at-from.ensures.from _ _ _ c.loop-i.invariant c.loop-i-test.true (sym c.owner_at.ensures ∙ w.if-owner_at-top.false))
]

pub returns : goal.returns
returns c =
    closing_end _ _ _ _ c.requires.0 c.requires.1 _ c.frame_at-from.ensures.from _ _ _ c.loop-i.invariant (omega (arith, c.loop-i.invariant.within, c.loop-i-test.false))
