-- `add_capture` appends a capture to the log, or refuses. Assumes nothing.
use Rattle.std.proofs.Common.{arith, add-one, ap}
use Rattle.rules.specs.Frames as rules
use Rattle.table_captures.specs.Meaning.{slot, logged}
use Rattle.resolver.proofs.add_capture.Goals as goal

pub returns : goal.returns
unfolding slot logged
returns c = (ap rules.capture_slot c.in-Ok.ensures.1, omega (arith, c.in-Ok.ensures.0), c.if-most-count.false, add-one _, c.put_capture.ensures.small, c.put_capture.ensures.at)
