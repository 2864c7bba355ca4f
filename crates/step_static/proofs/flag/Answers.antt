-- `step_static::flag` meets its contract: it sets one bit. Assumes nothing.
use Rattle.step_static.proofs.Flags.{now_flagged}
use Rattle.step_static.proofs.flag.Goals as goal

pub returns : goal.returns
returns c = now_flagged c.args.met.now c.word_of.result c.args.name c.told-met c.word_of.ensures.0
