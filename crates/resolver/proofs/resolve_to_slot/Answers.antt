-- `resolve_to_slot` is the definition's, since the log's length is what the frames have captured. Assumes nothing.
use Rattle.resolver.proofs.Resolving.{resolves_held, resolves_to_slot}
use Rattle.resolver.proofs.resolve_to_slot.Goals as goal

pub returns-in-Some : goal.returns-in-Some
returns-in-Some c = resolves_to_slot _ _ _ _ _ _ _ c.requires.0 _ (resolves_held _ _ _ _ _ _ c.requires.0.below _ c.in-Some.ensures)

pub returns-in-None : goal.returns-in-None
returns-in-None c = resolves_to_slot _ _ _ _ _ _ _ c.requires.0 _ c.resolve_at.ensures
