-- `resolve_at` is the definition's resolving in the top of the first n frames. The measure is n. Assumes nothing.
use Rattle.resolver.proofs.+resolve_at.Given as goal

abbrev pub decreases-resolve_at : goal.decreases-resolve_at
decreases-resolve_at l = l.n
