-- "Prove that any two results allowed by it coincide": what a call leaves, report and buffers alike, is determined by what was lent. Assumes nothing.
use mathlib.Core.Path.{◌≡◌, sym, ◌∙◌}
use Rattle.rules.specs.Call.{Lent, Left, Allows}

pub allowed_coincide : (lent : Lent) (one other : Left) → Allows lent one → Allows lent other → one ≡ other
unfolding Allows
allowed_coincide lent one other p q = p ∙ sym q
