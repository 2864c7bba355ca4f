-- The worked cases at nesting 200 and 201, computed: every call has the whole answer that its table says. Assumes nothing.
use mathlib.Core.List.{map}
use mathlib.Core.Path.{◌≡◌, refl}
use Rattle.rules.specs.Cases.{answered}
use Rattle.rules.specs.OwnCases.{own_nested}
use Rattle.rules.proofs.Computing.{everything}

pub own_nested_right : map answered own_nested ≡ map (λ c. c.answer) own_nested
unfolding everything
own_nested_right = refl
