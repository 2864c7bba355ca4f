-- The worked cases, computed: every call of both tables, but those at the limit of nesting (crates/rules_nested), has the whole answer that its table says. Assumes nothing.
use mathlib.Core.List.{[], ◌∷◌, map}
use mathlib.Core.Path.{◌≡◌, refl}
use Rattle.rules.specs.Cases.{answered, starred, one}
use Rattle.rules.specs.OwnCases.{own}
use Rattle.rules.proofs.Computing.{everything}

pub starred_right : map answered starred ≡ map (λ c. c.answer) starred
unfolding everything
starred_right = refl

-- the first case byte by byte, so that the tables' way to write records is seen once as what it stands for

pub one_tree : one.lent.tree ≡ 74 ∷ 84 ∷ 0 ∷ 0 ∷ 0 ∷ 0 ∷ 76 ∷ 79 ∷ 1 ∷ 0 ∷ 0 ∷ 0 ∷ 66 ∷ 86 ∷ 5 ∷ 0 ∷ 0 ∷ 0 ∷ 9 ∷ 0 ∷ 0 ∷ 0 ∷ 84 ∷ 86 ∷ 3 ∷ 0 ∷ 0 ∷ 0 ∷ 86 ∷ 65 ∷ 5 ∷ 0 ∷ 0 ∷ 0 ∷ 8 ∷ 0 ∷ 0 ∷ 0 ∷ []
unfolding everything
one_tree = refl

pub one_out : one.answer.out ≡ 84 ∷ 86 ∷ 3 ∷ 0 ∷ 0 ∷ 0 ∷ 83 ∷ 72 ∷ 0 ∷ 0 ∷ 0 ∷ 0 ∷ 0 ∷ 0 ∷ 0 ∷ 0 ∷ 66 ∷ 86 ∷ 0 ∷ 0 ∷ 0 ∷ 0 ∷ 76 ∷ 83 ∷ 0 ∷ 0 ∷ 0 ∷ 0 ∷ 83 ∷ 72 ∷ 1 ∷ 0 ∷ 0 ∷ 0 ∷ 0 ∷ 0 ∷ 0 ∷ 0 ∷ 76 ∷ 79 ∷ 1 ∷ 0 ∷ 0 ∷ 0 ∷ 83 ∷ 72 ∷ 0 ∷ 0 ∷ 0 ∷ 0 ∷ 0 ∷ 0 ∷ 0 ∷ 0 ∷ []
unfolding everything
one_out = refl

pub own_right : map answered own ≡ map (λ c. c.answer) own
unfolding everything
own_right = refl
