-- The settlings of three worked cases, computed: the place, how many names are kept, and the rounds of each. Assumes nothing.
use Prim.Native.Nat.{ℕ}
use mathlib.Core.List.{List, [], ◌∷◌, map}
use mathlib.Core.Path.{◌≡◌, refl}
use Rattle.rules.specs.Cases.{Case, two_turned, three, seven}
use Rattle.rules.proofs.Computing.{everything}
use Rattle.claim_rounds.specs.Settlings.{Settling, settled_by, settling, behind, around, settlings, root_settlings, run_settlings}

abbrev pub told : Case → List (ℕ × ℕ × ℕ)
told c = map (λ (s : Settling). (s.place, s.kept, (settled_by s).rounds)) (run_settlings c.lent)

-- local b = a, a = 1; b: the second loop finds that a is used where b is, and then that nothing is left to find
pub two_turned_settlings : told two_turned ≡ (6, 2, 1) ∷ (6, 2, 2) ∷ []
unfolding everything settled_by settling behind around settlings root_settlings run_settlings
two_turned_settlings = refl

-- local x = 1; function(y) x + y: the function's two stand between the local's
pub three_settlings : told three ≡ (6, 1, 1) ∷ (28, 1, 1) ∷ (28, 1, 1) ∷ (6, 1, 1) ∷ []
unfolding everything settled_by settling behind around settlings root_settlings run_settlings
three_settlings = refl

-- function(x, x) x: one name is kept, and the output that is taken back keeps its rounds
pub seven_settlings : told seven ≡ (6, 1, 1) ∷ (6, 1, 1) ∷ []
unfolding everything settled_by settling behind around settlings root_settlings run_settlings
seven_settlings = refl
