-- The errors of the worked cases, computed from their trees alone: they are those in the answers' diagnostics. Assumes nothing.
use mathlib.Core.List.{List, [], map}
use mathlib.Core.Path.{◌≡◌, refl}
use lib.Dec.{eqb}
use Rattle.rules.specs.Outcome.{Outcome, ok, refuse, choose}
use Rattle.rules.specs.Tree.{Tree}
use Rattle.rules.specs.FirstWalk.{tree_at}
use Rattle.rules.specs.Cases.{Case, starred}
use Rattle.rules.specs.OwnCases.{own}
use Rattle.rules.proofs.Computing.{everything}
use Rattle.claim_scope.specs.Scope.{meaning, identity_means, bind_names, param_names, external_names, under, in_object}
use Rattle.claim_scope.specs.StaticCheck.{Found, outside_object, not_bound, not_literal, twice_bound, twice_named, errors, root_scope, errors_of, found_in, said_before, errors_from, errors_in}

unfoldable pub errors_read : Outcome Tree → List Found
errors_read (ok t) = errors_of t
errors_read (refuse number place) = []

-- of the accepted ones
unfoldable pub from_tree : Case → List Found
from_tree c = choose (eqb c.answer.report.number 0) (λ _. errors_read (tree_at c.lent.tree)) (λ _. [])

unfoldable pub from_answer : Case → List Found
from_answer c = choose (eqb c.answer.report.number 0) (λ _. errors_in c.answer.diagnostics) (λ _. [])

pub starred_errors : map from_tree starred ≡ map from_answer starred
unfolding everything errors_read from_tree from_answer meaning identity_means bind_names param_names external_names under in_object outside_object not_bound not_literal twice_bound twice_named errors root_scope errors_of found_in said_before errors_from errors_in
starred_errors = refl

pub own_errors : map from_tree own ≡ map from_answer own
unfolding everything errors_read from_tree from_answer meaning identity_means bind_names param_names external_names under in_object outside_object not_bound not_literal twice_bound twice_named errors root_scope errors_of found_in said_before errors_from errors_in
own_errors = refl
