-- Demand 3's statement for one call, as a test that can be computed. Assumes nothing.
use Rattle.std.specs.Prelude.{Bool, true, false, ◌&&◌, List, [], ◌∷◌, eqb}
use Rattle.std.proofs.Math.Option.{Option, none, some}
use Rattle.rules.specs.Outcome.{Outcome, ok, refuse, choose}
use Rattle.rules.specs.Tree.{Tree, Binding, at_record, external}
use Rattle.rules.specs.FirstWalk.{tree_at}
use Rattle.rules.specs.State.{AnalysisStack}
use Rattle.rules.specs.Call.{run}
use Rattle.rules.specs.Cases.{Case}
use Rattle.claim_scope.specs.Scope.{Meant}
use Rattle.claim_reach.specs.Lexical.{lexical_read}
use Rattle.claim_reach.specs.Reach.{reaches}

-- what a case reaches, where it was accepted without an error
unfoldable pub reached_in : Outcome Tree → Outcome AnalysisStack → Option (List Meant)
reached_in (refuse number place) o = none
reached_in (ok t) (refuse number place) = none
reached_in (ok t) (ok st) = choose st.sink.errored (λ _. none) (λ _. reaches t st.sink.out)

unfoldable pub reached : Case → Option (List Meant)
reached c = reached_in (tree_at c.lent.tree) (run c.lent)

unfoldable pub same_binding : Option Binding → Option Binding → Bool
same_binding none none = true
same_binding none (some b) = false
same_binding (some a) none = false
same_binding (some (at_record p)) (some (at_record q)) = eqb p q
same_binding (some (at_record p)) (some (external k)) = false
same_binding (some (external k)) (some (at_record p)) = false
same_binding (some (external k)) (some (external n)) = eqb k n

unfoldable pub same_meants : List Meant → List Meant → Bool
same_meants [] [] = true
same_meants [] (n ∷ ns) = false
same_meants (m ∷ ms) [] = false
same_meants (m ∷ ms) (n ∷ ns) = eqb m.0 n.0 && same_binding m.1 n.1 && same_meants ms ns

unfoldable pub is_same : Option (List Meant) → List Meant → Bool
is_same none ns = false
is_same (some ms) ns = same_meants ms ns

-- a refused call and one with an error pass
unfoldable pub agrees_in : Outcome Tree → Outcome AnalysisStack → Bool
agrees_in (refuse number place) o = true
agrees_in (ok t) (refuse number place) = true
agrees_in (ok t) (ok st) = choose st.sink.errored (λ _. true) (λ _. is_same (reaches t st.sink.out) (lexical_read t))

unfoldable pub agrees : Case → Bool
agrees c = agrees_in (tree_at c.lent.tree) (run c.lent)

unfoldable pub all_agree : List Case → Bool
all_agree [] = true
all_agree (c ∷ cs) = choose (agrees c) (λ _. all_agree cs) (λ _. false)
