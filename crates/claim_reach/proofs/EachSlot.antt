-- Demand 3: of every tree accepted without an error, each slot reaches the binding that lexical scoping gives. Assumes nothing.
use mathlib.Core.Path.{◌≡◌}
use Rattle.rules.specs.Outcome.{ok, ◌>>=◌}
use Rattle.rules.specs.Tree.{Tree}
use Rattle.rules.specs.FirstWalk.{tree_at}
use Rattle.rules.specs.State.{AnalysisStack}
use Rattle.rules.specs.Call.{Lent, limits_of, analyze_root, run}
use Rattle.rules.proofs.After.{after_ok, after_need, after_self}
use Rattle.rules.proofs.Accepted.{accepted_fits}
use Rattle.claim_reach.specs.Reach.{Reaches}
use Rattle.claim_reach.proofs.Fitting.{ChildKeeps}
use Rattle.claim_reach.proofs.FromBytes.{reaches_bytes}
use Rattle.claim_reach.proofs.Root.{root_kept}
use Rattle.claim_reach.proofs.Everywhere.{walks}

-- what was accepted was analysed
analysed : (b : Lent) (t : Tree) (st : AnalysisStack) → tree_at b.tree ≡ ok t → run b ≡ ok st → analyze_root (limits_of b) t ≡ ok st
unfolding run ◌>>=◌
analysed b t st read e = after_ok {P = λ (st : AnalysisStack). analyze_root (limits_of b) t ≡ ok st} (after_need _ 13 0 _ λ _. after_need _ 14 0 _ λ _. rw read (after_self (analyze_root (limits_of b) t))) e

pub each_slot_reaches_its_binding : Reaches
unfolding Reaches ChildKeeps
each_slot_reaches_its_binding b t st bytes read e calm =
    let fits = accepted_fits b.tree t bytes read in
    let k = after_ok (root_kept (limits_of b) t fits.few (walks (limits_of b) t.root _ _ _ tt fits.root_fits)) (analysed b t st read e) calm in
    reaches_bytes t st.sink.out k.written _ k.out k.fit k.walked
