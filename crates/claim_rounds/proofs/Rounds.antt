-- In every accepted run each loop of each frame takes at most n + 1 rounds for n kept names, the last of which changes nothing; the report's rounds
-- are the sum of theirs; and no call's rounds pass the tree's bytes, so they never pass 32 bits. Assumes nothing.
use Prim.Native.Nat.{ℕ, suc, ◌≤◌, ◌<◌}
use native.Mathlib.Omega.{arith}
use mathlib.Core.Bool.{true}
use mathlib.Core.List.{List, [], ◌∷◌, map}
use mathlib.Core.Path.{◌≡◌, refl, sym, ap, ◌∙◌}
use lib.ListN.{length}
use borrow.Author.Tests.{leb-true, eqb-true}
use Rattle.rules.specs.Outcome.{Outcome, ok, refuse, ◌>>=◌}
use Rattle.rules.specs.Numbers.{Name}
use Rattle.rules.specs.Tree.{Tree}
use Rattle.rules.specs.FirstWalk.{any_expression, tree_at}
use Rattle.rules.specs.State.{Limits, AnalysisStack, empty_stack, with_locals, with_frames}
use Rattle.rules.specs.Scoping.{push_local}
use Rattle.rules.specs.Walk.{unnamed, at_root}
use Rattle.rules.specs.Call.{Lent, limits_of, define_externals, open_root, analyze_root, run, report_of, left_by, call}
use Rattle.rules.proofs.After.{After, fine, refused, after_ok, after_weaken, after_bind, after_need, after_any}
use Rattle.rules.proofs.Outcomes.{same_ok}
use Rattle.rules.proofs.ReadRecords.{Every}
use Rattle.law_steady.specs.Steady.{weight}
use Rattle.law_steady.proofs.Steady.{steady}
use Rattle.law_steady.proofs.Weighing.{expr_weighs}
use Rattle.claim_rounds.specs.Settlings.{Settling, Settles, all_rounds, behind, root_settlings, run_settlings, settled_places}
use Rattle.claim_rounds.proofs.Steps.{still_open, still_close}
use Rattle.claim_rounds.proofs.Traced.{Walked, walked_same, walked_still, traced, and_also}
use Rattle.claim_rounds.proofs.Walking.{here, walked}

-- The root

module _ (L : Limits) where
  externals_same : (k : ℕ) (names : List Name) (st : AnalysisStack) → After (λ (st' : AnalysisStack). st'.sink.rounds ≡ st.sink.rounds) (define_externals L k names st)
  unfolding define_externals push_local with_locals
  externals_same k [] st = fine refl
  externals_same k (name ∷ names) st =
      after_bind {P = λ (st' : AnalysisStack). st'.sink.rounds ≡ st.sink.rounds} _ (after_need _ 6 0 _ λ _. fine refl) λ st₁ e.
      after_weaken (externals_same (suc k) names st₁) λ _ others. others ∙ e

  root_same : (n : ℕ) (st : AnalysisStack) → After (λ (st' : AnalysisStack). st'.sink.rounds ≡ st.sink.rounds) (open_root L n st)
  unfolding open_root with_frames
  root_same n st = after_bind _ (still_open L 0 true st) λ st₁ s. fine s.same_rounds

  -- the places, the settlings, and no more rounds than the tree weighs
  root_walked : (t : Tree) → After (λ (st : AnalysisStack). Walked (settled_places t.root) (root_settlings L t) empty_stack st × (st.sink.rounds ≤ weight t.root)) (analyze_root L t)
  unfolding analyze_root root_settlings empty_stack
  root_walked t =
      traced here here (after_weaken (externals_same 0 t.externals empty_stack) λ _ e. (walked_same e, e)) λ st₁ e.
      traced here here (after_weaken (root_same (length t.externals) st₁) λ _ o. (walked_same o, o ∙ e)) λ st₂ o.
      after_bind _ (and_also (walked L t.root unnamed at_root st₂) (steady L t.root unnamed at_root st₂)) λ st₃ w.
      after_weaken (still_close L 0 st₃) λ _ s. (walked_still w.0 s, omega (arith, s.same_rounds, w.1.1.few_rounds, o))

-- The run

-- each round of a tree is paid for by a byte of it
tree_weighs : (s : List ℕ) → After (λ (t : Tree). weight t.root ≤ length s) (tree_at s)
unfolding tree_at
tree_weighs s =
    after_bind _ (after_any _) λ r _. after_need _ 11 0 _ λ _. after_need _ 1 0 _ λ _. after_bind _ (expr_weighs s 200 any_expression _) λ x weighs.
    after_need _ 5 _ _ λ whole. fine (omega (arith, weighs, eqb-true x.1 (length s) whole))

-- a tree was read, and its analysis had these settlings
record Ran (b : Lent) (st : AnalysisStack) : Type 0 where
  tree : Tree
  read : tree_at b.tree ≡ ok tree
  walk : Walked (settled_places tree.root) (run_settlings b) empty_stack st
  few : st.sink.rounds ≤ length b.tree
  short : length b.tree ≤ 16777216

ran : (b : Lent) → After (Ran b) (run b)
unfolding run run_settlings ◌>>=◌ behind
ran b = after_need _ 13 0 _ λ _. after_need _ 14 0 _ λ short. from (tree_at b.tree) refl (leb-true _ _ short)
  where
    from : (o : Outcome Tree) → tree_at b.tree ≡ o → length b.tree ≤ 16777216 → After (Ran b) (o >>= analyze_root (limits_of b))
    from (ok t) e short = after_weaken (root_walked (limits_of b) t) λ st w. record {
      tree = t;
      read = e;
      walk = rw e w.0;
      few = omega (arith, w.1, after_ok (tree_weighs b.tree) e);
      short = short;
    }
    from (refuse number place) e short = refused

-- "In a frame of n kept names each takes at most n + 1 rounds", and its last changes nothing
pub each_frame_settles : (b : Lent) (st : AnalysisStack) → run b ≡ ok st → Every Settles (run_settlings b)
each_frame_settles b st e = (after_ok (ran b) e).walk.all_settle

-- each frame of the tree that defines names has its two, in order, and there are no others
pub every_frame_is_settled : (b : Lent) (st : AnalysisStack) (t : Tree) → run b ≡ ok st → tree_at b.tree ≡ ok t → map (λ (s : Settling). s.place) (run_settlings b) ≡ settled_places t.root
every_frame_is_settled b st t e read =
    let r = after_ok (ran b) e in
    r.walk.at_places ∙ ap (λ (t : Tree). settled_places t.root) (same_ok (sym r.read ∙ read))

-- "The answer's rounds are the sum over all frames"
pub rounds_are_the_sum : (b : Lent) (st : AnalysisStack) → run b ≡ ok st → (call b).report.rounds ≡ all_rounds (run_settlings b)
unfolding call left_by report_of empty_stack
rounds_are_the_sum b st e = ap (λ (o : Outcome AnalysisStack). (report_of o).rounds) e ∙ (after_ok (ran b) e).walk.sum ∙ (omega arith)

-- "Rounds never pass 32 bits"

reported : (most : ℕ) (o : Outcome AnalysisStack) → After (λ (st : AnalysisStack). st.sink.rounds ≤ most) o → (report_of o).rounds ≤ most
unfolding report_of
reported most (ok st) h = after_ok h refl
reported most (refuse number place) h = omega arith

pub rounds_within_bytes : (b : Lent) → (call b).report.rounds ≤ length b.tree
unfolding call left_by
rounds_within_bytes b = reported (length b.tree) (run b) (after_weaken (ran b) λ _ r. r.few)

pub rounds_fit : (b : Lent) → (call b).report.rounds < 4294967296
unfolding call left_by
rounds_fit b =
    let few = reported 16777216 (run b) (after_weaken (ran b) λ _ r. omega (arith, r.few, r.short)) in
    omega (arith, few)
