-- What is known of a call once it was entered, or refused before anything is analysed. Assumes nothing.
use Rattle.std.specs.Prelude.{ℕ, ◌≤◌, true, List, ◌≡◌, length, Result, Ok, Err}
use Rattle.rules.specs.Tree.{Tree}
use Rattle.rules.specs.FirstWalk.{tree_at}
use Rattle.rules.specs.Outcome.{ok, refuse}
use Rattle.rules.specs.Call as rules
use Rattle.state.specs.Seen.{Buffers}
use Rattle.state.specs.declared.Limits.{Limits}
use Rattle.refusal.specs.Meaning.{number_of}
use Rattle.refusal.specs.declared.Refusal.{Refusal}
use Rattle.call_root.specs.Answers.{lent}

-- neither 13 nor 14, and the first walk accepts the tree
pub record Rooted (tree : List ℕ) (b : Buffers) (l : Limits) : Type 0 where
  pub tables_fit : rules.tables_fit (lent tree b l) ≡ true
  pub short : length tree ≤ 16777216
  pub root : Tree
  pub there : tree_at tree ≡ ok root

-- there is a tree to analyse, or the call is refused so
unfoldable pub Entered : Result ℕ Refusal → List ℕ → Buffers → Limits → Type 0
Entered (Ok end) tree b l = Rooted tree b l
Entered (Err e) tree b l = rules.run (lent tree b l) ≡ refuse (number_of e.reason) e.place
