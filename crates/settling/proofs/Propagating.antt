-- Laws of one reference in both loops. Assumes nothing.
use Prim.Native.Nat.{ℕ, ◌+◌, ◌*◌, ◌≤◌, ◌<◌}
use mathlib.Core.Bool.{Bool, true, false, not}
use mathlib.Core.List.{List, [], ◌∷◌}
use mathlib.Core.Path.{◌≡◌, refl, sym, ap, ◌∙◌}
use native.Mathlib.Omega.{arith}
use lib.Dec.{ltb}
use lib.ListN.{length, get_or, set, length-set}
use borrow.Author.Tests.{lt-ltb, le-ltb}
use Rattle.rules.specs.Outcome.{choose}
use Rattle.rules.specs.Depths.{AnalysisResult, taint_by, depend_on_local, same_result}
use Rattle.rules.specs.Locals.{LocalDefinition, local_at, with_analysis, with_used_at_depth}
use Rattle.rules.specs.Settling.{Round, propagate_analysis, propagate_use}
use Rattle.table_rows.specs.Rows.{row}
use Rattle.table_rows.proofs.Laws.{row_at, row_set, row_beside, length_row}
use Rattle.table_locals.specs.Meaning.{local_of_row, locals_of}
use Rattle.table_locals.specs.Tables.{PutLocal}
use Rattle.table_locals.proofs.Laws.{locals_at, local_stored}
use Rattle.table_references.specs.Meaning.{reference}
use Rattle.settling.specs.Meaning.{round, Propagates}

-- The analysis

-- u and w are the user and the used one as they were read
pub analysis_propagated : {before after : List ℕ} {user used : ℕ} {u w stored : LocalDefinition} {tainted analysis : AnalysisResult} {same : Bool}
    → ((n : ℕ) → user < n → u ≡ local_at (locals_of n before) user) → ((n : ℕ) → used < n → w ≡ local_at (locals_of n before) used)
    → tainted ≡ taint_by u.analysis w.analysis → analysis ≡ depend_on_local w.defined_at_depth tainted
    → stored ≡ with_analysis analysis u → PutLocal before after user stored → same ≡ same_result analysis u.analysis
    → Propagates propagate_analysis before after user used (not same)
unfolding propagate_analysis
analysis_propagated user_read used_read is_tainted is_analysis is_stored put is_same = record {
  same = λ n user_below used_below. rw (put.held n user_below, is_same, is_stored, is_analysis, is_tainted, user_read n user_below, used_read n used_below);
}

-- The use

-- an entry with another number for it
row_with : (r : List ℕ) (depth : ℕ) → 1 < length r → local_of_row (set r 1 depth) ≡ with_used_at_depth depth (local_of_row r)
unfolding local_of_row with_used_at_depth
row_with [] depth h = absurd (omega arith)
row_with (a ∷ []) depth h = absurd (omega arith)
row_with (a ∷ b ∷ r) depth h = refl

module _ (t : List ℕ) where
  -- the number of an entry that holds it
  abbrev used_at_depth_of : ℕ → ℕ
  used_at_depth_of k = get_or t (16 * k + 1) 0

  used_at_depth_read : (n k : ℕ) → k < n → (local_at (locals_of n t) k).used_at_depth ≡ used_at_depth_of k
  unfolding local_of_row
  used_at_depth_read n k h = ap (λ l. l.used_at_depth) (locals_at n k t h) ∙ row_at k 1 t (omega arith)

  -- the table with another number there
  module _ (k depth : ℕ) (inside : 16 * k + 16 ≤ length t) where
    abbrev lowered : List ℕ
    lowered = set t (16 * k + 1) depth

    local_lowered : local_of_row (row k lowered) ≡ with_used_at_depth depth (local_of_row (row k t))
    local_lowered = ap local_of_row (row_set k 1 depth t (omega arith)) ∙ row_with (row k t) depth (omega (arith, length_row k t inside))

    use_stored : PutLocal t lowered k (with_used_at_depth depth (local_of_row (row k t)))
    use_stored = local_stored k t lowered (λ i differs. row_beside i k 1 depth t (omega arith) differs) (with_used_at_depth depth (local_of_row (row k t))) (length-set t (16 * k + 1) depth) local_lowered

  module _ (user used : ℕ) where
    -- the choice for the depth at which the user is used, the used one and its depth
    abbrev choice : (n at : ℕ) → LocalDefinition → (depth : ℕ) → Round
    choice n at l depth = choose (ltb at depth) (λ _. round (set (locals_of n t) used (with_used_at_depth at l)) true) (λ _. round (locals_of n t) false)

    chosen : (n : ℕ) → user < n → used < n
        → propagate_use (round (locals_of n t) false) (reference user used) ≡ choice n (used_at_depth_of user) (local_of_row (row used t)) (used_at_depth_of used)
    unfolding propagate_use
    chosen n user_below used_below =
        let l = local_at (locals_of n t) used in
        ap (λ (at : ℕ). choice n at l l.used_at_depth) (used_at_depth_read n user user_below)
        ∙ ap (choice n (used_at_depth_of user) l) (used_at_depth_read n used used_below)
        ∙ ap (λ (m : LocalDefinition). choice n (used_at_depth_of user) m (used_at_depth_of used)) (locals_at n used t used_below)

    pub use_lowered : 16 * used + 16 ≤ length t → used_at_depth_of user < used_at_depth_of used → Propagates propagate_use t (set t (16 * used + 1) (used_at_depth_of user)) user used true
    unfolding choose
    use_lowered inside lower = record {
      same = λ n user_below used_below.
          sym (chosen n user_below used_below ∙ rw (lt-ltb (used_at_depth_of user) (used_at_depth_of used) lower, (use_stored used (used_at_depth_of user) inside).held n used_below));
    }

    pub use_stays : used_at_depth_of used ≤ used_at_depth_of user → Propagates propagate_use t t user used false
    unfolding choose
    use_stays not_lower = record { same = λ n user_below used_below. sym (chosen n user_below used_below ∙ rw (le-ltb (used_at_depth_of user) (used_at_depth_of used) not_lower)) }
