-- From what was tested to what is known of the call then, and what a caller learns from the answer. Assumes nothing.
use Prim.Native.Nat.{ℕ, ◌≤◌, ◌<◌}
use mathlib.Core.Bool.{true, false}
use mathlib.Core.List.{List}
use mathlib.Core.Path.{◌≡◌, refl, subst}
use lib.ListN.{length}
use Rattle.rules.specs.Outcome.{refuse}
use Rattle.rules.specs.FirstWalk.{tree_at}
use Rattle.rules.specs.Call as rules
use Rattle.state.specs.Seen.{Buffers}
use Rattle.state.specs.declared.Limits.{Limits}
use Rattle.tree.specs.Seen.{seen, ended}
use Rattle.refusal.specs.Meaning.{number_of}
use Rattle.refusal.specs.declared.Reason.TheVariants.{ShortTable, LongTree}
use Rattle.refusal.specs.declared.Refusal.{Refusal}
use Rattle.std.specs.Prelude.{Result, Ok, Err}
use Rattle.call_root.specs.Answers.{lent}
use Rattle.call_root.proofs.Whole.{tree_there, tree_refused}
use Rattle.call_root.proofs.Entry.{entry_13, entry_14, entry_tree_refused}
use Rattle.call_enter.specs.Answers.{Rooted, Entered}

module _ (s : List ℕ) (b : Buffers) (l : Limits) where
  pub enters_13 : rules.tables_fit (lent s b l) ≡ false → Entered (Err (record { reason = ShortTable; place = 0 })) s b l
  unfolding Entered
  enters_13 e = entry_13 s b l e

  module _ (fit : rules.tables_fit (lent s b l) ≡ true) where
    pub enters_14 : 16777216 < length s → Entered (Err (record { reason = LongTree; place = 0 })) s b l
    unfolding Entered
    enters_14 long = entry_14 s b l fit long

    -- the first walk's answer
    pub enters : length s ≤ 16777216 → (r : Result ℕ Refusal) → seen r ≡ ended (length s) (tree_at s) → Entered r s b l
    unfolding Entered
    enters short (Ok at) e = let t = tree_there s e refl in record { tables_fit = fit; short = short; root = t.tree; there = t.there }
    enters short (Err why) e = entry_tree_refused s b l fit short (tree_refused s e refl)

  module _ {r : Result ℕ Refusal} (entered : Entered r s b l) where
    pub rooted : {at : ℕ} → r ≡ Ok at → Rooted s b l
    unfolding Entered
    rooted e = subst (λ (r : Result ℕ Refusal). Entered r s b l) e entered

    pub not_entered : {why : Refusal} → r ≡ Err why → rules.run (lent s b l) ≡ refuse (number_of why.reason) why.place
    unfolding Entered
    not_entered e = subst (λ (r : Result ℕ Refusal). Entered r s b l) e entered
