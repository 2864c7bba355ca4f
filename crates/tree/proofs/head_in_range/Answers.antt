-- `tree::head_in_range` meets its contract. Assumes nothing.
use Rattle.std.proofs.Common.{arith, sym, ◌∙◌, le-ltb, lt-ltb}
use Rattle.rules.specs.Outcome.{choose}
use Rattle.rules.specs.Numbers.{number_at, numbers_at}
use Rattle.rules.specs.Records.{all_in_range, in_range, width, fields}
use Rattle.rules.proofs.Outcomes.{chosen_test}
use Rattle.tree.proofs.head_in_range.Goals.{then-number_at-lt2-2, else-number_at-lt2-2, then-number_at-lt2, else-number_at-lt2}
use Rattle.tree.proofs.head_in_range.Goals as goal

pub returns-then-number_at-lt3 : goal.returns-then-number_at-lt3
unfolding all_in_range in_range width fields numbers_at choose
returns-then-number_at-lt3 c =
    elim c.if-number_at-lt2-2.branch [
      | then-number_at-lt2-2 w ↦ elim c.if-number_at-lt2.branch [
        | then-number_at-lt2 v ↦ rw (lt-ltb (number_at c.args.bytes.now 2) 2 (rw c.number_at.ensures at v.if-number_at-lt2.true), sym (rw v.number_at-then-number_at-lt2.ensures at v.value-is) ∙ w.if-number_at-lt2-2.true, sym (rw w.number_at-then-number_at-lt2-2.ensures at w.value-is) ∙ c.if-number_at-lt3.true, c.number_at-then-number_at-lt3.ensures) (chosen_test _)
        | else-number_at-lt2 v ↦ grind arith
      ]
      | else-number_at-lt2-2 w ↦ grind arith
    ]

pub returns-else-number_at-lt3 : goal.returns-else-number_at-lt3
unfolding all_in_range in_range width fields numbers_at choose
returns-else-number_at-lt3 c =
    elim c.if-number_at-lt2.branch [
      | then-number_at-lt2 v ↦ rw (lt-ltb (number_at c.args.bytes.now 2) 2 (rw c.number_at.ensures at v.if-number_at-lt2.true)) (elim c.if-number_at-lt2-2.branch [
        | then-number_at-lt2-2 w ↦ rw (sym (rw v.number_at-then-number_at-lt2.ensures at v.value-is) ∙ w.if-number_at-lt2-2.true, sym (rw w.number_at-then-number_at-lt2-2.ensures at w.value-is) ∙ c.if-number_at-lt3.false) c.if-number_at-lt3.false
        | else-number_at-lt2-2 w ↦ rw (sym (rw v.number_at-then-number_at-lt2.ensures at v.value-is) ∙ w.if-number_at-lt2-2.false) c.if-number_at-lt3.false
      ])
      | else-number_at-lt2 v ↦ rw (le-ltb (number_at c.args.bytes.now 2) 2 (rw c.number_at.ensures at v.if-number_at-lt2.false)) c.if-number_at-lt3.false
    ]
