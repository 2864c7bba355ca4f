-- `tree::in_range` meets its contract. Each arm computes by its mark; a mark of no arm is one for which the last answer is right. Assumes nothing.
use Rattle.std.proofs.Common.{arith, refl, true, ◌≡◌}
use Rattle.rules.specs.Outcome.{choose}
use Rattle.rules.specs.Numbers.{Mark, code, numbers_at}
use Rattle.bytes_records.specs.Marks.{mark_of, find_mark, marks}
use Rattle.rules.specs.Records.{all_in_range, in_range, numbers_of, widths, width, fields}
use Rattle.bytes_records.proofs.Laws.{mark_all, all_none, ◌also◌}
use Rattle.rules.proofs.Outcomes.{chosen_test}
use Rattle.tree.proofs.in_range.Goals as goal

pub returns-in-18756 : goal.returns-in-18756
unfolding mark_of find_mark marks choose code all_in_range in_range numbers_of widths width fields numbers_at
returns-in-18756 c =
    let key· = c.in-18756.is in
    rw (key·, c.number_at.ensures) (chosen_test _)

pub returns-in-16723 : goal.returns-in-16723
unfolding mark_of find_mark marks choose code all_in_range in_range numbers_of widths width fields numbers_at
returns-in-16723 c =
    let key· = c.in-16723.is in
    rw (key·, c.number_at-in-16723.ensures) (chosen_test _)

pub returns-in-18765 : goal.returns-in-18765
unfolding mark_of find_mark marks choose code all_in_range in_range numbers_of widths width fields numbers_at
returns-in-18765 c =
    let key· = c.in-18765.is in
    rw (key·, c.number_at-in-18765.ensures) (chosen_test _)

pub returns-in-16720 : goal.returns-in-16720
unfolding mark_of find_mark marks choose code all_in_range in_range numbers_of widths width fields numbers_at
returns-in-16720 c =
    let key· = c.in-16720.is in
    rw (key·, c.number_at-in-16720.ensures) (chosen_test _)

pub returns-in-18758 : goal.returns-in-18758
unfolding mark_of find_mark marks choose code all_in_range in_range numbers_of widths width fields numbers_at
returns-in-18758 c =
    let key· = c.in-18758.is in
    rw (key·, c.number_at-in-18758.ensures) (chosen_test _)

pub returns-in-21315 : goal.returns-in-21315
unfolding mark_of find_mark marks choose code all_in_range in_range numbers_of widths width fields numbers_at
returns-in-21315 c =
    let key· = c.in-21315.is in
    rw (key·, c.number_at-in-21315.ensures) (chosen_test _)

pub returns-in-20545 : goal.returns-in-20545
unfolding mark_of find_mark marks choose code all_in_range in_range numbers_of widths width fields numbers_at
returns-in-20545 c =
    let key· = c.in-20545.is in
    rw (key·, c.number_at-in-20545.ensures) (chosen_test _)

pub returns-in-16724 : goal.returns-in-16724
unfolding mark_of find_mark marks choose code all_in_range in_range numbers_of widths width fields numbers_at
returns-in-16724 c =
    let key· = c.in-16724.is in
    rw (key·, c.number_at-in-16724.ensures) (chosen_test _)

pub returns-in-17992 : goal.returns-in-17992
unfolding mark_of find_mark marks choose code all_in_range in_range numbers_of widths width fields numbers_at
returns-in-17992 c =
    let key· = c.in-17992.is in
    rw (key·, c.head_in_range.ensures)

pub returns-in_default : goal.returns-in_default
unfolding mark_of find_mark marks choose code all_in_range in_range numbers_of widths width fields numbers_at
returns-in_default c =
    mark_all (λ (m : Mark). true ≡ all_in_range (fields m) (numbers_at c.args.bytes.now (numbers_of m) 2)) c.args.mark ((λ e. refl) also (λ e. absurd (omega arith)) also (λ e. refl) also (λ e. refl) also (λ e. refl) also (λ e. refl) also (λ e. refl) also (λ e. refl) also (λ e. absurd (omega arith)) also (λ e. refl) also (λ e. refl) also (λ e. absurd (omega arith)) also (λ e. absurd (omega arith)) also (λ e. refl) also (λ e. refl) also (λ e. absurd (omega arith)) also (λ e. absurd (omega arith)) also (λ e. refl) also (λ e. refl) also (λ e. refl) also (λ e. absurd (omega arith)) also (λ e. absurd (omega arith)) also (λ e. absurd (omega arith)) also (λ e. refl) also (λ e. refl) also (λ e. refl) also (λ e. refl) also (λ e. refl) also (λ e. refl) also (λ e. refl) also (λ e. refl) also (λ e. refl) also (λ e. refl) also (λ e. refl) also all_none) refl
