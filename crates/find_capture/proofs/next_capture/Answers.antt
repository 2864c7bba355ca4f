-- `next_capture` finds the owner's next capture: none of the entries before it is the owner's. Assumes nothing.
use Rattle.std.proofs.Common.{rules, tests, ◌≡◌}
use Rattle.std.proofs.lemmas.Iterator.{first_from_Range}
use Rattle.table_captures.specs.Meaning.{logged_at}
use Rattle.find_capture.proofs.Laws.{next_follows}
use Rattle.find_capture.proofs.next_capture.Goals as goal

pub returns : goal.returns
returns c =
    let found = first_from_Range _ _ _ _ (λ i. (logged_at c.args.captures.now i).owner ≡ c.args.owner) (λ i. (logged_at c.args.captures.now i).owner ≡ c.args.owner → ⊥) c.find.ensures.ran
    (λ x q k. search (rules, tests)) (λ x q k. search (rules, tests)) in
    next_follows _ _ _ _ _ _ c.requires.1 found c.map.ensures.cases (λ i next given. search rules)
