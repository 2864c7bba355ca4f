-- `n_captures` counts the owner's captures. Assumes nothing.
use Rattle.std.proofs.Common.{arith, rules, tests, ap, ◌≡◌, refl, eqb, length, ◌+◌, ◌-◌}
use Rattle.std.proofs.lemmas.Iterator.{YieldsList-from_range}
use Rattle.std.proofs.lemmas.Iterator.Consumers.{count_from_yields_List, YieldsList-from_filter}
use Rattle.table_captures.specs.Meaning.{logged_at, captures_of}
use Rattle.find_capture.proofs.Laws.{captures_counted}
use Rattle.find_capture.proofs.n_captures.Goals as goal

pub returns : goal.returns
returns c =
    let counted = count_from_yields_List _ _ c.count.ensures.ran (YieldsList-from_filter _ (λ i. eqb (logged_at c.args.captures.now i).owner c.args.owner) (YieldsList-from_range c.args.from c.args.count _ (cc) refl) c.filter.ensures.closure (λ x r q k. search (rules, tests))) in
    let all : c.args.from + (c.args.count - c.args.from) ≡ c.args.count = omega (arith, c.requires.1) in
    omega (arith, counted, captures_counted c.args.owner c.args.from (c.args.count - c.args.from) c.args.captures.now, ap length c.requires.2, ap (λ n. length (captures_of c.args.owner n c.args.captures.now)) all)
