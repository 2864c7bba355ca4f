-- `enter` tells what a call is refused for before anything is analysed, or that there is a tree to analyse. Assumes nothing.
use Rattle.std.proofs.Common.{sym, ◌∙◌}
use Rattle.state.specs.Seen.{buffers}
use Rattle.call_root.proofs.Entry.{fits_lent}
use Rattle.call_enter.proofs.Laws.{enters_13, enters_14, enters}
use Rattle.call_enter.proofs.enter.Goals as goal

pub returns-then-not-tables_fit : goal.returns-then-not-tables_fit
returns-then-not-tables_fit c = λ out diagnostics.
    let s = c.args.tree.now in
    let b = buffers out diagnostics c.args.locals.now c.args.frames.now c.args.captures.now c.args.references.now in
    rw c.at.ensures (enters_13 s b c.args.limits (fits_lent s b c.args.limits ∙ sym c.tables_fit.ensures ∙ c.if-not-tables_fit.true))

pub returns-then-tree-gt16777216 : goal.returns-then-tree-gt16777216
returns-then-tree-gt16777216 c = λ out diagnostics.
    let s = c.args.tree.now in
    let b = buffers out diagnostics c.args.locals.now c.args.frames.now c.args.captures.now c.args.references.now in
    rw c.at-then-tree-gt16777216.ensures (enters_14 s b c.args.limits (fits_lent s b c.args.limits ∙ sym c.tables_fit.ensures ∙ c.if-not-tables_fit.false) c.if-tree-gt16777216.true)

pub returns : goal.returns
returns c = λ out diagnostics.
    let s = c.args.tree.now in
    let b = buffers out diagnostics c.args.locals.now c.args.frames.now c.args.captures.now c.args.references.now in
    enters s b c.args.limits (fits_lent s b c.args.limits ∙ sym c.tables_fit.ensures ∙ c.if-not-tables_fit.false) c.if-tree-gt16777216.false _ c.first_walk.ensures
