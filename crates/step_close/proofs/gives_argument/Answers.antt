-- `gives_argument` tells whether a function gives its argument. Assumes nothing.
use mathlib.Core.Bool.{not}
use lib.Dec.{leb}
use Rattle.std.proofs.lemmas.Bool.{eq-eqb}
use borrow.Author.Tests.{ne_eqb}
use Rattle.step_close.proofs.Functions.{not_given, given_by_body, and_then, and_not}
use Rattle.step_close.proofs.gives_argument.Goals as goal
use Rattle.step_close.proofs.gives_argument.Goals.{then-function-eq1, else-function-eq1, then-not-function, else-not-function}

pub returns-then-function-st : goal.returns-then-function-st
returns-then-function-st c =
    given_by_body c.args.function.defaults c.args.function.kept c.args.function.body_start c.args.st.out c.args.out.now
    (elim c.if-function-eq1.branch [ then-function-eq1 w ↦ and_then (eq-eqb _ 1 w.if-function-eq1.true) w.value-is | else-function-eq1 w ↦ and_not (not c.args.function.defaults) (ne_eqb _ 1 w.if-function-eq1.false) w.value-is ])
    (elim c.if-not-function.branch [ then-not-function w ↦ and_then w.if-not-function.true w.value-is | else-not-function w ↦ and_not (leb c.args.function.body_start c.args.st.out) w.if-not-function.false w.value-is ])
    c.if-function-st.true c.as_slice.ensures c.eq.ensures

pub returns-else-function-st : goal.returns-else-function-st
returns-else-function-st c =
    not_given c.args.function.defaults c.args.function.kept c.args.function.body_start c.args.st.out c.args.out.now
    (elim c.if-function-eq1.branch [ then-function-eq1 w ↦ and_then (eq-eqb _ 1 w.if-function-eq1.true) w.value-is | else-function-eq1 w ↦ and_not (not c.args.function.defaults) (ne_eqb _ 1 w.if-function-eq1.false) w.value-is ])
    (elim c.if-not-function.branch [ then-not-function w ↦ and_then w.if-not-function.true w.value-is | else-not-function w ↦ and_not (leb c.args.function.body_start c.args.st.out) w.if-not-function.false w.value-is ])
    c.if-function-st.false c.requires
