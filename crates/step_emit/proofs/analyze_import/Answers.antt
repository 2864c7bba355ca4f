-- `analyze_import` is the rules' step of an import. Assumes nothing.
use Rattle.std.proofs.lemmas.Result.{err_from_is_err_and}
use Rattle.step_emit.proofs.Laws.{placed, refused, literal_import, bad_import}
use Rattle.step_emit.proofs.analyze_import.Goals as goal

pub returns-in_err-st : goal.returns-in_err-st
returns-in_err-st c =
    let q = err_from_is_err_and c.from_residual.result c.from_residual.ensures.1 in
    rw (q.1, q.2) (literal_import (refused _ c.in_err-st.was) c.number_at-span.ensures c.number_at.ensures c.emit.ensures c.number_at-then-number_at-ne0.ensures c.number_at-then-number_at-ne0-2.ensures c.if-number_at-ne0.true)

pub returns-then-number_at-ne0 : goal.returns-then-number_at-ne0
returns-then-number_at-ne0 c =
    literal_import (placed _ c.in_ok-st.was) c.number_at-span.ensures c.number_at.ensures c.emit.ensures c.number_at-then-number_at-ne0.ensures c.number_at-then-number_at-ne0-2.ensures c.if-number_at-ne0.true

pub returns-in_err-st-2 : goal.returns-in_err-st-2
returns-in_err-st-2 c =
    let q = err_from_is_err_and c.from_residual-in_err-st-2.result c.from_residual-in_err-st-2.ensures.1 in
    rw (q.1, q.2) (bad_import (refused _ c.in_err-st-2.was) c.number_at-span.ensures c.number_at.ensures c.bad_place.ensures c.if-number_at-ne0.false)

pub returns : goal.returns
returns c = bad_import (placed _ c.in_ok-st-2.was) c.number_at-span.ensures c.number_at.ensures c.bad_place.ensures c.if-number_at-ne0.false
