-- `keep_spec` keeps the references, sets the local's analysis, taints what encloses the value and writes the record. Assumes nothing.
use Rattle.std.proofs.Common.{arith}
use Rattle.std.proofs.lemmas.Result.{err_from_is_err_and}
use Rattle.step_spec.proofs.Keeping.{locals_stay, spec_kept, spec_not_kept}
use Rattle.step_spec.proofs.keep_spec.Goals as goal

pub set_analysis-analysed-requires : goal.set_analysis-analysed-requires
set_analysis-analysed-requires c =
    let stay = locals_stay _ _ _ _ _ _ _ _ _ _ c.keep_spec_references.ensures _ c.in_ok-after.was in
    (omega (arith, stay, c.keep_spec_references.auto.locals, c.requires.keepable.locals_long), omega (arith, stay, c.requires.id_lt_locals))

pub returns : goal.returns
returns c =
    spec_kept _ _ _ _ _ _ _ _ _ _ c.keep_spec_references.ensures _ c.in_ok-after.was _ _ _ _ _ _ _ _ _ c.set_analysis-analysed.ensures c.taint_outer-tainted.ensures c.write_spec.ensures

pub returns-in_err-after : goal.returns-in_err-after
returns-in_err-after c =
    let q = err_from_is_err_and c.from_residual.result c.from_residual.ensures.1 in
    rw (q.1, q.2) (spec_not_kept _ _ _ _ _ _ _ _ _ _ c.keep_spec_references.ensures _ _ _ _ _ c.in_err-after.was)
