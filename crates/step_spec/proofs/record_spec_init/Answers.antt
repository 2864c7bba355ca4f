-- `record_spec_init` keeps the spec whose local is next, and drops another. Assumes nothing.
use Rattle.std.proofs.Common.{arith}
use Rattle.std.proofs.lemmas.Result.{err_from_is_err_and}
use Rattle.step_spec.proofs.Keeping.{kept_there, counted, not_counted, recorded_kept, recorded_dropped}
use Rattle.step_spec.proofs.record_spec_init.Goals as goal

pub id_of-id-requires : goal.id_of-id-requires
id_of-id-requires c = kept_there _ _ _ _ _ _ _ c.is_kept.ensures c.if-is_kept.true c.first_in_frame.ensures

pub keep_spec-requires : goal.keep_spec-requires
keep_spec-requires c =
    record {
      keepable = c.requires.0;
      id_lt_locals = omega (arith, c.id_of-id.ensures, kept_there _ _ _ _ _ _ _ c.is_kept.ensures c.if-is_kept.true c.first_in_frame.ensures);
    }

pub returns-then-is_kept : goal.returns-then-is_kept
returns-then-is_kept c =
    recorded_kept _ _ _ _ _ _ _ _ _ _ _ _ _ _ c.is_kept.ensures c.if-is_kept.true _ c.first_in_frame.ensures _ c.id_of-id.ensures _ _ _ _ c.keep_spec.ensures _ (counted c.in_ok-done.was)

pub returns-in_err-done : goal.returns-in_err-done
returns-in_err-done c =
    let q = err_from_is_err_and c.from_residual.result c.from_residual.ensures.1 in
    rw (q.1, q.2) (recorded_kept _ _ _ _ _ _ _ _ _ _ _ _ _ _ c.is_kept.ensures c.if-is_kept.true _ c.first_in_frame.ensures _ c.id_of-id.ensures _ _ _ _ c.keep_spec.ensures _ (not_counted c.in_err-done.was))

pub returns : goal.returns
returns c =
    recorded_dropped _ _ _ _ _ _ _ _ _ _ _ _ _ _ c.is_kept.ensures c.if-is_kept.false _ _ c.taint_outer-tainted.ensures c.drop_spec.ensures
