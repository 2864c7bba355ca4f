-- `close_spec` closes the value's frame and then keeps or drops the spec. Assumes nothing.
use Rattle.std.proofs.Common.{arith}
use Rattle.std.proofs.lemmas.Result.{err_from_is_err_and}
use Rattle.step_spec.proofs.Keeping.{counts_left, spec_closed, spec_stopped}
use Rattle.step_spec.proofs.close_spec.Goals as goal

pub record_spec_init-requires : goal.record_spec_init-requires
record_spec_init-requires c =
    let n = counts_left _ _ _ _ _ _ _ _ c.close_frame.ensures c.args.limits _ _ c.in_ok-after.was c.requires.2 c.requires.3 in (
      record {
        locals_long = omega (arith, n.locals, c.requires.0.locals_long);
        frames_long = omega (arith, n.frames, c.requires.0.frames_long);
        references_long = c.requires.0.references_long;
        few_references = omega (arith, n.references, c.requires.0.few_references);
        first_there = λ f lt. omega (arith, n.locals, c.requires.0.first_there f (omega (arith, lt, n.frames)));
      },
      c.requires.1,
      n.out,
    )

pub returns : goal.returns
returns c =
    spec_closed _ _ _ _ _ _ _ _ c.close_frame.ensures _ _ _ _ _ _ _ _ _ _ _ _ _ _ c.in_ok-after.was c.close_frame.auto.out c.record_spec_init.ensures

pub returns-in_err-after : goal.returns-in_err-after
returns-in_err-after c =
    let q = err_from_is_err_and c.from_residual.result c.from_residual.ensures.1 in
    rw (q.1, q.2) (spec_stopped _ _ _ _ _ _ _ _ c.close_frame.ensures _ _ _ _ _ _ _ _ _ _ c.in_err-after.was)
