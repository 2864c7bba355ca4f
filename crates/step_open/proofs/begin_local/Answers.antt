-- `step_open::begin_local` meets its contract: the frame, then the binds, 6 bytes after its place. Assumes nothing.
use Rattle.std.proofs.lemmas.Result.{err_from_is_err_and}
use Rattle.step_open.proofs.Beginning.{opened_framed, opened_fitting, local_begun, local_refused}
use Rattle.step_open.proofs.begin_local.Goals as goal

pub define_binds-requires : goal.define_binds-requires
define_binds-requires c =
    (c.requires.0, c.requires.2, opened_framed c.open_frame.ensures c.in_ok-inside.was c.requires.3, opened_fitting c.open_frame.ensures c.in_ok-inside.was c.requires.3)

pub returns : goal.returns
returns c = local_begun c.open_frame.ensures c.in_ok-inside.was c.define_binds.ensures

pub returns-in_err-inside : goal.returns-in_err-inside
returns-in_err-inside c =
    let q = err_from_is_err_and c.from_residual.result c.from_residual.ensures.1 in
    rw (q.1, q.2) (local_refused c.open_frame.ensures c.in_err-inside.was)
