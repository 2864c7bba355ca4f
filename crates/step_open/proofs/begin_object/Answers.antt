-- `step_open::begin_object` meets its contract: the frame, `this`, then the names. Assumes nothing.
use Rattle.std.proofs.lemmas.Result.{err_from_is_err_and}
use Rattle.step_open.proofs.Beginning.{object_framed, object_fitting, object_begun, begun_refused}
use Rattle.step_open.proofs.begin_object.Goals as goal

pub define_binds-requires : goal.define_binds-requires
define_binds-requires c =
    (c.requires.0, c.requires.2, object_framed c.open_object.ensures c.in_ok-inside.was c.requires.3, object_fitting c.open_object.ensures c.in_ok-inside.was c.requires.3)

pub returns : goal.returns
returns c = object_begun c.open_object.ensures c.in_ok-inside.was c.define_binds.ensures

pub returns-in_err-inside : goal.returns-in_err-inside
returns-in_err-inside c =
    let q = err_from_is_err_and c.from_residual.result c.from_residual.ensures.1 in
    rw (q.1, q.2) (begun_refused c.open_object.ensures c.in_err-inside.was)
