-- `step_open::begin_function` meets its contract: the frame, then the parameters, 10 bytes after its place. Assumes nothing.
use Rattle.std.proofs.lemmas.Result.{err_from_is_err_and}
use Rattle.step_open.proofs.Beginning.{opened_framed, opened_fitting, function_begun, function_refused}
use Rattle.step_open.proofs.begin_function.Goals as goal

pub define_params-requires : goal.define_params-requires
define_params-requires c =
    (c.requires.0, c.requires.2, opened_framed c.open_frame.ensures c.in_ok-inside.was c.requires.3, opened_fitting c.open_frame.ensures c.in_ok-inside.was c.requires.3)

pub returns : goal.returns
returns c = function_begun c.open_frame.ensures c.in_ok-inside.was c.define_params.ensures

pub returns-in_err-inside : goal.returns-in_err-inside
returns-in_err-inside c =
    let q = err_from_is_err_and c.from_residual.result c.from_residual.ensures.1 in
    rw (q.1, q.2) (function_refused c.open_frame.ensures c.in_err-inside.was)
