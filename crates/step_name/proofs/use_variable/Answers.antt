-- `use_variable` is the rules' step of a variable, up to the slot. Assumes nothing.
use Rattle.std.proofs.lemmas.Result.{err_from_is_err_and}
use Rattle.step_name.proofs.Using.{variable_found, variable_unknown, found_there}
use Rattle.step_name.proofs.use_variable.Goals as goal

pub use_local-after-requires : goal.use_local-after-requires
use_local-after-requires c = (c.requires.1, found_there _ _ c.args.st _ c.newest.ensures _ c.in-Some.is)

pub returns : goal.returns
returns c =
    variable_found _ _ _ _ c.newest.ensures _ _ c.number_at-name.ensures _ c.use_local-after.ensures c.in-Some.is

pub returns-in_default : goal.returns-in_default
returns-in_default c =
    variable_unknown _ _ _ _ c.newest.ensures _ _ c.number_at-name.ensures c.bad_place.ensures c.number_at-span.ensures c.in_default.is c.in_ok-told.was

pub returns-in_err-told : goal.returns-in_err-told
returns-in_err-told c =
    let q = err_from_is_err_and c.from_residual.result c.from_residual.ensures.1 in
    rw (q.1, q.2) (variable_unknown _ _ _ _ c.newest.ensures _ _ c.number_at-name.ensures c.bad_place.ensures c.number_at-span.ensures c.in_default.is c.in_err-told.was)
