-- `step_open::open_object` meets its contract: the new frame has room for `this`. Assumes nothing.
use Rattle.std.proofs.lemmas.Result.{err_from_is_err_and}
use Rattle.step_open.proofs.Beginning.{this_asks, object_opened, object_refused}
use Rattle.step_open.proofs.open_object.Goals as goal

pub define_this-requires : goal.define_this-requires
define_this-requires c = this_asks c.enter_object-entered.ensures c.open_frame.ensures c.in_ok-inside.was c.requires.0 c.requires.1

pub returns : goal.returns
returns c = object_opened c.enter_object-entered.ensures c.open_frame.ensures c.in_ok-inside.was c.define_this.ensures

pub returns-in_err-inside : goal.returns-in_err-inside
returns-in_err-inside c =
    let q = err_from_is_err_and c.from_residual.result c.from_residual.ensures.1 in
    rw (q.1, q.2) (object_refused c.enter_object-entered.ensures c.open_frame.ensures c.in_err-inside.was)
