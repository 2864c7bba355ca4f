-- `use_identity` is the rules' step of self, super and $, up to the slot. Assumes nothing.
use Rattle.std.proofs.Common.{◌∙◌, rules}
use Rattle.std.proofs.lemmas.Result.{err_from_is_err_and}
use Rattle.step_name.proofs.Using.{super_used, this_used, identity_outside, identity_there, is_one, not_one}
use Rattle.step_name.proofs.use_identity.Goals as goal

pub use_object-after-requires : goal.use_object-after-requires
use_object-after-requires c = (c.requires.3, identity_there _ _ _ _ c.identity_id-id.ensures c.if-here.true c.requires.2)

pub returns-then-eq : goal.returns-then-eq
returns-then-eq c =
    super_used _ _ (c.identity_of-which.ensures ∙ c.number_at-kind.ensures) _ c.use_object-after.ensures c.identity_id-id.ensures c.if-here.true c.emit.ensures (is_one (search rules)) c.in_ok-emit.was

pub returns-in_err-emit : goal.returns-in_err-emit
returns-in_err-emit c =
    let q = err_from_is_err_and c.from_residual.result c.from_residual.ensures.1 in
    rw (q.1, q.2) (super_used _ _ (c.identity_of-which.ensures ∙ c.number_at-kind.ensures) _ c.use_object-after.ensures c.identity_id-id.ensures c.if-here.true c.emit.ensures (is_one (search rules)) c.in_err-emit.was)

pub returns-then-here : goal.returns-then-here
returns-then-here c =
    this_used _ _ (c.identity_of-which.ensures ∙ c.number_at-kind.ensures) _ c.use_object-after.ensures c.identity_id-id.ensures c.if-here.true (not_one _ (search rules))

pub returns : goal.returns
returns c = identity_outside _ _ c.number_at-kind.ensures c.bad_place.ensures c.number_at-span.ensures c.if-here.false c.in_ok-told.was

pub returns-in_err-told : goal.returns-in_err-told
returns-in_err-told c =
    let q = err_from_is_err_and c.from_residual-in_err-told.result c.from_residual-in_err-told.ensures.1 in
    rw (q.1, q.2) (identity_outside _ _ c.number_at-kind.ensures c.bad_place.ensures c.number_at-span.ensures c.if-here.false c.in_err-told.was)
