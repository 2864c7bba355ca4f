-- The answers for the seventeen members of the cycle, by what each promises below its measure. Assumes nothing.
use Rattle.std.proofs.Common.{ap, arith, inl, inr, length, refl, sym, ◌∙◌}
use Rattle.rules.specs.Numbers.{code}
use Rattle.tree.proofs.Walks.{array_refused, array_constant, array_went, bind_held, bind_refused, bind_went, call_refused, values_refused, call_went, expr_unknown, leaf_here, plain_here, extended_refused, base_refused, extended_went, function_refused, params_refused, function_went, held_refused, held_went, index_refused, value_refused, index_went, local_refused, binds_refused, local_went, object_refused, heads_refused, locals_refused, assertions_refused, object_went, plain_refused, plain_went, value_any, value_method, values_end, head_here, values_stop, values_next}
use Rattle.tree.specs.Seen.{seen}
use Rattle.tree.specs.Places.{a_function, bind_past, an_object}
use Rattle.tree.proofs.Turns.{turn_stop, turn_next, turn_end}
use Rattle.rules.specs.FirstWalk.{any_expression, rows}
use Rattle.bytes_records.proofs.Laws.{room_there, room_missing, all_none, ◌also◌}
use Rattle.tree.proofs.Definition.{expr_short, expr_array, expr_extended, expr_local, expr_call, expr_index, expr_function, expr_object, lone_short, lone_other, lone_here}
use Rattle.bytes_skip.specs.Places.{expr_past, exprs_past, held_past}
use Rattle.tree.proofs.Binding.{ends, handed}
use Rattle.tree.proofs.+first_walk.Goals as goal

pub walk_array-returns-in_err-next : goal.walk_array-returns-in_err-next
walk_array-returns-in_err-next t c =
    rw (handed c.from_residual.ensures.1 c.in_err-next.was) (array_refused c.args.tree.now c.args.nest c.args.at c.opened.ensures.same c.in_err-next.was)

pub walk_array-returns-then-constants : goal.walk_array-returns-then-constants
walk_array-returns-then-constants t c =
    array_constant c.args.tree.now c.args.nest c.args.at c.opened.ensures.same c.in_ok-next.was c.count_at-n.ensures.0 c.constants.ensures c.if-constants.true

pub walk_array-returns : goal.walk_array-returns
walk_array-returns t c =
    array_went c.args.tree.now c.args.nest c.args.at c.opened.ensures.same c.in_ok-next.was c.count_at-n.ensures.0 c.constants.ensures c.if-constants.false c.walk_exprs.ensures

pub walk_bind-returns-then-mark_at-ne-BF : goal.walk_bind-returns-then-mark_at-ne-BF
walk_bind-returns-then-mark_at-ne-BF t c =
    ap seen (sym c.in_ok-walk_held.was) ∙ (bind_held c.args.tree.now c.args.nest c.args.at c.mark_at.ensures.0 c.if-mark_at-ne-BF.true c.walk_held.ensures)

pub walk_bind-returns-in_err-walk_held : goal.walk_bind-returns-in_err-walk_held
walk_bind-returns-in_err-walk_held t c =
    rw (handed c.from_residual.ensures.1 c.in_err-walk_held.was) (bind_held c.args.tree.now c.args.nest c.args.at c.mark_at.ensures.0 c.if-mark_at-ne-BF.true c.walk_held.ensures)

pub walk_bind-returns-in_err-next : goal.walk_bind-returns-in_err-next
walk_bind-returns-in_err-next t c =
    rw (handed c.from_residual-in_err-next.ensures.1 c.in_err-next.was) (bind_refused c.args.tree.now c.args.nest c.args.at c.mark_at.ensures.0 c.if-mark_at-ne-BF.false c.expect.ensures.same c.in_err-next.was)

pub walk_bind-walk_only-requires : goal.walk_bind-walk_only-requires
unfolding code
walk_bind-walk_only-requires t c = (omega arith, a_function refl)

pub walk_bind-returns : goal.walk_bind-returns
walk_bind-returns t c =
    ap seen (sym c.in_ok-walk_only.was) ∙ (bind_went c.args.tree.now c.args.nest c.args.at c.mark_at.ensures.0 c.if-mark_at-ne-BF.false c.expect.ensures.same c.in_ok-next.was c.walk_only.ensures)

pub walk_bind-returns-in_err-walk_only : goal.walk_bind-returns-in_err-walk_only
walk_bind-returns-in_err-walk_only t c =
    rw (handed c.from_residual-in_err-walk_only.ensures.1 c.in_err-walk_only.was) (bind_went c.args.tree.now c.args.nest c.args.at c.mark_at.ensures.0 c.if-mark_at-ne-BF.false c.expect.ensures.same c.in_ok-next.was c.walk_only.ensures)

pub walk_binds-returns-in_err-p : goal.walk_binds-returns-in_err-p
walk_binds-returns-in_err-p t c =
    rw (handed c.from_residual.ensures.1 c.in_err-p.was) (turn_stop (bind_past c.args.tree.now c.args.nest) c.loop.invariant c.loop-test.true c.walk_bind.ensures c.in_err-p.was)

pub walk_binds-loop-preserved : goal.walk_binds-loop-preserved
walk_binds-loop-preserved t c =
    turn_next (bind_past c.args.tree.now c.args.nest) c.loop.invariant c.loop-test.true c.walk_bind.ensures c.in_ok-p.was

pub walk_binds-returns : goal.walk_binds-returns
walk_binds-returns t c = turn_end (bind_past c.args.tree.now c.args.nest) c.loop.invariant c.loop-test.false

pub walk_call-returns-in_err-next : goal.walk_call-returns-in_err-next
walk_call-returns-in_err-next t c =
    rw (handed c.from_residual.ensures.1 c.in_err-next.was) (call_refused c.args.tree.now c.args.nest c.args.at c.opened.ensures.same c.in_err-next.was)

pub walk_call-returns-in_err-named : goal.walk_call-returns-in_err-named
walk_call-returns-in_err-named t c =
    rw (handed c.from_residual-in_err-named.ensures.1 c.in_err-named.was) (values_refused c.args.tree.now c.args.nest c.args.at c.opened.ensures.same c.in_ok-next.was c.count_at.ensures.0 c.walk_exprs.ensures c.in_err-named.was)

pub walk_call-returns : goal.walk_call-returns
walk_call-returns t c =
    call_went c.args.tree.now c.args.nest c.args.at c.opened.ensures.same c.in_ok-next.was c.count_at.ensures.0 c.walk_exprs.ensures c.in_ok-named.was c.number_at.ensures c.walk_many.ensures

pub walk_expr-returns-then-not-has_room : goal.walk_expr-returns-then-not-has_room
walk_expr-returns-then-not-has_room t c =
    rw c.at.ensures (expr_short c.args.tree.now c.args.nest c.args.at any_expression (room_missing c.args.at 2 (length c.args.tree.now) _ c.has_room.ensures c.if-not-has_room.true))

pub walk_expr-returns-in-18756 : goal.walk_expr-returns-in-18756
walk_expr-returns-in-18756 t c =
    leaf_here c.args.tree.now c.args.nest c.args.at (room_there c.args.at 2 (length c.args.tree.now) _ c.has_room.ensures c.if-not-has_room.false) c.mark_at-mark.ensures.0 (inl c.in-18756.is) c.opened.ensures.same

pub walk_expr-returns-in-18765 : goal.walk_expr-returns-in-18765
walk_expr-returns-in-18765 t c =
    leaf_here c.args.tree.now c.args.nest c.args.at (room_there c.args.at 2 (length c.args.tree.now) _ c.has_room.ensures c.if-not-has_room.false) c.mark_at-mark.ensures.0 (inr (inl c.in-18765.is)) c.opened-in-18765.ensures.same

pub walk_expr-returns-in-21590 : goal.walk_expr-returns-in-21590
walk_expr-returns-in-21590 t c =
    leaf_here c.args.tree.now c.args.nest c.args.at (room_there c.args.at 2 (length c.args.tree.now) _ c.has_room.ensures c.if-not-has_room.false) c.mark_at-mark.ensures.0 (inr (inr (inl c.in-21590.is))) c.opened-in-21590.ensures.same

pub walk_expr-returns-in-22081 : goal.walk_expr-returns-in-22081
walk_expr-returns-in-22081 t c =
    leaf_here c.args.tree.now c.args.nest c.args.at (room_there c.args.at 2 (length c.args.tree.now) _ c.has_room.ensures c.if-not-has_room.false) c.mark_at-mark.ensures.0 (inr (inr (inr c.in-22081.is))) c.opened-in-22081.ensures.same

pub walk_expr-returns-in-16722 : goal.walk_expr-returns-in-16722
walk_expr-returns-in-16722 t c =
    c.walk_array.ensures ∙ expr_array c.args.tree.now c.args.nest c.args.at (room_there c.args.at 2 (length c.args.tree.now) _ c.has_room.ensures c.if-not-has_room.false) (sym c.mark_at-mark.ensures.0 ∙ c.in-16722.is)

pub walk_expr-returns-in-20312 : goal.walk_expr-returns-in-20312
walk_expr-returns-in-20312 t c =
    c.walk_extended.ensures ∙ expr_extended c.args.tree.now c.args.nest c.args.at (room_there c.args.at 2 (length c.args.tree.now) _ c.has_room.ensures c.if-not-has_room.false) (sym c.mark_at-mark.ensures.0 ∙ c.in-20312.is)

pub walk_expr-returns-in-16723 : goal.walk_expr-returns-in-16723
walk_expr-returns-in-16723 t c =
    plain_here c.args.tree.now c.args.nest c.args.at (room_there c.args.at 2 (length c.args.tree.now) _ c.has_room.ensures c.if-not-has_room.false) c.mark_at-mark.ensures.0 (inl c.in-16723.is) c.walk_plain-in-16723.ensures

pub walk_expr-returns-in-16969 : goal.walk_expr-returns-in-16969
walk_expr-returns-in-16969 t c =
    plain_here c.args.tree.now c.args.nest c.args.at (room_there c.args.at 2 (length c.args.tree.now) _ c.has_room.ensures c.if-not-has_room.false) c.mark_at-mark.ensures.0 (inr (inl c.in-16969.is)) c.walk_plain-in-16969.ensures

pub walk_expr-returns-in-17746 : goal.walk_expr-returns-in-17746
walk_expr-returns-in-17746 t c =
    plain_here c.args.tree.now c.args.nest c.args.at (room_there c.args.at 2 (length c.args.tree.now) _ c.has_room.ensures c.if-not-has_room.false) c.mark_at-mark.ensures.0 (inr (inr (inl c.in-17746.is))) c.walk_plain-in-17746.ensures

pub walk_expr-returns-in-18758 : goal.walk_expr-returns-in-18758
walk_expr-returns-in-18758 t c =
    plain_here c.args.tree.now c.args.nest c.args.at (room_there c.args.at 2 (length c.args.tree.now) _ c.has_room.ensures c.if-not-has_room.false) c.mark_at-mark.ensures.0 (inr (inr (inr (inl c.in-18758.is)))) c.walk_plain-in-18758.ensures

pub walk_expr-returns-in-21315 : goal.walk_expr-returns-in-21315
walk_expr-returns-in-21315 t c =
    plain_here c.args.tree.now c.args.nest c.args.at (room_there c.args.at 2 (length c.args.tree.now) _ c.has_room.ensures c.if-not-has_room.false) c.mark_at-mark.ensures.0 (inr (inr (inr (inr (inl c.in-21315.is))))) c.walk_plain-in-21315.ensures

pub walk_expr-returns-in-21838 : goal.walk_expr-returns-in-21838
walk_expr-returns-in-21838 t c =
    plain_here c.args.tree.now c.args.nest c.args.at (room_there c.args.at 2 (length c.args.tree.now) _ c.has_room.ensures c.if-not-has_room.false) c.mark_at-mark.ensures.0 (inr (inr (inr (inr (inr c.in-21838.is))))) c.walk_plain.ensures

pub walk_expr-returns-in-19535 : goal.walk_expr-returns-in-19535
walk_expr-returns-in-19535 t c =
    c.walk_local.ensures ∙ expr_local c.args.tree.now c.args.nest c.args.at (room_there c.args.at 2 (length c.args.tree.now) _ c.has_room.ensures c.if-not-has_room.false) (sym c.mark_at-mark.ensures.0 ∙ c.in-19535.is)

pub walk_expr-returns-in-16720 : goal.walk_expr-returns-in-16720
walk_expr-returns-in-16720 t c =
    c.walk_call.ensures ∙ expr_call c.args.tree.now c.args.nest c.args.at (room_there c.args.at 2 (length c.args.tree.now) _ c.has_room.ensures c.if-not-has_room.false) (sym c.mark_at-mark.ensures.0 ∙ c.in-16720.is)

pub walk_expr-returns-in-18776 : goal.walk_expr-returns-in-18776
walk_expr-returns-in-18776 t c =
    c.walk_index.ensures ∙ expr_index c.args.tree.now c.args.nest c.args.at (room_there c.args.at 2 (length c.args.tree.now) _ c.has_room.ensures c.if-not-has_room.false) (sym c.mark_at-mark.ensures.0 ∙ c.in-18776.is)

pub walk_expr-returns-in-17998 : goal.walk_expr-returns-in-17998
walk_expr-returns-in-17998 t c =
    c.walk_function.ensures ∙ expr_function c.args.tree.now c.args.nest c.args.at (room_there c.args.at 2 (length c.args.tree.now) _ c.has_room.ensures c.if-not-has_room.false) (sym c.mark_at-mark.ensures.0 ∙ c.in-17998.is)

pub walk_expr-returns-in-20290 : goal.walk_expr-returns-in-20290
walk_expr-returns-in-20290 t c =
    c.walk_object.ensures ∙ expr_object c.args.tree.now c.args.nest c.args.at (room_there c.args.at 2 (length c.args.tree.now) _ c.has_room.ensures c.if-not-has_room.false) (sym c.mark_at-mark.ensures.0 ∙ c.in-20290.is)

pub walk_expr-returns-in_default : goal.walk_expr-returns-in_default
unfolding rows code
walk_expr-returns-in_default t c =
    rw c.at-in_default.ensures (expr_unknown c.args.tree.now c.args.nest c.args.at (room_there c.args.at 2 (length c.args.tree.now) _ c.has_room.ensures c.if-not-has_room.false) c.mark_at-mark.ensures.0 ((λ e. absurd (grind arith)) also (λ e. absurd (grind arith)) also (λ e. absurd (grind arith)) also (λ e. absurd (grind arith)) also (λ e. absurd (grind arith)) also (λ e. absurd (grind arith)) also (λ e. absurd (grind arith)) also (λ e. absurd (grind arith)) also (λ e. absurd (grind arith)) also (λ e. absurd (grind arith)) also (λ e. absurd (grind arith)) also (λ e. absurd (grind arith)) also (λ e. absurd (grind arith)) also (λ e. absurd (grind arith)) also (λ e. absurd (grind arith)) also (λ e. absurd (grind arith)) also (λ e. absurd (grind arith)) also all_none))

pub walk_exprs-returns-in_err-p : goal.walk_exprs-returns-in_err-p
unfolding exprs_past expr_past
walk_exprs-returns-in_err-p t c =
    rw (handed c.from_residual.ensures.1 c.in_err-p.was) (turn_stop (expr_past c.args.tree.now c.args.nest any_expression) c.loop.invariant c.loop-test.true c.walk_expr.ensures c.in_err-p.was)

pub walk_exprs-loop-preserved : goal.walk_exprs-loop-preserved
unfolding exprs_past expr_past
walk_exprs-loop-preserved t c =
    turn_next (expr_past c.args.tree.now c.args.nest any_expression) c.loop.invariant c.loop-test.true c.walk_expr.ensures c.in_ok-p.was

pub walk_exprs-returns : goal.walk_exprs-returns
unfolding exprs_past expr_past
walk_exprs-returns t c = turn_end (expr_past c.args.tree.now c.args.nest any_expression) c.loop.invariant c.loop-test.false

pub walk_extended-returns-in_err-next : goal.walk_extended-returns-in_err-next
walk_extended-returns-in_err-next t c =
    rw (handed c.from_residual.ensures.1 c.in_err-next.was) (extended_refused c.args.tree.now c.args.nest c.args.at c.opened.ensures.same c.in_err-next.was)

pub walk_extended-returns-in_err-object : goal.walk_extended-returns-in_err-object
walk_extended-returns-in_err-object t c =
    rw (handed c.from_residual-in_err-object.ensures.1 c.in_err-object.was) (base_refused c.args.tree.now c.args.nest c.args.at c.opened.ensures.same c.in_ok-next.was c.walk_expr.ensures c.in_err-object.was)

pub walk_extended-walk_only-requires : goal.walk_extended-walk_only-requires
unfolding code
walk_extended-walk_only-requires t c = (omega (arith, c.opened.ensures.level _ c.in_ok-next.was), an_object refl)

pub walk_extended-returns : goal.walk_extended-returns
walk_extended-returns t c =
    extended_went c.args.tree.now c.args.nest c.args.at c.opened.ensures.same c.in_ok-next.was c.walk_expr.ensures c.in_ok-object.was c.walk_only.ensures

pub walk_function-returns-in_err-next : goal.walk_function-returns-in_err-next
walk_function-returns-in_err-next t c =
    rw (handed c.from_residual.ensures.1 c.in_err-next.was) (function_refused c.args.tree.now c.args.nest c.args.at c.opened.ensures.same c.in_err-next.was)

pub walk_function-returns-in_err-body : goal.walk_function-returns-in_err-body
walk_function-returns-in_err-body t c =
    rw (handed c.from_residual-in_err-body.ensures.1 c.in_err-body.was) (params_refused c.args.tree.now c.args.nest c.args.at c.opened.ensures.same c.in_ok-next.was c.number_at.ensures c.walk_many.ensures c.in_err-body.was)

pub walk_function-returns : goal.walk_function-returns
walk_function-returns t c =
    function_went c.args.tree.now c.args.nest c.args.at c.opened.ensures.same c.in_ok-next.was c.number_at.ensures c.walk_many.ensures c.in_ok-body.was c.walk_expr.ensures

pub walk_held-returns-in_err-next : goal.walk_held-returns-in_err-next
walk_held-returns-in_err-next t c =
    rw (handed c.from_residual.ensures.1 c.in_err-next.was) (held_refused c.args.tree.now c.args.nest c.args.at c.args.mark c.expect.ensures.same c.in_err-next.was)

pub walk_held-returns : goal.walk_held-returns
walk_held-returns t c =
    ap seen (sym c.in_ok-walk_exprs.was) ∙ held_went c.args.tree.now c.args.nest c.args.at c.args.mark c.expect.ensures.same c.in_ok-next.was c.children-n.ensures c.walk_exprs.ensures

pub walk_held-returns-in_err-walk_exprs : goal.walk_held-returns-in_err-walk_exprs
walk_held-returns-in_err-walk_exprs t c =
    rw (handed c.from_residual-in_err-walk_exprs.ensures.1 c.in_err-walk_exprs.was) (held_went c.args.tree.now c.args.nest c.args.at c.args.mark c.expect.ensures.same c.in_ok-next.was c.children-n.ensures c.walk_exprs.ensures)

pub walk_index-returns-in_err-next : goal.walk_index-returns-in_err-next
walk_index-returns-in_err-next t c =
    rw (handed c.from_residual.ensures.1 c.in_err-next.was) (index_refused c.args.tree.now c.args.nest c.args.at c.opened.ensures.same c.in_err-next.was)

pub walk_index-returns-in_err-parts : goal.walk_index-returns-in_err-parts
walk_index-returns-in_err-parts t c =
    rw (handed c.from_residual-in_err-parts.ensures.1 c.in_err-parts.was) (value_refused c.args.tree.now c.args.nest c.args.at c.opened.ensures.same c.in_ok-next.was c.walk_expr.ensures c.in_err-parts.was)

pub walk_index-returns : goal.walk_index-returns
walk_index-returns t c =
    index_went c.args.tree.now c.args.nest c.args.at c.opened.ensures.same c.in_ok-next.was c.walk_expr.ensures c.in_ok-parts.was c.number_at.ensures c.walk_many.ensures

pub walk_local-returns-in_err-next : goal.walk_local-returns-in_err-next
walk_local-returns-in_err-next t c =
    rw (handed c.from_residual.ensures.1 c.in_err-next.was) (local_refused c.args.tree.now c.args.nest c.args.at c.opened.ensures.same c.in_err-next.was)

pub walk_local-returns-in_err-body : goal.walk_local-returns-in_err-body
walk_local-returns-in_err-body t c =
    rw (handed c.from_residual-in_err-body.ensures.1 c.in_err-body.was) (binds_refused c.args.tree.now c.args.nest c.args.at c.opened.ensures.same c.in_ok-next.was c.number_at.ensures c.walk_binds.ensures c.in_err-body.was)

pub walk_local-returns : goal.walk_local-returns
walk_local-returns t c =
    local_went c.args.tree.now c.args.nest c.args.at c.opened.ensures.same c.in_ok-next.was c.number_at.ensures c.walk_binds.ensures c.in_ok-body.was c.walk_expr.ensures

pub walk_many-returns-in_err-p : goal.walk_many-returns-in_err-p
walk_many-returns-in_err-p t c =
    rw (handed c.from_residual.ensures.1 c.in_err-p.was) (turn_stop (held_past c.args.tree.now c.args.nest c.args.mark) c.loop.invariant c.loop-test.true c.walk_held.ensures c.in_err-p.was)

pub walk_many-loop-preserved : goal.walk_many-loop-preserved
walk_many-loop-preserved t c =
    turn_next (held_past c.args.tree.now c.args.nest c.args.mark) c.loop.invariant c.loop-test.true c.walk_held.ensures c.in_ok-p.was

pub walk_many-returns : goal.walk_many-returns
walk_many-returns t c = turn_end (held_past c.args.tree.now c.args.nest c.args.mark) c.loop.invariant c.loop-test.false

pub walk_object-returns-in_err-heads : goal.walk_object-returns-in_err-heads
walk_object-returns-in_err-heads t c =
    rw (handed c.from_residual.ensures.1 c.in_err-heads.was) (object_refused c.args.tree.now c.args.nest c.args.at c.opened.ensures.same c.in_err-heads.was)

pub walk_object-returns-in_err-locals : goal.walk_object-returns-in_err-locals
walk_object-returns-in_err-locals t c =
    rw (handed c.from_residual-in_err-locals.ensures.1 c.in_err-locals.was) (heads_refused c.args.tree.now c.args.nest c.args.at c.opened.ensures.same c.in_ok-heads.was c.number_at-f.ensures c.walk_many.ensures c.in_err-locals.was)

pub walk_object-returns-in_err-assertions : goal.walk_object-returns-in_err-assertions
walk_object-returns-in_err-assertions t c =
    rw (handed c.from_residual-in_err-assertions.ensures.1 c.in_err-assertions.was) (locals_refused c.args.tree.now c.args.nest c.args.at c.opened.ensures.same c.in_ok-heads.was c.number_at-f.ensures c.walk_many.ensures c.in_ok-locals.was c.number_at.ensures c.walk_binds.ensures c.in_err-assertions.was)

pub walk_object-returns-in_err-values : goal.walk_object-returns-in_err-values
walk_object-returns-in_err-values t c =
    rw (handed c.from_residual-in_err-values.ensures.1 c.in_err-values.was) (assertions_refused c.args.tree.now c.args.nest c.args.at c.opened.ensures.same c.in_ok-heads.was c.number_at-f.ensures c.walk_many.ensures c.in_ok-locals.was c.number_at.ensures c.walk_binds.ensures c.in_ok-assertions.was c.number_at-2.ensures c.walk_many-2.ensures c.in_err-values.was)

pub walk_object-walk_values-requires : goal.walk_object-walk_values-requires
walk_object-walk_values-requires t c =
    (omega (arith, c.opened.ensures.level _ c.in_ok-heads.was), ends c.walk_many.ensures c.in_ok-locals.was)

pub walk_object-returns : goal.walk_object-returns
walk_object-returns t c =
    object_went c.args.tree.now c.args.nest c.args.at c.opened.ensures.same c.in_ok-heads.was c.number_at-f.ensures c.walk_many.ensures c.in_ok-locals.was c.number_at.ensures c.walk_binds.ensures c.in_ok-assertions.was c.number_at-2.ensures c.walk_many-2.ensures c.in_ok-values.was c.walk_values.ensures

pub walk_only-returns-then-not-has_room : goal.walk_only-returns-then-not-has_room
walk_only-returns-then-not-has_room t c =
    rw c.at.ensures (lone_short c.args.tree.now c.args.nest c.args.at c.args.mark (room_missing c.args.at 2 (length c.args.tree.now) _ c.has_room.ensures c.if-not-has_room.true))

pub walk_only-returns-then-mark_at-mark : goal.walk_only-returns-then-mark_at-mark
walk_only-returns-then-mark_at-mark t c =
    rw c.at-then-mark_at-mark.ensures (lone_other c.args.tree.now c.args.nest c.args.at (room_there c.args.at 2 (length c.args.tree.now) _ c.has_room.ensures c.if-not-has_room.false) c.requires (λ e. c.if-mark_at-mark.true (c.mark_at.ensures.0 ∙ e)))

pub walk_only-returns : goal.walk_only-returns
walk_only-returns t c =
    ap seen (sym c.in_ok-walk_expr.was) ∙ (c.walk_expr.ensures ∙ lone_here c.args.tree.now c.args.nest c.args.at (room_there c.args.at 2 (length c.args.tree.now) _ c.has_room.ensures c.if-not-has_room.false) c.requires (sym c.mark_at.ensures.0 ∙ c.if-mark_at-mark.false))

pub walk_only-returns-in_err-walk_expr : goal.walk_only-returns-in_err-walk_expr
walk_only-returns-in_err-walk_expr t c =
    rw (handed c.from_residual.ensures.1 c.in_err-walk_expr.was) (c.walk_expr.ensures ∙ lone_here c.args.tree.now c.args.nest c.args.at (room_there c.args.at 2 (length c.args.tree.now) _ c.has_room.ensures c.if-not-has_room.false) c.requires (sym c.mark_at.ensures.0 ∙ c.if-mark_at-mark.false))

pub walk_plain-returns-in_err-next : goal.walk_plain-returns-in_err-next
walk_plain-returns-in_err-next t c =
    rw (handed c.from_residual.ensures.1 c.in_err-next.was) (plain_refused c.args.tree.now c.args.nest c.args.at c.args.mark c.opened.ensures.same c.in_err-next.was)

pub walk_plain-returns : goal.walk_plain-returns
walk_plain-returns t c =
    ap seen (sym c.in_ok-walk_exprs.was) ∙ plain_went c.args.tree.now c.args.nest c.args.at c.args.mark c.opened.ensures.same c.in_ok-next.was c.children-n.ensures c.walk_exprs.ensures

pub walk_plain-returns-in_err-walk_exprs : goal.walk_plain-returns-in_err-walk_exprs
walk_plain-returns-in_err-walk_exprs t c =
    rw (handed c.from_residual-in_err-walk_exprs.ensures.1 c.in_err-walk_exprs.was) (plain_went c.args.tree.now c.args.nest c.args.at c.args.mark c.opened.ensures.same c.in_ok-next.was c.children-n.ensures c.walk_exprs.ensures)

pub walk_value-returns-then-number_at-eq0 : goal.walk_value-returns-then-number_at-eq0
walk_value-returns-then-number_at-eq0 t c =
    ap seen (sym c.in_ok-walk_expr.was) ∙ (value_any c.args.tree.now c.args.nest c.args.at c.args.head c.number_at.ensures c.if-number_at-eq0.true c.walk_expr.ensures)

pub walk_value-returns-in_err-walk_expr : goal.walk_value-returns-in_err-walk_expr
walk_value-returns-in_err-walk_expr t c =
    rw (handed c.from_residual.ensures.1 c.in_err-walk_expr.was) (value_any c.args.tree.now c.args.nest c.args.at c.args.head c.number_at.ensures c.if-number_at-eq0.true c.walk_expr.ensures)

pub walk_value-walk_only-requires : goal.walk_value-walk_only-requires
unfolding code
walk_value-walk_only-requires t c = (omega arith, a_function refl)

pub walk_value-returns : goal.walk_value-returns
walk_value-returns t c =
    ap seen (sym c.in_ok-walk_only.was) ∙ (value_method c.args.tree.now c.args.nest c.args.at c.args.head c.number_at.ensures c.if-number_at-eq0.false c.walk_only.ensures)

pub walk_value-returns-in_err-walk_only : goal.walk_value-returns-in_err-walk_only
walk_value-returns-in_err-walk_only t c =
    rw (handed c.from_residual-in_err-walk_only.ensures.1 c.in_err-walk_only.was) (value_method c.args.tree.now c.args.nest c.args.at c.args.head c.number_at.ensures c.if-number_at-eq0.false c.walk_only.ensures)

pub walk_values-walk_value-requires : goal.walk_values-walk_value-requires
walk_values-walk_value-requires t c = (omega arith, head_here c.args.tree.now c.args.nest c.loop.invariant c.loop-test.true)

pub walk_values-returns-in_err-p : goal.walk_values-returns-in_err-p
walk_values-returns-in_err-p t c =
    rw (handed c.from_residual.ensures.1 c.in_err-p.was) (values_stop c.args.tree.now c.args.nest c.loop.invariant c.loop-test.true c.walk_value.ensures c.in_err-p.was)

pub walk_values-after_head-head-requires : goal.walk_values-after_head-head-requires
walk_values-after_head-head-requires t c = head_here c.args.tree.now c.args.nest c.loop.invariant c.loop-test.true

pub walk_values-loop-preserved : goal.walk_values-loop-preserved
walk_values-loop-preserved t c =
    values_next c.args.tree.now c.args.nest c.loop.invariant c.loop-test.true c.walk_value.ensures c.in_ok-p.was c.after_head-head.ensures

pub walk_values-returns : goal.walk_values-returns
walk_values-returns t c = values_end c.args.tree.now c.args.nest c.loop.invariant c.loop-test.false
