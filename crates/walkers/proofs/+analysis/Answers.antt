-- The one proof of the cycle: the measures, and what each member's module shows. Assumes nothing.
use Rattle.std.proofs.Common.{ap, arith, false, refl, rules, subst, sym, ℕ, ⊎_elim, ◌+◌, ◌-◌, ◌∙◌, ◌≡◌}
use Rattle.rules.specs.Numbers.{code, code_at}
use Rattle.state.specs.Walks.{place_of, naming_of}
use Rattle.step_leaf.proofs.Laws.{rank_one, leaf_item, leaf_answered, no_identity, no_constant, no_variable, no_import, rank_falls, rank_more}
use Rattle.law_runs.specs.Run.{Accepted, items_at, run_items}
use Rattle.law_runs.proofs.Expressions.{constants_size, array_items, function_first_size, local_only_body}
use Rattle.law_joins.proofs.Joining.{walks_on, specs_on, went_fit, kept_fit}
use Rattle.law_joins.proofs.Readiness.{ready_on}
use Rattle.law_joins.proofs.Onward.{ready_opened, ready_value, longer_value, ready_assertions, ready_function, ready_expr, ready_local, ready_object, ready_settled, ready_heads}
use Rattle.law_joins.proofs.Asking.{opened, written_counted, fitting, references_counted, settleable}
use Rattle.law_joins.proofs.Returns.{told, array_constant, array_unopened, array_stopped, array_ended, assertions_nothing, assertions_unopened, assertions_stopped, assertions_ended, bind_unopened, bind_stopped, bind_ended, fields_stopped, fields_ended, function_unbegun, function_params_stopped, function_body_stopped, function_ended, head_alone, head_stopped, head_ended, held_first_stopped, held_one_ended, held_second_stopped, held_two_ended, item_plain, local_only, local_unbegun, local_binds_stopped, local_body_stopped, local_ended, members_unbegun, members_binds_stopped, members_fields_stopped, members_ended, object_heads_stopped, object_ended, param_alone, param_unopened, param_stopped, param_ended, plain_stopped, plain_ended, value_unopened, value_stopped, value_ended}
use Rattle.law_runs.proofs.Lists.{bind_fits, bind_value, binds_short, head_fits, head_name, param_fits, param_default, params_short, value_there, value_head_fits}
use Rattle.state.specs.Seen.{stack, contents}
use Rattle.step_spec.specs.Answers.{spec_mark, spec_numbers}
use Rattle.step_spec.proofs.Keeping.{keepable}
use Rattle.law_joins.proofs.Turns.{long_kept, long_same, longs_kept, specs_begin, specs_end, specs_first, specs_stops, specs_next, binds_unroll, turn_begin, turn_end, turn_first, turn_stop, turn_next, heads_unroll, turned, Turned, items_unroll, params_unroll, values_begin, values_end, turn_value, turn_head_fits, values_stops, values_turn}
use Rattle.law_joins.proofs.Stages.{no_limits, level, plain_level, array_fits, local_fits, function_fits, object_fits, held_fits, held_whole, held_first_there, fields_assertions, fields_values, stage_settleable, stage_body, stage_ends, function_params_there, function_stage, children_here, held_second_there, local_binds_there, local_stage, object_heads_there, members_binds_there, members_stage, members_end_asks, static_told, object_members, plain_children, plain_fits, plain_marked}
use Rattle.rules.specs.Walk.{unnamed}
use Rattle.law_runs.proofs.Holders.{not_held}
use Rattle.law_joins.specs.Ready.{an_argument, a_part, an_assertion}
use Rattle.step_leaf.specs.Leaves.{is_leaf}
use Rattle.step_place.proofs.Laws.{outermost_so}
use Rattle.step_open.proofs.Laws.{stack_depending, fit_depending}
use Rattle.walkers.proofs.Beginning.{local_begun, function_begun, members_begun, place_inside}
use Rattle.walkers.proofs.+analysis.Goals as goal

pub analyze-on_items-requires : goal.analyze-on_items-requires
analyze-on_items-requires t c =
    (omega (arith, c.decreases, rank_one c.args.tree.now c.args.at (sym c.mark_at-mark.ensures.0) (sym c.is_leaf.ensures ∙ c.if-is_leaf.true)), (c.requires.ready, leaf_item c.args.tree.now c.args.nest c.args.at (sym c.mark_at-mark.ensures.0) (sym c.is_leaf.ensures ∙ c.if-is_leaf.true) c.requires.accepted))

pub analyze-returns-then-is_leaf-clause-walks : goal.analyze-returns-then-is_leaf-clause-walks
analyze-returns-then-is_leaf-clause-walks t c =
    leaf_answered c.args.tree.now c.args.nest c.args.at (sym c.mark_at-mark.ensures.0) (place_of c.args.here) (sym c.is_leaf.ensures ∙ c.if-is_leaf.true) c.requires.accepted (naming_of c.args.naming) c.on_items.ensures.walks

pub analyze-on_array-requires : goal.analyze-on_array-requires
unfolding code
analyze-on_array-requires t c =
    (omega (arith, c.decreases), (c.requires.ready, record { read = c.requires.accepted; marked = (sym c.mark_at-mark.ensures.0 ∙ c.in-16722.is) }))

pub analyze-on_local-requires : goal.analyze-on_local-requires
unfolding code
analyze-on_local-requires t c =
    (omega (arith, c.decreases), (c.requires.ready, record { read = c.requires.accepted; marked = (sym c.mark_at-mark.ensures.0 ∙ c.in-19535.is) }))

pub analyze-on_function-requires : goal.analyze-on_function-requires
unfolding code
analyze-on_function-requires t c =
    (omega (arith, c.decreases), (c.requires.ready, record { read = c.requires.accepted; marked = (sym c.mark_at-mark.ensures.0 ∙ c.in-17998.is) }))

pub analyze-on_object-requires : goal.analyze-on_object-requires
unfolding code
analyze-on_object-requires t c =
    (omega (arith, c.decreases), (c.requires.ready, record { read = c.requires.accepted; marked = (sym c.mark_at-mark.ensures.0 ∙ c.in-20290.is) }))

pub analyze-on_plain-requires : goal.analyze-on_plain-requires
unfolding code
analyze-on_plain-requires t c =
    (omega (arith, c.decreases), (c.requires.ready, record { read = c.requires.accepted; marked = sym c.mark_at-mark.ensures.0; not_identity = no_identity (sym c.is_leaf.ensures ∙ c.if-is_leaf.false); not_constant = no_constant (sym c.is_leaf.ensures ∙ c.if-is_leaf.false); not_variable = no_variable (sym c.is_leaf.ensures ∙ c.if-is_leaf.false); not_array = (λ e. absurd (omega arith)); not_import = no_import (sym c.is_leaf.ensures ∙ c.if-is_leaf.false); not_local = (λ e. absurd (omega arith)); not_function = (λ e. absurd (omega arith)); not_object = (λ e. absurd (omega arith)) }))

pub analyze-returns-in-16722-clause-walks : goal.analyze-returns-in-16722-clause-walks
analyze-returns-in-16722-clause-walks t c = c.on_array.ensures.walks _

pub analyze-returns-in-19535-clause-walks : goal.analyze-returns-in-19535-clause-walks
analyze-returns-in-19535-clause-walks t c = c.on_local.ensures.walks _

pub analyze-returns-in-20290-clause-walks : goal.analyze-returns-in-20290-clause-walks
analyze-returns-in-20290-clause-walks t c = c.on_object.ensures.walks _

pub analyze-returns-in_default-clause-walks : goal.analyze-returns-in_default-clause-walks
analyze-returns-in_default-clause-walks t c = c.on_plain.ensures.walks _

pub on_array-overflow_add-at : goal.on_array-overflow_add-at
on_array-overflow_add-at t c = omega (arith, array_fits c.requires.there, c.requires.ready.short)

pub on_array-overflow_add-at-2 : goal.on_array-overflow_add-at-2
on_array-overflow_add-at-2 t c = omega (arith, array_fits c.requires.there, c.requires.ready.short)

pub on_array-emit_constants-requires : goal.on_array-emit_constants-requires
on_array-emit_constants-requires t c =
    (let k = constants_size c.args.tree.now c.args.nest c.args.at c.requires.there.read c.requires.there.marked (told c.args.tree.now c.args.at c.number_at-n.ensures c.constants.ensures c.if-constants.true) in (omega (arith, k, c.number_at-n.ensures), omega (arith, k, c.number_at-n.ensures, c.requires.ready.short)))

pub on_array-returns-then-constants-clause-walks : goal.on_array-returns-then-constants-clause-walks
on_array-returns-then-constants-clause-walks t c =
    λ ν. array_constant c.requires.there ν (place_of c.args.here) c.number_at-n.ensures c.constants.ensures c.if-constants.true (c.emit_constants.ensures.walks c.args.limits _ _ _ _ _ c.requires.ready.fit)

pub on_array-returns-in_err-inside-clause-walks : goal.on_array-returns-in_err-inside-clause-walks
on_array-returns-in_err-inside-clause-walks t c =
    λ ν. walks_on c.from_residual.ensures.1 (array_unopened c.requires.there ν (place_of c.args.here) c.number_at-n.ensures c.constants.ensures c.if-constants.false (opened c.open_frame.ensures c.requires.ready.fit) c.in_err-inside.was)

pub on_array-overflow_add-at-3 : goal.on_array-overflow_add-at-3
on_array-overflow_add-at-3 t c = omega (arith, array_fits c.requires.there, c.requires.ready.short)

pub on_array-overflow_sub-nest : goal.on_array-overflow_sub-nest
on_array-overflow_sub-nest t c = omega (arith, level c.requires.there)

pub on_array-on_items-requires : goal.on_array-on_items-requires
on_array-on_items-requires t c =
    (rank_falls c.args.tree.now _ _ (c.args.nest - 1) (omega (arith, c.decreases, level c.requires.there)), (ready_on (omega arith) (omega arith) (ready_opened c.args.at false c.requires.ready (opened c.open_frame.ensures c.requires.ready.fit) c.in_ok-inside.was), subst (λ (k : ℕ). Accepted (items_at c.args.tree.now (c.args.nest - 1) k (c.args.at + 6))) (sym c.number_at-n.ensures) (array_items c.args.tree.now c.args.nest c.args.at c.requires.there.read c.requires.there.marked (told c.args.tree.now c.args.at c.number_at-n.ensures c.constants.ensures c.if-constants.false))))

pub on_array-returns-in_err-after-clause-walks : goal.on_array-returns-in_err-after-clause-walks
on_array-returns-in_err-after-clause-walks t c =
    λ ν. walks_on c.from_residual-in_err-after.ensures.1 (array_stopped c.requires.there ν (place_of c.args.here) c.number_at-n.ensures c.constants.ensures c.if-constants.false (opened c.open_frame.ensures c.requires.ready.fit) c.in_ok-inside.was long_same c.on_items.ensures.walks c.in_err-after.was)

pub on_array-close_array-requires : goal.on_array-close_array-requires
on_array-close_array-requires t c = (went_fit c.on_items.ensures.walks c.in_ok-after.was).frames_kept

pub on_array-returns-clause-walks : goal.on_array-returns-clause-walks
on_array-returns-clause-walks t c =
    λ ν. array_ended c.requires.there ν (place_of c.args.here) c.number_at-n.ensures c.constants.ensures c.if-constants.false (opened c.open_frame.ensures c.requires.ready.fit) c.in_ok-inside.was long_same c.on_items.ensures.walks c.in_ok-after.was (long_kept c.on_items.ensures.same_buffers) (c.close_array.ensures.walks _ _ _ _ (went_fit c.on_items.ensures.walks c.in_ok-after.was))

pub on_assertions-returns-then-n-eq0-clause-walks : goal.on_assertions-returns-then-n-eq0-clause-walks
on_assertions-returns-then-n-eq0-clause-walks t c =
    assertions_nothing c.args.tree.now c.args.nest c.args.n c.args.at (place_of c.args.here) c.if-n-eq0.true c.requires.ready.fit

pub on_assertions-returns-in_err-inside-clause-walks : goal.on_assertions-returns-in_err-inside-clause-walks
on_assertions-returns-in_err-inside-clause-walks t c =
    walks_on c.from_residual.ensures.1 (assertions_unopened c.args.tree.now c.args.nest c.args.n c.args.at (place_of c.args.here) c.requires.accepted c.if-n-eq0.false (opened c.open_frame.ensures c.requires.ready.fit) c.in_err-inside.was)

pub on_assertions-on_items-requires : goal.on_assertions-on_items-requires
on_assertions-on_items-requires t c =
    (rank_falls c.args.tree.now _ _ c.args.nest (omega (arith, c.decreases)), (ready_opened c.args.at false c.requires.ready (opened c.open_frame.ensures c.requires.ready.fit) c.in_ok-inside.was, c.requires.accepted))

pub on_assertions-returns-in_err-after-clause-walks : goal.on_assertions-returns-in_err-after-clause-walks
on_assertions-returns-in_err-after-clause-walks t c =
    walks_on c.from_residual-in_err-after.ensures.1 (assertions_stopped c.args.tree.now c.args.nest c.args.n c.args.at (place_of c.args.here) c.requires.accepted c.if-n-eq0.false (opened c.open_frame.ensures c.requires.ready.fit) c.in_ok-inside.was long_same c.on_items.ensures.walks c.in_err-after.was)

pub on_assertions-close_assertions-requires : goal.on_assertions-close_assertions-requires
on_assertions-close_assertions-requires t c = (went_fit c.on_items.ensures.walks c.in_ok-after.was).frames_kept

pub on_assertions-returns-clause-walks : goal.on_assertions-returns-clause-walks
on_assertions-returns-clause-walks t c =
    assertions_ended c.args.tree.now c.args.nest c.args.n c.args.at (place_of c.args.here) c.requires.accepted c.if-n-eq0.false (opened c.open_frame.ensures c.requires.ready.fit) c.in_ok-inside.was long_same c.on_items.ensures.walks c.in_ok-after.was (long_kept c.on_items.ensures.same_buffers) (c.close_assertions.ensures.walks _ _ _ _ (went_fit c.on_items.ensures.walks c.in_ok-after.was))

pub on_bind-returns-in_err-inside-clause-walks : goal.on_bind-returns-in_err-inside-clause-walks
unfolding naming_of
on_bind-returns-in_err-inside-clause-walks t c =
    specs_on c.from_residual.ensures.1 (bind_unopened c.args.tree.now c.args.nest c.args.at c.args.base c.args.kept c.requires.accepted.0 (place_of c.args.here) (c.open_value.ensures.opened _ _ _ _ _ c.requires.ready.fit) c.in_err-inside.was)

pub on_bind-overflow_add-at : goal.on_bind-overflow_add-at
on_bind-overflow_add-at t c = omega (arith, (bind_fits c.args.tree.now c.args.nest c.args.at c.requires.accepted.0), c.requires.ready.short)

pub on_bind-bind_naming-requires : goal.on_bind-bind_naming-requires
unfolding naming_of
on_bind-bind_naming-requires t c = (bind_fits c.args.tree.now c.args.nest c.args.at c.requires.accepted.0)

pub on_bind-analyze-requires : goal.on_bind-analyze-requires
unfolding naming_of
on_bind-analyze-requires t c =
    (omega (arith, c.decreases), (ready_on (omega arith) (omega arith) (ready_value c.args.at c.requires.ready (c.open_value.ensures.opened _ _ _ _ _ c.requires.ready.fit) c.in_ok-inside.was), bind_value c.args.tree.now c.args.nest c.args.at c.requires.accepted.0))

pub on_bind-returns-in_err-after-clause-walks : goal.on_bind-returns-in_err-after-clause-walks
unfolding naming_of
on_bind-returns-in_err-after-clause-walks t c =
    specs_on c.from_residual-in_err-after.ensures.1 (bind_stopped c.args.tree.now c.args.nest c.args.at c.args.base c.args.kept c.requires.accepted.0 (place_of c.args.here) (c.open_value.ensures.opened _ _ _ _ _ c.requires.ready.fit) c.in_ok-inside.was long_same c.bind_naming.ensures c.analyze.ensures.walks c.in_err-after.was)

pub on_bind-close_spec-requires : goal.on_bind-close_spec-requires
unfolding naming_of
on_bind-close_spec-requires t c =
    (let f = (went_fit c.analyze.ensures.walks c.in_ok-after.was) in (keepable f, omega (arith, c.requires.accepted.1, c.requires.accepted.2), longer_value c.args.tree.now c.args.nest _ c.args.at _ (place_of c.args.here) c.requires.ready.fit (c.open_value.ensures.opened _ _ _ _ _ c.requires.ready.fit) c.in_ok-inside.was c.analyze.ensures.walks c.in_ok-after.was, f.out_long, f.frames_kept))

pub on_bind-returns-clause-walks : goal.on_bind-returns-clause-walks
unfolding naming_of stack spec_mark spec_numbers
on_bind-returns-clause-walks t c =
    bind_ended c.args.tree.now c.args.nest c.args.at c.args.base c.args.kept c.requires.accepted.0 (place_of c.args.here) (c.open_value.ensures.opened _ _ _ _ _ c.requires.ready.fit) c.in_ok-inside.was long_same c.bind_naming.ensures c.analyze.ensures.walks c.in_ok-after.was (long_kept c.analyze.ensures.same_buffers) (written_counted _ _ c.requires.ready.fit) refl refl refl (c.close_spec.ensures.walks _ (went_fit c.analyze.ensures.walks c.in_ok-after.was))

pub on_binds-loop-init : goal.on_binds-loop-init
on_binds-loop-init t c =
    (specs_begin (binds_unroll c.args.tree.now c.args.nest c.args.base (place_of c.args.here)) c.requires.accepted.0 c.requires.ready, search rules)

pub on_binds-on_bind-requires : goal.on_binds-on_bind-requires
on_binds-on_bind-requires t c =
    (omega (arith, c.decreases), (c.loop.invariant.0.ready, (specs_first (binds_unroll c.args.tree.now c.args.nest c.args.base (place_of c.args.here)) c.loop.invariant.0 c.loop-test.true, omega (arith, c.loop.invariant.0.few_kept, c.loop-test.true, binds_short c.args.tree.now c.args.nest c.args.n c.args.at c.requires.accepted.0, c.requires.ready.short), c.requires.accepted.1)))

pub on_binds-returns-in_err-state-clause-walks : goal.on_binds-returns-in_err-state-clause-walks
on_binds-returns-in_err-state-clause-walks t c =
    specs_on c.from_residual.ensures.1 (specs_stops (binds_unroll c.args.tree.now c.args.nest c.args.base (place_of c.args.here)) c.loop.invariant.0 c.loop-test.true c.on_bind.ensures.walks c.in_err-state.was)

pub on_binds-loop-preserved : goal.on_binds-loop-preserved
on_binds-loop-preserved t c =
    (specs_next (binds_unroll c.args.tree.now c.args.nest c.args.base (place_of c.args.here)) c.loop.invariant.0 c.loop-test.true c.on_bind.ensures.walks c.in_ok-state.was (longs_kept c.on_bind.ensures.same_buffers), search rules)

pub on_binds-returns-clause-walks : goal.on_binds-returns-clause-walks
on_binds-returns-clause-walks t c =
    specs_end (binds_unroll c.args.tree.now c.args.nest c.args.base (place_of c.args.here)) c.loop.invariant.0 c.loop-test.false

pub on_fields-overflow_add-object : goal.on_fields-overflow_add-object
on_fields-overflow_add-object t c = omega (arith, c.requires.fields_there.fits, c.requires.ready.short)

pub on_fields-on_assertions-requires : goal.on_fields-on_assertions-requires
on_fields-on_assertions-requires t c = (omega (arith, c.decreases), (c.requires.ready, fields_assertions c.requires.fields_there c.number_at.ensures))

pub on_fields-returns-in_err-after-clause-walks : goal.on_fields-returns-in_err-after-clause-walks
on_fields-returns-in_err-after-clause-walks t c =
    walks_on c.from_residual.ensures.1 (fields_stopped c.args.tree.now c.args.nest c.args.object c.args.at (place_of c.args.here) c.number_at.ensures c.on_assertions.ensures.walks c.in_err-after.was)

pub on_fields-overflow_add-object-2 : goal.on_fields-overflow_add-object-2
on_fields-overflow_add-object-2 t c = omega (arith, c.requires.fields_there.fits, c.requires.ready.short)

pub on_fields-overflow_add-object-3 : goal.on_fields-overflow_add-object-3
on_fields-overflow_add-object-3 t c = omega (arith, c.requires.fields_there.fits, c.requires.ready.short)

pub on_fields-on_values-requires : goal.on_fields-on_values-requires
on_fields-on_values-requires t c =
    (omega (arith, c.decreases), (ready_assertions c.requires.ready c.args.nest _ (place_of c.args.here) c.on_assertions.ensures.walks c.in_ok-after.was, fields_values c.requires.fields_there c.number_at.ensures c.number_at-2.ensures (place_of c.args.here) c.on_assertions.ensures.walks c.in_ok-after.was))

pub on_fields-returns-clause-walks : goal.on_fields-returns-clause-walks
on_fields-returns-clause-walks t c =
    fields_ended c.args.tree.now c.args.nest c.args.object c.args.at (place_of c.args.here) c.number_at.ensures c.on_assertions.ensures.walks c.in_ok-after.was (long_kept c.on_assertions.ensures.same_buffers) c.number_at-2.ensures c.on_values.ensures.walks

pub on_function-overflow_add-at : goal.on_function-overflow_add-at
on_function-overflow_add-at t c = omega (arith, function_fits c.requires.there, c.requires.ready.short)

pub on_function-begin_function-requires : goal.on_function-begin_function-requires
on_function-begin_function-requires t c =
    (record { levels = c.args.nest - 1; read = (function_params_there c.requires.ready c.requires.there c.number_at-n.ensures) }, function_fits c.requires.there, omega (arith, c.requires.ready.short), fitting c.requires.ready.fit)

pub on_function-returns-in_err-inside-clause-walks : goal.on_function-returns-in_err-inside-clause-walks
unfolding place_of naming_of
on_function-returns-in_err-inside-clause-walks t c =
    walks_on c.from_residual.ensures.1 (function_unbegun c.requires.there (naming_of c.args.naming) (place_of c.args.here) c.number_at-n.ensures (function_begun c.begin_function.ensures c.requires.ready c.requires.there c.number_at-n.ensures) c.in_err-inside.was)

pub on_function-overflow_add-at-2 : goal.on_function-overflow_add-at-2
on_function-overflow_add-at-2 t c = omega (arith, function_fits c.requires.there, c.requires.ready.short)

pub on_function-overflow_sub-nest : goal.on_function-overflow_sub-nest
on_function-overflow_sub-nest t c = omega (arith, level c.requires.there)

pub on_function-on_params-requires : goal.on_function-on_params-requires
unfolding place_of naming_of
on_function-on_params-requires t c =
    (omega (arith, c.decreases, level c.requires.there), (ready_on (omega arith) (omega arith) (ready_function (c.args.nest - 1) _ c.args.here.depth c.requires.ready (function_begun c.begin_function.ensures c.requires.ready c.requires.there c.number_at-n.ensures) c.in_ok-inside.was), function_params_there c.requires.ready c.requires.there c.number_at-n.ensures))

pub on_function-returns-in_err-known-clause-walks : goal.on_function-returns-in_err-known-clause-walks
unfolding place_of naming_of
on_function-returns-in_err-known-clause-walks t c =
    walks_on c.from_residual-in_err-known.ensures.1 (function_params_stopped c.requires.there (naming_of c.args.naming) (place_of c.args.here) c.number_at-n.ensures (function_begun c.begin_function.ensures c.requires.ready c.requires.there c.number_at-n.ensures) c.in_ok-inside.was (record { out = refl; diagnostics = c.begin_function.auto.diagnostics }) c.on_params.ensures.walks c.in_err-known.was)

pub on_function-settle_frame-settled-requires : goal.on_function-settle_frame-settled-requires
unfolding place_of naming_of
on_function-settle_frame-settled-requires t c =
    stage_settleable (function_stage c.requires.ready c.requires.there c.number_at-n.ensures (function_begun c.begin_function.ensures c.requires.ready c.requires.there c.number_at-n.ensures) c.in_ok-inside.was c.on_params.ensures.walks c.in_ok-known.was)

pub on_function-overflow_sub-nest-2 : goal.on_function-overflow_sub-nest-2
on_function-overflow_sub-nest-2 t c = omega (arith, level c.requires.there)

pub on_function-analyze-requires : goal.on_function-analyze-requires
unfolding place_of naming_of
on_function-analyze-requires t c =
    (omega (arith, c.decreases, level c.requires.there), (stage_body (function_stage c.requires.ready c.requires.there c.number_at-n.ensures (function_begun c.begin_function.ensures c.requires.ready c.requires.there c.number_at-n.ensures) c.in_ok-inside.was c.on_params.ensures.walks c.in_ok-known.was) (c.settle_frame-settled.ensures.becomes _ _ _ _ _ (kept_fit c.on_params.ensures.walks c.in_ok-known.was)) _ (level c.requires.there) c.deeper.ensures.same c.deeper.ensures.depth, (function_stage c.requires.ready c.requires.there c.number_at-n.ensures (function_begun c.begin_function.ensures c.requires.ready c.requires.there c.number_at-n.ensures) c.in_ok-inside.was c.on_params.ensures.walks c.in_ok-known.was).body))

pub on_function-returns-in_err-after-clause-walks : goal.on_function-returns-in_err-after-clause-walks
unfolding place_of naming_of
on_function-returns-in_err-after-clause-walks t c =
    walks_on c.from_residual-in_err-after.ensures.1 (function_body_stopped c.requires.there (naming_of c.args.naming) (place_of c.args.here) c.number_at-n.ensures (function_begun c.begin_function.ensures c.requires.ready c.requires.there c.number_at-n.ensures) c.in_ok-inside.was (record { out = refl; diagnostics = c.begin_function.auto.diagnostics }) c.on_params.ensures.walks c.in_ok-known.was (long_kept c.on_params.ensures.same_buffers) (sym (references_counted (contents c.args.lent.now) c.args.st)) (c.settle_frame-settled.ensures.becomes _ _ _ _ _ (kept_fit c.on_params.ensures.walks c.in_ok-known.was)) long_same c.deeper.ensures.same c.analyze.ensures.walks c.in_err-after.was)

pub on_function-overflow_add-at-3 : goal.on_function-overflow_add-at-3
on_function-overflow_add-at-3 t c = omega (arith, function_fits c.requires.there, c.requires.ready.short)

pub on_function-first_defaults-defaults-requires : goal.on_function-first_defaults-defaults-requires
on_function-first_defaults-defaults-requires t c =
    (c.requires.ready.short, (λ some. omega (arith, function_first_size c.args.tree.now c.args.nest c.args.at c.requires.there.read c.requires.there.marked (omega (arith, some, c.number_at-n.ensures)))))

pub on_function-overflow_add-at-4 : goal.on_function-overflow_add-at-4
on_function-overflow_add-at-4 t c = omega (arith, function_fits c.requires.there, c.requires.ready.short)

pub on_function-finish_function-requires : goal.on_function-finish_function-requires
unfolding place_of naming_of
on_function-finish_function-requires t c =
    stage_ends (function_stage c.requires.ready c.requires.there c.number_at-n.ensures (function_begun c.begin_function.ensures c.requires.ready c.requires.there c.number_at-n.ensures) c.in_ok-inside.was c.on_params.ensures.walks c.in_ok-known.was) (c.settle_frame-settled.ensures.becomes _ _ _ _ _ (kept_fit c.on_params.ensures.walks c.in_ok-known.was)) _ (level c.requires.there) c.deeper.ensures.same c.deeper.ensures.depth unnamed c.analyze.ensures.walks c.in_ok-after.was

pub on_function-returns-clause-walks : goal.on_function-returns-clause-walks
unfolding place_of naming_of
on_function-returns-clause-walks t c =
    let done = function_ended c.requires.there (naming_of c.args.naming) (place_of c.args.here) c.number_at-n.ensures (function_begun c.begin_function.ensures c.requires.ready c.requires.there c.number_at-n.ensures) c.in_ok-inside.was (record { out = refl; diagnostics = c.begin_function.auto.diagnostics }) c.on_params.ensures.walks c.in_ok-known.was (long_kept c.on_params.ensures.same_buffers) (sym (references_counted (contents c.args.lent.now) c.args.st)) (c.settle_frame-settled.ensures.becomes _ _ _ _ _ (kept_fit c.on_params.ensures.walks c.in_ok-known.was)) long_same c.deeper.ensures.same c.analyze.ensures.walks c.in_ok-after.was (long_kept c.analyze.ensures.same_buffers) c.number_at.ensures (written_counted _ _ c.requires.ready.fit) (written_counted _ _ (kept_fit c.on_params.ensures.walks c.in_ok-known.was)) c.first_defaults-defaults.ensures c.finish_function.ensures.finished in search rules

pub on_head-overflow_add-at : goal.on_head-overflow_add-at
on_head-overflow_add-at t c = omega (arith, (head_fits c.args.tree.now c.args.nest c.args.at c.requires.accepted), c.requires.ready.short)

pub on_head-overflow_add-at-then-number_at-eq0 : goal.on_head-overflow_add-at-then-number_at-eq0
on_head-overflow_add-at-then-number_at-eq0 t c =
    omega (arith, (head_fits c.args.tree.now c.args.nest c.args.at c.requires.accepted), c.requires.ready.short)

pub on_head-emit_head-requires : goal.on_head-emit_head-requires
unfolding naming_of
on_head-emit_head-requires t c = (head_fits c.args.tree.now c.args.nest c.args.at c.requires.accepted)

pub on_head-returns-then-number_at-eq0-clause-walks : goal.on_head-returns-then-number_at-eq0-clause-walks
unfolding naming_of
on_head-returns-then-number_at-eq0-clause-walks t c =
    head_alone c.args.tree.now c.args.nest c.args.at c.requires.accepted (place_of c.args.here) c.number_at.ensures c.if-number_at-eq0.true (c.emit_head.ensures.walks c.args.limits _ _ _ _ _ c.requires.ready.fit)

pub on_head-overflow_add-at-2 : goal.on_head-overflow_add-at-2
on_head-overflow_add-at-2 t c = omega (arith, (head_fits c.args.tree.now c.args.nest c.args.at c.requires.accepted), c.requires.ready.short)

pub on_head-analyze-requires : goal.on_head-analyze-requires
unfolding naming_of
on_head-analyze-requires t c =
    (omega (arith, c.decreases), (ready_on (omega arith) (omega arith) c.requires.ready, head_name c.args.tree.now c.args.nest c.args.at c.requires.accepted (λ e. c.if-number_at-eq0.false (c.number_at.ensures ∙ e))))

pub on_head-returns-in_err-after-clause-walks : goal.on_head-returns-in_err-after-clause-walks
unfolding naming_of
on_head-returns-in_err-after-clause-walks t c =
    walks_on c.from_residual.ensures.1 (head_stopped c.args.tree.now c.args.nest c.args.at c.requires.accepted (place_of c.args.here) c.number_at.ensures c.if-number_at-eq0.false c.analyze.ensures.walks c.in_err-after.was)

pub on_head-emit_head-requires-2 : goal.on_head-emit_head-requires-2
unfolding naming_of
on_head-emit_head-requires-2 t c = (head_fits c.args.tree.now c.args.nest c.args.at c.requires.accepted)

pub on_head-returns-clause-walks : goal.on_head-returns-clause-walks
unfolding naming_of
on_head-returns-clause-walks t c =
    head_ended c.args.tree.now c.args.nest c.args.at c.requires.accepted (place_of c.args.here) c.number_at.ensures c.if-number_at-eq0.false c.analyze.ensures.walks c.in_ok-after.was (long_kept c.analyze.ensures.same_buffers) (c.emit_head-2.ensures.walks c.args.limits _ _ _ _ _ (went_fit c.analyze.ensures.walks c.in_ok-after.was))

pub on_heads-loop-init : goal.on_heads-loop-init
on_heads-loop-init t c =
    (turn_begin (heads_unroll c.args.tree.now c.args.nest (place_of c.args.here)) c.requires.accepted c.requires.ready, search rules)

pub on_heads-on_head-requires : goal.on_heads-on_head-requires
on_heads-on_head-requires t c =
    (omega (arith, c.decreases), (c.loop.invariant.0.ready, turn_first (heads_unroll c.args.tree.now c.args.nest (place_of c.args.here)) c.loop.invariant.0 c.loop-test.true))

pub on_heads-returns-in_err-state-clause-walks : goal.on_heads-returns-in_err-state-clause-walks
on_heads-returns-in_err-state-clause-walks t c =
    walks_on c.from_residual.ensures.1 (turn_stop (heads_unroll c.args.tree.now c.args.nest (place_of c.args.here)) c.loop.invariant.0 c.loop-test.true c.on_head.ensures.walks c.in_err-state.was)

pub on_heads-loop-preserved : goal.on_heads-loop-preserved
on_heads-loop-preserved t c =
    (turn_next (heads_unroll c.args.tree.now c.args.nest (place_of c.args.here)) c.loop.invariant.0 c.loop-test.true c.on_head.ensures.walks c.in_ok-state.was (longs_kept c.on_head.ensures.same_buffers), search rules)

pub on_heads-returns-clause-walks : goal.on_heads-returns-clause-walks
on_heads-returns-clause-walks t c = turn_end (heads_unroll c.args.tree.now c.args.nest (place_of c.args.here)) c.loop.invariant.0 c.loop-test.false

pub on_held-slice_bounds-children-count : goal.on_held-slice_bounds-children-count
on_held-slice_bounds-children-count t c = omega (arith, held_fits c.requires.held_there)

pub on_held-slice_bounds-children-start : goal.on_held-slice_bounds-children-start
on_held-slice_bounds-children-start t c = omega (arith, held_fits c.requires.held_there)

pub on_held-slice_bounds-children-end : goal.on_held-slice_bounds-children-end
on_held-slice_bounds-children-end t c = omega (arith, held_fits c.requires.held_there)

pub on_held-overflow_add-at : goal.on_held-overflow_add-at
on_held-overflow_add-at t c = omega (arith, held_fits c.requires.held_there, c.requires.ready.short)

pub on_held-analyze-requires : goal.on_held-analyze-requires
unfolding naming_of
on_held-analyze-requires t c =
    (omega (arith, c.decreases), (ready_on (omega arith) (omega arith) c.requires.ready, held_first_there c.requires.held_there))

pub on_held-returns-in_err-after-clause-walks : goal.on_held-returns-in_err-after-clause-walks
unfolding naming_of
on_held-returns-in_err-after-clause-walks t c =
    walks_on c.from_residual.ensures.1 (held_first_stopped c.args.tree.now c.args.nest c.args.at c.requires.held_there.read c.requires.held_there.marked (place_of c.args.here) c.requires.held_there.holder (children_here c.args.tree.now c.args.mark c.args.at c.children-n.ensures) c.analyze.ensures.walks c.in_err-after.was)

pub on_held-copy_record-requires : goal.on_held-copy_record-requires
unfolding naming_of
on_held-copy_record-requires t c = held_whole c.requires.held_there

pub on_held-returns-then-n-eq1-clause-walks : goal.on_held-returns-then-n-eq1-clause-walks
unfolding naming_of
on_held-returns-then-n-eq1-clause-walks t c =
    held_one_ended c.args.tree.now c.args.nest c.args.at c.requires.held_there.read c.requires.held_there.marked (place_of c.args.here) c.requires.held_there.holder (children_here c.args.tree.now c.args.mark c.args.at c.children-n.ensures) c.analyze.ensures.walks c.if-n-eq1.true c.in_ok-after.was (long_kept c.analyze.ensures.same_buffers) (c.copy_record.ensures.walks c.args.limits _ _ _ _ _ (went_fit c.analyze.ensures.walks c.in_ok-after.was))

pub on_held-analyze-requires-2 : goal.on_held-analyze-requires-2
unfolding naming_of
on_held-analyze-requires-2 t c =
    (omega (arith, c.decreases), (ready_expr (ready_on (omega arith) (omega arith) c.requires.ready) c.args.nest unnamed (place_of c.args.here) c.analyze.ensures.walks c.in_ok-after.was, held_second_there c.requires.held_there (children_here c.args.tree.now c.args.mark c.args.at c.children-n.ensures) c.if-n-eq1.false (place_of c.args.here) c.analyze.ensures.walks c.in_ok-after.was))

pub on_held-returns-in_err-after-2-clause-walks : goal.on_held-returns-in_err-after-2-clause-walks
unfolding naming_of
on_held-returns-in_err-after-2-clause-walks t c =
    walks_on c.from_residual-in_err-after-2.ensures.1 (held_second_stopped c.args.tree.now c.args.nest c.args.at c.requires.held_there.read c.requires.held_there.marked (place_of c.args.here) c.requires.held_there.holder (children_here c.args.tree.now c.args.mark c.args.at c.children-n.ensures) c.analyze.ensures.walks c.if-n-eq1.false c.in_ok-after.was (long_kept c.analyze.ensures.same_buffers) c.analyze-2.ensures.walks c.in_err-after-2.was)

pub on_held-copy_record-requires-2 : goal.on_held-copy_record-requires-2
unfolding naming_of
on_held-copy_record-requires-2 t c = held_whole c.requires.held_there

pub on_held-returns-clause-walks : goal.on_held-returns-clause-walks
unfolding naming_of
on_held-returns-clause-walks t c =
    held_two_ended c.args.tree.now c.args.nest c.args.at c.requires.held_there.read c.requires.held_there.marked (place_of c.args.here) c.requires.held_there.holder (children_here c.args.tree.now c.args.mark c.args.at c.children-n.ensures) c.analyze.ensures.walks c.if-n-eq1.false c.in_ok-after.was (long_kept c.analyze.ensures.same_buffers) c.analyze-2.ensures.walks c.in_ok-after-2.was (long_kept c.analyze-2.ensures.same_buffers) (c.copy_record-2.ensures.walks c.args.limits _ _ _ _ _ (went_fit c.analyze-2.ensures.walks c.in_ok-after-2.was))

pub on_item-on_held-requires : goal.on_item-on_held-requires
unfolding code
on_item-on_held-requires t c =
    (omega (arith, c.decreases), (c.requires.ready, record { read = c.requires.accepted; marked = sym c.mark_at-mark.ensures.0; holder = ⊎_elim an_assertion (⊎_elim an_argument a_part) c.in-20033.is }))

pub on_item-analyze-requires : goal.on_item-analyze-requires
unfolding code
on_item-analyze-requires t c =
    (omega (arith, c.decreases), (c.requires.ready, not_held c.args.tree.now no_limits c.args.nest c.args.at c.requires.accepted _ (sym c.mark_at-mark.ensures.0) (λ e. absurd (grind arith)) (λ e. absurd (grind arith)) (λ e. absurd (grind arith))))

pub on_item-returns-in_default-clause-walks : goal.on_item-returns-in_default-clause-walks
unfolding code naming_of
on_item-returns-in_default-clause-walks t c =
    item_plain c.args.tree.now c.args.nest c.args.at c.requires.accepted (sym c.mark_at-mark.ensures.0) (place_of c.args.here) (λ e. absurd (grind arith)) (λ e. absurd (grind arith)) (λ e. absurd (grind arith)) c.analyze.ensures.walks

pub on_items-loop-init : goal.on_items-loop-init
on_items-loop-init t c =
    (turn_begin (items_unroll c.args.tree.now c.args.nest (place_of c.args.here)) c.requires.accepted c.requires.ready, search rules)

pub on_items-on_leaf_item-item-requires-clause-leaf_there : goal.on_items-on_leaf_item-item-requires-clause-leaf_there
on_items-on_leaf_item-item-requires-clause-leaf_there t c =
    record { read = turn_first (items_unroll c.args.tree.now c.args.nest (place_of c.args.here)) c.loop.invariant.0 c.loop-test.true; marked = sym c.mark_at-mark.ensures.0; leaf = (sym c.is_leaf.ensures ∙ c.if-is_leaf.true) }

pub on_items-on_item-item-requires : goal.on_items-on_item-item-requires
on_items-on_item-item-requires t c =
    (omega (arith, c.decreases, (rank_more c.args.tree.now c.args.at c.args.n (λ one. subst (λ (q : ℕ). is_leaf (code_at c.args.tree.now q) ≡ false) (c.loop.invariant.0.begun (omega (arith, one, c.loop-test.true))) (ap is_leaf (sym c.mark_at-mark.ensures.0) ∙ (sym c.is_leaf.ensures ∙ c.if-is_leaf.false))))), (c.loop.invariant.0.ready, turn_first (items_unroll c.args.tree.now c.args.nest (place_of c.args.here)) c.loop.invariant.0 c.loop-test.true))

pub on_items-returns-in_err-state-clause-walks : goal.on_items-returns-in_err-state-clause-walks
on_items-returns-in_err-state-clause-walks t c =
    let k : Turned c.args.limits c.loop.lent c.if-is_leaf.lent c.loop.state (λ L σ. run_items c.args.tree.now L c.args.nest 1 c.loop.p (place_of c.args.here) σ) c.if-is_leaf.item =
    elim c.if-is_leaf.branch [
      | goal.on_items-then-is_leaf w ↦ turned w.on_leaf_item-item.ensures.walks w.on_leaf_item-item.ensures.same_buffers w.lent-is w.item-is
      | goal.on_items-else-is_leaf w ↦ turned w.on_item-item.ensures.walks w.on_item-item.ensures.same_buffers w.lent-is w.item-is
    ]
    in
    walks_on c.from_residual.ensures.1 (turn_stop (items_unroll c.args.tree.now c.args.nest (place_of c.args.here)) c.loop.invariant.0 c.loop-test.true k.walks c.in_err-state.was)

pub on_items-loop-preserved : goal.on_items-loop-preserved
on_items-loop-preserved t c =
    let k : Turned c.args.limits c.loop.lent c.if-is_leaf.lent c.loop.state (λ L σ. run_items c.args.tree.now L c.args.nest 1 c.loop.p (place_of c.args.here) σ) c.if-is_leaf.item =
    elim c.if-is_leaf.branch [
      | goal.on_items-then-is_leaf w ↦ turned w.on_leaf_item-item.ensures.walks w.on_leaf_item-item.ensures.same_buffers w.lent-is w.item-is
      | goal.on_items-else-is_leaf w ↦ turned w.on_item-item.ensures.walks w.on_item-item.ensures.same_buffers w.lent-is w.item-is
    ]
    in
    (turn_next (items_unroll c.args.tree.now c.args.nest (place_of c.args.here)) c.loop.invariant.0 c.loop-test.true k.walks c.in_ok-state.was (longs_kept k.same_buffers), search rules)

pub on_items-returns-clause-walks : goal.on_items-returns-clause-walks
on_items-returns-clause-walks t c = turn_end (items_unroll c.args.tree.now c.args.nest (place_of c.args.here)) c.loop.invariant.0 c.loop-test.false

pub on_local-overflow_add-at : goal.on_local-overflow_add-at
on_local-overflow_add-at t c = omega (arith, local_fits c.requires.there, c.requires.ready.short)

pub on_local-overflow_add-at-then-n-eq0 : goal.on_local-overflow_add-at-then-n-eq0
on_local-overflow_add-at-then-n-eq0 t c = omega (arith, local_fits c.requires.there, c.requires.ready.short)

pub on_local-overflow_sub-nest : goal.on_local-overflow_sub-nest
on_local-overflow_sub-nest t c = omega (arith, level c.requires.there)

pub on_local-analyze-requires : goal.on_local-analyze-requires
unfolding naming_of
on_local-analyze-requires t c =
    (omega (arith, c.decreases, level c.requires.there), (ready_on (omega arith) (omega arith) c.requires.ready, local_only_body c.args.tree.now c.args.nest c.args.at c.requires.there.read c.requires.there.marked (sym c.number_at-n.ensures ∙ c.if-n-eq0.true)))

pub on_local-returns-then-n-eq0-clause-walks : goal.on_local-returns-then-n-eq0-clause-walks
unfolding place_of naming_of
on_local-returns-then-n-eq0-clause-walks t c =
    λ ν. local_only c.requires.there ν (place_of c.args.here) c.number_at-n.ensures c.if-n-eq0.true c.analyze.ensures.walks

pub on_local-begin_local-requires : goal.on_local-begin_local-requires
on_local-begin_local-requires t c =
    (record { levels = c.args.nest - 1; read = (local_binds_there c.requires.ready c.requires.there c.number_at-n.ensures) }, local_fits c.requires.there, omega (arith, c.requires.ready.short), fitting c.requires.ready.fit)

pub on_local-returns-in_err-inside-clause-walks : goal.on_local-returns-in_err-inside-clause-walks
unfolding place_of naming_of
on_local-returns-in_err-inside-clause-walks t c =
    λ ν. walks_on c.from_residual.ensures.1 (local_unbegun c.requires.there ν (place_of c.args.here) c.number_at-n.ensures c.if-n-eq0.false (local_begun c.begin_local.ensures c.requires.ready c.requires.there c.number_at-n.ensures) c.in_err-inside.was)

pub on_local-overflow_add-at-2 : goal.on_local-overflow_add-at-2
on_local-overflow_add-at-2 t c = omega (arith, local_fits c.requires.there, c.requires.ready.short)

pub on_local-overflow_sub-nest-2 : goal.on_local-overflow_sub-nest-2
on_local-overflow_sub-nest-2 t c = omega (arith, level c.requires.there)

pub on_local-on_binds-requires : goal.on_local-on_binds-requires
unfolding place_of naming_of
on_local-on_binds-requires t c =
    (omega (arith, c.decreases, level c.requires.there), (ready_on (omega arith) (omega arith) (ready_local (c.args.nest - 1) _ c.args.here.depth c.requires.ready (local_begun c.begin_local.ensures c.requires.ready c.requires.there c.number_at-n.ensures) c.in_ok-inside.was), ((local_binds_there c.requires.ready c.requires.there c.number_at-n.ensures), omega arith)))

pub on_local-returns-in_err-known-clause-walks : goal.on_local-returns-in_err-known-clause-walks
unfolding place_of naming_of
on_local-returns-in_err-known-clause-walks t c =
    λ ν. walks_on c.from_residual-in_err-known.ensures.1 (local_binds_stopped c.requires.there ν (place_of c.args.here) c.number_at-n.ensures c.if-n-eq0.false (local_begun c.begin_local.ensures c.requires.ready c.requires.there c.number_at-n.ensures) c.in_ok-inside.was (record { out = refl; diagnostics = c.begin_local.auto.diagnostics }) c.on_binds.ensures.walks c.in_err-known.was)

pub on_local-settle_frame-settled-requires : goal.on_local-settle_frame-settled-requires
unfolding place_of naming_of
on_local-settle_frame-settled-requires t c =
    stage_settleable (local_stage c.requires.ready c.requires.there c.number_at-n.ensures (local_begun c.begin_local.ensures c.requires.ready c.requires.there c.number_at-n.ensures) c.in_ok-inside.was c.on_binds.ensures.walks c.in_ok-known.was)

pub on_local-overflow_sub-nest-3 : goal.on_local-overflow_sub-nest-3
on_local-overflow_sub-nest-3 t c = omega (arith, level c.requires.there)

pub on_local-analyze-requires-2 : goal.on_local-analyze-requires-2
unfolding place_of naming_of
on_local-analyze-requires-2 t c =
    (omega (arith, c.decreases, level c.requires.there), (stage_body (local_stage c.requires.ready c.requires.there c.number_at-n.ensures (local_begun c.begin_local.ensures c.requires.ready c.requires.there c.number_at-n.ensures) c.in_ok-inside.was c.on_binds.ensures.walks c.in_ok-known.was) (c.settle_frame-settled.ensures.becomes _ _ _ _ _ (kept_fit c.on_binds.ensures.walks c.in_ok-known.was)) _ (level c.requires.there) c.deeper.ensures.same c.deeper.ensures.depth, (local_stage c.requires.ready c.requires.there c.number_at-n.ensures (local_begun c.begin_local.ensures c.requires.ready c.requires.there c.number_at-n.ensures) c.in_ok-inside.was c.on_binds.ensures.walks c.in_ok-known.was).body))

pub on_local-returns-in_err-after-clause-walks : goal.on_local-returns-in_err-after-clause-walks
unfolding place_of naming_of
on_local-returns-in_err-after-clause-walks t c =
    λ ν. walks_on c.from_residual-in_err-after.ensures.1 (local_body_stopped c.requires.there ν (place_of c.args.here) c.number_at-n.ensures c.if-n-eq0.false (local_begun c.begin_local.ensures c.requires.ready c.requires.there c.number_at-n.ensures) c.in_ok-inside.was (record { out = refl; diagnostics = c.begin_local.auto.diagnostics }) c.on_binds.ensures.walks c.in_ok-known.was (long_kept c.on_binds.ensures.same_buffers) (sym (references_counted (contents c.args.lent.now) c.args.st)) (c.settle_frame-settled.ensures.becomes _ _ _ _ _ (kept_fit c.on_binds.ensures.walks c.in_ok-known.was)) long_same c.deeper.ensures.same c.analyze-2.ensures.walks c.in_err-after.was)

pub on_local-finish_local-requires : goal.on_local-finish_local-requires
unfolding place_of naming_of
on_local-finish_local-requires t c =
    stage_ends (local_stage c.requires.ready c.requires.there c.number_at-n.ensures (local_begun c.begin_local.ensures c.requires.ready c.requires.there c.number_at-n.ensures) c.in_ok-inside.was c.on_binds.ensures.walks c.in_ok-known.was) (c.settle_frame-settled.ensures.becomes _ _ _ _ _ (kept_fit c.on_binds.ensures.walks c.in_ok-known.was)) _ (level c.requires.there) c.deeper.ensures.same c.deeper.ensures.depth unnamed c.analyze-2.ensures.walks c.in_ok-after.was

pub on_local-returns-clause-walks : goal.on_local-returns-clause-walks
unfolding place_of naming_of
on_local-returns-clause-walks t c =
    λ ν. let done = local_ended c.requires.there ν (place_of c.args.here) c.number_at-n.ensures c.if-n-eq0.false (local_begun c.begin_local.ensures c.requires.ready c.requires.there c.number_at-n.ensures) c.in_ok-inside.was (record { out = refl; diagnostics = c.begin_local.auto.diagnostics }) c.on_binds.ensures.walks c.in_ok-known.was (long_kept c.on_binds.ensures.same_buffers) (sym (references_counted (contents c.args.lent.now) c.args.st)) (c.settle_frame-settled.ensures.becomes _ _ _ _ _ (kept_fit c.on_binds.ensures.walks c.in_ok-known.was)) long_same c.deeper.ensures.same c.analyze-2.ensures.walks c.in_ok-after.was (long_kept c.analyze-2.ensures.same_buffers) c.finish_local.ensures.finished in search rules

pub on_members-overflow_add-object : goal.on_members-overflow_add-object
on_members-overflow_add-object t c = omega (arith, object_fits c.requires.members_there.there, c.requires.ready.short)

pub on_members-begin_object-requires : goal.on_members-begin_object-requires
on_members-begin_object-requires t c =
    (record { levels = c.args.nest - 1; read = (members_binds_there c.requires.ready c.requires.members_there c.number_at-n.ensures) }, omega (arith, object_fits c.requires.members_there.there), omega (arith, c.requires.ready.short), fitting c.requires.ready.fit)

pub on_members-returns-in_err-opened-clause-walks : goal.on_members-returns-in_err-opened-clause-walks
on_members-returns-in_err-opened-clause-walks t c =
    walks_on c.from_residual.ensures.1 (members_unbegun c.args.tree.now c.args.nest c.args.at c.args.object (place_of c.args.here) c.number_at-n.ensures (members_begun c.begin_object.ensures c.requires.ready c.requires.members_there c.number_at-n.ensures) c.in_err-opened.was)

pub on_members-overflow_sub-nest : goal.on_members-overflow_sub-nest
on_members-overflow_sub-nest t c = omega (arith, level c.requires.members_there.there)

pub on_members-on_binds-requires : goal.on_members-on_binds-requires
on_members-on_binds-requires t c =
    (omega (arith, c.decreases, level c.requires.members_there.there), (ready_on (omega arith) (omega arith) (ready_object (c.args.nest - 1) _ c.args.object c.args.at (place_inside (contents c.args.lent.now) c.args.st c.in_object-inside.ensures) c.in_object-inside.ensures.depth c.requires.ready (members_begun c.begin_object.ensures c.requires.ready c.requires.members_there c.number_at-n.ensures) c.in_ok-opened.was), ((members_binds_there c.requires.ready c.requires.members_there c.number_at-n.ensures), omega arith)))

pub on_members-returns-in_err-known-clause-walks : goal.on_members-returns-in_err-known-clause-walks
on_members-returns-in_err-known-clause-walks t c =
    walks_on c.from_residual-in_err-known.ensures.1 (members_binds_stopped c.args.tree.now c.args.nest c.args.at c.args.object (place_of c.args.here) c.number_at-n.ensures (members_begun c.begin_object.ensures c.requires.ready c.requires.members_there c.number_at-n.ensures) c.in_ok-opened.was (record { out = refl; diagnostics = c.begin_object.auto.diagnostics }) (place_inside (contents c.args.lent.now) c.args.st c.in_object-inside.ensures) c.on_binds.ensures.walks c.in_err-known.was)

pub on_members-settle_frame-settled-requires : goal.on_members-settle_frame-settled-requires
on_members-settle_frame-settled-requires t c =
    (let g = (members_stage c.requires.ready c.requires.members_there c.number_at-n.ensures _ (place_inside (contents c.args.lent.now) c.args.st c.in_object-inside.ensures) c.in_object-inside.ensures.depth (members_begun c.begin_object.ensures c.requires.ready c.requires.members_there c.number_at-n.ensures) c.in_ok-opened.was c.on_binds.ensures.walks c.in_ok-known.was) in settleable g.framed.ready g.inside g.framed.before_there g.few)

pub on_members-overflow_sub-nest-2 : goal.on_members-overflow_sub-nest-2
on_members-overflow_sub-nest-2 t c = omega (arith, level c.requires.members_there.there)

pub on_members-on_fields-requires : goal.on_members-on_fields-requires
on_members-on_fields-requires t c =
    (omega (arith, c.decreases, level c.requires.members_there.there), (ready_settled (members_stage c.requires.ready c.requires.members_there c.number_at-n.ensures _ (place_inside (contents c.args.lent.now) c.args.st c.in_object-inside.ensures) c.in_object-inside.ensures.depth (members_begun c.begin_object.ensures c.requires.ready c.requires.members_there c.number_at-n.ensures) c.in_ok-opened.was c.on_binds.ensures.walks c.in_ok-known.was).framed (c.settle_frame-settled.ensures.becomes _ _ _ _ _ (kept_fit c.on_binds.ensures.walks c.in_ok-known.was)) (level c.requires.members_there.there) c.deeper.ensures.same c.deeper.ensures.depth, (members_stage c.requires.ready c.requires.members_there c.number_at-n.ensures _ (place_inside (contents c.args.lent.now) c.args.st c.in_object-inside.ensures) c.in_object-inside.ensures.depth (members_begun c.begin_object.ensures c.requires.ready c.requires.members_there c.number_at-n.ensures) c.in_ok-opened.was c.on_binds.ensures.walks c.in_ok-known.was).fields))

pub on_members-returns-in_err-after-clause-walks : goal.on_members-returns-in_err-after-clause-walks
on_members-returns-in_err-after-clause-walks t c =
    walks_on c.from_residual-in_err-after.ensures.1 (members_fields_stopped c.args.tree.now c.args.nest c.args.at c.args.object (place_of c.args.here) c.number_at-n.ensures (members_begun c.begin_object.ensures c.requires.ready c.requires.members_there c.number_at-n.ensures) c.in_ok-opened.was (record { out = refl; diagnostics = c.begin_object.auto.diagnostics }) (place_inside (contents c.args.lent.now) c.args.st c.in_object-inside.ensures) c.on_binds.ensures.walks c.in_ok-known.was (long_kept c.on_binds.ensures.same_buffers) (sym (references_counted (contents c.args.lent.now) c.args.st)) (c.settle_frame-settled.ensures.becomes _ _ _ _ _ (kept_fit c.on_binds.ensures.walks c.in_ok-known.was)) long_same c.deeper.ensures.same c.on_fields.ensures.walks c.in_err-after.was)

pub on_members-overflow_add-object-2 : goal.on_members-overflow_add-object-2
on_members-overflow_add-object-2 t c = omega (arith, object_fits c.requires.members_there.there, c.requires.ready.short)

pub on_members-overflow_add-object-3 : goal.on_members-overflow_add-object-3
on_members-overflow_add-object-3 t c = omega (arith, object_fits c.requires.members_there.there, c.requires.ready.short)

pub on_members-overflow_add-object-4 : goal.on_members-overflow_add-object-4
on_members-overflow_add-object-4 t c = omega (arith, object_fits c.requires.members_there.there, c.requires.ready.short)

pub on_members-is_static-requires : goal.on_members-is_static-requires
on_members-is_static-requires t c =
    (record { levels = c.args.nest - 1; read = object_heads_there c.requires.members_there.there c.number_at-fields.ensures })

pub on_members-finish_object-requires : goal.on_members-finish_object-requires
on_members-finish_object-requires t c =
    members_end_asks (members_stage c.requires.ready c.requires.members_there c.number_at-n.ensures _ (place_inside (contents c.args.lent.now) c.args.st c.in_object-inside.ensures) c.in_object-inside.ensures.depth (members_begun c.begin_object.ensures c.requires.ready c.requires.members_there c.number_at-n.ensures) c.in_ok-opened.was c.on_binds.ensures.walks c.in_ok-known.was) (c.settle_frame-settled.ensures.becomes _ _ _ _ _ (kept_fit c.on_binds.ensures.walks c.in_ok-known.was)) _ (level c.requires.members_there.there) c.deeper.ensures.same c.deeper.ensures.depth c.on_fields.ensures.walks c.in_ok-after.was

pub on_members-returns-clause-walks : goal.on_members-returns-clause-walks
unfolding stack
on_members-returns-clause-walks t c =
    let done = members_ended c.args.tree.now c.args.nest c.args.at c.args.object (place_of c.args.here) c.number_at-n.ensures (members_begun c.begin_object.ensures c.requires.ready c.requires.members_there c.number_at-n.ensures) c.in_ok-opened.was (record { out = refl; diagnostics = c.begin_object.auto.diagnostics }) (place_inside (contents c.args.lent.now) c.args.st c.in_object-inside.ensures) c.on_binds.ensures.walks c.in_ok-known.was (long_kept c.on_binds.ensures.same_buffers) (sym (references_counted (contents c.args.lent.now) c.args.st)) (c.settle_frame-settled.ensures.becomes _ _ _ _ _ (kept_fit c.on_binds.ensures.walks c.in_ok-known.was)) long_same c.deeper.ensures.same c.on_fields.ensures.walks c.in_ok-after.was (long_kept c.on_fields.ensures.same_buffers) refl (sym (outermost_so c.args.here)) c.number_at.ensures c.number_at-fields.ensures (static_told c.requires.members_there c.number_at-fields.ensures c.is_static.ensures) (c.finish_object.ensures.finished c.args.st.dollar_used) in search rules

pub on_object-overflow_add-at : goal.on_object-overflow_add-at
on_object-overflow_add-at t c = omega (arith, object_fits c.requires.there, c.requires.ready.short)

pub on_object-overflow_add-at-2 : goal.on_object-overflow_add-at-2
on_object-overflow_add-at-2 t c = omega (arith, object_fits c.requires.there, c.requires.ready.short)

pub on_object-overflow_sub-nest : goal.on_object-overflow_sub-nest
on_object-overflow_sub-nest t c = omega (arith, level c.requires.there)

pub on_object-on_heads-requires : goal.on_object-on_heads-requires
on_object-on_heads-requires t c =
    (omega (arith, c.decreases, level c.requires.there), (ready_on (omega arith) (omega arith) c.requires.ready, object_heads_there c.requires.there c.number_at-fields.ensures))

pub on_object-returns-in_err-outside-clause-walks : goal.on_object-returns-in_err-outside-clause-walks
on_object-returns-in_err-outside-clause-walks t c =
    λ ν. walks_on c.from_residual.ensures.1 (object_heads_stopped c.requires.there ν (place_of c.args.here) c.number_at-fields.ensures c.on_heads.ensures.walks c.in_err-outside.was)

pub on_object-on_members-requires : goal.on_object-on_members-requires
on_object-on_members-requires t c =
    (omega (arith, c.decreases), (ready_heads c.requires.ready _ _ (place_of c.args.here) c.on_heads.ensures.walks c.in_ok-outside.was, object_members c.requires.there c.number_at-fields.ensures (place_of c.args.here) c.on_heads.ensures.walks c.in_ok-outside.was))

pub on_object-returns-clause-walks : goal.on_object-returns-clause-walks
on_object-returns-clause-walks t c =
    λ ν. object_ended c.requires.there ν (place_of c.args.here) c.number_at-fields.ensures c.on_heads.ensures.walks c.in_ok-outside.was (long_kept c.on_heads.ensures.same_buffers) c.on_members.ensures.walks

pub on_param-overflow_add-at : goal.on_param-overflow_add-at
on_param-overflow_add-at t c = omega (arith, (param_fits c.args.tree.now c.args.nest c.args.at c.requires.accepted.0), c.requires.ready.short)

pub on_param-overflow_add-at-2 : goal.on_param-overflow_add-at-2
on_param-overflow_add-at-2 t c = omega (arith, (param_fits c.args.tree.now c.args.nest c.args.at c.requires.accepted.0), c.requires.ready.short)

pub on_param-overflow_add-at-then-number_at-eq0 : goal.on_param-overflow_add-at-then-number_at-eq0
on_param-overflow_add-at-then-number_at-eq0 t c =
    omega (arith, (param_fits c.args.tree.now c.args.nest c.args.at c.requires.accepted.0), c.requires.ready.short)

pub on_param-record_spec_init-requires : goal.on_param-record_spec_init-requires
unfolding naming_of
on_param-record_spec_init-requires t c = (keepable (fit_depending _ c.requires.ready.fit), omega (arith, c.requires.accepted.1), omega arith)

pub on_param-returns-then-number_at-eq0-clause-walks : goal.on_param-returns-then-number_at-eq0-clause-walks
unfolding naming_of stack spec_mark spec_numbers
on_param-returns-then-number_at-eq0-clause-walks t c =
    param_alone c.args.tree.now c.args.nest c.args.at c.args.kept c.requires.accepted.0 (place_of c.args.here) c.number_at.ensures c.number_at-name.ensures c.if-number_at-eq0.true (stack_depending _ c.args.st _ c.no_dependence.ensures) (written_counted _ _ c.requires.ready.fit) refl refl refl (c.record_spec_init.ensures.walks _ _ (fit_depending _ c.requires.ready.fit))

pub on_param-returns-in_err-inside-clause-walks : goal.on_param-returns-in_err-inside-clause-walks
unfolding naming_of
on_param-returns-in_err-inside-clause-walks t c =
    specs_on c.from_residual.ensures.1 (param_unopened c.args.tree.now c.args.nest c.args.at c.args.kept c.requires.accepted.0 (place_of c.args.here) c.number_at.ensures c.number_at-name.ensures c.if-number_at-eq0.false (c.open_value.ensures.opened _ _ _ _ _ c.requires.ready.fit) c.in_err-inside.was)

pub on_param-overflow_add-at-3 : goal.on_param-overflow_add-at-3
on_param-overflow_add-at-3 t c = omega (arith, (param_fits c.args.tree.now c.args.nest c.args.at c.requires.accepted.0), c.requires.ready.short)

pub on_param-analyze-requires : goal.on_param-analyze-requires
unfolding naming_of
on_param-analyze-requires t c =
    (omega (arith, c.decreases), (ready_on (omega arith) (omega arith) (ready_value c.args.at c.requires.ready (c.open_value.ensures.opened _ _ _ _ _ c.requires.ready.fit) c.in_ok-inside.was), param_default c.args.tree.now c.args.nest c.args.at c.requires.accepted.0 (λ e. c.if-number_at-eq0.false (c.number_at.ensures ∙ e))))

pub on_param-returns-in_err-after-clause-walks : goal.on_param-returns-in_err-after-clause-walks
unfolding naming_of
on_param-returns-in_err-after-clause-walks t c =
    specs_on c.from_residual-in_err-after.ensures.1 (param_stopped c.args.tree.now c.args.nest c.args.at c.args.kept c.requires.accepted.0 (place_of c.args.here) c.number_at.ensures c.number_at-name.ensures c.if-number_at-eq0.false (c.open_value.ensures.opened _ _ _ _ _ c.requires.ready.fit) c.in_ok-inside.was long_same c.analyze.ensures.walks c.in_err-after.was)

pub on_param-close_spec-requires : goal.on_param-close_spec-requires
unfolding naming_of
on_param-close_spec-requires t c =
    (let f = (went_fit c.analyze.ensures.walks c.in_ok-after.was) in (keepable f, omega (arith, c.requires.accepted.1), longer_value c.args.tree.now c.args.nest _ c.args.at _ (place_of c.args.here) c.requires.ready.fit (c.open_value.ensures.opened _ _ _ _ _ c.requires.ready.fit) c.in_ok-inside.was c.analyze.ensures.walks c.in_ok-after.was, f.out_long, f.frames_kept))

pub on_param-returns-clause-walks : goal.on_param-returns-clause-walks
unfolding naming_of stack spec_mark spec_numbers
on_param-returns-clause-walks t c =
    param_ended c.args.tree.now c.args.nest c.args.at c.args.kept c.requires.accepted.0 (place_of c.args.here) c.number_at.ensures c.number_at-name.ensures c.if-number_at-eq0.false (c.open_value.ensures.opened _ _ _ _ _ c.requires.ready.fit) c.in_ok-inside.was long_same c.analyze.ensures.walks c.in_ok-after.was (long_kept c.analyze.ensures.same_buffers) (written_counted _ _ c.requires.ready.fit) refl refl refl (c.close_spec.ensures.walks _ (went_fit c.analyze.ensures.walks c.in_ok-after.was))

pub on_params-loop-init : goal.on_params-loop-init
on_params-loop-init t c =
    (specs_begin (params_unroll c.args.tree.now c.args.nest (place_of c.args.here)) c.requires.accepted c.requires.ready, search rules)

pub on_params-on_param-requires : goal.on_params-on_param-requires
on_params-on_param-requires t c =
    (omega (arith, c.decreases), (c.loop.invariant.0.ready, (specs_first (params_unroll c.args.tree.now c.args.nest (place_of c.args.here)) c.loop.invariant.0 c.loop-test.true, omega (arith, c.loop.invariant.0.few_kept, c.loop-test.true, params_short c.args.tree.now c.args.nest c.args.n c.args.at c.requires.accepted, c.requires.ready.short))))

pub on_params-returns-in_err-state-clause-walks : goal.on_params-returns-in_err-state-clause-walks
on_params-returns-in_err-state-clause-walks t c =
    specs_on c.from_residual.ensures.1 (specs_stops (params_unroll c.args.tree.now c.args.nest (place_of c.args.here)) c.loop.invariant.0 c.loop-test.true c.on_param.ensures.walks c.in_err-state.was)

pub on_params-loop-preserved : goal.on_params-loop-preserved
on_params-loop-preserved t c =
    (specs_next (params_unroll c.args.tree.now c.args.nest (place_of c.args.here)) c.loop.invariant.0 c.loop-test.true c.on_param.ensures.walks c.in_ok-state.was (longs_kept c.on_param.ensures.same_buffers), search rules)

pub on_params-returns-clause-walks : goal.on_params-returns-clause-walks
on_params-returns-clause-walks t c = specs_end (params_unroll c.args.tree.now c.args.nest (place_of c.args.here)) c.loop.invariant.0 c.loop-test.false

pub on_plain-slice_bounds-children-count : goal.on_plain-slice_bounds-children-count
on_plain-slice_bounds-children-count t c = omega (arith, plain_fits c.requires.plain_there)

pub on_plain-slice_bounds-children-start : goal.on_plain-slice_bounds-children-start
on_plain-slice_bounds-children-start t c = omega (arith, plain_fits c.requires.plain_there)

pub on_plain-slice_bounds-children-end : goal.on_plain-slice_bounds-children-end
on_plain-slice_bounds-children-end t c = omega (arith, plain_fits c.requires.plain_there)

pub on_plain-overflow_add-below : goal.on_plain-overflow_add-below
on_plain-overflow_add-below t c = omega (arith, plain_fits c.requires.plain_there, c.size_of.ensures.0, c.requires.ready.short)

pub on_plain-overflow_sub-nest : goal.on_plain-overflow_sub-nest
on_plain-overflow_sub-nest t c = omega (arith, plain_level c.requires.plain_there)

pub on_plain-on_items-requires : goal.on_plain-on_items-requires
on_plain-on_items-requires t c =
    (rank_falls c.args.tree.now _ _ (c.args.nest - 1) (omega (arith, c.decreases, plain_level c.requires.plain_there)), (ready_on (omega arith) (omega arith) c.requires.ready, plain_children c.requires.plain_there (children_here c.args.tree.now c.args.mark c.args.at c.children-n.ensures) c.size_of.ensures.0))

pub on_plain-returns-in_err-after-clause-walks : goal.on_plain-returns-in_err-after-clause-walks
on_plain-returns-in_err-after-clause-walks t c =
    λ ν. walks_on c.from_residual.ensures.1 (plain_stopped c.requires.plain_there ν (place_of c.args.here) (children_here c.args.tree.now c.args.mark c.args.at c.children-n.ensures) c.size_of.ensures.0 c.on_items.ensures.walks c.in_err-after.was)

pub on_plain-copy_record-requires : goal.on_plain-copy_record-requires
on_plain-copy_record-requires t c = (plain_fits c.requires.plain_there, plain_marked c.requires.plain_there)

pub on_plain-returns-clause-walks : goal.on_plain-returns-clause-walks
on_plain-returns-clause-walks t c =
    λ ν. plain_ended c.requires.plain_there ν (place_of c.args.here) (children_here c.args.tree.now c.args.mark c.args.at c.children-n.ensures) c.size_of.ensures.0 c.on_items.ensures.walks c.in_ok-after.was (long_kept c.on_items.ensures.same_buffers) (c.copy_record.ensures.walks c.args.limits _ _ _ _ _ (went_fit c.on_items.ensures.walks c.in_ok-after.was))

pub on_value-returns-in_err-inside-clause-walks : goal.on_value-returns-in_err-inside-clause-walks
unfolding naming_of
on_value-returns-in_err-inside-clause-walks t c =
    walks_on c.from_residual.ensures.1 (value_unopened c.args.tree.now c.args.nest c.args.head c.args.at c.requires.accepted (place_of c.args.here) (opened c.open_frame.ensures c.requires.ready.fit) c.in_err-inside.was)

pub on_value-head_naming-requires : goal.on_value-head_naming-requires
unfolding naming_of
on_value-head_naming-requires t c = value_head_fits c.args.tree.now c.args.nest c.args.head c.args.at c.requires.accepted

pub on_value-analyze-requires : goal.on_value-analyze-requires
unfolding naming_of
on_value-analyze-requires t c =
    (omega (arith, c.decreases), (ready_opened c.args.at false c.requires.ready (opened c.open_frame.ensures c.requires.ready.fit) c.in_ok-inside.was, value_there c.args.tree.now c.args.nest c.args.head c.args.at c.requires.accepted))

pub on_value-returns-in_err-after-clause-walks : goal.on_value-returns-in_err-after-clause-walks
unfolding naming_of
on_value-returns-in_err-after-clause-walks t c =
    walks_on c.from_residual-in_err-after.ensures.1 (value_stopped c.args.tree.now c.args.nest c.args.head c.args.at c.requires.accepted (place_of c.args.here) (opened c.open_frame.ensures c.requires.ready.fit) c.in_ok-inside.was long_same c.head_naming.ensures c.analyze.ensures.walks c.in_err-after.was)

pub on_value-close_value-requires : goal.on_value-close_value-requires
unfolding naming_of
on_value-close_value-requires t c = (went_fit c.analyze.ensures.walks c.in_ok-after.was).frames_kept

pub on_value-returns-clause-walks : goal.on_value-returns-clause-walks
unfolding naming_of
on_value-returns-clause-walks t c =
    value_ended c.args.tree.now c.args.nest c.args.head c.args.at c.requires.accepted (place_of c.args.here) (opened c.open_frame.ensures c.requires.ready.fit) c.in_ok-inside.was long_same c.head_naming.ensures c.analyze.ensures.walks c.in_ok-after.was (long_kept c.analyze.ensures.same_buffers) (c.close_value.ensures.walks _ _ _ _ (went_fit c.analyze.ensures.walks c.in_ok-after.was))

pub on_values-loop-init : goal.on_values-loop-init
on_values-loop-init t c = (values_begin c.requires.accepted c.requires.ready, search rules)

pub on_values-on_value-requires : goal.on_values-on_value-requires
on_values-on_value-requires t c = (omega (arith, c.decreases), (c.loop.invariant.0.ready, turn_value c.loop.invariant.0 c.loop-test.true))

pub on_values-returns-in_err-state-clause-walks : goal.on_values-returns-in_err-state-clause-walks
on_values-returns-in_err-state-clause-walks t c =
    walks_on c.from_residual.ensures.1 (values_stops c.loop.invariant.0 c.loop-test.true c.on_value.ensures.walks c.in_err-state.was)

pub on_values-after_head-head-requires : goal.on_values-after_head-head-requires
on_values-after_head-head-requires t c = turn_head_fits c.loop.invariant.0 c.loop-test.true

pub on_values-loop-preserved : goal.on_values-loop-preserved
on_values-loop-preserved t c =
    (values_turn c.loop.invariant.0 c.loop-test.true c.on_value.ensures.walks c.in_ok-state.was c.after_head-head.ensures (longs_kept c.on_value.ensures.same_buffers), search rules)

pub on_values-returns-clause-walks : goal.on_values-returns-clause-walks
on_values-returns-clause-walks t c = values_end c.loop.invariant.0 c.loop-test.false
