-- One name that opens every definition, for theorems that are computed. Assumes nothing.
use Rattle.rules.specs.Outcome
use Rattle.rules.specs.Numbers
use Rattle.rules.specs.Records
use Rattle.rules.specs.Depths
use Rattle.rules.specs.Tree
use Rattle.rules.specs.Encode
use Rattle.rules.specs.FirstWalk
use Rattle.rules.specs.Locals
use Rattle.rules.specs.Frames
use Rattle.rules.specs.Settling
use Rattle.rules.specs.State
use Rattle.rules.specs.Writing
use Rattle.rules.specs.Scoping
use Rattle.rules.specs.Walk
use Rattle.rules.specs.Call
use Rattle.rules.specs.Cases
use Rattle.rules.specs.OwnCases

unfoldable pub everything : Unit {0}
unfolding Outcome.◌>>=◌ Outcome.need Outcome.choose Outcome.given Numbers.is_set Numbers.same_name Numbers.number_bytes Numbers.numbers_bytes Numbers.number_at Numbers.numbers_at Numbers.code Numbers.mark_bytes Numbers.code_at Numbers.record_bytes Numbers.records_bytes Numbers.same_bytes Records.span_numbers Records.span_in Records.no_span Records.width Records.in_range Records.widths Records.all_in_range Records.fields Records.numbers_of Records.size_of Records.out_fields Depths.no_dependence Depths.taint_by Depths.depend_on_local Depths.depend_on_object Depths.same_result Tree.count_exprs Tree.count_binds Tree.count_params Tree.count_heads Tree.place_of Encode.bind_mark Encode.head_numbers Encode.constants_bytes Encode.expr_bytes Encode.tree_bytes FirstWalk.argument FirstWalk.index_part FirstWalk.assertion FirstWalk.expressions FirstWalk.members FirstWalk.rows FirstWalk.bind_rows FirstWalk.value_allowed FirstWalk.value_groups FirstWalk.only FirstWalk.row_of FirstWalk.nth FirstWalk.nth_span FirstWalk.head_of FirstWalk.allowed FirstWalk.front FirstWalk.many FirstWalk.none_left FirstWalk.record_at FirstWalk.constant_at FirstWalk.constants_at FirstWalk.expr_item FirstWalk.holder_at FirstWalk.child_at FirstWalk.groups_at FirstWalk.bind_item FirstWalk.param_item FirstWalk.head_item FirstWalk.below FirstWalk.expr_at FirstWalk.tree_at Locals.new_local Locals.no_local Locals.local_at Locals.has_name Locals.newest Locals.with_used_at_depth Locals.with_used_by_sibling Locals.with_analysis Locals.with_scratch_referenced Locals.use_at Locals.keeps_reference Locals.note_reference Locals.noted Locals.without_notes Locals.passed_on Frames.new_frame Frames.no_frame Frames.top Frames.beneath Frames.defining Frames.holds Frames.slot_in Frames.capture_of Frames.with_capture Frames.with_one_more_local Frames.count_captures Frames.resolve_at Frames.resolve_to_slot Settling.propagate_analysis Settling.propagate_use Settling.one_round Settling.settle Settling.settled State.empty_stack State.with_locals State.with_frames State.with_references State.with_object_use State.with_taint State.with_sink State.with_out State.with_rounds State.written State.taken_back Writing.level_number Writing.is_error Writing.slot_mark Writing.slot_number Writing.pair_of Writing.pairs_of Writing.shape_numbers Writing.emit Writing.report Writing.bad_place Writing.open_frame Writing.close_frame Scoping.first_in_frame Scoping.frame_locals Scoping.is_taken Scoping.is_at Scoping.touch_local Scoping.touch_object Scoping.is_kept Scoping.set_analysis Scoping.taint_outer Scoping.drop_spec Scoping.settle_frame Scoping.could_be_hoisted Scoping.push_local Scoping.push_in_frame Scoping.define_local Scoping.define_this Scoping.emit_slot Scoping.keep_references Scoping.record_spec_init Scoping.judge Scoping.judge_all Scoping.finish_frame Walk.at_root Walk.deeper Walk.is_outermost Walk.in_object Walk.naming_numbers Walk.naming_span Walk.bind_naming Walk.head_namings Walk.first_naming Walk.is_among Walk.is_static Walk.entered_use Walk.left_use Walk.object_numbers Walk.identity_local Walk.mark_used Walk.first_has_default Walk.is_identity Walk.is_empty Walk.use_identity Walk.use_local Walk.use_import Walk.define_binds Walk.define_params Walk.finish_function Walk.analyze Call.limits_of Call.define_externals Call.open_root Call.analyze_root Call.tables_fit Call.run Call.filled Call.zeroed Call.report_of Call.out_of Call.diagnostics_of Call.left_by Call.call Call.Allows Cases.lend Cases.ample Cases.accepted Cases.answered OwnCases.room OwnCases.lend_tables OwnCases.refused OwnCases.two_names OwnCases.an_external OwnCases.an_object OwnCases.arrays_in_arrays OwnCases.a_message OwnCases.a_field OwnCases.a_default OwnCases.captures_in_two OwnCases.an_identity OwnCases.a_dropped_one OwnCases.a_constant OwnCases.two_diagnostics OwnCases.a_sibling OwnCases.a_reference_passed_on OwnCases.every_table OwnCases.below_unary
everything = tt
