-- A record with nothing below it: each need of the code, answered from the laws of leaves. Assumes nothing.
use Rattle.std.proofs.Common.{arith, ◌∙◌}
use Rattle.rules.specs.Outcome.{choose}
use Rattle.rules.specs.Numbers.{code}
use Rattle.rules.specs.Records.{size_of, numbers_of, widths, width, fields}
use Rattle.bytes_records.specs.Marks.{mark_of, find_mark, marks}
use Rattle.state.specs.Walks.{place_of}
use Rattle.law_joins.proofs.Asking.{stands}
use Rattle.step_leaf.proofs.Laws.{constant_fits, constant_walked, import_fits, import_walked, name_fits, name_kind, name_walked}
use Rattle.step_leaf.proofs.on_leaf.Goals as goal

pub overflow_add-at : goal.overflow_add-at
unfolding code
overflow_add-at c = omega (arith, constant_fits c.requires.leaf_there c.in-21590.is, c.requires.ready.short)

pub copy_record-requires : goal.copy_record-requires
unfolding code mark_of find_mark marks choose size_of numbers_of widths width fields
copy_record-requires c = (constant_fits c.requires.leaf_there c.in-21590.is, c.requires.leaf_there.marked ∙ c.in-21590.is)

pub analyze_import-requires : goal.analyze_import-requires
unfolding code
analyze_import-requires c = import_fits c.requires.leaf_there c.in-18765.is

pub analyze_name-requires : goal.analyze_name-requires
unfolding code
analyze_name-requires c =
    let there = c.requires.leaf_there in
    let fit = c.requires.ready.fit in
    record {
      at_in_bounds = (name_fits there (λ e. omega arith) (λ e. omega arith), name_kind there, stands c.requires.ready, omega (arith, fit.locals_long, fit.few_locals));
      kept = (fit.frames_kept, fit.captures_long);
    }

pub returns-in-21590-clause-walks : goal.returns-in-21590-clause-walks
unfolding code mark_of find_mark marks choose size_of numbers_of widths width fields
returns-in-21590-clause-walks c =
    constant_walked c.requires.leaf_there (place_of c.args.here) c.in-21590.is (c.copy_record.ensures.walks c.args.limits _ _ _ _ _ c.requires.ready.fit)

pub returns-in-18765-clause-walks : goal.returns-in-18765-clause-walks
unfolding code
returns-in-18765-clause-walks c =
    import_walked c.requires.leaf_there (place_of c.args.here) c.in-18765.is (c.analyze_import.ensures.walks c.args.limits _ _ _ _ c.requires.ready.fit)

pub returns-in_default-clause-walks : goal.returns-in_default-clause-walks
unfolding code
returns-in_default-clause-walks c =
    name_walked c.requires.leaf_there (λ e. omega arith) (λ e. omega arith) (place_of c.args.here) (c.analyze_name.ensures.walks _ c.requires.ready.fit)
