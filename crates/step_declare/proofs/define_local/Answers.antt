-- `define_local` is the rules' step: error 2 for a name that is taken, and else what `define_new` does. Assumes nothing.
use Rattle.std.proofs.Common.{sym, ◌∙◌}
use Rattle.step_write.specs.Answers.{level_of}
use Rattle.step_declare.proofs.Defining.{defined_twice}
use Rattle.step_declare.proofs.define_local.Goals as goal

pub returns-then-is_taken : goal.returns-then-is_taken
unfolding level_of
returns-then-is_taken c =
    record {
      same = λ out captures references.
          c.report.ensures.same c.args.limits out c.args.locals.now c.args.frames.now captures references
          ∙ sym (defined_twice _ _ _ _ _ _ (sym (c.is_taken.ensures.same out c.args.diagnostics.now captures references) ∙ c.if-is_taken.true));
      fit = λ out captures references f. c.report.ensures.fit c.args.limits out c.args.locals.now c.args.frames.now captures references f;
    }
