-- `emit_slot` resolves the local in the frame on top and writes its slot, or refuses as the resolver does. Assumes nothing.
use Rattle.std.proofs.Common.{refl, rules, sym, ◌∙◌}
use Rattle.rules.specs.State.{with_frames}
use Rattle.state.specs.Seen.{stack, limits_of}
use Rattle.state.proofs.Fitting.{fit_frames}
use Rattle.step_name.proofs.Slots.{slot_resolved, slot_refused, log_within}
use Rattle.step_name.proofs.emit_slot.Goals as goal

pub returns-in-Ok : goal.returns-in-Ok
unfolding stack with_frames limits_of
returns-in-Ok c =
    let resolves = c.in-Ok.ensures in
    record {
      same = λ diagnostics locals references.
          c.write_slot.ensures.same c.args.limits diagnostics locals c.args.frames.now _ references ∙ sym (slot_resolved _ _ _ _ _ (sym (resolves.same c.args.place)));
      fit = λ diagnostics locals references f.
          c.write_slot.ensures.fit c.args.limits diagnostics locals c.args.frames.now _ references
          (fit_frames f refl (search rules) f.few_frames (log_within _ _ _ _ _ _ _ _ _ resolves f.frames_kept f.few_captures) resolves.kept f.first_there f.first_rises);
    }

pub returns-in-Err : goal.returns-in-Err
unfolding stack limits_of
returns-in-Err c =
    record {
      same = λ diagnostics locals references. sym (slot_refused _ _ _ _ _ (sym (c.in-Err.ensures.same c.args.place)));
      fit = λ diagnostics locals references f. tt;
    }
