-- Each demand of the user, from the contract of `analyze` alone. Assumes only that the tree lent is made of bytes, as every `&[u8]` is.
use Prim.Native.Nat.{ℕ, ◌-◌}
use mathlib.Core.Bool.{false}
use mathlib.Core.List.{List}
use mathlib.Core.Path.{◌≡◌, refl, sym, ap, ◌∙◌}
use lib.ListN.{length, take, drop, replicate}
use lib.Seq.{take-append_seam, drop-append_seam}
use Rattle.rules.specs.Outcome.{Outcome, ok, refuse, is_refusal_number}
use Rattle.rules.specs.Range.{Bytes}
use Rattle.rules.specs.State.{AnalysisStack}
use Rattle.rules.specs.Call.{Left, run, report_of, out_of, diagnostics_of, filled, zeroed, left_by, call, Allows}
use Rattle.state.specs.Seen.{Buffers}
use Rattle.state.specs.declared.Limits.{Limits}
use Rattle.call_root.specs.Answers.{lent, left, report_meaning}
use Rattle.call_root.specs.declared.AnalysisReport.{AnalysisReport}
use Rattle.claim_scope.proofs.Accepted.{checked, call_checked}
use Rattle.claim_reach.specs.Reach.{reaches, Reaches}
use Rattle.claim_reach.proofs.EachSlot.{each_slot_reaches_its_binding}
use Rattle.claim_demands.specs.Demands.{Called, LeftBehind, Refusal, Scoped, Reached}
use Rattle.rules.proofs.Refusals.{refusals_are_numbered, zero_is_accepted, refused_leaves_zeros}

-- number 0 is an acceptance
accepted : (tree : List ℕ) (b : Buffers) (limits : Limits) (r : AnalysisReport) (b' : Buffers) → Called tree b limits r b' → r.number ≡ 0 → (st : AnalysisStack) × (run (lent tree b limits) ≡ ok st)
unfolding left report_meaning call left_by
accepted tree b limits r b' called zero = zero_is_accepted (lent tree b limits) (sym (ap (λ (l : Left). l.report.number) called) ∙ zero)

-- the lengths that a report says are those of what was written

out_long : (o : Outcome AnalysisStack) → (report_of o).out_length ≡ length (out_of o)
unfolding report_of out_of
out_long (ok st) = refl
out_long (refuse number place) = refl

diagnostics_long : (o : Outcome AnalysisStack) → (report_of o).diagnostics_length ≡ length (diagnostics_of o)
unfolding report_of diagnostics_of
diagnostics_long (ok st) = refl
diagnostics_long (refuse number place) = refl

behind : (buffer written : List ℕ) (n : ℕ) → n ≡ length written → drop n (filled buffer written) ≡ replicate (length buffer - n) 0
unfolding filled
behind buffer written n e = rw e (drop-append_seam written (replicate (length buffer - length written) 0))

-- demand 1: what every call leaves
pub analyze_leaves_zeros : (tree : List ℕ) (b : Buffers) (limits : Limits) (r : AnalysisReport) (b' : Buffers) → Called tree b limits r b' → LeftBehind b r b'
unfolding left lent report_meaning call left_by filled zeroed
analyze_leaves_zeros tree b limits r b' called =
    let l = lent tree b limits in
    record {
      out = ap (λ (x : Left). drop x.report.out_length x.out) called ∙ behind b.out (out_of (run l)) _ (out_long (run l)) ∙ ap (λ (x : Left). replicate (length b.out - x.report.out_length) 0) (sym called);
      diagnostics = ap (λ (x : Left). drop x.report.diagnostics_length x.diagnostics) called ∙ behind b.diagnostics (diagnostics_of (run l)) _ (diagnostics_long (run l))
          ∙ ap (λ (x : Left). replicate (length b.diagnostics - x.report.diagnostics_length) 0) (sym called);
      locals = ap (λ (x : Left). x.locals) called;
      frames = ap (λ (x : Left). x.frames) called;
      captures = ap (λ (x : Left). x.captures) called;
      references = ap (λ (x : Left). x.references) called;
    }

-- and a refused one
pub analyze_refuses : (tree : List ℕ) (b : Buffers) (limits : Limits) (r : AnalysisReport) (b' : Buffers) → Called tree b limits r b' → (r.number ≡ 0 → ⊥) → Refusal b r b'
unfolding left lent report_meaning call left_by report_of out_of diagnostics_of filled zeroed
analyze_refuses tree b limits r b' called some_number = by (run (lent tree b limits)) refl
  where
    by : (o : Outcome AnalysisStack) → run (lent tree b limits) ≡ o → Refusal b r b'
    by (ok st) e = absurd (some_number (ap (λ (l : Left). l.report.number) (called ∙ ap (left_by (lent tree b limits)) e)))
    by (refuse number place) e =
        let is : left r b' ≡ left_by (lent tree b limits) (refuse number place) = called ∙ ap (left_by (lent tree b limits)) e in
        record {
          numbered = ap (λ (l : Left). is_refusal_number l.report.number) is ∙ refusals_are_numbered (lent tree b limits) number place e;
          out = ap (λ (l : Left). l.out) (called ∙ refused_leaves_zeros (lent tree b limits) number place e);
          diagnostics = ap (λ (l : Left). l.diagnostics) (called ∙ refused_leaves_zeros (lent tree b limits) number place e);
        }

-- demand 2: the errors are those of lexical scoping, and there is none exactly if the specification's static check holds
pub analyze_checks_scoping : (tree : List ℕ) (b : Buffers) (limits : Limits) (r : AnalysisReport) (b' : Buffers) → Bytes tree → Called tree b limits r b' → r.number ≡ 0 → Scoped tree r b'
unfolding left lent report_meaning Allows
analyze_checks_scoping tree b limits r b' bytes called zero =
    let run_is = accepted tree b limits r b' called zero in
    let c = call_checked (lent tree b limits) (left r b') run_is.0 bytes run_is.1 called in
    record { parsed = c.tree; read = c.read; errors = c.says; quiet_passes = c.quiet_passes; passing_is_quiet = c.passing_is_quiet }

-- demand 3: every slot reaches its binding
pub analyze_reaches : (tree : List ℕ) (b : Buffers) (limits : Limits) (r : AnalysisReport) (b' : Buffers) → Bytes tree → Called tree b limits r b' → r.number ≡ 0 → r.errored ≡ false → Reached tree r b'
unfolding left lent report_meaning call left_by report_of out_of filled Reaches
analyze_reaches tree b limits r b' bytes called zero calm =
    let l = lent tree b limits in
    let run_is = accepted tree b limits r b' called zero in
    let st = run_is.0 in
    let c = checked l st bytes run_is.1 in
    let is : left r b' ≡ left_by l (ok st) = called ∙ ap (left_by l) run_is.1 in
    let quiet : st.sink.errored ≡ false = sym (ap (λ (x : Left). x.report.errored) is) ∙ calm in
    let out_is : take r.out_length b'.out ≡ st.sink.out = ap (λ (x : Left). take x.report.out_length x.out) is ∙ take-append_seam st.sink.out _ in
    record { parsed = c.tree; read = c.read; reached = ap (reaches c.tree) out_is ∙ each_slot_reaches_its_binding l c.tree st bytes c.read run_is.1 quiet }
