-- From what a run is by the rules to what the parts of the call state, and from the call to what a caller in C is told. Assumes nothing.
use Prim.Native.Nat.{ℕ}
use mathlib.Core.List.{List, [], ◌∷◌}
use mathlib.Core.Path.{◌≡◌, sym, ◌∙◌, ap, subst}
use Rattle.rules.specs.Outcome.{ok, refuse}
use Rattle.rules.specs.Numbers.{bit}
use Rattle.rules.specs.Call as rules
use Rattle.state.specs.Seen.{Buffers, contents, SameBuffers, stack, seen, Fit, Fits}
use Rattle.state.specs.declared.Lent.{Lent}
use Rattle.call_root.proofs.Entry.{SameLengths}
use Rattle.state.specs.declared.AnalysisStack.{AnalysisStack}
use Rattle.state.specs.declared.Limits.{Limits}
use Rattle.call_root.specs.Answers.{lent, left, report_meaning}
use Rattle.call_root.specs.declared.AnalysisReport.{AnalysisReport}
use Rattle.analyze.specs.Answers.{Ran, Told, report_numbers}
use Rattle.std.specs.Prelude.{Ok, Err}
use Rattle.refusal.specs.declared.Refusal.{Refusal}
use Rattle.refusal.specs.Meaning.{number_of}
use Rattle.state.specs.Seen.{Step}

module _ (s : List ℕ) (b b' : Buffers) (l : Limits) where
  pub ran_refused : {why : Refusal} → rules.run (lent s b l) ≡ refuse (number_of why.reason) why.place → Ran (Err why) s b b' l
  ran_refused k = record { same = sym k; fit = tt }

module _ {r : Step} {s : List ℕ} {b b' : Buffers} {l : Limits} (w : Ran r s b b' l) where
  pub ran_not : {why : Refusal} → r ≡ Err why → rules.run (lent s b l) ≡ refuse (number_of why.reason) why.place
  ran_not e = sym w.same ∙ ap (λ (r : Step). seen r b') e

  pub ran_ok : {st : AnalysisStack} → r ≡ Ok st → rules.run (lent s b l) ≡ ok (stack b' st)
  ran_ok e = sym w.same ∙ ap (λ (r : Step). seen r b') e

  pub ran_fit : {st : AnalysisStack} → r ≡ Ok st → Fit l b' st
  ran_fit e = subst (λ (r : Step). Fits l r b') e w.fit

-- buffers that are lent still are as long as they were
pub same_lengths : (before after : Lent) → SameBuffers before after → SameLengths (contents before) (contents after)
same_lengths before after s = record { out = s.1; diagnostics = s.3; locals = s.5; frames = s.7; captures = s.9; references = s.11 }

-- the nine numbers of a report
pub told : {b : Buffers} {c : rules.Left} {report : List ℕ} (r : AnalysisReport) → left r b ≡ c → report ≡ report_numbers (report_meaning r) → Told report b c
unfolding left
told r e k = record {
  report_is = k ∙ ap (λ (l : rules.Left). report_numbers l.report) e;
  out_is = ap (λ (l : rules.Left). l.out) e;
  diagnostics_is = ap (λ (l : rules.Left). l.diagnostics) e;
  locals_are = ap (λ (l : rules.Left). l.locals) e;
  frames_are = ap (λ (l : rules.Left). l.frames) e;
  captures_are = ap (λ (l : rules.Left). l.captures) e;
  references_are = ap (λ (l : rules.Left). l.references) e;
}

pub nine_numbers : (r : AnalysisReport) {e : ℕ} → e ≡ bit r.errored
    → r.number ∷ r.place ∷ r.out_length ∷ r.diagnostics_length ∷ e ∷ r.rounds ∷ r.depths.object_dependent_depth ∷ r.depths.local_dependent_depth ∷ r.depths.local_dependent_depth_max ∷ []
    ≡ report_numbers (report_meaning r)
unfolding report_numbers report_meaning
nine_numbers r e = ap (λ (e : ℕ). r.number ∷ r.place ∷ r.out_length ∷ r.diagnostics_length ∷ e ∷ r.rounds ∷ r.depths.object_dependent_depth ∷ r.depths.local_dependent_depth ∷ r.depths.local_dependent_depth_max ∷ []) e
