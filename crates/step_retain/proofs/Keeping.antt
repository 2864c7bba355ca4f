-- Laws of a local's analysis and of the references that are kept. Assumes nothing.
use Prim.Native.Nat.{ℕ, ◌+◌, ◌-◌, ◌≤◌, ◌<◌}
use mathlib.Core.List.{List}
use mathlib.Core.Path.{◌≡◌, sym, ap, ◌∙◌}
use native.Mathlib.Omega.{arith}
use lib.ListN.{length}
use lib.Dec.{leb}
use borrow.Author.Tests.{le-leb, lt-leb}
use Rattle.rules.specs.Outcome.{ok, refuse, ◌>>=◌, need}
use Rattle.rules.specs.Locals as rules
use Rattle.rules.specs.Settling.{Reference}
use Rattle.rules.specs.State as state
use Rattle.rules.specs.State.{with_locals, with_references}
use Rattle.rules.specs.Scoping as scoping
use Rattle.value_depths.specs.Meaning.{result_of}
use Rattle.value_local.specs.Meaning.{local}
use Rattle.table_locals.specs.Meaning.{locals_of}
use Rattle.table_locals.specs.Tables.{PutLocal}
use Rattle.value_local.specs.declared.LocalDefinition.{LocalDefinition}
use Rattle.table_references.specs.Meaning.{references_of}
use Rattle.table_references.specs.Tables.{AllKept, with_noted, cleared}
use Rattle.state.specs.Seen.{buffers, stack, limits_of}
use Rattle.state.specs.declared.AnalysisStack.{AnalysisStack}
use Rattle.state.specs.declared.Limits.{Limits}
use Rattle.state.proofs.Changing.{references_to}
use Rattle.state.proofs.Fitting.{fit_names, fit_entries}
use Rattle.step_locals.specs.Answers.{FirstInFrame}
use Rattle.step_touch.proofs.Laws.{stored}
use Rattle.table_references.proofs.Keeping.{length_references}
use Rattle.step_retain.specs.Answers.{SetAnalysis, KeptReferences}
use Rattle.std.specs.Prelude.{Ok, Err}
use Rattle.refusal.specs.Meaning.{refuses}
use Rattle.refusal.specs.declared.Reason.TheVariants as reason

-- The analysis

module _ (locals : List ℕ) (st : AnalysisStack) (id : ℕ) (l : LocalDefinition) (inside : id < st.locals)
    (read : (n : ℕ) → id < n → local l ≡ rules.local_at (locals_of n locals) id) where
  pub analysed : {locals' : List ℕ} {d : rules.LocalDefinition} → PutLocal locals locals' id d → d ≡ rules.with_analysis (result_of st.taint) (local l) → SetAnalysis st locals locals' st id
  unfolding stack scoping.set_analysis with_locals
  analysed put is = record {
    same = λ out diagnostics frames captures references.
        ap (λ (ls : List rules.LocalDefinition). with_locals ls (stack (buffers out diagnostics locals frames captures references) st)) (stored locals st id l inside read (rules.with_analysis (result_of st.taint)) put is);
    fit = λ limits out diagnostics frames captures references fit. fit_entries fit put.size;
  }

-- The references that are kept

module _ (limits : state.Limits) (place id first : ℕ) (st : state.AnalysisStack) (is : first ≡ scoping.first_in_frame st) where
  abbrev refs : List Reference
  refs = with_noted id first st.locals st.references

  keeps : scoping.keep_references limits place id st ≡ (need (leb (length refs) limits.references) 17 place >>= λ _. ok (with_references refs (with_locals (cleared first st.locals) st)))
  unfolding scoping.keep_references scoping.frame_locals with_noted cleared
  keeps = rw is

  keeps_all : length refs ≤ limits.references → scoping.keep_references limits place id st ≡ ok (with_references refs (with_locals (cleared first st.locals) st))
  unfolding ◌>>=◌ need
  keeps_all few = keeps ∙ rw (le-leb (length refs) limits.references few)

  keeps_none : limits.references < length refs → scoping.keep_references limits place id st ≡ refuse 17 place
  unfolding ◌>>=◌ need
  keeps_none many = keeps ∙ rw (lt-leb (length refs) limits.references many)

module _ (locals locals' references references' frames : List ℕ) (limits : Limits) (st : AnalysisStack) (place id first : ℕ) (is : FirstInFrame first frames st) (within : first ≤ st.locals) where
  all : first + (st.locals - first) ≡ st.locals
  all = omega arith

  pub references_kept : (count : ℕ) → length locals' ≡ length locals → length references' ≡ length references
      → AllKept locals locals' references references' id first (first + (st.locals - first)) st.references limits.max_references count
      → KeptReferences (Ok (references_to count st)) locals locals' references references' frames limits st place id
  unfolding stack limits_of with_references with_locals
  references_kept count size size' kept =
      let refs_are : references_of count references' ≡ with_noted id first (locals_of st.locals locals) (references_of st.references references) = rw all at kept.references_are in
      let locals_are : locals_of st.locals locals' ≡ cleared first (locals_of st.locals locals) = rw all at kept.locals_are in
      record {
        same = λ out diagnostics captures.
            let S = stack (buffers out diagnostics locals frames captures references) st in
            ap (λ (refs : List Reference). ok (with_references refs (with_locals (locals_of st.locals locals') S))) refs_are
            ∙ ap (λ (ls : List rules.LocalDefinition). ok (with_references (with_noted id first (locals_of st.locals locals) (references_of st.references references)) (with_locals ls S))) locals_are
            ∙ sym (keeps_all (limits_of limits out diagnostics) place id first S (is.same out diagnostics locals captures references) (omega (arith, kept.fits, length_references count references', ap length refs_are)));
        fit = λ out diagnostics captures fit. fit_names fit size size' fit.few_locals kept.fits fit.first_there;
      }

  pub no_room_for_references : limits.max_references < length (with_noted id first (locals_of (first + (st.locals - first)) locals) (references_of st.references references))
      → KeptReferences (Err (refuses reason.ReferenceLimit place)) locals locals' references references' frames limits st place id
  unfolding stack limits_of
  no_room_for_references many =
      let too_many : limits.max_references < length (with_noted id first (locals_of st.locals locals) (references_of st.references references)) = rw all at many in
      record {
        same = λ out diagnostics captures.
            sym (keeps_none (limits_of limits out diagnostics) place id first (stack (buffers out diagnostics locals frames captures references) st) (is.same out diagnostics locals captures references) too_many);
        fit = λ out diagnostics captures fit. tt;
      }
