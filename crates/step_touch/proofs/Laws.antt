-- Laws of using a local. Assumes nothing.
use Prim.Native.Nat.{ℕ, ◌<◌}
use mathlib.Core.Bool.{true, false}
use mathlib.Core.List.{List}
use mathlib.Core.Path.{◌≡◌, sym, ap, ◌∙◌}
use lib.ListN.{set}
use Rattle.rules.specs.Outcome.{choose}
use Rattle.rules.specs.Depths as depths
use Rattle.rules.specs.Locals as rules
use Rattle.rules.specs.State.{with_locals, with_taint}
use Rattle.rules.specs.Scoping as scoping
use Rattle.table_rows.specs.Rows.{row}
use Rattle.value_depths.specs.Meaning.{result_of}
use Rattle.value_depths.specs.declared.AnalysisResult.{AnalysisResult}
use Rattle.value_local.specs.Meaning.{local}
use Rattle.table_locals.specs.Meaning.{local_of_row, locals_of, with_use}
use Rattle.table_locals.specs.Tables.{PutLocal}
use Rattle.value_local.specs.declared.LocalDefinition.{LocalDefinition}
use Rattle.table_locals.proofs.Laws.{locals_at, used_only}
use Rattle.state.specs.Seen.{buffers, stack}
use Rattle.state.specs.declared.AnalysisStack.{AnalysisStack}
use Rattle.state.proofs.Changing.{taint_to}
use Rattle.state.proofs.Fitting.{fit_values, fit_entries}
use Rattle.step_touch.specs.Answers.{TouchedLocal, TouchedObject, tainted_by_local}

-- What a value depends on that uses a local

module _ (taint depends : AnalysisResult) (l : LocalDefinition) (first : result_of depends ≡ depths.depend_on_local l.defined_at_depth (result_of taint)) where
  pub taints_too : (r : AnalysisResult) → l.analyzed ≡ true → result_of r ≡ depths.taint_by (result_of depends) (result_of l.analysis) → result_of r ≡ tainted_by_local (result_of taint) (local l)
  unfolding tainted_by_local local choose
  taints_too r e too = too ∙ ap (λ (a : depths.AnalysisResult). depths.taint_by a (result_of l.analysis)) first ∙ rw e

  pub only_depends : l.analyzed ≡ false → result_of depends ≡ tainted_by_local (result_of taint) (local l)
  unfolding tainted_by_local local choose
  only_depends e = first ∙ rw e

-- One local

module _ (locals : List ℕ) (st : AnalysisStack) (id : ℕ) (l : LocalDefinition) (inside : id < st.locals)
    (read : (n : ℕ) → id < n → local l ≡ rules.local_at (locals_of n locals) id) where
  abbrev mine : rules.LocalDefinition
  mine = rules.local_at (locals_of st.locals locals) id

  is_mine : local l ≡ mine
  is_mine = read st.locals inside

  -- what is stored is a function of what was there
  pub stored : {locals' : List ℕ} {d : rules.LocalDefinition} (f : rules.LocalDefinition → rules.LocalDefinition) → PutLocal locals locals' id d → d ≡ f (local l)
      → locals_of st.locals locals' ≡ set (locals_of st.locals locals) id (f mine)
  stored f put e = put.held st.locals inside ∙ ap (set (locals_of st.locals locals) id) (e ∙ ap f is_mine)

  -- only what a use changes differs from what is there
  pub touches_only : (used noted : LocalDefinition) (depth : ℕ) → local noted ≡ rules.note_reference (local used) → local used ≡ rules.use_at depth (local l)
      → with_use (local noted) (local_of_row (row id locals)) ≡ local noted
  touches_only used noted depth notes uses =
      let there : local_of_row (row id locals) ≡ local l = sym (is_mine ∙ locals_at st.locals id locals inside) in
      let after : local noted ≡ rules.note_reference (rules.use_at depth (local l)) = notes ∙ ap rules.note_reference uses in
      rw (there, after) (used_only (local l) depth)

  pub touched : {locals' : List ℕ} {d : rules.LocalDefinition} (used : LocalDefinition) (depth : ℕ) (taint : AnalysisResult) → PutLocal locals locals' id d
      → d ≡ rules.note_reference (local used) → local used ≡ rules.use_at depth (local l) → result_of taint ≡ tainted_by_local (result_of st.taint) (local l)
      → TouchedLocal (taint_to taint st) locals locals' st depth id
  unfolding stack scoping.touch_local with_taint with_locals tainted_by_local
  touched used depth taint put noted uses taints = record {
    same = λ out diagnostics frames captures references.
        let S = stack (buffers out diagnostics locals frames captures references) st in
        ap (λ (ls : List rules.LocalDefinition). with_taint (result_of taint) (with_locals ls S)) (stored (λ m. rules.note_reference (rules.use_at depth m)) put (noted ∙ ap rules.note_reference uses))
        ∙ ap (λ (a : depths.AnalysisResult). with_taint a (with_locals (set (locals_of st.locals locals) id (rules.note_reference (rules.use_at depth mine))) S))
        (taints ∙ ap (tainted_by_local (result_of st.taint)) is_mine);
    fit = λ limits out diagnostics frames captures references fit. fit_values (fit_entries fit put.size);
  }

  pub object_touched : (taint : AnalysisResult)
      → result_of taint ≡ depths.depend_on_object l.defined_at_depth (depths.depend_on_local l.defined_at_depth (result_of st.taint))
      → TouchedObject (taint_to taint st) locals st id
  unfolding stack scoping.touch_object with_taint local
  object_touched taint taints = record {
    same = λ out diagnostics frames captures references.
        ap (λ (a : depths.AnalysisResult). with_taint a (stack (buffers out diagnostics locals frames captures references) st))
        (taints ∙ ap (λ (m : rules.LocalDefinition). depths.depend_on_object m.defined_at_depth (depths.depend_on_local m.defined_at_depth (result_of st.taint))) is_mine);
    fit = λ limits out diagnostics frames captures references fit. fit_values fit;
  }
