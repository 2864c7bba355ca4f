-- The analysis of each part of the tree leaves as it was what its contract says, by induction over the tree. Assumes nothing.
use Prim.Native.Nat.{ℕ}
use native.Mathlib.Omega.{arith}
use mathlib.Core.List.{List, [], ◌∷◌, tail}
use lib.ListN.{length}
use Rattle.rules.specs.Numbers.{TV, AC, AR, LO, OB, BV, PA, FH, FV}
use Rattle.rules.specs.Depths.{no_dependence}
use Rattle.rules.specs.Tree.{Expr, Exprs, Binds, Params, Heads, count_binds, count_params, place_of, identity, constant, variable, constants, array, plain, import, local, function, object, no_exprs, ◌then◌, no_binds, bind, no_params, param, param_or, no_heads, fixed, computed}
use Rattle.rules.specs.Settling.{propagate_analysis}
use Rattle.rules.specs.State.{Limits, AnalysisStack, with_taint}
use Rattle.rules.specs.Walk.{Place, Naming, unnamed, bind_naming, first_naming, head_namings, deeper, in_object, is_outermost, entered_use, analyze, analyze_all, analyze_assertions, analyze_values, analyze_binds, analyze_params, analyze_heads}
use Rattle.rules.proofs.After.{After, fine, after_weaken, after_bind, after_choose}
use Rattle.law_steady.specs.Steady.{Steady, SteadySpecs, weight, weight_all, weight_binds, weight_params, weight_heads}
use Rattle.law_steady.proofs.Keeping.{steady_none, steady_then, steady_more, after_steady, opened_then, within_then, within_specs, within_defined, within_from, specs_then, specs_steady}
use Rattle.law_steady.proofs.Steps.{steady_taint, steady_object_use, analysis_keeps, steady_settle, steady_emit, using_opens, defining_opens, frame_closes, steady_identity, steady_name, steady_import, defined_this, defined_binds, defined_params, spec_recorded, frame_finishes, function_finishes}

module _ (L : Limits) where
  mutual
    unfolding analyze weight count_binds count_params

    pub steady : (e : Expr) (naming : Naming) (h : Place) (st : AnalysisStack) → After (Steady (weight e) st) (analyze L e naming h st)
    steady (identity p which span) naming h st = steady_identity L p which span h st
    steady (constant p value) naming h st = steady_emit L p TV (value ∷ []) st
    steady (variable p name span) naming h st = steady_name L p name span h st
    steady (constants p values) naming h st = steady_emit L p AC (length values ∷ values) st
    steady (array p items) naming h st =
        after_bind _ (using_opens L p st) λ st₁ opened. after_bind _ (steady_all items h st₁) λ st₂ all.
        after_bind _ (frame_closes L p st st₂ (opened_then opened all)) λ st₃ closed. after_steady closed (steady_emit L p AR _ st₃) (omega arith)
    steady (plain p mark numbers children) naming h st =
        after_bind _ (steady_all children h st) λ st₁ all. after_steady all (steady_emit L p mark numbers st₁) (omega arith)
    steady (import p which span is_literal path) naming h st = steady_import L p which span is_literal path st
    steady (local p binds body) naming h st = after_choose _ _ _
        (λ _. after_weaken (steady body unnamed h st) λ _ k. steady_more k (omega arith))
        (λ _.
        after_bind _ (defining_opens L p st) λ st₁ opened.
        after_bind _ (defined_binds L binds h.depth st₁) λ st₂ defined.
        after_bind _ (steady_binds binds 0 0 h st₂) λ r specs.
        let settled = within_then (within_specs (within_defined opened defined) specs) (steady_settle propagate_analysis analysis_keeps r.0 (length st.references) r.1) in
        after_bind _ (steady body unnamed (deeper h) _) λ st₃ walked.
        after_bind _ (frame_finishes L p r.0 st st₃ (within_then settled walked)) λ st₄ finished.
        after_steady finished (steady_emit L p LO (r.0 ∷ []) st₄) (omega (arith, specs.few_kept)))
    steady (function p span params body) naming h st =
        after_bind _ (defining_opens L p st) λ st₁ opened.
        after_bind _ (defined_params L params h.depth st₁) λ st₂ defined.
        after_bind _ (steady_params params 0 h st₂) λ r specs.
        let settled = within_then (within_specs (within_defined opened defined) specs) (steady_settle propagate_analysis analysis_keeps r.0 (length st.references) r.1) in
        after_bind _ (steady body unnamed (deeper h) _) λ st₃ walked.
        after_bind _ (frame_finishes L p r.0 st st₃ (within_then settled walked)) λ st₄ finished.
        after_weaken (function_finishes L p span r.0 naming _ st st₄ finished) λ _ done. steady_more done (omega (arith, specs.few_kept))
    steady (object p heads locals assertions values) naming h st =
        after_bind _ (steady_heads heads h st) λ st₀ headed.
        let used = steady_object_use (entered_use (is_outermost h) st₀.object_use) st₀ in
        let h = in_object (length st₀.locals) h in
        after_bind _ (defining_opens L p _) λ st₁ opened.
        after_bind _ (defined_this L p h.depth st₁) λ st₂ this.
        after_bind _ (defined_binds L locals h.depth st₂) λ st₃ defined.
        after_bind _ (steady_binds locals 1 0 h st₃) λ r specs.
        let inside = within_from {c = 0} used (within_defined (within_defined opened this) defined) (omega arith) in
        let settled = within_then (within_specs inside specs) (steady_settle propagate_analysis analysis_keeps r.0 (length st₀.references) r.1) in
        after_bind _ (steady_assertions assertions (deeper h) _) λ st₄ asserted.
        after_bind _ (steady_values values (head_namings heads) (deeper h) st₄) λ st₅ valued.
        after_bind _ (frame_finishes L p r.0 st₀ st₅ (within_then (within_then settled asserted) valued)) λ st₆ finished.
        let most = weight (object p heads locals assertions values) in
        let ended = steady_then {c = most} headed finished (omega (arith, specs.few_kept)) in
        after_steady (steady_then {c = most} ended (steady_object_use _ st₆) (omega arith)) (steady_emit L p OB _ _) (omega arith)

    pub steady_all : (es : Exprs) (h : Place) (st : AnalysisStack) → After (Steady (weight_all es) st) (analyze_all L es h st)
    steady_all no_exprs h st = fine (steady_none st)
    steady_all (e then es) h st = after_bind _ (steady e unnamed h st) λ st₁ first. after_steady first (steady_all es h st₁) (omega arith)

    pub steady_assertions : (es : Exprs) (h : Place) (st : AnalysisStack) → After (Steady (weight_all es) st) (analyze_assertions L es h st)
    steady_assertions no_exprs h st = fine (steady_none st)
    steady_assertions (t then ts) h st =
        after_bind _ (using_opens L (place_of t) st) λ st₁ opened. after_bind _ (steady t unnamed h st₁) λ st₂ first. after_bind _ (steady_all ts h st₂) λ st₃ all.
        after_weaken (frame_closes L (place_of t) st st₃ (opened_then (opened_then opened first) all)) λ _ closed. steady_more closed (omega arith)

    pub steady_values : (es : Exprs) (namings : List Naming) (h : Place) (st : AnalysisStack) → After (Steady (weight_all es) st) (analyze_values L es namings h st)
    steady_values no_exprs namings h st = fine (steady_none st)
    steady_values (e then es) namings h st =
        after_bind _ (using_opens L (place_of e) st) λ st₁ opened. after_bind _ (steady e (first_naming namings) h st₁) λ st₂ first.
        after_bind _ (frame_closes L (place_of e) st st₂ (opened_then opened first)) λ st₃ closed.
        after_bind _ (steady_emit L (place_of e) FV [] st₃) λ st₄ emitted.
        after_steady (steady_then {c = weight e} closed emitted (omega arith)) (steady_values es (tail namings) h st₄) (omega arith)

    pub steady_binds : (bs : Binds) (base kept : ℕ) (h : Place) (st : AnalysisStack)
        → After (λ (r : ℕ × AnalysisStack). SteadySpecs (weight_binds bs) (count_binds bs) kept r.0 st r.1) (analyze_binds L bs base kept h st)
    steady_binds no_binds base kept h st = fine (specs_steady kept (steady_none st))
    steady_binds (bind p name span is_function value bs) base kept h st =
        after_bind _ (using_opens L p (with_taint no_dependence st)) λ st₁ opened. after_bind _ (steady value (bind_naming is_function name span) h st₁) λ st₂ first.
        after_bind _ (frame_closes L p (with_taint no_dependence st) st₂ (opened_then opened first)) λ st₃ closed.
        after_bind _ (spec_recorded L p base kept st.taint BV (λ slot. slot ∷ []) st st₃ (steady_then {c = weight value} (steady_taint no_dependence st) closed (omega arith))) λ r recorded.
        after_weaken (steady_binds bs base r.0 h r.1) λ _ others. specs_then recorded others (omega arith) (omega arith)

    pub steady_params : (ps : Params) (kept : ℕ) (h : Place) (st : AnalysisStack)
        → After (λ (r : ℕ × AnalysisStack). SteadySpecs (weight_params ps) (count_params ps) kept r.0 st r.1) (analyze_params L ps kept h st)
    steady_params no_params kept h st = fine (specs_steady kept (steady_none st))
    steady_params (param p name span ps) kept h st =
        after_bind _ (spec_recorded L p 0 kept st.taint PA (λ slot. name ∷ slot ∷ 0 ∷ []) st (with_taint no_dependence st) (steady_taint no_dependence st)) λ r recorded.
        after_weaken (steady_params ps r.0 h r.1) λ _ others. specs_then recorded others (omega arith) (omega arith)
    steady_params (param_or p name span default ps) kept h st =
        after_bind _ (using_opens L p (with_taint no_dependence st)) λ st₁ opened. after_bind _ (steady default unnamed h st₁) λ st₂ first.
        after_bind _ (frame_closes L p (with_taint no_dependence st) st₂ (opened_then opened first)) λ st₃ closed.
        after_bind _ (spec_recorded L p 0 kept st.taint PA (λ slot. name ∷ slot ∷ 1 ∷ []) st st₃ (steady_then {c = weight default} (steady_taint no_dependence st) closed (omega arith))) λ r recorded.
        after_weaken (steady_params ps r.0 h r.1) λ _ others. specs_then recorded others (omega arith) (omega arith)

    pub steady_heads : (hs : Heads) (h : Place) (st : AnalysisStack) → After (Steady (weight_heads hs) st) (analyze_heads L hs h st)
    steady_heads no_heads h st = fine (steady_none st)
    steady_heads (fixed p head hs) h st = after_bind _ (steady_emit L p FH _ st) λ st₁ emitted. after_steady emitted (steady_heads hs h st₁) (omega arith)
    steady_heads (computed p head name hs) h st =
        after_bind _ (steady name unnamed h st) λ st₁ named. after_bind _ (steady_emit L p FH _ st₁) λ st₂ emitted.
        after_steady (steady_then {c = weight name} named emitted (omega arith)) (steady_heads hs h st₂) (omega arith)
