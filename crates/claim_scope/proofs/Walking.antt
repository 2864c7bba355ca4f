-- The analysis of each part of the tree reports the errors that lexical scoping gives for it, by induction over the tree. Assumes nothing.
use Prim.Native.Nat.{ℕ}
use mathlib.Core.List.{List, [], ◌∷◌, ◌++◌, tail, append_assoc}
use mathlib.Core.Path.{◌≡◌, sym, ap, ◌∙◌}
use lib.ListN.{length}
use Rattle.rules.specs.Numbers.{TV, AC, AR, LO, OB, BV, PA, FH, FV}
use Rattle.rules.specs.Depths.{no_dependence}
use Rattle.rules.specs.Tree.{Expr, Exprs, Binds, Params, Heads, place_of, at_record, identity, constant, variable, constants, array, plain, import, local, function, object, no_exprs, ◌then◌, no_binds, bind, no_params, param, param_or, no_heads, fixed, computed}
use Rattle.rules.specs.Settling.{propagate_analysis}
use Rattle.rules.specs.State.{Limits, AnalysisStack, with_taint, written}
use Rattle.rules.specs.Walk.{Place, Naming, unnamed, bind_naming, first_naming, head_namings, deeper, in_object, is_outermost, entered_use, analyze, analyze_all, analyze_assertions, analyze_values, analyze_binds, analyze_params, analyze_heads}
use Rattle.rules.proofs.After.{After, fine, after_weaken, after_bind, after_choose}
use Rattle.claim_scope.specs.Scope as scope
use Rattle.claim_scope.specs.Scope.{Scope, bind_names, param_names, under}
use Rattle.claim_scope.specs.StaticCheck.{Found, twice_bound, errors, errors_all, errors_binds, errors_params, errors_heads}
use Rattle.claim_scope.proofs.Finding.{keys}
use Rattle.claim_scope.proofs.Telling.{Walked, walked_none, walked_then, walked_on, walked_is, after_walked, after_on, inside_then, inside_on}
use Rattle.claim_scope.proofs.Steps.{quiet_taint, quiet_object_use, analysis_keeps, quiet_settle, quiet_emit, opens, closes, quiet_spec, finishes, quiet_function}
use Rattle.claim_scope.proofs.Defining.{seen_none, seen_this, this_inside, defined_binds, defined_params}
use Rattle.claim_scope.proofs.Fitting.{Fits, fits_same, fits_opened, fits_deeper, fits_object, fits_defined, fits_empty, errors_empty, nothing_yet, only_this, walked_identity, walked_name, walked_import}

-- an object's heads before what is inside it
heads_before : (a b c d e : List Found) → a ++ (((b ++ c) ++ d) ++ e) ≡ (((a ++ b) ++ c) ++ d) ++ e
heads_before a b c d e =
    sym (append_assoc a ((b ++ c) ++ d) e) ∙ ap (λ (fs : List Found). fs ++ e) (sym (append_assoc a (b ++ c) d) ∙ ap (λ (fs : List Found). fs ++ d) (sym (append_assoc a b c)))

module _ (L : Limits) where
  mutual
    unfolding analyze errors

    pub walked : (e : Expr) (naming : Naming) (h : Place) (sc : Scope) (st : AnalysisStack) → Fits sc h (keys st) → After (Walked (errors e sc) st) (analyze L e naming h st)
    walked (identity p which span) naming h sc st fits = walked_identity L p which span h sc st fits
    walked (constant p value) naming h sc st fits = quiet_emit L p TV (value ∷ []) st
    walked (variable p name span) naming h sc st fits = walked_name L p name span h sc st fits
    walked (constants p values) naming h sc st fits = quiet_emit L p AC (length values ∷ values) st
    walked (array p items) naming h sc st fits =
        after_bind _ (opens L p _ st) λ st₁ opened. after_bind _ (walked_all items h sc st₁ (fits_opened opened fits)) λ st₂ all.
        after_bind _ (closes L p st st₂ (inside_then opened all)) λ st₃ closed. after_on closed (quiet_emit L p AR _ st₃)
    walked (plain p mark numbers children) naming h sc st fits =
        after_bind _ (walked_all children h sc st fits) λ st₁ all. after_on all (quiet_emit L p mark numbers st₁)
    walked (import p which span is_literal path) naming h sc st fits = walked_import L p which span is_literal path st
    walked (local p binds body) naming h sc st fits =
        let within = under (bind_names binds) sc in
        after_choose _ _ _
        (λ e. after_weaken (walked body unnamed h within st (fits_empty binds e fits)) λ _ k. walked_is (errors_empty binds within (errors body within) e) k)
        (λ _.
        after_bind _ (opens L p _ st) λ st₁ opened.
        after_bind _ (defined_binds L [] binds h.depth st st₁ opened seen_none) λ st₂ defined.
        let fits₂ = fits_defined nothing_yet defined fits in
        after_bind _ (walked_binds binds 0 0 h within st₂ fits₂) λ r specs.
        let settles = quiet_settle propagate_analysis analysis_keeps r.0 (length st.references) r.1 in
        after_bind _ (walked body unnamed (deeper h) within _ (fits_deeper (fits_same (settles.same ∙ specs.same) fits₂))) λ st₃ inner.
        after_bind _ (finishes L p r.0 _ st st₃ (inside_then (inside_on (inside_then defined.inside specs) settles) inner)) λ st₄ finished.
        after_on finished (quiet_emit L p LO (r.0 ∷ []) st₄))
    walked (function p span params body) naming h sc st fits =
        let within = under (param_names params) sc in
        after_bind _ (opens L p _ st) λ st₁ opened.
        after_bind _ (defined_params L [] params h.depth st st₁ opened seen_none) λ st₂ defined.
        let fits₂ = fits_defined nothing_yet defined fits in
        after_bind _ (walked_params params 0 h within st₂ fits₂) λ r specs.
        let settles = quiet_settle propagate_analysis analysis_keeps r.0 (length st.references) r.1 in
        after_bind _ (walked body unnamed (deeper h) within _ (fits_deeper (fits_same (settles.same ∙ specs.same) fits₂))) λ st₃ inner.
        after_bind _ (finishes L p r.0 _ st st₃ (inside_then (inside_on (inside_then defined.inside specs) settles) inner)) λ st₄ finished.
        after_on finished (quiet_function L p span _ r.0 naming _ st₄)
    walked (object p heads locals assertions values) naming h sc st fits =
        let within = under (bind_names locals) (scope.in_object p sc) in
        after_bind _ (walked_heads heads h sc st fits) λ st₀ headed.
        let used = quiet_object_use (entered_use (is_outermost h) st₀.object_use) st₀ in
        let inner = in_object (length st₀.locals) h in
        after_bind _ (opens L p _ _) λ st₁ opened.
        after_bind _ (this_inside L p _ _ st₁ opened) λ st₂ this.
        after_bind _ (defined_binds L [] locals _ _ st₂ this (seen_this (at_record p))) λ st₃ defined.
        let fits₃ = fits_defined (only_this (at_record p)) defined (fits_object p (length st₀.locals) (fits_same (used.same ∙ headed.same) fits)) in
        after_bind _ (walked_binds locals 1 0 inner within st₃ fits₃) λ r specs.
        let settles = quiet_settle propagate_analysis analysis_keeps r.0 (length st₀.references) r.1 in
        let fits₄ = fits_deeper (fits_same (settles.same ∙ specs.same) fits₃) in
        after_bind _ (walked_assertions assertions (deeper inner) within _ fits₄) λ st₄ asserted.
        after_bind _ (walked_values values (head_namings heads) (deeper inner) within st₄ (fits_same asserted.same fits₄)) λ st₅ valued.
        after_bind _ (finishes L p r.0 _ _ st₅ (inside_then (inside_then (inside_on (inside_then defined.inside specs) settles) asserted) valued)) λ st₆ finished.
        let all = walked_is (heads_before (errors_heads heads sc) (twice_bound [] locals) (errors_binds locals within) (errors_all assertions within) (errors_all values within))
        (walked_then headed (walked_then used finished)) in
        after_on (walked_on all (quiet_object_use _ st₆)) (quiet_emit L p OB _ _)

    pub walked_all : (es : Exprs) (h : Place) (sc : Scope) (st : AnalysisStack) → Fits sc h (keys st) → After (Walked (errors_all es sc) st) (analyze_all L es h st)
    walked_all no_exprs h sc st fits = fine (walked_none st)
    walked_all (e then es) h sc st fits = after_bind _ (walked e unnamed h sc st fits) λ st₁ first. after_walked first (walked_all es h sc st₁ (fits_same first.same fits))

    pub walked_assertions : (es : Exprs) (h : Place) (sc : Scope) (st : AnalysisStack) → Fits sc h (keys st) → After (Walked (errors_all es sc) st) (analyze_assertions L es h st)
    walked_assertions no_exprs h sc st fits = fine (walked_none st)
    walked_assertions (t then ts) h sc st fits =
        after_bind _ (opens L (place_of t) _ st) λ st₁ opened.
        let fits₁ = fits_opened opened fits in
        after_bind _ (walked t unnamed h sc st₁ fits₁) λ st₂ first. after_bind _ (walked_all ts h sc st₂ (fits_same first.same fits₁)) λ st₃ all.
        closes L (place_of t) st st₃ (inside_then (inside_then opened first) all)

    pub walked_values : (es : Exprs) (namings : List Naming) (h : Place) (sc : Scope) (st : AnalysisStack) → Fits sc h (keys st)
        → After (Walked (errors_all es sc) st) (analyze_values L es namings h st)
    walked_values no_exprs namings h sc st fits = fine (walked_none st)
    walked_values (e then es) namings h sc st fits =
        after_bind _ (opens L (place_of e) _ st) λ st₁ opened. after_bind _ (walked e (first_naming namings) h sc st₁ (fits_opened opened fits)) λ st₂ first.
        after_bind _ (closes L (place_of e) st st₂ (inside_then opened first)) λ st₃ closed.
        after_bind _ (quiet_emit L (place_of e) FV [] st₃) λ st₄ emitted.
        let one = walked_on closed emitted in
        after_walked one (walked_values es (tail namings) h sc st₄ (fits_same one.same fits))

    pub walked_binds : (bs : Binds) (base kept : ℕ) (h : Place) (sc : Scope) (st : AnalysisStack) → Fits sc h (keys st)
        → After (λ (r : ℕ × AnalysisStack). Walked (errors_binds bs sc) st r.1) (analyze_binds L bs base kept h st)
    walked_binds no_binds base kept h sc st fits = fine (walked_none st)
    walked_binds (bind p name span is_function value bs) base kept h sc st fits =
        let begun = quiet_taint no_dependence st in
        after_bind _ (opens L p _ (with_taint no_dependence st)) λ st₁ opened.
        after_bind _ (walked value (bind_naming is_function name span) h sc st₁ (fits_opened opened (fits_same begun.same fits))) λ st₂ first.
        after_bind _ (closes L p (with_taint no_dependence st) st₂ (inside_then opened first)) λ st₃ closed.
        after_bind _ (quiet_spec L p base kept (written st) st.taint BV (λ slot. slot ∷ []) st₃) λ r recorded.
        let one = walked_on (walked_then begun closed) recorded in
        after_weaken (walked_binds bs base r.0 h sc r.1 (fits_same one.same fits)) λ _ others. walked_then one others

    pub walked_params : (ps : Params) (kept : ℕ) (h : Place) (sc : Scope) (st : AnalysisStack) → Fits sc h (keys st)
        → After (λ (r : ℕ × AnalysisStack). Walked (errors_params ps sc) st r.1) (analyze_params L ps kept h st)
    walked_params no_params kept h sc st fits = fine (walked_none st)
    walked_params (param p name span ps) kept h sc st fits =
        after_bind _ (quiet_spec L p 0 kept (written st) st.taint PA (λ slot. name ∷ slot ∷ 0 ∷ []) (with_taint no_dependence st)) λ r recorded.
        let one = walked_then (quiet_taint no_dependence st) recorded in
        after_weaken (walked_params ps r.0 h sc r.1 (fits_same one.same fits)) λ _ others. walked_then one others
    walked_params (param_or p name span default ps) kept h sc st fits =
        let begun = quiet_taint no_dependence st in
        after_bind _ (opens L p _ (with_taint no_dependence st)) λ st₁ opened.
        after_bind _ (walked default unnamed h sc st₁ (fits_opened opened (fits_same begun.same fits))) λ st₂ first.
        after_bind _ (closes L p (with_taint no_dependence st) st₂ (inside_then opened first)) λ st₃ closed.
        after_bind _ (quiet_spec L p 0 kept (written st) st.taint PA (λ slot. name ∷ slot ∷ 1 ∷ []) st₃) λ r recorded.
        let one = walked_on (walked_then begun closed) recorded in
        after_weaken (walked_params ps r.0 h sc r.1 (fits_same one.same fits)) λ _ others. walked_then one others

    pub walked_heads : (hs : Heads) (h : Place) (sc : Scope) (st : AnalysisStack) → Fits sc h (keys st) → After (Walked (errors_heads hs sc) st) (analyze_heads L hs h st)
    walked_heads no_heads h sc st fits = fine (walked_none st)
    walked_heads (fixed p head hs) h sc st fits =
        after_bind _ (quiet_emit L p FH _ st) λ st₁ emitted. after_walked emitted (walked_heads hs h sc st₁ (fits_same emitted.same fits))
    walked_heads (computed p head name hs) h sc st fits =
        after_bind _ (walked name unnamed h sc st fits) λ st₁ first. after_bind _ (quiet_emit L p FH _ st₁) λ st₂ emitted.
        let one = walked_on first emitted in
        after_walked one (walked_heads hs h sc st₂ (fits_same one.same fits))
