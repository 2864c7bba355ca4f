-- The analysis of each part of the tree settles at the places that the tree gives, ends each settling in time, and adds their rounds, by induction over the tree. Assumes nothing.
use Prim.Native.Nat.{ℕ}
use native.Mathlib.Omega.{arith}
use mathlib.Core.Bool.{true, false}
use mathlib.Core.List.{List, [], ◌∷◌, ◌++◌, tail}
use mathlib.Core.Path.{◌≡◌, refl, sym, ◌∙◌, subst}
use lib.ListN.{length}
use Rattle.rules.specs.Outcome.{Outcome, ◌>>=◌}
use Rattle.rules.specs.Numbers.{TV, AC, AR, LO, OB, BV, PA, FH, FV}
use Rattle.rules.specs.Depths.{no_dependence}
use Rattle.rules.specs.Tree.{Expr, Exprs, Binds, Params, Heads, place_of, identity, constant, variable, constants, array, plain, import, local, function, object, no_exprs, ◌then◌, no_binds, bind, no_params, param, param_or, no_heads, fixed, computed}
use Rattle.rules.specs.Locals.{LocalDefinition}
use Rattle.rules.specs.State.{Limits, ObjectUse, AnalysisStack, with_taint, with_object_use}
use Rattle.rules.specs.Writing.{open_frame, close_frame}
use Rattle.rules.specs.Walk.{Place, Naming, unnamed, bind_naming, first_naming, head_namings, deeper, in_object, is_outermost, entered_use, analyze, analyze_all, analyze_assertions, analyze_values, analyze_binds, analyze_params, analyze_heads}
use Rattle.rules.proofs.After.{After, fine, after_weaken, after_bind, after_both}
use Rattle.rules.proofs.Outcomes.{bind_assoc}
use Rattle.law_steady.specs.Steady.{Steady}
use Rattle.law_steady.proofs.Keeping.{steady_then, opened_then}
use Rattle.law_steady.proofs.Steps.{steady_taint, using_opens, frame_closes}
use Rattle.law_steady.proofs.Steady.{steady, steady_assertions, steady_values}
use Rattle.claim_rounds.specs.Settlings.{Settling, behind, settlings, settlings_all, settlings_assertions, settlings_values, settlings_binds, settlings_params, settlings_heads, settled_places, settled_places_all, settled_places_binds, settled_places_params, settled_places_heads}
use Rattle.claim_rounds.proofs.Later.{later_same, later_then}
use Rattle.claim_rounds.proofs.Steps.{Still, still_same, after_still, still_emit, still_open, still_close, still_identity, still_name, still_import, still_function}
use Rattle.claim_rounds.proofs.Framed.{Framed, Specs, specs_on, specs_end, Keeps, keeps_then, keeps_steady, spec_recorded}
use Rattle.claim_rounds.proofs.Begun.{bind_places, param_places, Begun, Named, begun_open, begun_this, named_binds, named_params, named_in_object}
use Rattle.claim_rounds.proofs.Traced.{Walked, walked_same, traced, traced_choice, Goes, steps, goes_from, after_goes, and_also, around_walked}

-- the state after a step
abbrev pub here : AnalysisStack → AnalysisStack
here st = st

-- the same where a number comes with it
abbrev beside : ℕ × AnalysisStack → AnalysisStack
beside r = r.1

taint_still : (st : AnalysisStack) → Still st (with_taint no_dependence st)
unfolding with_taint
taint_still st = still_same st (with_taint no_dependence st) refl refl

no_step : (st : AnalysisStack) → Still st st
no_step st = still_same st st refl refl

taint_keeps : (st : AnalysisStack) → Keeps st (with_taint no_dependence st)
taint_keeps st = keeps_steady (steady_taint no_dependence st) (taint_still st).later

object_use_still : (u : ObjectUse) (st : AnalysisStack) → Still st (with_object_use u st)
unfolding with_object_use
object_use_still u st = still_same st (with_object_use u st) refl refl

-- a spec's end, from a state before it

recorded : {P : ℕ × AnalysisStack → Type 0} {st st' : AnalysisStack} {o : Outcome (ℕ × AnalysisStack)} → Still st st' → After (λ r. Still st' r.1 × P r) o → After (λ r. Walked [] [] st r.1 × P r) o
recorded before h = after_weaken h λ _ s. (walked_same (s.0.same_rounds ∙ before.same_rounds), s.1)

-- what is walked leaves the frame on top as it was
both_kept : {most : ℕ} {ps : List ℕ} {ss : List Settling} {st : AnalysisStack} {o : Outcome AnalysisStack} → After (Goes st.locals ps ss st) o → After (Steady most st) o
    → After (λ (st' : AnalysisStack). Walked ps ss st st' × Keeps st st') o
both_kept h k = after_weaken (after_both h k) λ _ x. (x.0.0, keeps_steady x.1 x.0.1)

-- the names of a frame are defined
named : {outer st : AnalysisStack} {base : ℕ} {own : List LocalDefinition} {places : List ℕ} {o : Outcome AnalysisStack} → Begun outer own st → After (Named outer base places) o
    → After (λ (st' : AnalysisStack). Walked [] [] st st' × Named outer base places st') o
named b h = after_weaken h λ _ n. (walked_same (n.same_rounds ∙ sym b.same_rounds), n)

module _ (L : Limits) where
  begun : (p : ℕ) (outer st : AnalysisStack) → st.locals ≡ outer.locals → st.references ≡ outer.references → st.sink.rounds ≡ outer.sink.rounds
      → After (λ (st' : AnalysisStack). Walked [] [] outer st' × Begun outer [] st') (open_frame L p true st)
  begun p outer st locals references rounds = after_weaken (begun_open L p outer st locals references rounds) λ _ b. (walked_same b.same_rounds, b)

  -- a spec's value in its using frame
  value_walked : (p : ℕ) (st : AnalysisStack) {most : ℕ} {ps qs : List ℕ} (value : AnalysisStack → Outcome AnalysisStack) (within : AnalysisStack → List Settling)
      (rest : AnalysisStack → Outcome (ℕ × AnalysisStack)) (others : AnalysisStack → List Settling) {Q : ℕ × AnalysisStack → Type 0}
      → ((st : AnalysisStack) → After (Goes st.locals ps (within st) st) (value st)) → ((st : AnalysisStack) → After (Steady most st) (value st))
      → ((st' : AnalysisStack) → Keeps st st' → After (λ r. Walked qs (others st') st' r.1 × Q r) (rest st'))
      → After (λ r. Walked (ps ++ qs) (behind (open_frame L p false (with_taint no_dependence st)) λ st. within st ++ behind (value st) λ st. behind (close_frame L p st) others) st r.1 × Q r)
      (open_frame L p false (with_taint no_dependence st) >>= λ st. value st >>= λ st. close_frame L p st >>= rest)
  value_walked p st {most = most} value within rest others walks steadies k =
      let plain = with_taint no_dependence st in
      traced here beside (and_also (steps (after_still (taint_still st) (still_open L p false plain))) (using_opens L p plain)) λ st₁ o.
      traced here beside (and_also (walks st₁) (steadies st₁)) λ st₂ v.
      traced here beside (and_also (steps (still_close L p st₂)) (frame_closes L p plain st₂ (opened_then o.1 v.1))) λ st₃ c.
      k st₃ (keeps_steady (steady_then {c = most} (steady_taint no_dependence st) c.1 (omega arith)) (later_then o.0 (later_then v.0 c.0)))

  mutual
    unfolding analyze settlings settled_places bind_places param_places with_object_use

    pub walked : (e : Expr) (naming : Naming) (h : Place) (st : AnalysisStack) → After (Goes st.locals (settled_places e) (settlings L e naming h st) st) (analyze L e naming h st)
    walked (identity p which span) naming h st = steps (still_identity L p which span h st)
    walked (constant p value) naming h st = steps (still_emit L p TV (value ∷ []) st)
    walked (variable p name span) naming h st = steps (still_name L p name span h st)
    walked (constants p values) naming h st = steps (still_emit L p AC (length values ∷ values) st)
    walked (array p items) naming h st =
        traced here here (steps (still_open L p false st)) λ st₁ o. after_bind _ (goes_from o (walked_all items h st₁)) λ st₂ w.
        after_goes w (after_bind _ (still_close L p st₂) λ st₃ s. after_still s (still_emit L p AR _ st₃))
    walked (plain p mark numbers children) naming h st = after_bind _ (walked_all children h st) λ st₁ w. after_goes w (still_emit L p mark numbers st₁)
    walked (import p which span is_literal path) naming h st = steps (still_import L p which span is_literal path st)
    walked (local p binds body) naming h st = traced_choice _ _ _ _ _ _ _
        (walked body unnamed h st)
        (traced here here (begun p st st refl refl refl) λ st₁ b. traced here here (named b (named_binds L binds h.depth st₁ b)) λ st₂ n.
        traced beside here (walked_binds binds 0 0 h st₂ n.specs) λ r f.
        around_walked L p r.1 _ _ _ f (λ st. both_kept (walked body unnamed (deeper h) st) (steady L body unnamed (deeper h) st)) λ _ st₄. still_emit L p LO (r.0 ∷ []) st₄)
    walked (function p span params body) naming h st =
        traced here here (begun p st st refl refl refl) λ st₁ b. traced here here (named b (named_params L params h.depth st₁ b)) λ st₂ n.
        traced beside here (walked_params params 0 h st₂ n.specs) λ r f.
        around_walked L p r.1 _ _ _ f (λ st. both_kept (walked body unnamed (deeper h) st) (steady L body unnamed (deeper h) st)) λ st₃ st₄. still_function L p span _ r.0 naming _ st₄
    walked (object p heads locals assertions values) naming h st =
        traced here here (walked_heads heads h st) λ st₀ headed.
        let inside = in_object (length st₀.locals) h in
        traced here here (begun p st₀ (with_object_use (entered_use (is_outermost h) st₀.object_use) st₀) refl refl refl) λ st₁ b.
        traced here here (after_weaken (begun_this L p inside.depth st₁ b) λ _ t. (walked_same (t.same_rounds ∙ sym b.same_rounds), t)) λ st₂ t.
        traced here here (named t (named_in_object L p inside.depth locals st₂ t)) λ st₃ n.
        traced beside here (walked_binds locals 1 0 inside st₃ n.specs) λ r f.
        goes_from headed (subst (After _) (bind_assoc _ _ _) (around_walked L p r.1 _ _ _ f
        (λ st. traced here here (both_kept (walked_assertions assertions (deeper inside) st) (steady_assertions L assertions (deeper inside) st)) λ st₄ a.
        after_weaken (both_kept (walked_values values (head_namings heads) (deeper inside) st₄) (steady_values L values (head_namings heads) (deeper inside) st₄)) λ _ v. (v.0, keeps_then a v.1))
        λ _ st₆. after_still (object_use_still _ st₆) (still_emit L p OB _ _)))

    pub walked_all : (es : Exprs) (h : Place) (st : AnalysisStack) → After (Goes st.locals (settled_places_all es) (settlings_all L es h st) st) (analyze_all L es h st)
    walked_all no_exprs h st = fine (walked_same refl, later_same st.locals)
    walked_all (e then es) h st = traced here here (walked e unnamed h st) λ st₁ l. goes_from l (walked_all es h st₁)

    pub walked_assertions : (es : Exprs) (h : Place) (st : AnalysisStack) → After (Goes st.locals (settled_places_all es) (settlings_assertions L es h st) st) (analyze_assertions L es h st)
    walked_assertions no_exprs h st = fine (walked_same refl, later_same st.locals)
    walked_assertions (t then ts) h st =
        traced here here (steps (still_open L (place_of t) false st)) λ st₁ o. traced here here (goes_from o (walked t unnamed h st₁)) λ st₂ l.
        after_bind _ (goes_from l (walked_all ts h st₂)) λ st₃ w. after_goes w (still_close L (place_of t) st₃)

    pub walked_values : (es : Exprs) (namings : List Naming) (h : Place) (st : AnalysisStack)
        → After (Goes st.locals (settled_places_all es) (settlings_values L es namings h st) st) (analyze_values L es namings h st)
    walked_values no_exprs namings h st = fine (walked_same refl, later_same st.locals)
    walked_values (e then es) namings h st =
        traced here here (steps (still_open L (place_of e) false st)) λ st₁ o. traced here here (goes_from o (walked e (first_naming namings) h st₁)) λ st₂ l.
        traced here here (goes_from l (steps (still_close L (place_of e) st₂))) λ st₃ c. traced here here (goes_from c (steps (still_emit L (place_of e) FV [] st₃))) λ st₄ f.
        goes_from f (walked_values es (tail namings) h st₄)

    pub walked_binds : {outer : AnalysisStack} {n : ℕ} (bs : Binds) (base kept : ℕ) (h : Place) (st : AnalysisStack) → Specs outer base n kept (bind_places bs) st
        → After (λ (r : ℕ × AnalysisStack). Walked (settled_places_binds bs) (settlings_binds L bs base kept h st) st r.1 × Framed outer base r.0 r.1) (analyze_binds L bs base kept h st)
    walked_binds no_binds base kept h st specs = fine (walked_same refl, specs_end specs)
    walked_binds (bind p name span is_function value bs) base kept h st specs =
        let named = bind_naming is_function name span in
        value_walked p st (analyze L value named h) (settlings L value named h) _ _ (λ st. walked value named h st) (steady L value named h) λ st₃ k.
        traced beside beside (recorded (no_step st₃) (spec_recorded L p kept _ _ BV _ st₃ (specs_on specs k))) λ r more. walked_binds bs base r.0 h r.1 more

    pub walked_params : {outer : AnalysisStack} {n : ℕ} (ps : Params) (kept : ℕ) (h : Place) (st : AnalysisStack) → Specs outer 0 n kept (param_places ps) st
        → After (λ (r : ℕ × AnalysisStack). Walked (settled_places_params ps) (settlings_params L ps kept h st) st r.1 × Framed outer 0 r.0 r.1) (analyze_params L ps kept h st)
    walked_params no_params kept h st specs = fine (walked_same refl, specs_end specs)
    walked_params (param p name span ps) kept h st specs =
        traced beside beside (recorded (taint_still st) (spec_recorded L p kept _ _ PA _ (with_taint no_dependence st) (specs_on specs (taint_keeps st)))) λ r more.
        walked_params ps r.0 h r.1 more
    walked_params (param_or p name span default ps) kept h st specs =
        value_walked p st (analyze L default unnamed h) (settlings L default unnamed h) _ _ (λ st. walked default unnamed h st) (steady L default unnamed h) λ st₃ k.
        traced beside beside (recorded (no_step st₃) (spec_recorded L p kept _ _ PA _ st₃ (specs_on specs k))) λ r more. walked_params ps r.0 h r.1 more

    pub walked_heads : (hs : Heads) (h : Place) (st : AnalysisStack) → After (Goes st.locals (settled_places_heads hs) (settlings_heads L hs h st) st) (analyze_heads L hs h st)
    walked_heads no_heads h st = fine (walked_same refl, later_same st.locals)
    walked_heads (fixed p head hs) h st = traced here here (steps (still_emit L p FH _ st)) λ st₁ l. goes_from l (walked_heads hs h st₁)
    walked_heads (computed p head name hs) h st =
        traced here here (walked name unnamed h st) λ st₁ l. traced here here (goes_from l (steps (still_emit L p FH _ st₁))) λ st₂ l. goes_from l (walked_heads hs h st₂)
