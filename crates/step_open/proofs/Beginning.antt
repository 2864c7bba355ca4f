-- A frame that is opened, and what follows in it. Assumes nothing.
use Prim.Native.Nat.{ℕ, zero, suc, ◌+◌, ◌*◌, ◌-◌, ◌≤◌, ◌<◌}
use mathlib.Core.Bool.{Bool, true, false}
use mathlib.Core.List.{List, ◌∷◌}
use mathlib.Core.Path.{◌≡◌, refl, sym, ap, subst, ◌∙◌}
use native.Mathlib.Omega.{arith}
use lib.ListN.{length}
use Rattle.rules.specs.Outcome.{Outcome, ok, refuse, ◌>>=◌, choose}
use Rattle.rules.specs.Frames.{ClosureFrame, new_frame, top}
use Rattle.rules.specs.State as rules
use Rattle.rules.specs.Scoping as scoping
use Rattle.rules.specs.Writing as rules_writing
use Rattle.rules.specs.Walk as walk
use Rattle.rules.proofs.After.{After, fine, after_ok, after_bind, after_need}
use Rattle.rules.proofs.Outcomes.{bind_assoc}
use Rattle.table_rows.specs.Entries.{number}
use Rattle.resolver.specs.Meaning.{frame_of, frames_of}
use Rattle.law_runs.specs.Run.{run_define_binds, run_define_params}
use Rattle.law_runs.specs.Steps.{begun_local, begun_function, begun_object}
use Rattle.state.specs.Seen.{Buffers, buffers, stack, seen, limits_of, Fit, Fits}
use Rattle.state.specs.Walks.{place_of, Walks, Steps}
use Rattle.state.specs.declared.AnalysisStack.{AnalysisStack}
use Rattle.state.specs.declared.Limits.{Limits}
use Rattle.state.specs.declared.Place.{Place}
use Rattle.state.proofs.Changing.{marks_to}
use Rattle.state.proofs.Fitting.{fit_values}
use Rattle.step_frame.specs.Answers.{FrameOpened}
use Rattle.step_locals.specs.Answers.{DefinedThis}
use Rattle.step_place.proofs.Laws.{outermost_so}
use Rattle.step_declare.specs.Answers.{Fitting, BindsDefined, ParamsDefined}
use Rattle.resolver.proofs.Laws.{length_frames}
use Rattle.step_declare.proofs.Turns.{pushed_open}
use Rattle.step_open.specs.Answers.{Opening, LocalBegun, FunctionBegun, ObjectEntered, opened_object, ObjectOpened, ObjectBegun}
use Rattle.std.specs.Prelude.{Ok, Err}
use Rattle.refusal.specs.declared.Refusal.{Refusal}
use Rattle.refusal.specs.Meaning.{number_of}
use Rattle.state.specs.Seen.{Step, Walked}

-- A step and a walk after it

module _ {r : Step} {l : Limits} {b b' : Buffers} {st : AnalysisStack} {step : rules.Limits → rules.AnalysisStack → Outcome rules.AnalysisStack} (took : Steps r l b b' st step) where
  pub took_ok : (st' : AnalysisStack) → r ≡ Ok st' → (L : rules.Limits) → L ≡ limits_of l b.out b.diagnostics → step L (stack b st) ≡ ok (stack b' st')
  took_ok st' e L is = sym (took.same L is) ∙ ap (λ (x : Step). seen x b') e

  pub took_refused : (why : Refusal) → r ≡ Err why → (L : rules.Limits) → L ≡ limits_of l b.out b.diagnostics → step L (stack b st) ≡ refuse (number_of why.reason) why.place
  took_refused why e L is = sym (took.same L is) ∙ ap (λ (x : Step). seen x b') e

  pub took_fit : (st' : AnalysisStack) → r ≡ Ok st' → Fit l b' st'
  took_fit st' e = subst (λ (x : Step). Fits l x b') e took.fit

  module _ (rest : rules.Limits → rules.AnalysisStack → Outcome (rules.AnalysisStack × ℕ)) where
    pub then_walks : (st' : AnalysisStack) → r ≡ Ok st' → {w : Walked} {b'' : Buffers} → limits_of l b'.out b'.diagnostics ≡ limits_of l b.out b.diagnostics
        → Walks w l b' b'' st' rest → Walks w l b b'' st (λ L st. step L st >>= λ st. rest L st)
    unfolding ◌>>=◌
    then_walks st' e limits_too walks = record {
      same = λ L is.
          walks.same L (is ∙ sym limits_too)
          ∙ sym (ap (λ (x : Outcome rules.AnalysisStack). x >>= λ st. rest L st) (took_ok st' e L is));
      fit = walks.fit;
    }

    pub stops_walks : (why : Refusal) → r ≡ Err why → Walks (Err why) l b b' st (λ L st. step L st >>= λ st. rest L st)
    unfolding ◌>>=◌
    stops_walks why e = record {
      same = λ L is. sym (ap (λ (x : Outcome rules.AnalysisStack). x >>= λ st. rest L st) (took_refused why e L is));
      fit = tt;
    }

-- A frame that is opened

module _ {r : Step} {frames frames' : List ℕ} {l : Limits} {st : AnalysisStack} {place : ℕ} {is_defining : Bool} (opened : FrameOpened r frames frames' l st place is_defining) where
  pub opened_steps : (out diagnostics locals captures references : List ℕ) → Fit l (buffers out diagnostics locals frames captures references) st
      → Steps r l (buffers out diagnostics locals frames captures references) (buffers out diagnostics locals frames' captures references) st (λ L st. rules_writing.open_frame L place is_defining st)
  opened_steps out diagnostics locals captures references f = record {
    same = λ L is.
        opened.same out diagnostics locals captures references f
        ∙ ap (λ (L : rules.Limits). rules_writing.open_frame L place is_defining (stack (buffers out diagnostics locals frames captures references) st)) (sym is);
    fit = opened.fit out diagnostics locals captures references f;
  }

-- the new frame is on top and has no locals
record OnTop (fs : List ClosureFrame) : Type 0 where
  some : 0 < length fs
  none_yet : (top fs).n_locals ≡ 0

new_on_top : (is_defining : Bool) (n : ℕ) (fs : List ClosureFrame) (st : rules.AnalysisStack) → OnTop (rules.with_frames (new_frame is_defining n 0 ∷ fs) st).frames
unfolding rules.with_frames new_frame top
new_on_top is_defining n fs st = record { some = omega arith; none_yet = refl }

opened_on_top : (L : rules.Limits) (place : ℕ) (is_defining : Bool) (st : rules.AnalysisStack) → After (λ st'. OnTop st'.frames) (rules_writing.open_frame L place is_defining st)
unfolding rules_writing.open_frame
opened_on_top L place is_defining st = after_need _ 7 place _ (λ _. fine (new_on_top is_defining _ _ st))

top_locals : (n : ℕ) (frames : List ℕ) (count : ℕ) (captures : List ℕ) → 0 < n → (top (frames_of n frames count captures)).n_locals ≡ number frames (n - 1) 2
unfolding frames_of frame_of top
top_locals zero frames count captures h = absurd (omega arith)
top_locals (suc n) frames count captures h = let e : suc n - 1 ≡ n = omega arith in rw e

framed : (b : Buffers) (st : AnalysisStack) → 0 < length (stack b st).frames → 0 < st.frames
unfolding stack
framed b st h = (rw (length_frames st.frames b.frames st.captures b.captures) at h)

no_locals : (b : Buffers) (st : AnalysisStack) → OnTop (stack b st).frames → number b.frames (st.frames - 1) 2 ≡ 0
unfolding stack
no_locals b st h =
    sym (top_locals st.frames b.frames st.captures b.captures (rw (length_frames st.frames b.frames st.captures b.captures) at h.some)) ∙ h.none_yet

module _ {r : Step} {frames frames' : List ℕ} {l : Limits} {st : AnalysisStack} {place : ℕ} {is_defining : Bool} (opened : FrameOpened r frames frames' l st place is_defining)
    {st' : AnalysisStack} (e : r ≡ Ok st') where
  pub opened_fitting : {diagnostics locals : List ℕ} → Fitting l diagnostics locals frames st → Fitting l diagnostics locals frames' st'
  opened_fitting {diagnostics} {locals} f = record {
    out = f.out;
    captures = f.captures;
    references = f.references;
    fit = took_fit (opened_steps opened f.out diagnostics locals f.captures f.references f.fit) st' e;
  }

  on_top : (out diagnostics locals captures references : List ℕ) → Fit l (buffers out diagnostics locals frames captures references) st
      → OnTop (stack (buffers out diagnostics locals frames' captures references) st').frames
  on_top out diagnostics locals captures references f =
      after_ok (opened_on_top (limits_of l out diagnostics) place is_defining (stack (buffers out diagnostics locals frames captures references) st))
      (took_ok (opened_steps opened out diagnostics locals captures references f) st' e (limits_of l out diagnostics) refl)

  pub opened_framed : {diagnostics locals : List ℕ} → Fitting l diagnostics locals frames st → 0 < st'.frames
  opened_framed {diagnostics} {locals} f =
      framed (buffers f.out diagnostics locals frames' f.captures f.references) st' (on_top f.out diagnostics locals f.captures f.references f.fit).some

-- `LO` and `FN`

module _ {s diagnostics locals frames frames₁ : List ℕ} {l : Limits} {st : AnalysisStack} {at n depth : ℕ} {r₁ : Step} (opened : FrameOpened r₁ frames frames₁ l st at true) where
  pub local_refused : {why : Refusal} → r₁ ≡ Err why → LocalBegun (Err why) s diagnostics diagnostics locals locals frames frames₁ l st at n depth
  unfolding begun_local
  local_refused {why} e = record {
    begun = λ levels read out captures references f.
        stops_walks (opened_steps opened out diagnostics locals captures references f) (λ L st. run_define_binds s L levels n (at + 6) depth st) why e;
  }

  pub function_refused : {why : Refusal} → r₁ ≡ Err why → FunctionBegun (Err why) s diagnostics diagnostics locals locals frames frames₁ l st at n depth
  unfolding begun_function
  function_refused {why} e = record {
    begun = λ levels read out captures references f.
        stops_walks (opened_steps opened out diagnostics locals captures references f) (λ L st. run_define_params s L levels n (at + 10) depth st) why e;
  }

  module _ {diagnostics' locals' frames' : List ℕ} {st₁ : AnalysisStack} {r : Walked} (e : r₁ ≡ Ok st₁) where
    pub local_begun : BindsDefined r s diagnostics diagnostics' locals locals' frames₁ frames' l st₁ (at + 6) n depth
        → LocalBegun r s diagnostics diagnostics' locals locals' frames frames' l st at n depth
    unfolding begun_local
    local_begun defined = record {
      begun = λ levels read out captures references f.
          let steps = opened_steps opened out diagnostics locals captures references f in
          then_walks steps (λ L st. run_define_binds s L levels n (at + 6) depth st) st₁ e refl (defined.defined levels read out captures references (took_fit steps st₁ e));
    }

    pub function_begun : ParamsDefined r s diagnostics diagnostics' locals locals' frames₁ frames' l st₁ (at + 10) n depth
        → FunctionBegun r s diagnostics diagnostics' locals locals' frames frames' l st at n depth
    unfolding begun_function
    function_begun defined = record {
      begun = λ levels read out captures references f.
          let steps = opened_steps opened out diagnostics locals captures references f in
          then_walks steps (λ L st. run_define_params s L levels n (at + 10) depth st) st₁ e refl (defined.defined levels read out captures references (took_fit steps st₁ e));
    }

-- `OB`

pub entered_another : (st : AnalysisStack) (here : Place) {dollar : Bool} → here.in_object ≡ true → dollar ≡ st.dollar_used → ObjectEntered (marks_to false false dollar st) st here
unfolding stack walk.entered_use rules.with_object_use choose
entered_another st here e d = record {
  same = λ b. rw (outermost_so here, e, d);
  fit = λ l b f. fit_values f;
}

pub entered_first : (st : AnalysisStack) (here : Place) {dollar : Bool} → here.in_object ≡ false → dollar ≡ here.in_object → ObjectEntered (marks_to false false dollar st) st here
unfolding stack walk.entered_use rules.with_object_use choose
entered_first st here e d = record {
  same = λ b. rw (outermost_so here, d, e);
  fit = λ l b f. fit_values f;
}

module _ {st entered : AnalysisStack} {here : Place} (enters : ObjectEntered entered st here)
    {r₁ : Step} {locals frames frames₁ : List ℕ} {l : Limits} {at : ℕ} (opened : FrameOpened r₁ frames frames₁ l entered at true) where
  -- the frame with the object's marks
  object_frame : (out diagnostics captures references : List ℕ) → Fit l (buffers out diagnostics locals frames captures references) st
      → Steps r₁ l (buffers out diagnostics locals frames captures references) (buffers out diagnostics locals frames₁ captures references) st
      (λ L st. rules_writing.open_frame L at true (rules.with_object_use (walk.entered_use (walk.is_outermost (place_of here)) st.object_use) st))
  object_frame out diagnostics captures references f =
      let b = buffers out diagnostics locals frames captures references in
      let steps = opened_steps opened out diagnostics locals captures references (enters.fit l b f) in
      record {
        same = λ L is. steps.same L is ∙ ap (λ (x : rules.AnalysisStack). rules_writing.open_frame L at true x) (enters.same b);
        fit = steps.fit;
      }

  pub object_refused : {why : Refusal} → r₁ ≡ Err why → ObjectOpened (Err why) locals locals frames frames₁ l st at here
  unfolding opened_object ◌>>=◌
  object_refused {why} e = record {
    opened = λ out diagnostics captures references f. record {
      same = λ L is. sym (ap (λ (x : Outcome rules.AnalysisStack). x >>= λ st. scoping.define_this L at (place_of here).depth st)
          (took_refused (object_frame out diagnostics captures references f) why e L is));
      fit = tt;
    };
  }

  module _ {inside : AnalysisStack} (e : r₁ ≡ Ok inside) where
    -- what `this` asks for
    pub this_asks : at < 4294967296 → Opening l locals frames st
        → (16 * l.max_locals ≤ length locals) × (16 * inside.frames ≤ length frames₁) × (0 < inside.frames) × (number frames₁ (inside.frames - 1) 2 < 65535) × (at < 4294967296)
    this_asks fits o =
        let b = buffers o.out o.diagnostics locals frames o.captures o.references in
        let b₁ = buffers o.out o.diagnostics locals frames₁ o.captures o.references in
        let f = took_fit (object_frame o.out o.diagnostics o.captures o.references o.fit) inside e in
        let t = on_top opened e o.out o.diagnostics locals o.captures o.references (enters.fit l b o.fit) in
        let z : number frames₁ (inside.frames - 1) 2 ≡ 0 = no_locals b₁ inside t in
        let long : 16 * l.max_frames ≤ length frames₁ = f.frames_long in
        let few = f.few_frames in
        (f.locals_long, omega (arith, long, few), framed b₁ inside t.some, omega (arith, z), fits)

    pub object_opened : {r : Step} {locals' frames' : List ℕ} → DefinedThis r locals locals' frames₁ frames' l inside at here.depth → ObjectOpened r locals locals' frames frames' l st at here
    unfolding opened_object ◌>>=◌ place_of
    object_opened {r} {locals'} {frames'} this = record {
      opened = λ out diagnostics captures references f.
          let steps = object_frame out diagnostics captures references f in
          record {
            same = λ L is.
                this.same out diagnostics captures references
                ∙ ap (λ (L : rules.Limits). scoping.define_this L at here.depth (stack (buffers out diagnostics locals frames₁ captures references) inside)) (sym is)
                ∙ sym (ap (λ (x : Outcome rules.AnalysisStack). x >>= λ st. scoping.define_this L at here.depth st) (took_ok steps inside e L is));
            fit = this.fit out diagnostics captures references (took_fit steps inside e);
          };
    }

this_open : (L : rules.Limits) (place : ℕ) (h : walk.Place) (st : rules.AnalysisStack) → After (λ st'. 0 < length st'.frames) (opened_object L place h st)
unfolding opened_object scoping.define_this
this_open L place h st = after_bind _ (opened_on_top L place true _) (λ st _. pushed_open L place _ st)

-- the frame, `this`, and then the names
begun_as : (L : rules.Limits) (s : List ℕ) (levels n p binds : ℕ) (h : walk.Place) (st : rules.AnalysisStack)
    → (opened_object L p h st >>= λ st. run_define_binds s L levels n binds h.depth st) ≡ begun_object L s levels n p binds h st
unfolding opened_object begun_object
begun_as L s levels n p binds h st = bind_assoc (rules_writing.open_frame L p true (rules.with_object_use (walk.entered_use (walk.is_outermost h) st.object_use) st)) _ _

module _ {r₁ : Step} {locals locals₁ frames frames₁ : List ℕ} {l : Limits} {st : AnalysisStack} {at : ℕ} {here : Place} (opened : ObjectOpened r₁ locals locals₁ frames frames₁ l st at here) where
  pub begun_refused : {s diagnostics : List ℕ} {binds n : ℕ} {why : Refusal} → r₁ ≡ Err why
      → ObjectBegun (Err why) s diagnostics diagnostics locals locals₁ frames frames₁ l st at binds n here
  begun_refused {s} {diagnostics} {binds} {n} {why} e = record {
    begun = λ levels read out captures references f.
        let walks = stops_walks (opened.opened out diagnostics captures references f) (λ L st. run_define_binds s L levels n binds (place_of here).depth st) why e in
        record { same = λ L is. walks.same L is ∙ begun_as L s levels n at binds (place_of here) _; fit = walks.fit };
  }

  module _ {inside : AnalysisStack} (e : r₁ ≡ Ok inside) where
    pub object_fitting : {diagnostics : List ℕ} → Fitting l diagnostics locals frames st → Fitting l diagnostics locals₁ frames₁ inside
    object_fitting {diagnostics} f = record {
      out = f.out;
      captures = f.captures;
      references = f.references;
      fit = took_fit (opened.opened f.out diagnostics f.captures f.references f.fit) inside e;
    }

    pub object_framed : {diagnostics : List ℕ} → Fitting l diagnostics locals frames st → 0 < inside.frames
    object_framed {diagnostics} f =
        framed (buffers f.out diagnostics locals₁ frames₁ f.captures f.references) inside
        (after_ok (this_open (limits_of l f.out diagnostics) at (place_of here) (stack (buffers f.out diagnostics locals frames f.captures f.references) st))
        (took_ok (opened.opened f.out diagnostics f.captures f.references f.fit) inside e (limits_of l f.out diagnostics) refl))

    pub object_begun : {s diagnostics diagnostics' locals' frames' : List ℕ} {binds n : ℕ} {r : Walked}
        → BindsDefined r s diagnostics diagnostics' locals₁ locals' frames₁ frames' l inside binds n here.depth
        → ObjectBegun r s diagnostics diagnostics' locals locals' frames frames' l st at binds n here
    unfolding place_of
    object_begun {s} {diagnostics} {binds = binds} {n = n} defined = record {
      begun = λ levels read out captures references f.
          let steps = opened.opened out diagnostics captures references f in
          let walks = then_walks steps (λ L st. run_define_binds s L levels n binds here.depth st) inside e refl (defined.defined levels read out captures references (took_fit steps inside e)) in
          record { same = λ L is. walks.same L is ∙ begun_as L s levels n at binds (place_of here) _; fit = walks.fit };
    }
