-- The externals one after another, then the root's frame: the state in which the root's walk begins. Assumes nothing.
use Prim.Native.Nat.{ℕ, suc, ◌+◌, ◌*◌, ◌-◌, ◌≤◌, ◌<◌}
use mathlib.Core.Bool.{Bool, true, false}
use mathlib.Core.List.{List, [], ◌∷◌, ◌++◌}
use mathlib.Core.Option.{none, some}
use mathlib.Core.Path.{◌≡◌, refl, sym, ap, ap₂, subst, ◌∙◌}
use native.Mathlib.Numerals.{add-one}
use native.Mathlib.Omega.{arith}
use borrow.Author.Tests.{lt-ltb, le-ltb}
use lib.ListN.{length, length-append}
use lib.Dec.{ltb}
use Rattle.rules.specs.Outcome.{Outcome, ok, ◌>>=◌, need}
use Rattle.rules.specs.Numbers.{Name, number_at, numbers_at}
use Rattle.rules.specs.Records.{no_span}
use Rattle.rules.specs.Tree.{external}
use Rattle.rules.specs.Locals as rules_locals
use Rattle.rules.specs.Frames.{new_frame, top}
use Rattle.rules.specs.State as rules
use Rattle.rules.specs.Settling.{Reference}
use Rattle.rules.specs.Scoping.{push_local}
use Rattle.rules.specs.Walk as walk
use Rattle.rules.specs.Writing.{open_frame}
use Rattle.rules.specs.Call.{define_externals, open_root}
use Rattle.rules.proofs.After.{After, fine, after_ok, after_bind, after_need, after_weaken}
use Rattle.rules.proofs.Outcomes.{bind_fine, bind_ext, bind_refused}
use Rattle.value_local.specs.Meaning.{local, binding_of, name_of}
use Rattle.value_local.specs.declared.Binding.TheVariants.{External}
use Rattle.value_local.specs.declared.LocalDefinition.{LocalDefinition}
use Rattle.table_rows.specs.Entries.{number}
use Rattle.resolver.specs.Meaning.{frame_of, frames_of}
use Rattle.resolver.specs.Kept.{Kept, Owned}
use Rattle.resolver.specs.Answers.{Opened}
use Rattle.state.specs.Seen.{Buffers, buffers, stack, seen, limits_of, Fit, Fits}
use Rattle.state.specs.Walks.{id_if, place_of}
use Rattle.state.specs.declared.Place.{Place}
use Rattle.settling.specs.Meaning.{Below}
use Rattle.law_steady.specs.Steady.{Sound}
use Rattle.law_joins.specs.Ready.{Sturdy, Ready}
use Rattle.state.specs.declared.AnalysisStack.{AnalysisStack}
use Rattle.state.specs.declared.Limits.{Limits}
use Rattle.state.proofs.Changing.{frames_to}
use Rattle.state.proofs.Fitting.{fit_frames}
use Rattle.step_locals.specs.Answers.{PushedLocal}
use Rattle.resolver.proofs.Laws.{length_frames}
use Rattle.call_root.specs.Answers.{LongTables, EmptyStack, DefinedExternals, OpenedRoot, BegunRoot}
use Rattle.step_write.proofs.Laws.{passes, fails}
use Rattle.std.specs.Prelude.{Ok, Err, Some}
use Rattle.refusal.specs.declared.Refusal.{Refusal}
use Rattle.refusal.specs.Meaning.{refuses}
use Rattle.refusal.specs.declared.Reason.TheVariants as reason
use Rattle.state.specs.Seen.{Step}

-- Steps one after another

-- The externals by the rules

abbrev external_local : (k : ℕ) → Name → rules_locals.LocalDefinition
external_local k name = rules_locals.new_local (external k) (some name) no_span 0 true

module _ (L : rules.Limits) (s : List ℕ) where
  -- those from the position i on
  abbrev rest_from : (n i : ℕ) → rules.AnalysisStack → Outcome rules.AnalysisStack
  rest_from n i σ = define_externals L i (numbers_at s (n - i) (6 + 4 * i)) σ

  first_external : (n i : ℕ) (σ : rules.AnalysisStack) → i < n
      → rest_from n i σ ≡ (push_local L 0 (external_local i (number_at s (6 + 4 * i))) σ >>= λ σ. rest_from n (i + 1) σ)
  unfolding define_externals numbers_at
  first_external n i σ lt =
      let e : n - i ≡ suc (n - (i + 1)) = omega arith in
      let p : 6 + 4 * i + 4 ≡ 6 + 4 * (i + 1) = omega arith in
      ap (λ (k : ℕ). define_externals L i (numbers_at s k (6 + 4 * i)) σ) e
      ∙ bind_ext (push_local L 0 (external_local i (number_at s (6 + 4 * i))) σ) _ _ (λ σ'. ap₂ (λ (k q : ℕ). define_externals L k (numbers_at s (n - (i + 1)) q) σ') (sym (add-one i)) p)

  no_external : (n i : ℕ) (σ : rules.AnalysisStack) → n ≤ i → rest_from n i σ ≡ ok σ
  unfolding define_externals numbers_at
  no_external n i σ le = let e : n - i ≡ 0 = omega arith in ap (λ (k : ℕ). define_externals L i (numbers_at s k (6 + 4 * i)) σ) e

-- Turns of the loop: what is left of the work, from here, gives what the whole gives

pub record Externals (s : List ℕ) (limits : Limits) (locals₀ : List ℕ) (st₀ : AnalysisStack) (n i : ℕ) (locals : List ℕ) (st : AnalysisStack) : Type 0 where
  pub within : i ≤ n
  pub long : length locals ≡ length locals₀
  pub same : (out diagnostics frames captures references : List ℕ)
      → define_externals (limits_of limits out diagnostics) i (numbers_at s (n - i) (6 + 4 * i)) (stack (buffers out diagnostics locals frames captures references) st)
      ≡ define_externals (limits_of limits out diagnostics) 0 (numbers_at s n 6) (stack (buffers out diagnostics locals₀ frames captures references) st₀)
  pub fit : (out diagnostics frames captures references : List ℕ)
      → Fit limits (buffers out diagnostics locals₀ frames captures references) st₀ → Fit limits (buffers out diagnostics locals frames captures references) st

module _ {s : List ℕ} {limits : Limits} {locals₀ : List ℕ} {st₀ : AnalysisStack} {n : ℕ} where
  pub externals_begin : Externals s limits locals₀ st₀ n 0 locals₀ st₀
  externals_begin = record {
    within = omega arith;
    long = refl;
    same = λ out d fs cs rs. let e : n - 0 ≡ n = omega arith in ap (λ (k : ℕ). define_externals (limits_of limits out d) 0 (numbers_at s k 6) (stack (buffers out d locals₀ fs cs rs) st₀)) e;
    fit = λ out d fs cs rs f. f;
  }

  module _ {i : ℕ} {locals : List ℕ} {st : AnalysisStack} (inv : Externals s limits locals₀ st₀ n i locals st) where
    module _ (lt : i < n) {l : LocalDefinition} {name : ℕ} (en : name ≡ number_at s (6 + 4 * i))
        (is : local l ≡ rules_locals.new_local (binding_of (External i)) (name_of (Some name)) (record { number = 0 }) 0 true)
        {r : Step} {locals' : List ℕ} (pushed : PushedLocal r locals locals' limits st 0 l) where
      module _ (out d fs cs rs : List ℕ) where
        went : push_local (limits_of limits out d) 0 (external_local i (number_at s (6 + 4 * i))) (stack (buffers out d locals fs cs rs) st) ≡ seen r (buffers out d locals' fs cs rs)
        unfolding binding_of name_of no_span
        went =
            let e : local l ≡ external_local i (number_at s (6 + 4 * i)) = is ∙ ap (λ (x : Name). external_local i x) en in
            sym (pushed.same out d fs cs rs ∙ ap (λ (x : rules_locals.LocalDefinition). push_local (limits_of limits out d) 0 x (stack (buffers out d locals fs cs rs) st)) e)

      pub externals_next : {st' : AnalysisStack} → r ≡ Ok st' → length locals' ≡ length locals → Externals s limits locals₀ st₀ n (i + 1) locals' st'
      externals_next {st'} e long = record {
        within = omega arith;
        long = long ∙ inv.long;
        same = λ out d fs cs rs.
            sym (bind_fine (λ σ. rest_from (limits_of limits out d) s n (i + 1) σ) (went out d fs cs rs ∙ ap (λ (x : Step). seen x (buffers out d locals' fs cs rs)) e))
            ∙ sym (first_external (limits_of limits out d) s n i (stack (buffers out d locals fs cs rs) st) lt)
            ∙ inv.same out d fs cs rs;
        fit = λ out d fs cs rs f. subst (λ (x : Step). Fits limits x (buffers out d locals' fs cs rs)) e (pushed.fit out d fs cs rs (inv.fit out d fs cs rs f));
      }

      pub externals_stop : {why : Refusal} → r ≡ Err why → DefinedExternals (Err why) s locals₀ locals' limits st₀ n
      externals_stop e = record {
        same = λ out d fs cs rs.
            sym (bind_refused (λ σ. rest_from (limits_of limits out d) s n (i + 1) σ) (went out d fs cs rs ∙ ap (λ (x : Step). seen x (buffers out d locals' fs cs rs)) e))
            ∙ sym (first_external (limits_of limits out d) s n i (stack (buffers out d locals fs cs rs) st) lt)
            ∙ inv.same out d fs cs rs;
        fit = λ out d fs cs rs f. tt;
      }

    pub externals_end : n ≤ i → DefinedExternals (Ok st) s locals₀ locals limits st₀ n
    externals_end le = record {
      same = λ out d fs cs rs. sym (no_external (limits_of limits out d) s n i (stack (buffers out d locals fs cs rs) st) le) ∙ inv.same out d fs cs rs;
      fit = inv.fit;
    }

-- The root's frame

-- the frames that there are before it don't matter
two_needs : (test : Bool) (σ σ' : rules.AnalysisStack) (k : rules.AnalysisStack → rules.AnalysisStack) → k σ ≡ σ' → ((need test 7 0 >>= λ _. ok σ) >>= λ σ. ok (k σ)) ≡ (need test 7 0 >>= λ _. ok σ')
unfolding need ◌>>=◌
two_needs true σ σ' k e = ap ok e
two_needs false σ σ' k e = refl

module _ (limits : Limits) (st : AnalysisStack) (n : ℕ) (before : List ℕ) (bare : st.frames ≡ 0) where
  module _ (out d ls cs rs : List ℕ) where
    abbrev S : rules.AnalysisStack
    S = stack (buffers out d ls before cs rs) st

    none_there : length S.frames ≡ 0
    unfolding stack
    none_there = length_frames st.frames before st.captures cs ∙ bare

    opens : open_root (limits_of limits out d) n S ≡ (need (ltb 0 limits.max_frames) 7 0 >>= λ _. ok (rules.with_frames (new_frame true 0 n ∷ []) S))
    unfolding open_root open_frame limits_of rules.with_frames
    opens = rw none_there (two_needs (ltb 0 limits.max_frames) _ _ (λ σ. rules.with_frames (new_frame true 0 n ∷ []) σ) refl)

  pub root_refused : limits.max_frames ≡ 0 → OpenedRoot (Err (refuses reason.FrameLimit 0)) before before limits st n
  root_refused full = record {
    same = λ out d ls cs rs fit. let le : limits.max_frames ≤ 0 = omega arith in sym (opens out d ls cs rs ∙ fails (ltb 0 limits.max_frames) 7 0 _ (le-ltb 0 limits.max_frames le));
    fit = λ out d ls cs rs fit. tt;
  }

  module _ (after : List ℕ) (room : limits.max_frames ≡ 0 → ⊥) (long : length after ≡ length before) (opened : Opened before after 0 true 0 n st.captures) where
    lt : 0 < limits.max_frames
    lt = omega (arith, room)

    module _ (out d ls cs rs : List ℕ) (fit : Fit limits (buffers out d ls before cs rs) st) where
      frames_are : frames_of 1 after st.captures cs ≡ new_frame true 0 n ∷ []
      unfolding frames_of
      frames_are = opened.same cs (subst (λ (k : ℕ). Owned k st.captures cs) bare fit.frames_kept.owned)

      first_new : number after 0 1 ≡ 0
      unfolding top frames_of frame_of new_frame
      first_new = ap (λ fs. (top fs).first_local) frames_are

      opened_same : ok (stack (buffers out d ls after cs rs) (frames_to 1 st)) ≡ open_root (limits_of limits out d) n (S out d ls cs rs)
      unfolding stack rules.with_frames
      opened_same = rw frames_are (sym (opens out d ls cs rs ∙ passes (ltb 0 limits.max_frames) 7 0 _ (lt-ltb 0 limits.max_frames lt)))

      opened_fit : Fit limits (buffers out d ls after cs rs) (frames_to 1 st)
      opened_fit = fit_frames fit long refl (omega (arith, lt)) fit.few_captures (opened.kept cs (subst (λ (k : ℕ). Kept k before st.captures cs) bare fit.frames_kept))
          (λ f lt. let z : f ≡ 0 = omega arith in rw z (omega (arith, first_new))) (λ f g fg lt. absurd (omega arith))

    pub root_opened : OpenedRoot (Ok (frames_to 1 st)) before after limits st n
    root_opened = record { same = opened_same; fit = opened_fit }

-- What the rules' steps before the walk leave as it was

-- there are n locals more, and nothing else is changed
pub record Named (n : ℕ) (σ σ' : rules.AnalysisStack) : Type 0 where
  pub more_locals : length σ'.locals ≡ length σ.locals + n
  pub same_frames : σ'.frames ≡ σ.frames
  pub same_references : σ'.references ≡ σ.references
  pub same_sink : σ'.sink ≡ σ.sink

push_told : (L : rules.Limits) (p : ℕ) (l : rules_locals.LocalDefinition) (σ : rules.AnalysisStack) → After (Named 1 σ) (push_local L p l σ)
unfolding push_local rules.with_locals
push_told L p l σ = after_need _ _ _ _ λ _.
    fine {a = rules.with_locals (σ.locals ++ (l ∷ [])) σ} (record { more_locals = length-append σ.locals (l ∷ []); same_frames = refl; same_references = refl; same_sink = refl })

pub define_told : (L : rules.Limits) (k : ℕ) (names : List Name) (σ : rules.AnalysisStack) → After (Named (length names) σ) (define_externals L k names σ)
unfolding define_externals
define_told L k [] σ = fine {a = σ} (record { more_locals = omega arith; same_frames = refl; same_references = refl; same_sink = refl })
define_told L k (name ∷ names) σ = after_bind _ (push_told L 0 (external_local k name) σ) λ σ₁ a. after_weaken (define_told L (suc k) names σ₁) λ σ₂ b. record {
  more_locals = omega (arith, a.more_locals, b.more_locals);
  same_frames = b.same_frames ∙ a.same_frames;
  same_references = b.same_references ∙ a.same_references;
  same_sink = b.same_sink ∙ a.same_sink;
}

-- the state in which the root's walk begins
pub record Begun (externals n : ℕ) (σ : rules.AnalysisStack) : Type 0 where
  pub locals_are : length σ.locals ≡ externals
  pub frames_are : σ.frames ≡ new_frame true 0 n ∷ []
  pub no_references : σ.references ≡ []
  pub no_sink : σ.sink ≡ (rules.empty_stack).sink

-- whatever the frames were
record Alike (externals : ℕ) (σ : rules.AnalysisStack) : Type 0 where
  count : length σ.locals ≡ externals
  references : σ.references ≡ []
  sink : σ.sink ≡ (rules.empty_stack).sink

alike : {externals : ℕ} {σ : rules.AnalysisStack} → Named externals rules.empty_stack σ → Alike externals σ
unfolding rules.empty_stack
alike a = record { count = omega (arith, a.more_locals); references = a.same_references; sink = a.same_sink }

opened_told : (L : rules.Limits) (externals n : ℕ) (σ : rules.AnalysisStack) → Alike externals σ → After (Begun externals n) (open_root L n σ)
unfolding open_root open_frame rules.with_frames
opened_told L externals n σ a = after_bind {P = Alike externals} _
    (after_need _ _ _ _ λ _. fine (record { count = a.count; references = a.references; sink = a.sink }))
    λ σ₁ b. fine (record { locals_are = b.count; frames_are = refl; no_references = b.references; no_sink = b.sink })

pub begun_told : (L : rules.Limits) (names : List Name) (n : ℕ) → After (Begun (length names) n) (define_externals L 0 names rules.empty_stack >>= λ σ. open_root L n σ)
begun_told L names n = after_bind _ (define_told L 0 names rules.empty_stack) λ σ a. opened_told L (length names) n σ (alike a)

-- Both steps of the code

module _ {st₀ : AnalysisStack} (empty : EmptyStack st₀) {s ls ls' : List ℕ} {limits : Limits} {n : ℕ} {r₁ : Step} (defined : DefinedExternals r₁ s ls ls' limits st₀ n) where
  defined_from_empty : (out d fs cs rs : List ℕ) → define_externals (limits_of limits out d) 0 (numbers_at s n 6) rules.empty_stack ≡ seen r₁ (buffers out d ls' fs cs rs)
  defined_from_empty out d fs cs rs = sym (defined.same out d fs cs rs ∙ ap (λ (σ : rules.AnalysisStack). define_externals (limits_of limits out d) 0 (numbers_at s n 6) σ) (empty.same (buffers out d ls fs cs rs)))

  pub begin_stopped : {fs : List ℕ} {why : Refusal} → r₁ ≡ Err why → BegunRoot (Err why) s ls ls' fs fs limits n
  begin_stopped {fs = fs} e = record {
    same = λ out d cs rs long. sym (bind_refused (λ σ. open_root (limits_of limits out d) n σ) (defined_from_empty out d fs cs rs ∙ ap (λ (x : Step). seen x (buffers out d ls' fs cs rs)) e));
    fit = λ out d cs rs long. tt;
  }

  module _ {st₁ : AnalysisStack} (e : r₁ ≡ Ok st₁) where
    pub no_frames : st₁.frames ≡ 0
    unfolding stack rules.empty_stack
    no_frames =
        let a = after_ok (define_told (limits_of limits [] []) 0 (numbers_at s n 6) rules.empty_stack) (defined_from_empty [] [] [] [] [] ∙ ap (λ (x : Step). seen x (buffers [] [] ls' [] [] [])) e) in
        sym (length_frames st₁.frames [] st₁.captures []) ∙ ap length a.same_frames

    pub begin_opened : {r : Step} {fs fs' : List ℕ} → OpenedRoot r fs fs' limits st₁ n → BegunRoot r s ls ls' fs fs' limits n
    begin_opened {fs = fs} opened = record {
      same = λ out d cs rs long.
          opened.same out d ls' cs rs (fit₁ out d cs rs long)
          ∙ sym (bind_fine (λ σ. open_root (limits_of limits out d) n σ) (defined_from_empty out d fs cs rs ∙ ap (λ (x : Step). seen x (buffers out d ls' fs cs rs)) e));
      fit = λ out d cs rs long. opened.fit out d ls' cs rs (fit₁ out d cs rs long);
    }
      where
        fit₁ : (out d cs rs : List ℕ) → LongTables limits (buffers out d ls fs cs rs) → Fit limits (buffers out d ls' fs cs rs) st₁
        fit₁ out d cs rs long = subst (λ (x : Step). Fits limits x (buffers out d ls' fs cs rs)) e (defined.fit out d fs cs rs (empty.fit limits (buffers out d ls fs cs rs) long))

-- The walk may begin

none_below : (n : ℕ) {refs : List Reference} → refs ≡ [] → Below n refs
unfolding Below
none_below n e = rw e tt

nowhere : {id : ℕ} → none ≡ some id → ⊥
nowhere e = let z : ◌≡◌ {A = ℕ} 0 1 = cc in omega arith

sturdy_root : {m n : ℕ} (at : ℕ) (σ : rules.AnalysisStack) → Begun m n σ → Sturdy at walk.at_root σ
unfolding Sound walk.at_root rules.empty_stack
sturdy_root at σ a = record {
  sound = none_below (length σ.locals) a.no_references;
  within = record { this_there = λ id e. absurd (nowhere e); dollar_there = λ id e. absurd (nowhere e) };
  few_rounds = omega (arith, ap (λ (x : rules.Sink). x.rounds) a.no_sink);
}

-- the place of the root
pub root_place : (h : Place) → h.depth ≡ 0 → h.in_object ≡ false → place_of h ≡ walk.at_root
unfolding place_of id_if walk.at_root
root_place h d o = rw (d, o) refl

module _ {r : Step} {s ls ls' fs fs' : List ℕ} {limits : Limits} {n : ℕ} (begun : BegunRoot r s ls ls' fs fs' limits n) {st : AnalysisStack} (e : r ≡ Ok st)
    (out d cs rs : List ℕ) (long : LongTables limits (buffers out d ls fs cs rs)) where
  abbrev B : Buffers
  B = buffers out d ls' fs' cs rs

  pub root_begun : (define_externals (limits_of limits out d) 0 (numbers_at s n 6) rules.empty_stack >>= λ σ. open_root (limits_of limits out d) n σ) ≡ ok (stack B st)
  root_begun = sym (begun.same out d cs rs long) ∙ ap (λ (x : Step). seen x B) e

  pub root_fit : Fit limits B st
  root_fit = subst (λ (x : Step). Fits limits x B) e (begun.fit out d cs rs long)

  pub root_is : Begun (length (numbers_at s n 6)) n (stack B st)
  root_is = after_ok (begun_told (limits_of limits out d) (numbers_at s n 6) n) root_begun

  pub root_ready : (at : ℕ) (h : Place) → h.depth ≡ 0 → h.in_object ≡ false → length s ≤ 16777216 → Ready limits B st s at 200 h
  root_ready at h depth outside short = record {
    fit = root_fit;
    sturdy = subst (λ (p : walk.Place). Sturdy at p (stack B st)) (sym (root_place h depth outside)) (sturdy_root at (stack B st) root_is);
    shallow = omega (arith, depth);
    short = short;
  }
