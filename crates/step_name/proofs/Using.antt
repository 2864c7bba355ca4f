-- Uses of an object's `this` and of a local: the state that they leave, and the slot that is written then. Assumes nothing.
use Prim.Native.Nat.{ℕ, zero, suc, ◌+◌, ◌≤◌, ◌<◌}
use mathlib.Core.Bool.{Bool, true, false}
use mathlib.Core.List.{List, [], ◌∷◌}
use mathlib.Core.Option.{Option, none, some}
use Rattle.std.specs.Prelude.{Ok, Err, Some, None}
use Rattle.std.specs.Prelude as std
use Rattle.refusal.specs.declared.Refusal.{Refusal}
use mathlib.Core.Path.{◌≡◌, refl, sym, ap, ap₂, subst, ◌∙◌}
use native.Mathlib.Omega.{arith}
use lib.ListN.{length, length-set}
use lib.Dec.{eqb}
use borrow.Author.Tests.{eq-eqb, ne_eqb}
use Rattle.rules.specs.Outcome.{Outcome, choose, given}
use Rattle.rules.specs.Numbers.{Name, ID, SU, code, mark_bytes, number_at}
use Rattle.rules.specs.Depths as depths
use Rattle.rules.specs.Locals as locals_rules
use Rattle.rules.specs.State as rules
use Rattle.rules.specs.Writing as writing
use Rattle.rules.specs.Scoping as scoping
use Rattle.rules.specs.Walk as walk
use Rattle.value_depths.specs.declared.AnalysisResult.{AnalysisResult}
use Rattle.table_locals.specs.Meaning.{locals_of}
use Rattle.find_name.specs.Answers.{found}
use Rattle.value_local.specs.declared.LocalId.{LocalId}
use Rattle.table_locals.proofs.Laws.{length_locals}
use Rattle.resolver.specs.Kept.{Kept}
use Rattle.law_runs.specs.Steps.{and_place}
use Rattle.state.specs.Seen.{Buffers, buffers, stack, Fit}
use Rattle.state.specs.Walks.{id_if, place_of, Stands, Steps}
use Rattle.state.specs.declared.AnalysisStack.{AnalysisStack}
use Rattle.state.specs.declared.Limits.{Limits}
use Rattle.state.specs.declared.Place.{Place}
use Rattle.state.proofs.Changing.{marks_to, taint_to}
use Rattle.state.proofs.Fitting.{fit_values, fit_entries}
use Rattle.step_touch.specs.Answers.{TouchedLocal, TouchedObject}
use Rattle.step_name.specs.Slots.{SlotEmitted}
use Rattle.step_write.specs.Answers.{Emitted, BadPlace}
use Rattle.step_write.proofs.Emitting.{emitted_steps}
use Rattle.step_name.specs.Answers.{kind_of, identity_id, object_used, identity_step, variable_step, name_step, UsedObject, UsedLocal, SlotLeft, StepMade, Left, Used, Uses, NameAnalyzed}
use Rattle.step_emit.proofs.Laws.{bad_steps, Placed, placed, refused, walks_behind}
use Rattle.step_name.specs.declared.Identity.{Identity}
use Rattle.step_name.specs.declared.Identity.TheVariants.{This, Super, Dollar}
use Rattle.state.specs.Seen.{Step, Walked}

-- The state with another dependence and other marks of the present object

abbrev pub used_as : (self super dollar : Bool) → AnalysisResult → AnalysisStack → AnalysisStack
used_as self super dollar taint st = taint_to taint (marks_to self super dollar st)

-- An object's `this`

abbrev use_of : (self super dollar : Bool) → rules.ObjectUse
use_of self super dollar = record { self_used = self; super_used = super; dollar_used = dollar }

module _ {touched : AnalysisStack} {locals : List ℕ} {st : AnalysisStack} {id : ℕ} (t : TouchedObject touched locals st id) where
  marked : (self super dollar : Bool) (which : ℕ) → use_of self super dollar ≡ walk.mark_used which (use_of st.self_used st.super_used st.dollar_used)
      → UsedObject (used_as self super dollar touched.taint st) locals st which id
  unfolding stack object_used scoping.touch_object rules.with_taint rules.with_object_use
  marked self super dollar which is = record {
    same = λ out ds fs cs rs.
        let S = stack (buffers out ds locals fs cs rs) st in
        ap₂ (λ (u : rules.ObjectUse) (a : depths.AnalysisResult). rules.with_taint a (rules.with_object_use u S)) is
        (ap (λ (s : rules.AnalysisStack). s.taint) (t.same out ds fs cs rs));
    fit = λ l out ds fs cs rs fit. fit_values fit;
    as_many_frames = refl;
    as_many_captures = refl;
  }

  pub used_as_self : {which : Identity} → which ≡ This → UsedObject (used_as true st.super_used st.dollar_used touched.taint st) locals st (kind_of which) id
  unfolding walk.mark_used
  used_as_self {which} e = marked true st.super_used st.dollar_used (kind_of which) (rw e refl)

  pub used_as_super : {which : Identity} → which ≡ Super → UsedObject (used_as st.self_used true st.dollar_used touched.taint st) locals st (kind_of which) id
  unfolding walk.mark_used
  used_as_super {which} e = marked st.self_used true st.dollar_used (kind_of which) (rw e refl)

  pub used_as_dollar : {which : Identity} → which ≡ Dollar → UsedObject (used_as st.self_used st.super_used true touched.taint st) locals st (kind_of which) id
  unfolding walk.mark_used
  used_as_dollar {which} e = marked st.self_used st.super_used true (kind_of which) (rw e refl)

-- A local

module _ {touched : AnalysisStack} {locals locals' : List ℕ} {st : AnalysisStack} {depth id : ℕ} (t : TouchedLocal touched locals locals' st depth id) where
  -- there are as many locals
  locals_set : (out ds fs cs rs : List ℕ)
      → locals_of st.locals locals' ≡ (scoping.touch_local depth id (stack (buffers out ds locals fs cs rs) st)).locals
  unfolding stack scoping.touch_local rules.with_taint rules.with_locals
  locals_set out ds fs cs rs =
      let whole = ap (λ (s : rules.AnalysisStack). s.locals) (t.same out ds fs cs rs) in
      let set_many : length (scoping.touch_local depth id (stack (buffers out ds locals fs cs rs) st)).locals ≡ st.locals = simp length-set (length_locals st.locals locals) in
      let many : touched.locals ≡ st.locals = sym (length_locals touched.locals locals') ∙ ap length whole ∙ set_many in
      ap (λ (n : ℕ). locals_of n locals') (sym many) ∙ whole

  pub local_used : length locals' ≡ length locals
      → UsedLocal (taint_to touched.taint st) locals locals' st depth id
  unfolding stack scoping.touch_local rules.with_taint rules.with_locals
  local_used long = record {
    same = λ out ds fs cs rs.
        let S = stack (buffers out ds locals fs cs rs) st in
        ap₂ (λ (ls : List locals_rules.LocalDefinition) (a : depths.AnalysisResult). rules.with_taint a (rules.with_locals ls S)) (locals_set out ds fs cs rs)
        (ap (λ (s : rules.AnalysisStack). s.taint) (t.same out ds fs cs rs));
    fit = λ l out ds fs cs rs fit. fit_values (fit_entries fit long);
    as_many_frames = refl;
    as_many_captures = refl;
  }

-- A step that is made, with no slot left to write

-- a step's answer, with no slot left, or its refusal
abbrev pub Ends : Used → Step → Type 0
Ends (Ok (after, Some id)) r = ⊥
Ends (Ok (after, None)) r = r ≡ Ok after
Ends (Err why) r = r ≡ Err why

step_done : {made : Used} {r : Step} {out out' diagnostics diagnostics' locals locals' : List ℕ} {st : AnalysisStack} {at : ℕ} {step : rules.Limits → rules.AnalysisStack → Outcome rules.AnalysisStack}
    → Ends made r → StepMade r out out' diagnostics diagnostics' locals locals' st step → Uses made out out' diagnostics diagnostics' locals locals' st at step
unfolding Left
step_done {made = Ok (after, Some id)} e done = absurd e
step_done {made = Ok (after, None)} e done = record { left = rw e at done }
step_done {made = Err why} e done = record { left = rw e at done }

-- Which local that is

-- only super is written as 1
pub is_one : {which : Identity} → which ≡ Super → kind_of which ≡ 1
is_one e = ap kind_of e

pub not_one : (which : Identity) → (which ≡ Super → ⊥) → kind_of which ≡ 1 → ⊥
not_one This other e = omega arith
not_one Super other e = other refl
not_one Dollar other e = omega arith

-- it is there inside an object
pub identity_there : (which : ℕ) (here : Place) (st : AnalysisStack) (id : ℕ) → id ≡ identity_id which here → here.in_object ≡ true → Stands here st → id < st.locals
unfolding identity_id
identity_there zero here st id e inside stands = omega (arith, e, stands.this_there inside)
identity_there (suc zero) here st id e inside stands = omega (arith, e, stands.this_there inside)
identity_there (suc (suc n)) here st id e inside stands = omega (arith, e, stands.dollar_there inside)

inside_is : (which : ℕ) (here : Place) → here.in_object ≡ true → walk.identity_local which (place_of here) ≡ some (identity_id which here)
unfolding identity_id walk.identity_local place_of id_if
inside_is zero here inside = rw inside refl
inside_is (suc zero) here inside = rw inside refl
inside_is (suc (suc n)) here inside = rw inside refl

outside_is : (which : ℕ) (here : Place) → here.in_object ≡ false → walk.identity_local which (place_of here) ≡ none
unfolding walk.identity_local place_of id_if
outside_is zero here outside = rw outside refl
outside_is (suc zero) here outside = rw outside refl
outside_is (suc (suc n)) here outside = rw outside refl

module _ (tree : List ℕ) (here : Place) {out diagnostics locals : List ℕ} {st : AnalysisStack} {at which : ℕ} (is_which : which ≡ number_at tree (at + 2)) where
  module _ {used : AnalysisStack} (id : LocalId) (u : UsedObject used locals st which id.0) (is_id : id.0 ≡ identity_id which here) (inside : here.in_object ≡ true) where
    pub super_used : {r : Step} {out' : List ℕ} {made : Used} → Emitted r out out' used at (0x53 ∷ 0x55 ∷ []) [] → which ≡ 1 → Ends made r
        → Uses made out out' diagnostics diagnostics locals locals st at (λ limits σ. identity_step limits tree at (place_of here) σ)
    unfolding mark_bytes code identity_step walk.use_identity given object_used choose
    super_used emitted is_super ends = step_done ends (record {
      steps = λ l fs cs rs fit.
          let made = emitted_steps emitted SU refl l diagnostics locals fs cs rs (u.fit l out diagnostics fs cs rs fit) in
          record {
            same = λ limits e.
                made.same limits e ∙ ap (λ (σ : rules.AnalysisStack). writing.emit limits at SU [] σ) (u.same out diagnostics fs cs rs)
                ∙ rw (← is_which, inside_is which here inside, is_id, eq-eqb which 1 is_super) refl;
            fit = made.fit;
          };
    })

    pub this_used : (which ≡ 1 → ⊥) → Uses (Ok (used, Some id)) out out diagnostics diagnostics locals locals st at (λ limits σ. identity_step limits tree at (place_of here) σ)
    unfolding identity_step walk.use_identity given object_used choose Left
    this_used no_super = record {
      left = record {
        room = λ l. refl;
        same = λ limits fs cs rs.
            ap (λ (σ : rules.AnalysisStack). scoping.emit_slot limits at id.0 σ) (u.same out diagnostics fs cs rs)
            ∙ rw (← is_which, inside_is which here inside, is_id, ne_eqb which 1 no_super) refl;
        fit = λ l fs cs rs fit. u.fit l out diagnostics fs cs rs fit;
        as_many_frames = u.as_many_frames;
        as_many_captures = u.as_many_captures;
      };
    }

  pub identity_outside : {r : Step} {out' diagnostics' : List ℕ} {span : ℕ} {made : Used} → BadPlace r out out' diagnostics diagnostics' st at (3 + which) 0 span which
      → span ≡ number_at tree (at + 6) → here.in_object ≡ false → Ends made r
      → Uses made out out' diagnostics diagnostics' locals locals st at (λ limits σ. identity_step limits tree at (place_of here) σ)
  unfolding identity_step walk.use_identity given
  identity_outside was_bad is_span outside ends = step_done ends (record {
    steps = λ l fs cs rs fit.
        let made = bad_steps was_bad l locals fs cs rs fit in
        record { same = λ limits e. made.same limits e ∙ rw (← is_which, outside_is which here outside, is_span) refl; fit = made.fit };
  })

-- Names

-- what a search finds is one of those that it looked at
abbrev Below : Option ℕ → ℕ → Type 0
Below none n = Unit {0}
Below (some id) n = id < n

below_more : (o : Option ℕ) (m n : ℕ) → m ≤ n → Below o m → Below o n
below_more none m n le h = tt
below_more (some id) m n le h = omega (arith, h)

newest_below : (name : Name) (ls : List locals_rules.LocalDefinition) (first n : ℕ) → Below (locals_rules.newest name ls first n) (first + n)
unfolding locals_rules.newest choose
newest_below name ls first zero = tt
newest_below name ls first (suc n) = by (locals_rules.has_name name (locals_rules.local_at ls (first + n))) (newest_below name ls first n)
  where
    by : (b : Bool) → Below (locals_rules.newest name ls first n) (first + n) → Below (choose b (λ _. some (first + n)) (λ _. locals_rules.newest name ls first n)) (first + suc n)
    by true h = omega arith
    by false h = below_more (locals_rules.newest name ls first n) (first + n) (first + suc n) (omega arith) h

module _ (f : std.Option LocalId) (locals : List ℕ) (st : AnalysisStack) (name : ℕ)
    (searched : (total : ℕ) → 0 + st.locals ≤ total → found f ≡ locals_rules.newest name (locals_of total locals) 0 st.locals) where
  pub found_there : (id : LocalId) → f ≡ Some id → id.0 < st.locals
  unfolding found
  found_there id e =
      let below = newest_below name (locals_of st.locals locals) 0 st.locals in
      let told : some id.0 ≡ locals_rules.newest name (locals_of st.locals locals) 0 st.locals = sym (ap found e) ∙ searched st.locals (omega arith) in
      omega (arith, subst (λ (o : Option ℕ). Below o (0 + st.locals)) (sym told) below)

  -- the rules' search, over all locals
  whole_search : (b : Buffers) → b.locals ≡ locals
      → locals_rules.newest name (stack b st).locals 0 (length (stack b st).locals) ≡ found f
  unfolding stack
  whole_search b e =
      rw e (ap (locals_rules.newest name (locals_of st.locals locals) 0) (length_locals st.locals locals) ∙ sym (searched st.locals (omega arith)))

  module _ (tree : List ℕ) (here : Place) {out diagnostics : List ℕ} {at : ℕ} (is_name : name ≡ number_at tree (at + 2)) where
    pub variable_found : {locals' : List ℕ} {used : AnalysisStack} (id : LocalId) → UsedLocal used locals locals' st here.depth id.0 → f ≡ Some id
        → Uses (Ok (used, Some id)) out out diagnostics diagnostics locals locals' st at (λ limits σ. variable_step limits tree at (place_of here) σ)
    unfolding variable_step walk.use_local given place_of found Left
    variable_found id u e = record {
      left = record {
        room = λ l. refl;
        same = λ limits fs cs rs.
            ap (λ (σ : rules.AnalysisStack). scoping.emit_slot limits at id.0 σ) (u.same out diagnostics fs cs rs)
            ∙ rw (← is_name, whole_search (buffers out diagnostics locals fs cs rs) refl, e) refl;
        fit = λ l fs cs rs fit. u.fit l out diagnostics fs cs rs fit;
        as_many_frames = u.as_many_frames;
        as_many_captures = u.as_many_captures;
      };
    }

    pub variable_unknown : {r : Step} {out' diagnostics' : List ℕ} {span : ℕ} {made : Used} → BadPlace r out out' diagnostics diagnostics' st at 1 name span 3
        → span ≡ number_at tree (at + 6) → f ≡ None → Ends made r
        → Uses made out out' diagnostics diagnostics' locals locals st at (λ limits σ. variable_step limits tree at (place_of here) σ)
    unfolding variable_step walk.use_local given found
    variable_unknown was_bad is_span e ends = step_done ends (record {
      steps = λ l fs cs rs fit.
          let made = bad_steps was_bad l locals fs cs rs fit in
          record {
            same = λ limits is. made.same limits is ∙ rw (← is_name, whole_search (buffers out diagnostics locals fs cs rs) refl, e, is_span) refl;
            fit = made.fit;
          };
    })

-- A name, by its mark

module _ (tree : List ℕ) (here : Place) {used : Used} {out out' diagnostics diagnostics' locals locals' : List ℕ} {st : AnalysisStack} {at : ℕ} (mark : ℕ) where
  by_test : {t : Bool} → eqb mark (code ID) ≡ t
      → Uses used out out' diagnostics diagnostics' locals locals' st at
      (λ limits σ. choose t (λ _. identity_step limits tree at (place_of here) σ) (λ _. variable_step limits tree at (place_of here) σ))
      → Uses used out out' diagnostics diagnostics' locals locals' st at (λ limits σ. name_step limits tree mark at (place_of here) σ)
  unfolding name_step
  by_test e u = rw e u

  pub identity_name : Uses used out out' diagnostics diagnostics' locals locals' st at (λ limits σ. identity_step limits tree at (place_of here) σ) → mark ≡ code ID
      → Uses used out out' diagnostics diagnostics' locals locals' st at (λ limits σ. name_step limits tree mark at (place_of here) σ)
  unfolding choose
  identity_name u e = by_test (eq-eqb mark (code ID) e) u

  pub variable_name : Uses used out out' diagnostics diagnostics' locals locals' st at (λ limits σ. variable_step limits tree at (place_of here) σ) → (mark ≡ code ID → ⊥)
      → Uses used out out' diagnostics diagnostics' locals locals' st at (λ limits σ. name_step limits tree mark at (place_of here) σ)
  unfolding choose
  variable_name u e = by_test (ne_eqb mark (code ID) e) u

-- What is left of it

module _ {used : Used} {out out' diagnostics diagnostics' locals locals' : List ℕ} {st : AnalysisStack} {at : ℕ} {step : rules.Limits → rules.AnalysisStack → Outcome rules.AnalysisStack}
    (u : Uses used out out' diagnostics diagnostics' locals locals' st at step) where
  left_so : {to : Used} → used ≡ to → Left to out out' diagnostics diagnostics' locals locals' st at step
  left_so e = subst (λ (r : Used). Left r out out' diagnostics diagnostics' locals locals' st at step) e u.left

  slot_left : {after : AnalysisStack} {slot : std.Option LocalId} {id : LocalId} → used ≡ Ok (after, slot) → slot ≡ Some id
      → SlotLeft after id.0 out out' diagnostics diagnostics' locals locals' st at step
  unfolding Left
  slot_left {after} e is = left_so (e ∙ ap (λ (x : std.Option LocalId). Ok (after, x)) is)

  step_made : {after : AnalysisStack} {slot : std.Option LocalId} → used ≡ Ok (after, slot) → slot ≡ None
      → StepMade (Ok after) out out' diagnostics diagnostics' locals locals' st step
  unfolding Left
  step_made {after} e is = left_so (e ∙ ap (λ (x : std.Option LocalId). Ok (after, x)) is)

  step_refused : {why : Refusal} → used ≡ Err why → StepMade (Err why) out out' diagnostics diagnostics' locals locals' st step
  unfolding Left
  step_refused e = left_so e

  -- what was kept of the frames still is
  pub slot_kept : {after : AnalysisStack} {slot : std.Option LocalId} {id : LocalId} {frames captures : List ℕ} → used ≡ Ok (after, slot) → slot ≡ Some id → Kept st.frames frames st.captures captures
      → Kept after.frames frames after.captures captures
  slot_kept e is kept = rw ((slot_left e is).as_many_frames, (slot_left e is).as_many_captures) kept

  pub slot_written : {after : AnalysisStack} {slot : std.Option LocalId} {id : LocalId} {r : Step} {out'' frames captures captures' : List ℕ} {l : Limits} → used ≡ Ok (after, slot) → slot ≡ Some id
      → SlotEmitted r out' out'' frames captures captures' l after at id.0
      → (references : List ℕ) → Fit l (buffers out diagnostics locals frames captures references) st
      → Steps r l (buffers out diagnostics locals frames captures references) (buffers out'' diagnostics' locals' frames captures' references) st step
  slot_written {after = after} {id = id} {frames = fs} {captures = cs} {l = l} e is emitted rs fit =
      let left = slot_left e is in
      record {
        same = λ limits room.
            emitted.same diagnostics' locals' rs
            ∙ ap (λ (L : rules.Limits). scoping.emit_slot L at id.0 (stack (buffers out' diagnostics' locals' fs cs rs) after)) (left.room l ∙ sym room)
            ∙ left.same limits fs cs rs;
        fit = emitted.fit diagnostics' locals' rs (left.fit l fs cs rs fit);
      }

abbrev then_place : List ℕ → Place → (at mark : ℕ) → rules.Limits → rules.AnalysisStack → Outcome (rules.AnalysisStack × ℕ)
then_place tree here at mark limits σ = and_place (at + 10) (name_step limits tree mark at (place_of here) σ)

module _ (tree : List ℕ) (here : Place) {used : Used} {out out' diagnostics diagnostics' locals locals' : List ℕ} {st : AnalysisStack} {at mark : ℕ}
    (u : Uses used out out' diagnostics diagnostics' locals locals' st at (λ limits σ. name_step limits tree mark at (place_of here) σ))
    {frames captures : List ℕ} {limits : Limits} where
  pub name_slot : {r : Step} {w : Walked} {after : AnalysisStack} {slot : std.Option LocalId} {id : LocalId} {out'' captures' : List ℕ} → used ≡ Ok (after, slot) → slot ≡ Some id
      → SlotEmitted r out' out'' frames captures captures' limits after at id.0 → Placed w r (at + 10)
      → NameAnalyzed w tree out out'' diagnostics diagnostics' locals locals' frames captures captures' limits st at mark here
  name_slot e is emitted ends = record {
    walks = λ rs fit. walks_behind (at + 10) (then_place tree here at mark) ends (slot_written u e is emitted rs fit) (λ limits. refl);
  }

  pub name_done : {after : AnalysisStack} {slot : std.Option LocalId} → used ≡ Ok (after, slot) → slot ≡ None
      → NameAnalyzed (Ok (after, at + 10)) tree out out' diagnostics diagnostics' locals locals' frames captures captures limits st at mark here
  name_done e is = record {
    walks = λ rs fit. walks_behind (at + 10) (then_place tree here at mark) (placed (at + 10) refl) ((step_made u e is).steps limits frames captures rs fit) (λ limits. refl);
  }

  pub name_refused : {why : Refusal} → used ≡ Err why
      → NameAnalyzed (Err why) tree out out' diagnostics diagnostics' locals locals' frames captures captures limits st at mark here
  name_refused e = record {
    walks = λ rs fit. walks_behind (at + 10) (then_place tree here at mark) (refused (at + 10) refl) ((step_refused u e).steps limits frames captures rs fit) (λ limits. refl);
  }
