-- Defining the names of a frame: what they mean in it, and that each name which stands among those before it is reported. Assumes nothing.
use Prim.Native.Nat.{ℕ}
use mathlib.Core.Bool.{Bool, true, false, false≢true, true≢false}
use mathlib.Core.List.{List, [], ◌∷◌, ◌++◌, map, append_assoc, append-nil}
use mathlib.Core.Option.{Option, none, some}
use mathlib.Core.Path.{◌≡◌, refl, sym, ap, ◌∙◌, subst}
use lib.ListN.{length-map}
use borrow.Author.Tests.{eqb-true}
use Rattle.rules.specs.Outcome.{choose, given, Outcome}
use Rattle.rules.specs.Numbers.{Name, same_name}
use Rattle.rules.specs.Records.{Span}
use Rattle.rules.specs.Tree.{Binding, at_record, Binds, Params, no_binds, bind, no_params, param, param_or}
use Rattle.rules.specs.Locals.{LocalDefinition, new_local}
use Rattle.rules.specs.Frames.{ClosureFrame, top, beneath, with_one_more_local}
use Rattle.rules.specs.State.{Limits, AnalysisStack, Sink, with_locals, with_frames}
use Rattle.rules.specs.Writing.{error}
use Rattle.rules.specs.Scoping.{first_in_frame, is_taken, push_local, push_in_frame, define_local, define_this}
use Rattle.rules.specs.Walk.{is_among, define_binds, define_params}
use Rattle.rules.proofs.After.{After, fine, after_weaken, after_bind, after_need, after_choose}
use Rattle.claim_scope.specs.Scope.{meaning, bind_names, param_names}
use Rattle.claim_scope.specs.StaticCheck.{Found, if_error, twice_bound, twice_named}
use Rattle.claim_scope.proofs.Finding.{Key, key, keys, put, named, named_append, first_of, first_or_none, present, taken_means}
use Rattle.claim_scope.proofs.Telling.{firsts_beneath, Told, Inside, inside_then, inside_is}
use Rattle.claim_scope.proofs.Steps.{map_append, reported}

first_present : {A : Type 0} (x y z : Option A) → present x ≡ true → first_of x y ≡ first_of x z
unfolding first_of present given
first_present none y z e = absurd (false≢true e)
first_present (some x) y z e = refl

first_absent : {A : Type 0} (x : Option A) (a : A) → present x ≡ false → some a ≡ first_of x (some a)
unfolding first_of present given
first_absent none a e = refl
first_absent (some x) a e = absurd (true≢false e)

-- the names of a frame so far
pub record Seen (seen : List Name) (own : List Key) : Type 0 where
  pub sees : (n : Name) → is_among n seen ≡ present (meaning n (named own []))

-- "An object's `this` takes slot 0 and no name finds it"
pub seen_none : Seen [] []
unfolding is_among present meaning named given
seen_none = record { sees = λ n. refl }

pub seen_this : (b : Binding) → Seen [] ((none, b) ∷ [])
unfolding is_among present meaning named given put
seen_this b = record { sees = λ n. refl }

meaning_one_more : (n name : Name) (b : Binding) (own : List Key)
    → meaning n (named (own ++ ((some name, b) ∷ [])) []) ≡ choose (same_name n name) (λ _. some b) (λ _. meaning n (named own []))
unfolding named put given meaning
meaning_one_more n name b own = ap (meaning n) (named_append own ((some name, b) ∷ []) [])

seen_more : {seen : List Name} {own : List Key} (name : Name) (b : Binding) → Seen seen own → Seen (name ∷ seen) (own ++ ((some name, b) ∷ []))
unfolding is_among choose present given
seen_more {seen = seen} {own = own} name b h = record { sees = λ n. by n (same_name n name) (h.sees n) ∙ ap present (sym (meaning_one_more n name b own)) }
  where
    by : (n : Name) (t : Bool) → is_among n seen ≡ present (meaning n (named own []))
        → choose t (λ _. true) (λ _. is_among n seen) ≡ present (choose t (λ _. some b) (λ _. meaning n (named own [])))
    by n true e = refl
    by n false e = e

-- One name

-- it was there and is reported, or it is new
pub data One (fs : List Found) (seen : List Name) (own : List Key) (p : ℕ) (name : Name) (span : Span) (st st' : AnalysisStack) : Type 0 where
  again : is_among name seen ≡ true → Inside (fs ++ (record { code = 2; name = name; span = span } ∷ [])) own st st' → One fs seen own p name span st st'
  new : is_among name seen ≡ false → Inside fs (own ++ ((some name, at_record p) ∷ [])) st st' → One fs seen own p name span st st'

-- Several: what each name means after them, where `start` were there before and the first of a name has it

pub record Defines (fs : List Found) (start : List Key) (names : List (Name × Binding)) (st st' : AnalysisStack) : Type 0 where
  pub own : List Key
  pub inside : Inside fs own st st'
  pub means : (n : Name) → meaning n (named own []) ≡ first_of (meaning n (named start [])) (meaning n names)

again_on : (fs rest : List Found) {seen : List Name} {own : List Key} {names : List (Name × Binding)} {st st' : AnalysisStack} (name : Name) (b : Binding) (f : Found) (other : List Found)
    → is_among name seen ≡ true → Seen seen own → Defines ((fs ++ (f ∷ [])) ++ rest) own names st st'
    → Defines (fs ++ choose (is_among name seen) (λ _. f ∷ rest) (λ _. other)) own ((name, b) ∷ names) st st'
unfolding meaning same_name choose
again_on fs rest {own = own} {names = names} name b f other e sees d = record {
  own = d.own;
  inside = inside_is (append_assoc fs (f ∷ []) rest ∙ ap (λ (t : Bool). fs ++ choose t (λ _. f ∷ rest) (λ _. other)) (sym e)) d.inside;
  means = λ n. d.means n ∙ hidden n (same_name n name) refl;
}
  where
    hidden : (n : Name) (t : Bool) → same_name n name ≡ t → first_of (meaning n (named own [])) (meaning n names)
        ≡ first_of (meaning n (named own [])) (choose t (λ _. some b) (λ _. meaning n names))
    hidden n true same = first_present _ _ _ (ap (λ (m : Name). present (meaning m (named own []))) (eqb-true n name same) ∙ sym (sees.sees name) ∙ e)
    hidden n false other_name = refl

new_on : (fs rest : List Found) {seen : List Name} {own : List Key} {names : List (Name × Binding)} {st st' : AnalysisStack} (name : Name) (b : Binding) (other : List Found)
    → is_among name seen ≡ false → Seen seen own → Defines (fs ++ rest) (own ++ ((some name, b) ∷ [])) names st st'
    → Defines (fs ++ choose (is_among name seen) (λ _. other) (λ _. rest)) own ((name, b) ∷ names) st st'
unfolding meaning same_name choose first_of
new_on fs rest {own = own} {names = names} name b other e sees d = record {
  own = d.own;
  inside = inside_is (ap (λ (t : Bool). fs ++ choose t (λ _. other) (λ _. rest)) (sym e)) d.inside;
  means = λ n. d.means n ∙ ap (λ (x : Option Binding). first_of x (meaning n names)) (meaning_one_more n name b own) ∙ shown n (same_name n name) refl;
}
  where
    shown : (n : Name) (t : Bool) → same_name n name ≡ t → first_of (choose t (λ _. some b) (λ _. meaning n (named own []))) (meaning n names)
        ≡ first_of (meaning n (named own [])) (choose t (λ _. some b) (λ _. meaning n names))
    shown n true same = first_absent _ b (ap (λ (m : Name). present (meaning m (named own []))) (eqb-true n name same) ∙ sym (sees.sees name) ∙ e)
    shown n false other_name = refl

none_on : {fs : List Found} {own : List Key} {st st' : AnalysisStack} → Inside fs own st st' → Defines (fs ++ []) own [] st st'
unfolding meaning
none_on {fs = fs} {own = own} h = record { own = own; inside = inside_is (sym (append-nil fs)) h; means = λ n. sym (first_or_none (meaning n (named own []))) }

one_on : (fs : List Found) (seen : List Name) (own : List Key) (p : ℕ) (name : Name) (span : Span) (twice : List Name → List Found) (names : List (Name × Binding)) (st st₁ : AnalysisStack)
    (o : Outcome AnalysisStack) → Seen seen own → One fs seen own p name span st st₁
    → (Inside (fs ++ (record { code = 2; name = name; span = span } ∷ [])) own st st₁
    → After (Defines ((fs ++ (record { code = 2; name = name; span = span } ∷ [])) ++ twice seen) own names st) o)
    → (Inside fs (own ++ ((some name, at_record p) ∷ [])) st st₁ → After (Defines (fs ++ twice (name ∷ seen)) (own ++ ((some name, at_record p) ∷ [])) names st) o)
    → After (Defines (fs ++ choose (is_among name seen) (λ _. record { code = 2; name = name; span = span } ∷ twice seen) (λ _. twice (name ∷ seen))) own ((name, at_record p) ∷ names) st) o
one_on fs seen own p name span twice names st st₁ o sees (again e i) hidden shown = after_weaken (hidden i) λ _ d. again_on fs (twice seen) name (at_record p) _ (twice (name ∷ seen)) e sees d
one_on fs seen own p name span twice names st st₁ o sees (new e i) hidden shown = after_weaken (shown i) λ _ d. new_on fs (twice (name ∷ seen)) name (at_record p) (record { code = 2; name = name; span = span } ∷ twice seen) e sees d

module _ (L : Limits) where
  record Pushed (l : LocalDefinition) (st st' : AnalysisStack) : Type 0 where
    locals : st'.locals ≡ st.locals ++ (l ∷ [])
    frames : st'.frames ≡ st.frames
    sink : st'.sink ≡ st.sink

  pushed : (p : ℕ) (l : LocalDefinition) (st : AnalysisStack) → After (Pushed l st) (push_local L p l st)
  unfolding push_local with_locals
  pushed p l st = after_need _ 6 p _ λ _. fine (record { locals = refl; frames = refl; sink = refl })

  -- for the externals, which stand in no frame yet
  pub external_pushed : (p : ℕ) (l : LocalDefinition) (st : AnalysisStack)
      → After (λ (st' : AnalysisStack). (keys st' ≡ keys st ++ (key l ∷ [])) × (st'.sink ≡ st.sink)) (push_local L p l st)
  unfolding keys
  external_pushed p l st = after_weaken (pushed p l st) λ _ h. (ap (map key) h.locals ∙ map_append key st.locals (l ∷ []), h.sink)

  pub pushed_inside : {fs : List Found} {own : List Key} (p : ℕ) (l : LocalDefinition) (st st' : AnalysisStack) → Inside fs own st st'
      → After (Inside fs (own ++ (key l ∷ [])) st) (push_in_frame L p l st')
  unfolding push_in_frame with_frames keys first_in_frame firsts_beneath top beneath with_one_more_local
  pushed_inside {fs = fs} {own = own} p l st st' h = after_bind _ (pushed p l st') λ st₁ k. fine (record {
    names = ap (map key) k.locals ∙ map_append key st'.locals (l ∷ []) ∙ ap (λ (ks : List Key). ks ++ (key l ∷ [])) h.names
        ∙ append_assoc (map key st.locals) own (key l ∷ []);
    first = ap (λ (fs : List ClosureFrame). (top fs).first_local) k.frames ∙ h.first;
    frames = ap (λ (fs : List ClosureFrame). map (λ (f : ClosureFrame). f.first_local) (beneath fs)) k.frames ∙ h.frames;
    told = subst (λ (s : Sink). Told fs st.sink s) (sym k.sink) h.told;
  })

  pub this_inside : {fs : List Found} (p depth : ℕ) (st st' : AnalysisStack) → Inside fs [] st st' → After (Inside fs ((none, at_record p) ∷ []) st) (define_this L p depth st')
  unfolding define_this key new_local
  this_inside p depth st st' h = pushed_inside p _ st st' h

  defined_local : {fs : List Found} {seen : List Name} {own : List Key} (p : ℕ) (name : Name) (span : Span) (depth : ℕ) (st st' : AnalysisStack) → Inside fs own st st' → Seen seen own
      → After (One fs seen own p name span st) (define_local L p name span depth st')
  unfolding define_local if_error key new_local keys
  defined_local {own = own} p name span depth st st' h sees = after_choose _ _ _
      (λ e. after_weaken (reported L p error 2 name span st') λ _ k. again (sees.sees name ∙ sym taken ∙ e) (inside_then h k))
      (λ e. after_need _ 11 p _ λ _. after_weaken (pushed_inside p _ st st' h) λ _ k. new (sees.sees name ∙ sym taken ∙ e) k)
    where
      taken : is_taken name st' ≡ present (meaning name (named own []))
      taken = taken_means name st' (keys st) own h.names (h.first ∙ sym (length-map st.locals key))

  pub defined_binds : (fs : List Found) {seen : List Name} {own : List Key} (bs : Binds) (depth : ℕ) (st st' : AnalysisStack) → Inside fs own st st' → Seen seen own
      → After (Defines (fs ++ twice_bound seen bs) own (bind_names bs) st) (define_binds L bs depth st')
  unfolding define_binds twice_bound bind_names
  defined_binds fs no_binds depth st st' h sees = fine (none_on h)
  defined_binds fs {seen = seen} {own = own} (bind p name span f e bs) depth st st' h sees =
      after_bind _ (defined_local p name span depth st st' h sees) λ st₁ one. one_on fs seen own p name span (λ seen. twice_bound seen bs) (bind_names bs) st st₁ _ sees one
      (λ i. defined_binds _ bs depth st st₁ i sees) (λ i. defined_binds fs bs depth st st₁ i (seen_more name (at_record p) sees))

  pub defined_params : (fs : List Found) {seen : List Name} {own : List Key} (ps : Params) (depth : ℕ) (st st' : AnalysisStack) → Inside fs own st st' → Seen seen own
      → After (Defines (fs ++ twice_named seen ps) own (param_names ps) st) (define_params L ps depth st')
  unfolding define_params twice_named param_names
  defined_params fs no_params depth st st' h sees = fine (none_on h)
  defined_params fs {seen = seen} {own = own} (param p name span ps) depth st st' h sees =
      after_bind _ (defined_local p name span depth st st' h sees) λ st₁ one. one_on fs seen own p name span (λ seen. twice_named seen ps) (param_names ps) st st₁ _ sees one
      (λ i. defined_params _ ps depth st st₁ i sees) (λ i. defined_params fs ps depth st st₁ i (seen_more name (at_record p) sees))
  defined_params fs {seen = seen} {own = own} (param_or p name span e ps) depth st st' h sees =
      after_bind _ (defined_local p name span depth st st' h sees) λ st₁ one. one_on fs seen own p name span (λ seen. twice_named seen ps) (param_names ps) st st₁ _ sees one
      (λ i. defined_params _ ps depth st st₁ i sees) (λ i. defined_params fs ps depth st st₁ i (seen_more name (at_record p) sees))
