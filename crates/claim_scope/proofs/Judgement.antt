-- No error is reported of a tree exactly if the specification's judgement holds of it. Assumes nothing.
use Prim.Native.Nat.{ℕ, zero, suc}
use mathlib.Core.Bool.{Bool, true, false, false≢true, true≢false}
use mathlib.Core.List.{List, [], ◌∷◌, ◌++◌}
use mathlib.Core.Option.{Option, none, some}
use mathlib.Core.Path.{◌≡◌, refl, sym, ap, ◌∙◌}
use Rattle.rules.specs.Outcome.{choose, given, ok}
use Rattle.rules.specs.Numbers.{Name, same_name}
use Rattle.rules.specs.Records.{Span}
use Rattle.rules.specs.Tree.{Tree, Expr, Exprs, Binds, Params, Heads, Binding, at_record, external, identity, constant, variable, constants, array, plain, import, local, function, object, no_exprs, ◌then◌, no_binds, bind, no_params, param, param_or, no_heads, fixed, computed}
use Rattle.rules.specs.State.{Limits, AnalysisStack}
use Rattle.rules.specs.Walk.{is_among}
use Rattle.rules.specs.Call.{analyze_root}
use Rattle.rules.proofs.Outcomes.{chosen_test}
use Rattle.claim_scope.specs.Scope as scope
use Rattle.claim_scope.specs.Scope.{Scope, meaning, identity_means, bind_names, param_names, external_names, under}
use Rattle.claim_scope.specs.StaticCheck.{Found, outside_object, not_bound, not_literal, twice_bound, twice_named, errors, errors_all, errors_binds, errors_params, errors_heads, any_found, root_scope, errors_of}
use Rattle.claim_scope.specs.Judgement.{names_of_binds, names_of_params, Different, Around, Holds, HoldAll, HoldBinds, HoldParams, HoldHeads, Passes}
use Rattle.claim_scope.proofs.Finding.{present}
use Rattle.claim_scope.proofs.StaticCheck.{static_check}

-- Lists of errors

cons_not_nil : {A : Type 0} (x : A) (xs : List A) → (x ∷ xs) ≡ [] → ⊥
cons_not_nil {A = A} x xs e = true≢false (ap full e)
  where
    full : List A → Bool
    full [] = false
    full (y ∷ ys) = true

both_none : (xs ys : List Found) → xs ++ ys ≡ [] → (xs ≡ []) × (ys ≡ [])
both_none [] ys e = (refl, e)
both_none (x ∷ xs) ys e = absurd (cons_not_nil x (xs ++ ys) e)

none_both : {xs ys : List Found} → xs ≡ [] → ys ≡ [] → xs ++ ys ≡ []
none_both {ys = ys} e f = ap (λ (zs : List Found). zs ++ ys) e ∙ f

-- a scope has these names, and is inside an object or not

record Agrees (G : List Name) (inside : Bool) (sc : Scope) : Type 0 where
  among : (n : Name) → is_among n G ≡ present (meaning n sc.names)
  inner : inside ≡ present sc.inner
  outer : inside ≡ present sc.outer

one_more : (t : Bool) (b : Binding) (x : Bool) (y : Option Binding) → x ≡ present y → choose t (λ _. true) (λ _. x) ≡ present (choose t (λ _. some b) (λ _. y))
unfolding choose present given
one_more true b x y e = refl
one_more false b x y e = e

more_binds : (n : Name) (bs : Binds) (G : List Name) (cs : List (Name × Binding)) → is_among n G ≡ present (meaning n cs)
    → is_among n (names_of_binds bs ++ G) ≡ present (meaning n (bind_names bs ++ cs))
unfolding names_of_binds bind_names is_among meaning
more_binds n no_binds G cs e = e
more_binds n (bind p name span f value bs) G cs e = one_more (same_name n name) (at_record p) _ _ (more_binds n bs G cs e)

more_params : (n : Name) (ps : Params) (G : List Name) (cs : List (Name × Binding)) → is_among n G ≡ present (meaning n cs)
    → is_among n (names_of_params ps ++ G) ≡ present (meaning n (param_names ps ++ cs))
unfolding names_of_params param_names is_among meaning
more_params n no_params G cs e = e
more_params n (param p name span ps) G cs e = one_more (same_name n name) (at_record p) _ _ (more_params n ps G cs e)
more_params n (param_or p name span value ps) G cs e = one_more (same_name n name) (at_record p) _ _ (more_params n ps G cs e)

agrees_binds : {G : List Name} {inside : Bool} {sc : Scope} (bs : Binds) → Agrees G inside sc → Agrees (names_of_binds bs ++ G) inside (under (bind_names bs) sc)
unfolding under
agrees_binds {G = G} {sc = sc} bs a = record { among = λ n. more_binds n bs G sc.names (a.among n); inner = a.inner; outer = a.outer }

agrees_params : {G : List Name} {inside : Bool} {sc : Scope} (ps : Params) → Agrees G inside sc → Agrees (names_of_params ps ++ G) inside (under (param_names ps) sc)
unfolding under
agrees_params {G = G} {sc = sc} ps a = record { among = λ n. more_params n ps G sc.names (a.among n); inner = a.inner; outer = a.outer }

agrees_object : {G : List Name} {inside : Bool} {sc : Scope} (p : ℕ) → Agrees G inside sc → Agrees G true (scope.in_object p sc)
unfolding scope.in_object present given
agrees_object {sc = sc} p a = record { among = a.among; inner = refl; outer = by sc.outer }
  where
    by : (o : Option Binding) → true ≡ present (given o (λ _. some (at_record p)) (λ o. some o))
    by none = refl
    by (some o) = refl

-- Single records

given_none : (o : Option Binding) (f : Found) → given o (λ _. f ∷ []) (λ _. []) ≡ [] → present o ≡ true
unfolding given present
given_none none f e = absurd (cons_not_nil f [] e)
given_none (some b) f e = refl

none_given : (o : Option Binding) (f : Found) → present o ≡ true → given o (λ _. f ∷ []) (λ _. []) ≡ []
unfolding given present
none_given none f e = absurd (false≢true e)
none_given (some b) f e = refl

agrees_identity : {G : List Name} {inside : Bool} {sc : Scope} (which : ℕ) → Agrees G inside sc → inside ≡ present (identity_means which sc)
unfolding identity_means
agrees_identity zero a = a.inner
agrees_identity (suc zero) a = a.inner
agrees_identity (suc (suc n)) a = a.outer

choose_none : (t : Bool) (f : Found) (xs ys : List Found) → choose t (λ _. f ∷ xs) (λ _. ys) ≡ [] → (t ≡ false) × (ys ≡ [])
unfolding choose
choose_none true f xs ys e = absurd (cons_not_nil f xs e)
choose_none false f xs ys e = (refl, e)

none_choose : (t : Bool) (f : Found) (xs ys : List Found) → t ≡ false → ys ≡ [] → choose t (λ _. f ∷ xs) (λ _. ys) ≡ []
unfolding choose
none_choose true f xs ys e k = absurd (true≢false e)
none_choose false f xs ys e k = k

literal_none : (span : Span) (t : Bool) → not_literal span t ≡ [] → t ≡ true
unfolding not_literal choose
literal_none span true e = refl
literal_none span false e = absurd (cons_not_nil _ [] e)

none_literal : (span : Span) (t : Bool) → t ≡ true → not_literal span t ≡ []
unfolding not_literal choose
none_literal span true e = refl
none_literal span false e = absurd (false≢true e)

-- Names together

binds_different : (seen : List Name) (bs : Binds) → twice_bound seen bs ≡ [] → Different seen (names_of_binds bs)
unfolding twice_bound names_of_binds Different
binds_different seen no_binds e = tt
binds_different seen (bind p name span f value bs) e = let k = choose_none (is_among name seen) _ _ _ e in (k.0, binds_different (name ∷ seen) bs k.1)

different_binds : (seen : List Name) (bs : Binds) → Different seen (names_of_binds bs) → twice_bound seen bs ≡ []
unfolding twice_bound names_of_binds Different
different_binds seen no_binds d = refl
different_binds seen (bind p name span f value bs) d = none_choose (is_among name seen) _ _ _ d.0 (different_binds (name ∷ seen) bs d.1)

params_different : (seen : List Name) (ps : Params) → twice_named seen ps ≡ [] → Different seen (names_of_params ps)
unfolding twice_named names_of_params Different
params_different seen no_params e = tt
params_different seen (param p name span ps) e = let k = choose_none (is_among name seen) _ _ _ e in (k.0, params_different (name ∷ seen) ps k.1)
params_different seen (param_or p name span value ps) e = let k = choose_none (is_among name seen) _ _ _ e in (k.0, params_different (name ∷ seen) ps k.1)

different_params : (seen : List Name) (ps : Params) → Different seen (names_of_params ps) → twice_named seen ps ≡ []
unfolding twice_named names_of_params Different
different_params seen no_params d = refl
different_params seen (param p name span ps) d = none_choose (is_among name seen) _ _ _ d.0 (different_params (name ∷ seen) ps d.1)
different_params seen (param_or p name span value ps) d = none_choose (is_among name seen) _ _ _ d.0 (different_params (name ∷ seen) ps d.1)

-- Where no error is, the judgement holds

mutual
  unfolding errors Holds Around outside_object not_bound

  holds : (e : Expr) {G : List Name} {inside : Bool} {sc : Scope} → Agrees G inside sc → errors e sc ≡ [] → Holds true G inside e
  holds (identity p which span) {sc = sc} a e = agrees_identity which a ∙ given_none (identity_means which sc) _ e
  holds (constant p v) a e = tt
  holds (variable p name span) {sc = sc} a e = a.among name ∙ given_none (meaning name sc.names) _ e
  holds (constants p vs) a e = tt
  holds (array p es) a e = hold_all es a e
  holds (plain p m fields es) a e = hold_all es a e
  holds (import p which span is_literal path) a e = literal_none span is_literal e
  holds (local p bs body) a e =
      let k = both_none _ _ e in
      let k₂ = both_none _ _ k.0 in
      (binds_different [] bs k₂.0, hold_binds bs (agrees_binds bs a) k₂.1, holds body (agrees_binds bs a) k.1)
  holds (function p span ps body) a e =
      let k = both_none _ _ e in
      let k₂ = both_none _ _ k.0 in
      (params_different [] ps k₂.0, hold_params ps (agrees_params ps a) k₂.1, holds body (agrees_params ps a) k.1)
  holds (object p hs bs ts vs) a e =
      let inner = agrees_binds bs (agrees_object p a) in
      let k = both_none _ _ e in
      let k₂ = both_none _ _ k.0 in
      let k₃ = both_none _ _ k₂.0 in
      let k₄ = both_none _ _ k₃.0 in
      (hold_heads hs a k₄.0, (binds_different [] bs k₄.1, hold_binds bs inner k₃.1), hold_all ts inner k₂.1, hold_all vs inner k.1)

  hold_all : (es : Exprs) {G : List Name} {inside : Bool} {sc : Scope} → Agrees G inside sc → errors_all es sc ≡ [] → HoldAll true G inside es
  hold_all no_exprs a e = tt
  hold_all (x then es) a e = let k = both_none _ _ e in (holds x a k.0, hold_all es a k.1)

  hold_binds : (bs : Binds) {G : List Name} {inside : Bool} {sc : Scope} → Agrees G inside sc → errors_binds bs sc ≡ [] → HoldBinds true G inside bs
  hold_binds no_binds a e = tt
  hold_binds (bind p name span f x bs) a e = let k = both_none _ _ e in (holds x a k.0, hold_binds bs a k.1)

  hold_params : (ps : Params) {G : List Name} {inside : Bool} {sc : Scope} → Agrees G inside sc → errors_params ps sc ≡ [] → HoldParams true G inside ps
  hold_params no_params a e = tt
  hold_params (param p name span ps) a e = hold_params ps a e
  hold_params (param_or p name span x ps) a e = let k = both_none _ _ e in (holds x a k.0, hold_params ps a k.1)

  hold_heads : (hs : Heads) {G : List Name} {inside : Bool} {sc : Scope} → Agrees G inside sc → errors_heads hs sc ≡ [] → HoldHeads true G inside hs
  hold_heads no_heads a e = tt
  hold_heads (fixed p h hs) a e = hold_heads hs a e
  hold_heads (computed p h x hs) a e = let k = both_none _ _ e in (holds x a k.0, hold_heads hs a k.1)

-- Where the judgement holds, no error is

mutual
  unfolding errors Holds Around outside_object not_bound

  error_free : (e : Expr) {G : List Name} {inside : Bool} {sc : Scope} → Agrees G inside sc → Holds true G inside e → errors e sc ≡ []
  error_free (identity p which span) {sc = sc} a h = none_given (identity_means which sc) _ (sym (agrees_identity which a) ∙ h)
  error_free (constant p v) a h = refl
  error_free (variable p name span) {sc = sc} a h = none_given (meaning name sc.names) _ (sym (a.among name) ∙ h)
  error_free (constants p vs) a h = refl
  error_free (array p es) a h = none_all es a h
  error_free (plain p m fields es) a h = none_all es a h
  error_free (import p which span is_literal path) a h = none_literal span is_literal h
  error_free (local p bs body) a h = none_both (none_both (different_binds [] bs h.0) (none_binds bs (agrees_binds bs a) h.1)) (error_free body (agrees_binds bs a) h.2)
  error_free (function p span ps body) a h = none_both (none_both (different_params [] ps h.0) (none_params ps (agrees_params ps a) h.1)) (error_free body (agrees_params ps a) h.2)
  error_free (object p hs bs ts vs) a h =
      let inner = agrees_binds bs (agrees_object p a) in
      none_both (none_both (none_both (none_both (none_heads hs a h.0) (different_binds [] bs h.1.0)) (none_binds bs inner h.1.1)) (none_all ts inner h.2)) (none_all vs inner h.3)

  none_all : (es : Exprs) {G : List Name} {inside : Bool} {sc : Scope} → Agrees G inside sc → HoldAll true G inside es → errors_all es sc ≡ []
  none_all no_exprs a h = refl
  none_all (x then es) a h = none_both (error_free x a h.0) (none_all es a h.1)

  none_binds : (bs : Binds) {G : List Name} {inside : Bool} {sc : Scope} → Agrees G inside sc → HoldBinds true G inside bs → errors_binds bs sc ≡ []
  none_binds no_binds a h = refl
  none_binds (bind p name span f x bs) a h = none_both (error_free x a h.0) (none_binds bs a h.1)

  none_params : (ps : Params) {G : List Name} {inside : Bool} {sc : Scope} → Agrees G inside sc → HoldParams true G inside ps → errors_params ps sc ≡ []
  none_params no_params a h = refl
  none_params (param p name span ps) a h = none_params ps a h
  none_params (param_or p name span x ps) a h = none_both (error_free x a h.0) (none_params ps a h.1)

  none_heads : (hs : Heads) {G : List Name} {inside : Bool} {sc : Scope} → Agrees G inside sc → HoldHeads true G inside hs → errors_heads hs sc ≡ []
  none_heads no_heads a h = refl
  none_heads (fixed p head hs) a h = none_heads hs a h
  none_heads (computed p head x hs) a h = none_both (error_free x a h.0) (none_heads hs a h.1)

-- The whole tree

externals_among : (n : Name) (k : ℕ) (names : List Name) (bs : List (Name × Binding))
    → choose (is_among n names) (λ _. true) (λ _. present (meaning n bs)) ≡ present (meaning n (external_names k names bs))
unfolding is_among external_names choose meaning present given
externals_among n k [] bs = refl
externals_among n k (name ∷ names) bs = either (same_name n name) (is_among n names) (meaning n bs) ∙ externals_among n (suc k) names ((name, external k) ∷ bs)
  where
    either : (s t : Bool) (y : Option Binding) → choose (choose s (λ _. true) (λ _. t)) (λ _. true) (λ _. present y)
        ≡ choose t (λ _. true) (λ _. present (choose s (λ _. some (external k)) (λ _. y)))
    either true true y = refl
    either true false y = refl
    either false true y = refl
    either false false y = refl

agrees_root : (names : List Name) → Agrees names false (root_scope names)
unfolding root_scope present given choose meaning
agrees_root names = record { among = λ n. chosen_test (is_among n names) ∙ externals_among n 0 names []; inner = refl; outer = refl }

pub passes : (t : Tree) → errors_of t ≡ [] → Passes t
unfolding errors_of Passes
passes t e = holds t.root (agrees_root t.externals) e

pub no_errors : (t : Tree) → Passes t → errors_of t ≡ []
unfolding errors_of Passes
no_errors t h = error_free t.root (agrees_root t.externals) h

-- of a tree that is analysed no error is reported exactly if the judgement holds of it

pub any_none : (fs : List Found) → any_found fs ≡ false → fs ≡ []
unfolding any_found
any_none [] e = refl
any_none (f ∷ fs) e = absurd (true≢false e)

pub quiet_passes : (L : Limits) (t : Tree) (σ : AnalysisStack) → analyze_root L t ≡ ok σ → σ.sink.errored ≡ false → Passes t
quiet_passes L t σ e quiet = passes t (any_none (errors_of t) (sym (static_check L t σ e).errored ∙ quiet))

pub passing_is_quiet : (L : Limits) (t : Tree) (σ : AnalysisStack) → analyze_root L t ≡ ok σ → Passes t → σ.sink.errored ≡ false
unfolding any_found
passing_is_quiet L t σ e h = (static_check L t σ e).errored ∙ ap any_found (no_errors t h)
