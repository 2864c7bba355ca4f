-- The analysis' state fits a scope: each name's newest local is what the name means there, and `this` and `$` are there exactly inside objects. Assumes nothing.
use Prim.Native.Nat.{ℕ, zero, suc, ◌+◌}
use mathlib.Core.Bool.{Bool, true, false, false≢true, true≢false}
use mathlib.Core.List.{List, [], ◌∷◌, ◌++◌, append-nil}
use mathlib.Core.Option.{Option, none, some}
use mathlib.Core.Path.{◌≡◌, refl, sym, ap, ◌∙◌, subst}
use lib.ListN.{length}
use Rattle.rules.specs.Outcome.{choose, given}
use Rattle.rules.specs.Numbers.{Name}
use Rattle.rules.specs.Records.{Span}
use Rattle.rules.specs.Tree.{Binding, at_record, Binds, no_binds, bind}
use Rattle.rules.specs.Locals.{newest}
use Rattle.rules.specs.State.{Limits, AnalysisStack}
use Rattle.rules.specs.Walk.{Place, deeper, in_object, identity_local, is_empty, use_identity, use_local, use_import}
use Rattle.rules.proofs.After.{After, after_weaken, after_choose, after_given}
use Rattle.claim_scope.specs.Scope as scope
use Rattle.claim_scope.specs.Scope.{Scope, meaning, identity_means, bind_names, under}
use Rattle.claim_scope.specs.StaticCheck.{Found, outside_object, not_bound, not_literal, twice_bound, errors_binds}
use Rattle.claim_scope.proofs.Finding.{Key, keys, put, named, first_of, present, meaning_append, meaning_behind, standing, newest_of_all, newest_present}
use Rattle.claim_scope.proofs.Telling.{Walked, walked_then, walked_is, after_on, Inside}
use Rattle.claim_scope.proofs.Steps.{quiet_object_use, quiet_touch, quiet_touch_object, quiet_emit, quiet_slot, told_bad_place}
use Rattle.claim_scope.proofs.Defining.{Defines}

pub record Fits (sc : Scope) (h : Place) (ks : List Key) : Type 0 where
  pub means : (n : Name) → meaning n (named ks []) ≡ meaning n sc.names
  pub inner : present h.this_local ≡ present sc.inner
  pub outer : present h.dollar_alias ≡ present sc.outer

-- the local that a use finds stands for what the name means
pub found_means : {sc : Scope} {h : Place} (n : Name) (st : AnalysisStack) → Fits sc h (keys st)
    → standing st.locals (newest n st.locals 0 (length st.locals)) ≡ meaning n sc.names
found_means n st fits = newest_of_all n st ∙ fits.means n

pub fits_same : {sc : Scope} {h : Place} {ks ks' : List Key} → ks' ≡ ks → Fits sc h ks → Fits sc h ks'
fits_same {sc = sc} {h = h} e fits = subst (λ (x : List Key). Fits sc h x) (sym e) fits

pub fits_opened : {fs : List Found} {sc : Scope} {h : Place} {st st' : AnalysisStack} → Inside fs [] st st' → Fits sc h (keys st) → Fits sc h (keys st')
fits_opened {st = st} i fits = fits_same (i.names ∙ append-nil (keys st)) fits

pub fits_deeper : {sc : Scope} {h : Place} {ks : List Key} → Fits sc h ks → Fits sc (deeper h) ks
unfolding deeper
fits_deeper fits = record { means = fits.means; inner = fits.inner; outer = fits.outer }

-- "`$` marks the outermost"
pub fits_object : {sc : Scope} {h : Place} {ks : List Key} (p id : ℕ) → Fits sc h ks → Fits (scope.in_object p sc) (in_object id h) ks
unfolding in_object scope.in_object present given
fits_object {sc = sc} {h = h} p id fits = record { means = fits.means; inner = refl; outer = by h.dollar_alias sc.outer }
  where
    by : (x : Option ℕ) (y : Option Binding) → present (given x (λ _. some id) (λ o. some o)) ≡ present (given y (λ _. some (at_record p)) (λ o. some o))
    by none none = refl
    by none (some y) = refl
    by (some x) none = refl
    by (some x) (some y) = refl

-- the frame's own names before those outside
pub fits_defined : {fs : List Found} {start : List Key} {names : List (Name × Binding)} {sc : Scope} {h : Place} {st st' : AnalysisStack}
    → ((n : Name) → meaning n (named start []) ≡ none) → Defines fs start names st st' → Fits sc h (keys st) → Fits (under names sc) h (keys st')
unfolding under first_of
fits_defined {names = names} {sc = sc} {st = st} nothing d fits = record {
  means = λ n.
      ap (λ (ks : List Key). meaning n (named ks [])) d.inside.names ∙ meaning_behind n (keys st) d.own
      ∙ ap (λ (x : Option Binding). first_of x (meaning n (named (keys st) []))) (d.means n ∙ ap (λ (x : Option Binding). first_of x (meaning n names)) (nothing n))
      ∙ ap (first_of (meaning n names)) (fits.means n) ∙ sym (meaning_append n names sc.names);
  inner = fits.inner;
  outer = fits.outer;
}

-- "`LO` with no binds is its body"

pub fits_empty : {sc : Scope} {h : Place} {ks : List Key} (bs : Binds) → is_empty bs ≡ true → Fits sc h ks → Fits (under (bind_names bs) sc) h ks
unfolding under bind_names is_empty
fits_empty no_binds e fits = record { means = fits.means; inner = fits.inner; outer = fits.outer }
fits_empty (bind p name span f value bs) e fits = absurd (false≢true e)

pub errors_empty : (bs : Binds) (sc : Scope) (fs : List Found) → is_empty bs ≡ true → fs ≡ twice_bound [] bs ++ errors_binds bs sc ++ fs
unfolding twice_bound errors_binds is_empty
errors_empty no_binds sc fs e = refl
errors_empty (bind p name span f value bs) sc fs e = absurd (false≢true e)

-- no name of the frame itself is there before its own
pub nothing_yet : (n : Name) → meaning n (named [] []) ≡ none
unfolding meaning named
nothing_yet n = refl

pub only_this : (b : Binding) (n : Name) → meaning n (named ((none, b) ∷ []) []) ≡ none
unfolding meaning named given put
only_this b n = refl

-- Uses

given_absent : {A B : Type 0} (o : Option B) (x y : A) → present o ≡ false → x ≡ given o (λ _. x) (λ _. y)
unfolding present given
given_absent none x y e = refl
given_absent (some b) x y e = absurd (true≢false e)

given_present : {A B : Type 0} (o : Option B) (x y : A) → present o ≡ true → y ≡ given o (λ _. x) (λ _. y)
unfolding present given
given_present none x y e = absurd (false≢true e)
given_present (some b) x y e = refl

present_none : {B : Type 0} (o : Option B) → o ≡ none → present o ≡ false
unfolding present given
present_none o e = ap present e

present_some : {B : Type 0} (o : Option B) (b : B) → o ≡ some b → present o ≡ true
unfolding present given
present_some o b e = ap present e

identity_fits : {sc : Scope} {h : Place} {ks : List Key} (which : ℕ) → Fits sc h ks → present (identity_local which h) ≡ present (identity_means which sc)
unfolding identity_local identity_means
identity_fits zero fits = fits.inner
identity_fits (suc zero) fits = fits.inner
identity_fits (suc (suc n)) fits = fits.outer

module _ (L : Limits) where
  pub walked_identity : (p which : ℕ) (span : Span) (h : Place) (sc : Scope) (st : AnalysisStack) → Fits sc h (keys st)
      → After (Walked (outside_object which span sc) st) (use_identity L p which span h st)
  unfolding use_identity outside_object
  walked_identity p which span h sc st fits = after_given _ _ _
      (λ e. after_weaken (told_bad_place L p (3 + which) 0 span which st) λ _ k.
      walked_is (given_absent (identity_means which sc) _ _ (sym (identity_fits which fits) ∙ present_none _ e)) k)
      (λ id e.
      let touched = walked_then (quiet_object_use _ st) (quiet_touch_object id _) in
      let none_told = given_present (identity_means which sc) (record { code = 3 + which; name = 0; span = span } ∷ []) [] (sym (identity_fits which fits) ∙ present_some _ id e) in
      after_weaken (after_choose _ _ _ (λ _. after_on touched (quiet_emit L p _ [] _)) (λ _. after_on touched (quiet_slot L p id _))) λ _ k. walked_is none_told k)

  pub walked_name : (p : ℕ) (name : Name) (span : Span) (h : Place) (sc : Scope) (st : AnalysisStack) → Fits sc h (keys st)
      → After (Walked (not_bound name span sc) st) (use_local L p name span h st)
  unfolding use_local not_bound
  walked_name p name span h sc st fits = after_given _ _ _
      (λ e. after_weaken (told_bad_place L p 1 name span 3 st) λ _ k. walked_is (given_absent (meaning name sc.names) _ _ (same ∙ present_none _ e)) k)
      (λ id e. after_weaken (after_on (quiet_touch h.depth id st) (quiet_slot L p id _)) λ _ k.
      walked_is (given_present (meaning name sc.names) (record { code = 1; name = name; span = span } ∷ []) [] (same ∙ present_some _ id e)) k)
    where
      same : present (meaning name sc.names) ≡ present (newest name st.locals 0 (length st.locals))
      same = sym (newest_present name st ∙ ap present (fits.means name))

  pub walked_import : (p which : ℕ) (span : Span) (is_literal : Bool) (path : ℕ) (st : AnalysisStack)
      → After (Walked (not_literal span is_literal) st) (use_import L p which span is_literal path st)
  unfolding use_import not_literal choose
  walked_import p which span true path st = quiet_emit L p _ _ st
  walked_import p which span false path st = told_bad_place L p 6 0 span 4 st
