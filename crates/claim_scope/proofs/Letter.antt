-- The specification by the letter: it accepts what has no error, and where no locals stand around nothing it accepts nothing else. Assumes nothing.
use mathlib.Core.Bool.{Bool, true, false, false≢true, ◌||◌}
use mathlib.Core.List.{List, [], ◌∷◌, ◌++◌}
use mathlib.Core.Path.{◌≡◌, refl}
use Rattle.rules.specs.Outcome.{choose, given}
use Rattle.rules.specs.Numbers.{Name, same_name}
use Rattle.rules.specs.Tree.{Tree, Expr, Exprs, Binds, Params, Heads, identity, constant, variable, constants, array, plain, import, local, function, object, no_exprs, ◌then◌, no_binds, bind, no_params, param, param_or, no_heads, fixed, computed}
use Rattle.rules.specs.Walk.{is_among, is_empty}
use Rattle.claim_scope.specs.Scope as scope
use Rattle.claim_scope.specs.Scope.{meaning, bind_names, external_names, under}
use Rattle.claim_scope.specs.StaticCheck.{not_bound, twice_bound, errors, root_scope, errors_of}
use Rattle.claim_scope.specs.Judgement.{names_of_binds, Different, has_some, Around, Holds, HoldAll, HoldBinds, HoldParams, HoldHeads, Passes, PassesByLetter, Surrounds, SurroundAll, SurroundBinds, SurroundParams, SurroundHeads}
use Rattle.claim_scope.proofs.Judgement.{passes, no_errors}

mutual
  unfolding Holds Around

  letter : (e : Expr) (G : List Name) (inside : Bool) → Holds true G inside e → Holds false G inside e
  letter (identity p which span) G inside h = h
  letter (constant p v) G inside h = h
  letter (variable p name span) G inside h = h
  letter (constants p vs) G inside h = h
  letter (array p es) G inside h = letter_all es _ _ h
  letter (plain p m fields es) G inside h = letter_all es _ _ h
  letter (import p which span is_literal path) G inside h = h
  letter (local p bs e) G inside h = (h.0, letter_binds bs _ _ h.1, letter e _ _ h.2)
  letter (function p span ps e) G inside h = (h.0, letter_params ps _ _ h.1, letter e _ _ h.2)
  letter (object p hs bs ts vs) G inside h = (letter_heads hs _ _ h.0, (λ _. (h.1.0, letter_binds bs _ _ h.1.1)), letter_all ts _ _ h.2, letter_all vs _ _ h.3)

  letter_all : (es : Exprs) (G : List Name) (inside : Bool) → HoldAll true G inside es → HoldAll false G inside es
  letter_all no_exprs G inside h = tt
  letter_all (e then es) G inside h = (letter e _ _ h.0, letter_all es _ _ h.1)

  letter_binds : (bs : Binds) (G : List Name) (inside : Bool) → HoldBinds true G inside bs → HoldBinds false G inside bs
  letter_binds no_binds G inside h = tt
  letter_binds (bind p name span f e bs) G inside h = (letter e _ _ h.0, letter_binds bs _ _ h.1)

  letter_params : (ps : Params) (G : List Name) (inside : Bool) → HoldParams true G inside ps → HoldParams false G inside ps
  letter_params no_params G inside h = tt
  letter_params (param p name span ps) G inside h = letter_params ps _ _ h
  letter_params (param_or p name span e ps) G inside h = (letter e _ _ h.0, letter_params ps _ _ h.1)

  letter_heads : (hs : Heads) (G : List Name) (inside : Bool) → HoldHeads true G inside hs → HoldHeads false G inside hs
  letter_heads no_heads G inside h = tt
  letter_heads (fixed p head hs) G inside h = letter_heads hs _ _ h
  letter_heads (computed p head e hs) G inside h = (letter e _ _ h.0, letter_heads hs _ _ h.1)

-- there are none, or they stand around something
locals_judged : (bs : Binds) (ts vs : Exprs) (G : List Name) → (is_empty bs || has_some ts || has_some vs) ≡ true
    → ((has_some ts || has_some vs) ≡ true → Different [] (names_of_binds bs) × HoldBinds false G true bs) → Different [] (names_of_binds bs) × HoldBinds false G true bs
unfolding is_empty names_of_binds Different Holds
locals_judged no_binds ts vs G e h = (tt, tt)
locals_judged (bind p name span f value bs) ts vs G e h = h e

mutual
  unfolding Holds Around Surrounds

  strict : (e : Expr) (G : List Name) (inside : Bool) → Surrounds e → Holds false G inside e → Holds true G inside e
  strict (identity p which span) G inside s h = h
  strict (constant p v) G inside s h = h
  strict (variable p name span) G inside s h = h
  strict (constants p vs) G inside s h = h
  strict (array p es) G inside s h = strict_all es _ _ s h
  strict (plain p m fields es) G inside s h = strict_all es _ _ s h
  strict (import p which span is_literal path) G inside s h = h
  strict (local p bs e) G inside s h = (h.0, strict_binds bs _ _ s.0 h.1, strict e _ _ s.1 h.2)
  strict (function p span ps e) G inside s h = (h.0, strict_params ps _ _ s.0 h.1, strict e _ _ s.1 h.2)
  strict (object p hs bs ts vs) G inside s h =
      let locals = locals_judged bs ts vs (names_of_binds bs ++ G) s.0 h.1 in
      (strict_heads hs _ _ s.1 h.0, (locals.0, strict_binds bs _ _ s.2 locals.1), strict_all ts _ _ s.3 h.2, strict_all vs _ _ s.4 h.3)

  strict_all : (es : Exprs) (G : List Name) (inside : Bool) → SurroundAll es → HoldAll false G inside es → HoldAll true G inside es
  strict_all no_exprs G inside s h = tt
  strict_all (e then es) G inside s h = (strict e _ _ s.0 h.0, strict_all es _ _ s.1 h.1)

  strict_binds : (bs : Binds) (G : List Name) (inside : Bool) → SurroundBinds bs → HoldBinds false G inside bs → HoldBinds true G inside bs
  strict_binds no_binds G inside s h = tt
  strict_binds (bind p name span f e bs) G inside s h = (strict e _ _ s.0 h.0, strict_binds bs _ _ s.1 h.1)

  strict_params : (ps : Params) (G : List Name) (inside : Bool) → SurroundParams ps → HoldParams false G inside ps → HoldParams true G inside ps
  strict_params no_params G inside s h = tt
  strict_params (param p name span ps) G inside s h = strict_params ps _ _ s h
  strict_params (param_or p name span e ps) G inside s h = (strict e _ _ s.0 h.0, strict_params ps _ _ s.1 h.1)

  strict_heads : (hs : Heads) (G : List Name) (inside : Bool) → SurroundHeads hs → HoldHeads false G inside hs → HoldHeads true G inside hs
  strict_heads no_heads G inside s h = tt
  strict_heads (fixed p head hs) G inside s h = strict_heads hs _ _ s h
  strict_heads (computed p head e hs) G inside s h = (strict e _ _ s.0 h.0, strict_heads hs _ _ s.1 h.1)

pub no_error_passes_by_letter : (t : Tree) → errors_of t ≡ [] → PassesByLetter t
unfolding Passes PassesByLetter
no_error_passes_by_letter t e = letter t.root _ _ (passes t e)

pub passing_by_letter_has_no_error : (t : Tree) → Surrounds t.root → PassesByLetter t → errors_of t ≡ []
unfolding Passes PassesByLetter
passing_by_letter_has_no_error t s h = no_errors t (strict t.root _ _ s h)

-- The two differ: `{ local a = x }` with x unbound, and `{ local a = 1, local a = 2 }`

unfoldable pub unbound_around_nothing : Tree
unbound_around_nothing = record { externals = []; root = object 6 no_heads (bind 20 1 (record { number = 9 }) false (variable 30 99 (record { number = 8 })) no_binds) no_exprs no_exprs }

unfoldable pub twice_around_nothing : Tree
twice_around_nothing = record {
  externals = [];
  root = object 6 no_heads (bind 20 1 (record { number = 9 }) false (constant 30 1) (bind 36 1 (record { number = 8 }) false (constant 46 2) no_binds)) no_exprs no_exprs;
}

pub unbound_passes_by_letter : PassesByLetter unbound_around_nothing × (errors_of unbound_around_nothing ≡ record { code = 1; name = 99; span = record { number = 8 } } ∷ [])
unfolding PassesByLetter Holds Around has_some unbound_around_nothing errors_of errors root_scope not_bound twice_bound meaning external_names under bind_names is_among scope.in_object choose given same_name
unbound_passes_by_letter = ((tt, (λ none_there. absurd (false≢true none_there)), tt, tt), refl)

pub twice_passes_by_letter : PassesByLetter twice_around_nothing × (errors_of twice_around_nothing ≡ record { code = 2; name = 1; span = record { number = 8 } } ∷ [])
unfolding PassesByLetter Holds Around has_some twice_around_nothing errors_of errors root_scope twice_bound is_among choose same_name
twice_passes_by_letter = ((tt, (λ none_there. absurd (false≢true none_there)), tt, tt), refl)
