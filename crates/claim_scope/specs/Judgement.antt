-- The Jsonnet specification's static check as a judgement on trees, row by row of its table: an expression holds where these names are in scope, inside an object or not. Assumes nothing.
-- What it doesn't judge: equal fixed field names and equal named arguments, which are no errors in document 01.
-- What it judges besides: an import's path must be a literal, which is a rule of the grammar there.
-- `$` is judged as `self` is: the outermost object binds it, so that it holds exactly inside an object.
-- By the letter an object's locals stand around each of its values and assertions, so that locals around nothing aren't judged; document 01 judges these too. `lone` says whether they are.
use Rattle.std.specs.Prelude.{Bool, true, false, ◌||◌, List, [], ◌∷◌, ◌++◌, ◌≡◌}
use Rattle.rules.specs.Numbers.{Name}
use Rattle.rules.specs.Tree.{Tree, Expr, Exprs, Binds, Params, Heads, identity, constant, variable, constants, array, plain, import, local, function, object}
use Rattle.rules.specs.Tree.{no_exprs, ◌then◌, no_binds, bind, no_params, param, param_or, no_heads, fixed, computed}
use Rattle.rules.specs.Walk.{is_among, is_empty}

unfoldable pub names_of_binds : Binds → List Name
names_of_binds no_binds = []
names_of_binds (bind p name span f e bs) = name ∷ names_of_binds bs

unfoldable pub names_of_params : Params → List Name
names_of_params no_params = []
names_of_params (param p name span ps) = name ∷ names_of_params ps
names_of_params (param_or p name span e ps) = name ∷ names_of_params ps

-- all different: none is among those before it
unfoldable pub Different : (before : List Name) → List Name → Type 0
Different before [] = Unit {0}
Different before (n ∷ ns) = (is_among n before ≡ false) × Different (n ∷ before) ns

unfoldable pub has_some : Exprs → Bool
has_some no_exprs = false
has_some (e then es) = true

-- an object's locals stand around each of its assertions and values: they are judged where there is one, and where `lone` says so
unfoldable pub Around : (lone : Bool) → (assertions values : Exprs) → (locals : Type 0) → Type 0
Around true ts vs locals = locals
Around false ts vs locals = (has_some ts || has_some vs) ≡ true → locals

unfoldable mutual
  pub Holds : (lone : Bool) → List Name → (inside : Bool) → Expr → Type 0
  Holds lone G inside (identity p which span) = inside ≡ true
  Holds lone G inside (constant p v) = Unit {0}
  Holds lone G inside (variable p name span) = is_among name G ≡ true
  Holds lone G inside (constants p vs) = Unit {0}
  Holds lone G inside (array p es) = HoldAll lone G inside es
  Holds lone G inside (plain p m fields es) = HoldAll lone G inside es
  Holds lone G inside (import p which span is_literal path) = is_literal ≡ true
  Holds lone G inside (local p bs e) =
      Different [] (names_of_binds bs) × HoldBinds lone (names_of_binds bs ++ G) inside bs × Holds lone (names_of_binds bs ++ G) inside e
  Holds lone G inside (function p span ps e) =
      Different [] (names_of_params ps) × HoldParams lone (names_of_params ps ++ G) inside ps × Holds lone (names_of_params ps ++ G) inside e
  Holds lone G inside (object p hs bs ts vs) =
      HoldHeads lone G inside hs
      × Around lone ts vs (Different [] (names_of_binds bs) × HoldBinds lone (names_of_binds bs ++ G) true bs)
      × HoldAll lone (names_of_binds bs ++ G) true ts × HoldAll lone (names_of_binds bs ++ G) true vs

  pub HoldAll : (lone : Bool) → List Name → (inside : Bool) → Exprs → Type 0
  HoldAll lone G inside no_exprs = Unit {0}
  HoldAll lone G inside (e then es) = Holds lone G inside e × HoldAll lone G inside es

  pub HoldBinds : (lone : Bool) → List Name → (inside : Bool) → Binds → Type 0
  HoldBinds lone G inside no_binds = Unit {0}
  HoldBinds lone G inside (bind p name span f e bs) = Holds lone G inside e × HoldBinds lone G inside bs

  pub HoldParams : (lone : Bool) → List Name → (inside : Bool) → Params → Type 0
  HoldParams lone G inside no_params = Unit {0}
  HoldParams lone G inside (param p name span ps) = HoldParams lone G inside ps
  HoldParams lone G inside (param_or p name span e ps) = Holds lone G inside e × HoldParams lone G inside ps

  pub HoldHeads : (lone : Bool) → List Name → (inside : Bool) → Heads → Type 0
  HoldHeads lone G inside no_heads = Unit {0}
  HoldHeads lone G inside (fixed p h hs) = HoldHeads lone G inside hs
  HoldHeads lone G inside (computed p h e hs) = Holds lone G inside e × HoldHeads lone G inside hs

-- "the externals are in G from the start"; by the letter, and as document 01 has it

unfoldable pub PassesByLetter : Tree → Type 0
PassesByLetter t = Holds false t.externals false t.root

unfoldable pub Passes : Tree → Type 0
Passes t = Holds true t.externals false t.root

-- no locals stand around nothing in it
unfoldable mutual
  pub Surrounds : Expr → Type 0
  Surrounds (identity p which span) = Unit {0}
  Surrounds (constant p v) = Unit {0}
  Surrounds (variable p name span) = Unit {0}
  Surrounds (constants p vs) = Unit {0}
  Surrounds (array p es) = SurroundAll es
  Surrounds (plain p m fields es) = SurroundAll es
  Surrounds (import p which span is_literal path) = Unit {0}
  Surrounds (local p bs e) = SurroundBinds bs × Surrounds e
  Surrounds (function p span ps e) = SurroundParams ps × Surrounds e
  Surrounds (object p hs bs ts vs) =
      ((is_empty bs || has_some ts || has_some vs) ≡ true) × SurroundHeads hs × SurroundBinds bs × SurroundAll ts × SurroundAll vs

  pub SurroundAll : Exprs → Type 0
  SurroundAll no_exprs = Unit {0}
  SurroundAll (e then es) = Surrounds e × SurroundAll es

  pub SurroundBinds : Binds → Type 0
  SurroundBinds no_binds = Unit {0}
  SurroundBinds (bind p name span f e bs) = Surrounds e × SurroundBinds bs

  pub SurroundParams : Params → Type 0
  SurroundParams no_params = Unit {0}
  SurroundParams (param p name span ps) = SurroundParams ps
  SurroundParams (param_or p name span e ps) = Surrounds e × SurroundParams ps

  pub SurroundHeads : Heads → Type 0
  SurroundHeads no_heads = Unit {0}
  SurroundHeads (fixed p h hs) = SurroundHeads hs
  SurroundHeads (computed p h e hs) = Surrounds e × SurroundHeads hs
