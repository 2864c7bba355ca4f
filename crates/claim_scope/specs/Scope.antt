-- Lexical scoping, from the nesting and the order of the records alone: what each VA and ID of a tree means. No frame, depth or slot enters. Assumes nothing.
use Rattle.std.specs.Prelude.{ℕ, zero, suc, List, [], ◌∷◌, ◌++◌}
use Rattle.std.proofs.Math.Option.{Option, none, some}
use Rattle.rules.specs.Numbers.{Name, same_name}
use Rattle.rules.specs.Outcome.{choose, given}
use Rattle.rules.specs.Tree.{Tree, Expr, Exprs, Binds, Params, Heads, identity, constant, variable, constants, array, plain, import, local, function, object}
use Rattle.rules.specs.Tree.{Binding, at_record, external, ◌then◌, no_exprs, no_binds, no_params, no_heads, bind, param, param_or, fixed, computed}

-- the names in force, the nearest first; the innermost and the outermost object
pub record Scope : Type 0 where
  pub names : List (Name × Binding)
  pub inner : Option Binding
  pub outer : Option Binding

unfoldable pub meaning : Name → List (Name × Binding) → Option Binding
meaning n [] = none
meaning n (b ∷ bs) = choose (same_name n b.0) (λ _. some b.1) (λ _. meaning n bs)

unfoldable pub identity_means : ℕ → Scope → Option Binding
identity_means zero sc = sc.inner
identity_means (suc zero) sc = sc.inner
identity_means (suc (suc k)) sc = sc.outer

-- names bound together: where two are the same the first has it
unfoldable pub bind_names : Binds → List (Name × Binding)
bind_names no_binds = []
bind_names (bind p name span f e bs) = (name, at_record p) ∷ bind_names bs

unfoldable pub param_names : Params → List (Name × Binding)
param_names no_params = []
param_names (param p name span ps) = (name, at_record p) ∷ param_names ps
param_names (param_or p name span e ps) = (name, at_record p) ∷ param_names ps

-- the externals: where two are the same the last has it
unfoldable pub external_names : ℕ → List Name → List (Name × Binding) → List (Name × Binding)
external_names k [] bs = bs
external_names k (n ∷ ns) bs = external_names (suc k) ns ((n, external k) ∷ bs)

unfoldable pub under : List (Name × Binding) → Scope → Scope
under bs sc = record { names = bs ++ sc.names; inner = sc.inner; outer = sc.outer }

unfoldable pub in_object : ℕ → Scope → Scope
in_object p sc = record { names = sc.names; inner = some (at_record p); outer = given sc.outer (λ _. some (at_record p)) (λ o. some o) }

-- the place of a VA or ID, and what it means there
abbrev pub Meant : Type 0
Meant = ℕ × Option Binding

unfoldable mutual
  pub meant : Expr → Scope → List Meant
  meant (identity p kind span) sc = (p, identity_means kind sc) ∷ []
  meant (constant p v) sc = []
  meant (variable p name span) sc = (p, meaning name sc.names) ∷ []
  meant (constants p vs) sc = []
  meant (array p es) sc = meant_all es sc
  meant (plain p m fields es) sc = meant_all es sc
  meant (import p kind span literal path) sc = []
  meant (local p bs e) sc = let sc = under (bind_names bs) sc in meant_binds bs sc ++ meant e sc
  meant (function p span ps e) sc = let sc = under (param_names ps) sc in meant_params ps sc ++ meant e sc
  meant (object p hs bs ts vs) sc =
      let within = under (bind_names bs) (in_object p sc) in
      meant_heads hs sc ++ meant_binds bs within ++ meant_all ts within ++ meant_all vs within

  pub meant_all : Exprs → Scope → List Meant
  meant_all no_exprs sc = []
  meant_all (e then es) sc = meant e sc ++ meant_all es sc

  pub meant_binds : Binds → Scope → List Meant
  meant_binds no_binds sc = []
  meant_binds (bind p name span f e bs) sc = meant e sc ++ meant_binds bs sc

  pub meant_params : Params → Scope → List Meant
  meant_params no_params sc = []
  meant_params (param p name span ps) sc = meant_params ps sc
  meant_params (param_or p name span e ps) sc = meant e sc ++ meant_params ps sc

  pub meant_heads : Heads → Scope → List Meant
  meant_heads no_heads sc = []
  meant_heads (fixed p h hs) sc = meant_heads hs sc
  meant_heads (computed p h e hs) sc = meant e sc ++ meant_heads hs sc

unfoldable pub lexical : Tree → List Meant
lexical t = meant t.root (record { names = external_names 0 t.externals []; inner = none; outer = none })
