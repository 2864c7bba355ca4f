-- The walk over an output, from its last record back, beside the tree that it is of: what each slot reaches. Assumes nothing.
-- It is for trees without an error, of which no bind or parameter was dropped.
use Rattle.std.specs.Prelude.{ℕ, zero, suc, Bool, true, false, List, [], ◌∷◌, ◌++◌, reverse, ◌≡◌, length, get_or, drop, eqb}
use Rattle.std.proofs.Math.Option.{Option, none, some}
use Rattle.std.proofs.Math.ListN.{get_elem?}
use Rattle.rules.specs.Outcome.{choose, ok}
use Rattle.rules.specs.Numbers.{Name, Record, code}
use Rattle.rules.specs.Numbers.{Mark, TV, AR, LO, IM, FN, OB, BV, PA, FH, LS, CS, SU, BL, AC, IY, FV, SH}
use Rattle.rules.specs.Tree.{Tree, Expr, Exprs, Binds, Params, Heads, identity, constant, variable, constants, array, plain, import, local, function, object}
use Rattle.rules.specs.Tree.{Binding, at_record, external, ◌then◌, no_exprs, no_binds, no_params, no_heads, bind, param, param_or, fixed, computed}
use Rattle.rules.specs.FirstWalk.{tree_at}
use Rattle.rules.specs.Range.{Bytes}
use Rattle.rules.specs.State.{AnalysisStack}
use Rattle.rules.specs.Walk.{is_empty}
use Rattle.rules.specs.Call.{Lent, run}
use Rattle.claim_scope.specs.Scope.{Meant}
use Rattle.claim_reach.specs.Lexical.{lexical_read}
use Rattle.claim_reach.specs.Decode.{◌>>=◌, out_records}

-- A frame as an evaluator has it: what its local slots hold, in a using frame those of the nearest defining frame beneath, and what was captured
pub record View : Type 0 where
  pub slots : List Binding
  pub taken : List Binding

-- a source: 0 local or 1 capture, and a number. None where it falls outside
unfoldable pub source : View → (which number : ℕ) → Option Binding
source v zero n = get_elem? v.slots n
source v (suc zero) n = get_elem? v.taken n
source v (suc (suc k)) n = none

unfoldable pub sources : View → List ℕ → Option (List Binding)
sources v [] = some []
sources v (k ∷ []) = none
sources v (k ∷ n ∷ ns) = do
  b ← source v k n
  bs ← sources v ns
  some (b ∷ bs)

-- the records that are left, the last first
abbrev pub Trail : Type 0
Trail = List Record

-- what was reached, in the tree's order, and the records that are left
abbrev pub Reached : Type 0
Reached = Option (List Meant × Trail)

-- the next record must have this mark
unfoldable pub expect : Mark → Trail → Option (List ℕ × Trail)
expect m [] = none
expect m (r ∷ rs) = choose (eqb (code r.0) (code m)) (λ _. some (r.1, rs)) (λ _. none)

unfoldable pub check : Bool → Option (Unit {0})
check true = some tt
check false = none

-- a shape opens a frame over v: with these slots, just as many as it says
unfoldable pub open_defining : List Binding → View → Trail → Option (View × Trail)
open_defining new v rs = do
  (ns, rs) ← expect SH rs
  _ ← check (eqb (get_or ns 0 0) (length new))
  bs ← sources v (drop 2 ns)
  some (record { slots = new; taken = bs }, rs)

-- or with none, which keeps v's
unfoldable pub open_using : View → Trail → Option (View × Trail)
open_using v rs = do
  (ns, rs) ← expect SH rs
  _ ← check (eqb (get_or ns 0 0) 0)
  bs ← sources v (drop 2 ns)
  some (record { slots = v.slots; taken = bs }, rs)

-- a slot, or the bad place that stands for none
unfoldable pub slot_read : View → (place : ℕ) → Trail → Reached
slot_read v p [] = none
slot_read v p (r ∷ rs) =
    choose (eqb (code r.0) (code LS))
    (λ _. (do b ← source v 0 (get_or r.1 0 0); some ((p, some b) ∷ [], rs)))
    (λ _. choose (eqb (code r.0) (code CS))
    (λ _. (do b ← source v 1 (get_or r.1 0 0); some ((p, some b) ∷ [], rs)))
    (λ _. (do (ns, rs) ← expect BL (r ∷ rs); some ((p, none) ∷ [], rs))))

-- what the slots of a frame hold
unfoldable pub bind_slots : Binds → List Binding
bind_slots no_binds = []
bind_slots (bind p name span f e bs) = at_record p ∷ bind_slots bs

unfoldable pub param_slots : Params → List Binding
param_slots no_params = []
param_slots (param p name span ps) = at_record p ∷ param_slots ps
param_slots (param_or p name span e ps) = at_record p ∷ param_slots ps

unfoldable pub external_slots : (position : ℕ) → List Name → List Binding
external_slots k [] = []
external_slots k (n ∷ ns) = external k ∷ external_slots (suc k) ns

-- the next record is an identity function
unfoldable pub is_iy : Trail → Bool
is_iy [] = false
is_iy (r ∷ rs) = eqb (code r.0) (code IY)

-- a record that reaches nothing
unfoldable pub leaf : Mark → Trail → Reached
leaf m rs = do
  (ns, rs) ← expect m rs
  some ([], rs)

-- super reads no slot
unfoldable pub reach_identity : (place which : ℕ) → View → Trail → Reached
reach_identity p zero v rs = slot_read v p rs
reach_identity p (suc zero) v rs = leaf SU rs
reach_identity p (suc (suc k)) v rs = slot_read v p rs

unfoldable mutual
  -- what the slots of an expression's output reach, and the records before it
  pub reach : Expr → View → Trail → Reached
  reach (identity p which span) v rs = reach_identity p which v rs
  reach (constant p c) v rs = leaf TV rs
  reach (variable p name span) v rs = slot_read v p rs
  reach (constants p cs) v rs = leaf AC rs
  reach (array p es) v rs = do
    (ns, rs) ← expect AR rs
    (w, rs) ← open_using v rs
    reach_all es w rs
  reach (plain p m numbers es) v rs = do
    (ns, rs) ← expect m rs
    reach_all es v rs
  reach (import p which span literal path) v rs = choose literal (λ _. leaf IM rs) (λ _. leaf BL rs)
  reach (local p bs e) v rs = choose (is_empty bs)
      (λ _. reach e v rs)
      (λ _. do
        (ns, rs) ← expect LO rs
        (w, rs) ← open_defining (bind_slots bs) v rs
        (ms, rs) ← reach e w rs
        (ks, rs) ← reach_binds bs 0 w rs
        some (ks ++ ms, rs))
  reach (function p span ps e) v rs = choose (is_iy rs)
      (λ _. leaf IY rs)
      (λ _. do
        (ns, rs) ← expect FN rs
        (w, rs) ← open_defining (param_slots ps) v rs
        (ms, rs) ← reach e w rs
        (ks, rs) ← reach_params ps 0 w rs
        some (ks ++ ms, rs))
  -- names of fields are read outside the object
  reach (object p hs bs ts vs) v rs = do
    (ns, rs) ← expect OB rs
    (w, rs) ← open_defining (at_record p ∷ bind_slots bs) v rs
    (ms, rs) ← reach_values vs w rs
    (ks, rs) ← reach_assertions ts w rs
    (ls, rs) ← reach_binds bs 1 w rs
    (js, rs) ← reach_heads hs v rs
    some (js ++ ls ++ ks ++ ms, rs)

  -- the last first
  pub reach_all : Exprs → View → Trail → Reached
  reach_all no_exprs v rs = some ([], rs)
  reach_all (e then es) v rs = do
    (ms, rs) ← reach_all es v rs
    (ks, rs) ← reach e v rs
    some (ks ++ ms, rs)

  pub reach_assertions : Exprs → View → Trail → Reached
  reach_assertions no_exprs v rs = some ([], rs)
  reach_assertions (t then ts) v rs = do
    (w, rs) ← open_using v rs
    (ms, rs) ← reach_all ts w rs
    (ks, rs) ← reach t w rs
    some (ks ++ ms, rs)

  pub reach_values : Exprs → View → Trail → Reached
  reach_values no_exprs v rs = some ([], rs)
  reach_values (e then es) v rs = do
    (ms, rs) ← reach_values es v rs
    (ns, rs) ← expect FV rs
    (w, rs) ← open_using v rs
    (ks, rs) ← reach e w rs
    some (ks ++ ms, rs)

  -- k is the slot of the first
  pub reach_binds : Binds → (k : ℕ) → View → Trail → Reached
  reach_binds no_binds k v rs = some ([], rs)
  reach_binds (bind p name span f e bs) k v rs = do
    (ms, rs) ← reach_binds bs (suc k) v rs
    (ns, rs) ← expect BV rs
    _ ← check (eqb (get_or ns 0 0) k)
    (w, rs) ← open_using v rs
    (ks, rs) ← reach e w rs
    some (ks ++ ms, rs)

  pub reach_params : Params → (k : ℕ) → View → Trail → Reached
  reach_params no_params k v rs = some ([], rs)
  reach_params (param p name span ps) k v rs = do
    (ms, rs) ← reach_params ps (suc k) v rs
    (ns, rs) ← expect PA rs
    _ ← check (eqb (get_or ns 1 0) k)
    some (ms, rs)
  reach_params (param_or p name span e ps) k v rs = do
    (ms, rs) ← reach_params ps (suc k) v rs
    (ns, rs) ← expect PA rs
    _ ← check (eqb (get_or ns 1 0) k)
    (w, rs) ← open_using v rs
    (ks, rs) ← reach e w rs
    some (ks ++ ms, rs)

  pub reach_heads : Heads → View → Trail → Reached
  reach_heads no_heads v rs = some ([], rs)
  reach_heads (fixed p h hs) v rs = do
    (ms, rs) ← reach_heads hs v rs
    (ns, rs) ← expect FH rs
    some (ms, rs)
  reach_heads (computed p h e hs) v rs = do
    (ms, rs) ← reach_heads hs v rs
    (ns, rs) ← expect FH rs
    (ks, rs) ← reach e v rs
    some (ks ++ ms, rs)

-- what stands beneath the root
unfoldable pub no_view : View
no_view = record { slots = []; taken = [] }

-- all of these records, the last first, and nothing left over: the root's shape is last in the output
unfoldable pub reach_records : Tree → Trail → Option (List Meant)
reach_records t rs = do
  (w, rs) ← open_defining (external_slots 0 t.externals) no_view rs
  (ms, rs) ← reach t.root w rs
  _ ← check (eqb (length rs) 0)
  some ms

-- the whole output, from its bytes
unfoldable pub reaches : Tree → List ℕ → Option (List Meant)
reaches t s = do
  rs ← out_records s
  reach_records t (reverse rs)

-- Demand 3: of every tree accepted without an error the walk goes through the whole output, and what it reaches is what the tree means, place by place
unfoldable pub Reaches : Type 0
Reaches =
    (b : Lent) (t : Tree) (st : AnalysisStack) → Bytes b.tree → tree_at b.tree ≡ ok t → run b ≡ ok st → st.sink.errored ≡ false
    → reaches t st.sink.out ≡ some (lexical_read t)
