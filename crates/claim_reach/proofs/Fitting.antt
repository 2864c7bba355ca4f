-- Which records of the tree stand in the output with the same fields, and that the bytes tell them. Assumes nothing.
use Prim.Native.Nat.{ℕ, zero, suc}
use mathlib.Core.List.{List, [], ◌∷◌}
use mathlib.Core.Option.{some, some-injective}
use mathlib.Core.Path.{◌≡◌, refl, sym, ◌∙◌, subst}
use Rattle.rules.specs.Outcome.{choose}
use Rattle.rules.specs.Numbers.{code, Mark, OX, UN, BI, AS, ER, AP, IX, IF, SC, AT, NA, PT}
use Rattle.rules.specs.Records.{widths, width, fields, numbers_of, out_fields, no_tail}
use Rattle.rules.specs.Tree.{Heads, no_heads, fixed, computed}
use Rattle.rules.specs.FirstWalk.{Allowed, any_expression, function_only, object_only, Child, level, holder, argument, index_part, assertion, Groups, expressions, Form, an_identity, a_constant, a_variable, an_array, an_import, a_local, a_function, an_object, parts, rows, value_groups}
use Rattle.rules.specs.Range.{PlainStands, next_of, next_child}
use Rattle.rules.proofs.ReadRecords.{Every, row_found}
use Rattle.claim_reach.specs.Decode.{out_marks, mark_among}
use Rattle.claim_reach.proofs.Resolving.{none≢some}
use Rattle.claim_reach.proofs.Decoding.{OutFits, fits_fields}

-- Records that keep mark and fields

-- a mark that keeps its fields
pub record Keeps (m : Mark) : Type 0 where
  pub known : mark_among (code m) out_marks ≡ some m
  pub no_more : (out_fields m).1 ≡ no_tail
  pub as_many : numbers_of m ≡ widths (out_fields m).0

kept : (m : Mark) → mark_among (code m) out_marks ≡ some m → (out_fields m).1 ≡ no_tail → numbers_of m ≡ widths (out_fields m).0 → Keeps m
kept m known no_more as_many = record { known = known; no_more = no_more; as_many = as_many }

unfoldable pub ChildKeeps : Child → Type 0
ChildKeeps (level a) = Unit {0}
ChildKeeps (holder m n) = Keeps m

unfoldable pub GroupsKeep : Groups → Type 0
GroupsKeep [] = Unit {0}
GroupsKeep (g ∷ gs) = ChildKeeps g.1 × GroupsKeep gs

-- a row of the table of expressions; only one with parts keeps its record
RowKeeps : Mark × Form → Type 0
RowKeeps (m, an_identity) = Unit {0}
RowKeeps (m, a_constant) = Unit {0}
RowKeeps (m, a_variable) = Unit {0}
RowKeeps (m, an_array) = Unit {0}
RowKeeps (m, an_import) = Unit {0}
RowKeeps (m, a_local) = Unit {0}
RowKeeps (m, a_function) = Unit {0}
RowKeeps (m, an_object) = Unit {0}
RowKeeps (m, parts form) = Keeps m × ((ns : List ℕ) → GroupsKeep (form ns))

rows_keep : (a : Allowed) → Every RowKeeps (rows a)
unfolding RowKeeps rows ChildKeeps GroupsKeep expressions argument index_part code choose mark_among out_marks out_fields widths width numbers_of fields
rows_keep any_expression =
    (tt, (tt, (tt, (tt, ((kept OX refl refl refl, λ ns. (tt, (tt, tt))), ((kept UN refl refl refl, λ ns. (tt, tt)), ((kept BI refl refl refl, λ ns. (tt, tt)), ((kept AS refl refl refl, λ ns. (tt, tt)), (tt, ((kept ER refl refl refl, λ ns. (tt, tt)), (tt, ((kept AP refl refl refl, λ ns. (tt, (kept NA refl refl refl, tt))), ((kept IX refl refl refl, λ ns. (tt, (kept PT refl refl refl, tt))), (tt, ((kept IF refl refl refl, λ ns. (tt, tt)), ((kept SC refl refl refl, λ ns. (tt, tt)), (tt, tt)))))))))))))))))
rows_keep function_only = (tt, tt)
rows_keep object_only = (tt, tt)

-- the children that keeping groups want keep, and what is wanted after them does
pub next_keeps : (groups : Groups) (c : Child) (behind : Groups) → next_child groups ≡ some (c, behind) → GroupsKeep groups → ChildKeeps c × GroupsKeep behind
unfolding next_child next_of GroupsKeep
next_keeps [] c behind e h = absurd (none≢some e)
next_keeps ((zero, d) ∷ gs) c behind e h = next_keeps gs c behind e h.1
next_keeps ((suc n, d) ∷ gs) c behind e h = subst (λ (x : Child × Groups). ChildKeeps x.0 × GroupsKeep x.1) (some-injective _ _ e) (h.0, h)

pub record Plain (m : Mark) (ns : List ℕ) (groups : Groups) : Type 0 where
  pub fits : OutFits (m, ns)
  pub below : GroupsKeep groups

pub plain_stands : (c : Child) (levels : ℕ) (m : Mark) (ns : List ℕ) (groups : Groups) → PlainStands c levels m ns groups → ChildKeeps c → Plain m ns groups
unfolding PlainStands ChildKeeps RowKeeps GroupsKeep expressions
plain_stands (level a) levels m ns groups h k =
    let row : Keeps m × ((ns : List ℕ) → GroupsKeep (h.1 ns)) = (row_found RowKeeps _ (rows a) (m, parts h.1) (rows_keep a) h.2.known).1 in
    record { fits = fits_fields m ns row.0.known row.0.no_more (h.2.counted ∙ row.0.as_many) h.2.numbers; below = subst GroupsKeep (sym h.3) (row.1 ns) }
plain_stands (holder mark n) levels m ns groups h k =
    subst (λ (m : Mark). Plain m ns groups) (sym h.0)
    (record { fits = fits_fields mark ns k.known k.no_more (h.1.counted ∙ k.as_many) h.1.numbers; below = subst GroupsKeep (sym h.2) (tt, tt) })

-- the groups of an array, of assertions and of values

pub expressions_keep : (n : ℕ) → GroupsKeep (expressions n)
unfolding expressions GroupsKeep ChildKeeps
expressions_keep n = (tt, tt)

pub assertions_keep : (n : ℕ) → GroupsKeep ((n, assertion) ∷ [])
unfolding assertion GroupsKeep ChildKeeps code choose mark_among out_marks out_fields widths width numbers_of fields
assertions_keep n = (kept AT refl refl refl, tt)

pub values_keep : (hs : Heads) → GroupsKeep (value_groups hs)
unfolding value_groups GroupsKeep ChildKeeps
values_keep no_heads = tt
values_keep (fixed place head hs) = (tt, values_keep hs)
values_keep (computed place head name hs) = (tt, values_keep hs)
