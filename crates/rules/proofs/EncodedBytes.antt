-- Every tree, in range or not, encodes to bytes. Assumes nothing.
use Prim.Native.Nat.{ℕ, ◌<◌}
use native.Mathlib.Omega.{arith}
use mathlib.Core.List.{List, [], ◌∷◌, ◌++◌}
use lib.Dec.{lit<}
use Rattle.rules.specs.Numbers.{Mark, JT, ID, TV, VA, AR, OX, UN, BI, AS, LO, ER, IM, AP, IX, FN, IF, SC, OB, BV, BF, PA, AT, FH, NA, PT, LS, CS, SU, BL, AC, IY, FV, SH, DG, code, mark_bytes, number_bytes, numbers_bytes, record_bytes}
use Rattle.rules.specs.Tree.{Expr, Exprs, Binds, Params, Heads, Tree, identity, constant, variable, constants, array, plain, import, local, function, object, no_exprs, ◌then◌, no_binds, bind, no_params, param, param_or, no_heads, fixed, computed}
use Rattle.rules.specs.Encode.{constants_bytes, expr_bytes, exprs_bytes, binds_bytes, params_bytes, heads_bytes, tree_bytes}
use Rattle.rules.specs.Range.{Bytes}

no_bytes : Bytes []
unfolding Bytes
no_bytes = tt

bytes_then : (xs ys : List ℕ) → Bytes xs → Bytes ys → Bytes (xs ++ ys)
unfolding Bytes
bytes_then [] ys h k = k
bytes_then (x ∷ xs) ys h k = (h.0, bytes_then xs ys h.1 k)

numbers_are_bytes : (ns : List ℕ) → Bytes (numbers_bytes ns)
unfolding Bytes numbers_bytes number_bytes
numbers_are_bytes [] = tt
numbers_are_bytes (n ∷ ns) = (omega arith, (omega arith, (omega arith, (omega arith, numbers_are_bytes ns))))

-- a mark is two letters
code_small : (m : Mark) → code m < 65536
unfolding code
code_small m = elim m as (λ (k : Mark). code k < 65536) [
  | JT ↦ lit< tt
  | ID ↦ lit< tt
  | TV ↦ lit< tt
  | VA ↦ lit< tt
  | AR ↦ lit< tt
  | OX ↦ lit< tt
  | UN ↦ lit< tt
  | BI ↦ lit< tt
  | AS ↦ lit< tt
  | LO ↦ lit< tt
  | ER ↦ lit< tt
  | IM ↦ lit< tt
  | AP ↦ lit< tt
  | IX ↦ lit< tt
  | FN ↦ lit< tt
  | IF ↦ lit< tt
  | SC ↦ lit< tt
  | OB ↦ lit< tt
  | BV ↦ lit< tt
  | BF ↦ lit< tt
  | PA ↦ lit< tt
  | AT ↦ lit< tt
  | FH ↦ lit< tt
  | NA ↦ lit< tt
  | PT ↦ lit< tt
  | LS ↦ lit< tt
  | CS ↦ lit< tt
  | SU ↦ lit< tt
  | BL ↦ lit< tt
  | AC ↦ lit< tt
  | IY ↦ lit< tt
  | FV ↦ lit< tt
  | SH ↦ lit< tt
  | DG ↦ lit< tt
]

record_is_bytes : (m : Mark) (ns : List ℕ) → Bytes (record_bytes m ns)
unfolding Bytes record_bytes mark_bytes
record_is_bytes m ns = (omega (arith, code_small m), (omega arith, numbers_are_bytes ns))

constants_are_bytes : (vs : List ℕ) → Bytes (constants_bytes vs)
unfolding constants_bytes
constants_are_bytes [] = no_bytes
constants_are_bytes (v ∷ vs) = bytes_then _ _ (record_is_bytes TV (v ∷ [])) (constants_are_bytes vs)

-- an encoding is records one after another
mutual
  unfolding expr_bytes

  expr_is_bytes : (e : Expr) → Bytes (expr_bytes e)
  expr_is_bytes (identity place which span) = record_is_bytes _ _
  expr_is_bytes (constant place value) = record_is_bytes _ _
  expr_is_bytes (variable place name span) = record_is_bytes _ _
  expr_is_bytes (constants place values) = bytes_then _ _ (record_is_bytes _ _) (constants_are_bytes values)
  expr_is_bytes (array place items) = bytes_then _ _ (record_is_bytes _ _) (exprs_are_bytes items)
  expr_is_bytes (plain place mark numbers children) = bytes_then _ _ (record_is_bytes _ _) (exprs_are_bytes children)
  expr_is_bytes (import place which span is_literal path) = record_is_bytes _ _
  expr_is_bytes (local place binds body) = bytes_then _ _ (bytes_then _ _ (record_is_bytes _ _) (binds_are_bytes binds)) (expr_is_bytes body)
  expr_is_bytes (function place span params body) = bytes_then _ _ (bytes_then _ _ (record_is_bytes _ _) (params_are_bytes params)) (expr_is_bytes body)
  expr_is_bytes (object place heads locals assertions values) =
      bytes_then _ _ (bytes_then _ _ (bytes_then _ _ (bytes_then _ _ (record_is_bytes _ _) (heads_are_bytes heads)) (binds_are_bytes locals)) (exprs_are_bytes assertions)) (exprs_are_bytes values)

  exprs_are_bytes : (es : Exprs) → Bytes (exprs_bytes es)
  exprs_are_bytes no_exprs = no_bytes
  exprs_are_bytes (e then es) = bytes_then _ _ (expr_is_bytes e) (exprs_are_bytes es)

  binds_are_bytes : (bs : Binds) → Bytes (binds_bytes bs)
  binds_are_bytes no_binds = no_bytes
  binds_are_bytes (bind place name span is_function value bs) = bytes_then _ _ (bytes_then _ _ (record_is_bytes _ _) (expr_is_bytes value)) (binds_are_bytes bs)

  params_are_bytes : (ps : Params) → Bytes (params_bytes ps)
  params_are_bytes no_params = no_bytes
  params_are_bytes (param place name span ps) = bytes_then _ _ (record_is_bytes _ _) (params_are_bytes ps)
  params_are_bytes (param_or place name span default ps) = bytes_then _ _ (bytes_then _ _ (record_is_bytes _ _) (expr_is_bytes default)) (params_are_bytes ps)

  heads_are_bytes : (hs : Heads) → Bytes (heads_bytes hs)
  heads_are_bytes no_heads = no_bytes
  heads_are_bytes (fixed place head hs) = bytes_then _ _ (record_is_bytes _ _) (heads_are_bytes hs)
  heads_are_bytes (computed place head name hs) = bytes_then _ _ (bytes_then _ _ (record_is_bytes _ _) (expr_is_bytes name)) (heads_are_bytes hs)

pub encoding_is_bytes : (t : Tree) → Bytes (tree_bytes t)
unfolding tree_bytes
encoding_is_bytes t = bytes_then _ _ (bytes_then _ _ (record_is_bytes _ _) (numbers_are_bytes t.externals)) (expr_is_bytes t.root)
