-- A tree as the bytes that document 01's table gives: "Children follow their record in this order". Assumes nothing.
use Rattle.std.specs.Prelude.{ℕ, Bool, true, false, List, [], ◌∷◌, ◌++◌, length}
use Rattle.rules.specs.Numbers.{Mark, JT, ID, TV, VA, AR, LO, IM, FN, OB, BV, BF, PA, FH, bit, record_bytes, numbers_bytes}
use Rattle.rules.specs.Records.{span_numbers}
use Rattle.rules.specs.Tree.{Expr, Exprs, Binds, Params, Heads, Head, Tree, count_exprs, count_binds, count_params, count_heads}
use Rattle.rules.specs.Tree.{identity, constant, variable, constants, array, plain, import, local, function, object}
use Rattle.rules.specs.Tree.{no_exprs, ◌then◌, no_binds, bind, no_params, param, param_or, no_heads, fixed, computed}

-- "Bind: `BV` name span, value; or `BF` name span, then an `FN`"
unfoldable pub bind_mark : Bool → Mark
bind_mark true = BF
bind_mark false = BV

-- "`FH` kind (0 fixed, 1 computed) name span plus-flag visibility (0 to 2) method-flag"
unfoldable pub head_numbers : ℕ → Head → List ℕ
head_numbers which h = which ∷ h.name ∷ span_numbers h.span ++ (h.plus ∷ h.visibility ∷ bit h.is_method ∷ [])

unfoldable pub constants_bytes : List ℕ → List ℕ
constants_bytes [] = []
constants_bytes (v ∷ vs) = record_bytes TV (v ∷ []) ++ constants_bytes vs

unfoldable mutual
  pub expr_bytes : Expr → List ℕ
  expr_bytes (identity place which span) = record_bytes ID (which ∷ span_numbers span)
  expr_bytes (constant place value) = record_bytes TV (value ∷ [])
  expr_bytes (variable place name span) = record_bytes VA (name ∷ span_numbers span)
  expr_bytes (constants place values) = record_bytes AR (length values ∷ []) ++ constants_bytes values
  expr_bytes (array place items) = record_bytes AR (count_exprs items ∷ []) ++ exprs_bytes items
  expr_bytes (plain place mark numbers children) = record_bytes mark numbers ++ exprs_bytes children
  expr_bytes (import place which span is_literal path) = record_bytes IM (which ∷ span_numbers span ++ (bit is_literal ∷ path ∷ []))
  expr_bytes (local place binds body) = record_bytes LO (count_binds binds ∷ []) ++ binds_bytes binds ++ expr_bytes body
  expr_bytes (function place span params body) = record_bytes FN (span_numbers span ++ (count_params params ∷ [])) ++ params_bytes params ++ expr_bytes body
  expr_bytes (object place heads locals assertions values) =
      record_bytes OB (count_binds locals ∷ count_exprs assertions ∷ count_heads heads ∷ [])
      ++ heads_bytes heads ++ binds_bytes locals ++ exprs_bytes assertions ++ exprs_bytes values

  pub exprs_bytes : Exprs → List ℕ
  exprs_bytes no_exprs = []
  exprs_bytes (e then es) = expr_bytes e ++ exprs_bytes es

  pub binds_bytes : Binds → List ℕ
  binds_bytes no_binds = []
  binds_bytes (bind place name span is_function value bs) = record_bytes (bind_mark is_function) (name ∷ span_numbers span) ++ expr_bytes value ++ binds_bytes bs

  -- "Parameter: `PA` name span default-flag, default"
  pub params_bytes : Params → List ℕ
  params_bytes no_params = []
  params_bytes (param place name span ps) = record_bytes PA (name ∷ span_numbers span ++ (0 ∷ [])) ++ params_bytes ps
  params_bytes (param_or place name span default ps) = record_bytes PA (name ∷ span_numbers span ++ (1 ∷ [])) ++ expr_bytes default ++ params_bytes ps

  pub heads_bytes : Heads → List ℕ
  heads_bytes no_heads = []
  heads_bytes (fixed place head hs) = record_bytes FH (head_numbers 0 head) ++ heads_bytes hs
  heads_bytes (computed place head name hs) = record_bytes FH (head_numbers 1 head) ++ expr_bytes name ++ heads_bytes hs

-- "A tree is `JT` E, E external names, one expression"
unfoldable pub tree_bytes : Tree → List ℕ
tree_bytes t = record_bytes JT (length t.externals ∷ []) ++ numbers_bytes t.externals ++ expr_bytes t.root
