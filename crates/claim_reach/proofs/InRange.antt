-- What a tree's range says of what its output has: names, counts, and the records of each form. Assumes nothing.
use Prim.Native.Nat.{ℕ, zero, suc, ◌+◌, ◌<◌}
use mathlib.Core.Bool.{Bool}
use mathlib.Core.List.{List, [], ◌∷◌, ◌++◌}
use mathlib.Core.Option.{Option, none, some}
use native.Mathlib.Omega.{arith}
use mathlib.Core.Path.{◌≡◌, refl, sym, subst}
use lib.ListN.{length}
use Rattle.rules.specs.Outcome.{choose}
use Rattle.rules.specs.Numbers.{TV, AR, IM, OB, FH, AC, code, bit}
use Rattle.rules.specs.Records.{Span, span_numbers, out_fields, widths, width}
use Rattle.rules.specs.Tree.{Exprs, Binds, Heads, Head, no_exprs, ◌then◌, no_heads, fixed, computed, count_exprs, count_binds, count_heads}
use Rattle.rules.specs.Encode.{head_numbers}
use Rattle.rules.specs.FirstWalk.{Child, Groups, an_object, value_groups}
use Rattle.rules.specs.Range.{Numbers, Stands, next_of, next_child, ExprsFit, HeadsFit}
use Rattle.rules.specs.Walk.{naming_numbers, head_namings}
use Rattle.rules.proofs.After.{chosen}
use Rattle.rules.proofs.Accepted.{total}
use Rattle.claim_scope.proofs.Accepted.{stands_numbers}
use Rattle.claim_reach.specs.Decode.{mark_among, out_marks}
use Rattle.claim_reach.proofs.Decoding.{OutFits, fits_fields, fits_constants}
use Rattle.claim_reach.proofs.Walking.{NamingFits, unnamed_fits}
use Rattle.claim_reach.proofs.WalkingObject.{NamingsFit}

pub constant_fits : (value : ℕ) → Numbers (value ∷ []) → OutFits (TV, value ∷ [])
unfolding mark_among out_marks code choose out_fields widths width
constant_fits value small = fits_fields TV (value ∷ []) refl refl refl small

pub array_fits : (n : ℕ) → Numbers (n ∷ []) → OutFits (AR, n ∷ [])
unfolding mark_among out_marks code choose out_fields widths width
array_fits n small = fits_fields AR (n ∷ []) refl refl refl small

pub constants_fit : (vs : List ℕ) → Numbers (length vs ∷ []) → Numbers vs → OutFits (AC, length vs ∷ vs)
unfolding Numbers
constants_fit vs few small = fits_constants vs (few.0, small)

-- the literal-flag isn't written
pub import_fits : (which : ℕ) (span : Span) (literal : Bool) (path : ℕ) → Numbers (which ∷ span_numbers span ++ (bit literal ∷ path ∷ [])) → OutFits (IM, which ∷ span_numbers span ++ (path ∷ []))
unfolding mark_among out_marks code choose out_fields widths width span_numbers Numbers
import_fits which span literal path small = fits_fields IM _ refl refl refl (small.0, (small.1.0, (small.1.1.1.0, tt)))

-- a name before its span
pub named_small : (name : ℕ) (span : Span) → Numbers (name ∷ span_numbers span) → Numbers (name ∷ [])
unfolding Numbers
named_small name span small = (small.0, tt)

-- heads

pub head_fits : (which name : ℕ) (head : Head) → Numbers (head_numbers which head) → name < 4294967296 → OutFits (FH, which ∷ name ∷ head.plus ∷ head.visibility ∷ [])
unfolding mark_among out_marks code choose out_fields widths width head_numbers span_numbers Numbers
head_fits which name head small named = fits_fields FH _ refl refl refl (small.0, (named, (small.1.1.1.0, (small.1.1.1.1.0, tt))))

pub head_named : (which : ℕ) (head : Head) → Numbers (head_numbers which head) → head.name < 4294967296
unfolding head_numbers Numbers
head_named which head small = small.1.0

pub heads_named : (hs : Heads) (levels p : ℕ) → HeadsFit hs levels p → NamingsFit (head_namings hs)
unfolding HeadsFit head_namings NamingsFit naming_numbers Numbers
heads_named no_heads levels p h = tt
heads_named (fixed place head hs) levels p h = (chosen NamingFits _ _ _ (λ _. (omega arith, (head_named 0 head h.1.numbers, tt))) (λ _. unnamed_fits), heads_named hs levels _ h.2)
heads_named (computed place head name hs) levels p h = (chosen NamingFits _ _ _ (λ _. unnamed_fits) (λ _. unnamed_fits), heads_named hs levels _ h.3)

-- An object's counts

-- the children that groups want: none, or one more than those after the next
unfoldable Counted : Option (Child × Groups) → ℕ → Type 0
Counted none n = n ≡ 0
Counted (some x) n = n ≡ suc (total x.1)

next_counted : (groups : Groups) → Counted (next_child groups) (total groups)
unfolding next_child next_of Counted
next_counted [] = refl
next_counted ((zero, c) ∷ gs) = (let same : total gs ≡ 0 + total gs = omega arith in subst (λ (n : ℕ). Counted (next_child gs) n) same (next_counted gs))
next_counted ((suc n, c) ∷ gs) = omega arith

exprs_counted : (es : Exprs) (groups : Groups) (levels p : ℕ) → ExprsFit es groups levels p → count_exprs es ≡ total groups
unfolding ExprsFit count_exprs Counted
exprs_counted no_exprs groups levels p h = sym (subst (λ (o : Option (Child × Groups)). Counted o (total groups)) h (next_counted groups))
exprs_counted (e then es) groups levels p h =
    let next : total groups ≡ suc (total h.1) = subst (λ (o : Option (Child × Groups)). Counted o (total groups)) h.2 (next_counted groups) in
    omega (arith, next, exprs_counted es h.1 levels _ h.4)

values_total : (hs : Heads) → total (value_groups hs) ≡ count_heads hs
unfolding value_groups count_heads
values_total no_heads = refl
values_total (fixed place head hs) = omega (arith, values_total hs)
values_total (computed place head name hs) = omega (arith, values_total hs)

pub object_counts : (c : Child) (levels : ℕ) (hs : Heads) (bs : Binds) (ts vs : Exprs) (left p : ℕ) → Stands c levels OB an_object (count_binds bs ∷ count_exprs ts ∷ count_heads hs ∷ []) → ExprsFit vs (value_groups hs) left p
    → Numbers (count_exprs ts ∷ count_exprs vs ∷ [])
unfolding Numbers
object_counts c levels hs bs ts vs left p h fit =
    let small = stands_numbers c levels OB an_object (count_binds bs ∷ count_exprs ts ∷ count_heads hs ∷ []) h in
    (small.1.0, (omega (arith, small.1.1.0, exprs_counted vs (value_groups hs) left p fit, values_total hs), tt))
