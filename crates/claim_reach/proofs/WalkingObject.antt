-- The walk through the values and the heads of an object. Assumes nothing.
use Prim.Native.Nat.{ℕ}
use mathlib.Core.Bool.{false}
use mathlib.Core.List.{List, [], ◌∷◌, tail}
use mathlib.Core.Option.{Option, none, some}
use mathlib.Core.Path.{◌≡◌, refl, subst}
use lib.ListN.{length}
use Rattle.rules.specs.Outcome.{choose}
use Rattle.rules.specs.Numbers.{FV, FH, code}
use Rattle.rules.specs.Records.{out_fields, widths, width}
use Rattle.rules.specs.Range.{Numbers}
use Rattle.rules.specs.Tree.{Expr, Exprs, Heads, Head, no_exprs, ◌then◌, no_heads, fixed, computed, place_of}
use Rattle.rules.specs.State.{Limits, AnalysisStack, with_frames}
use Rattle.rules.specs.Frames.{new_frame}
use Rattle.rules.specs.Writing.{open_frame}
use Rattle.rules.specs.Walk.{Place, Naming, unnamed, first_naming, analyze_values, analyze_heads}
use Rattle.rules.proofs.After.{After, fine, after_weaken, after_bind, after_need}
use Rattle.claim_scope.specs.Scope.{Scope}
use Rattle.claim_reach.specs.Lexical.{read, read_all, read_heads}
use Rattle.claim_reach.specs.Decode.{◌>>=◌, mark_among, out_marks}
use Rattle.claim_reach.specs.Reach.{View, Trail, Reached, expect, open_using, reach, reach_values, reach_heads}
use Rattle.claim_reach.proofs.Decoding.{OutFits, fits_fields}
use Rattle.claim_reach.proofs.Promise.{Key, Step, both_back, step_none, step_then, step_by}
use Rattle.claim_reach.proofs.Frames.{using_closes}
use Rattle.claim_reach.proofs.Names.{step_write}
use Rattle.claim_reach.proofs.Walking.{NamingFits, unnamed_fits, Walks, joined}

-- how the walk over one value, or one head, stands among others

value_shape : (o : Reached) (v : View) (r : View → Trail → Reached)
    → (o >>= λ x. expect FV x.1 >>= λ y. open_using v y.1 >>= λ z. r z.0 z.1 >>= joined x.0)
    ≡ (o >>= λ x. (expect FV x.1 >>= λ y. open_using v y.1 >>= λ z. r z.0 z.1) >>= joined x.0)
unfolding ◌>>=◌
value_shape none v r = refl
value_shape (some x) v r = by (expect FV x.1)
  where
    inner : (z : Option (View × Trail)) → (z >>= λ z. r z.0 z.1 >>= joined x.0) ≡ ((z >>= λ z. r z.0 z.1) >>= joined x.0)
    inner none = refl
    inner (some z) = refl

    by : (o : Option (List ℕ × Trail)) → (o >>= λ y. open_using v y.1 >>= λ z. r z.0 z.1 >>= joined x.0) ≡ ((o >>= λ y. open_using v y.1 >>= λ z. r z.0 z.1) >>= joined x.0)
    by none = refl
    by (some y) = inner (open_using v y.1)

head_shape : (o : Reached) (r : Trail → Reached)
    → (o >>= λ x. expect FH x.1 >>= λ y. r y.1 >>= joined x.0) ≡ (o >>= λ x. (expect FH x.1 >>= λ y. r y.1) >>= joined x.0)
unfolding ◌>>=◌
head_shape none r = refl
head_shape (some x) r = by (expect FH x.1)
  where
    by : (o : Option (List ℕ × Trail)) → (o >>= λ y. r y.1 >>= joined x.0) ≡ ((o >>= λ y. r y.1) >>= joined x.0)
    by none = refl
    by (some y) = refl

abbrev nothing : Trail → Reached
nothing rs = some ([], rs)

-- Names of methods

unfoldable pub NamingsFit : List Naming → Type 0
NamingsFit [] = Unit {0}
NamingsFit (naming ∷ namings) = NamingFits naming × NamingsFit namings

first_fits : (namings : List Naming) → NamingsFit namings → NamingFits (first_naming namings)
unfolding NamingsFit first_naming
first_fits [] named = unnamed_fits
first_fits (naming ∷ namings) named = named.0

rest_fit : (namings : List Naming) → NamingsFit namings → NamingsFit (tail namings)
unfolding NamingsFit
rest_fit [] named = tt
rest_fit (naming ∷ namings) named = named.1

module _ (L : Limits) where
  abbrev pub WalksValues : Exprs → Type 0
  WalksValues es = (namings : List Naming) → NamingsFit namings → (ks : List Key) (h : Place) (sc : Scope) (st : AnalysisStack) → After (Step ks h sc (λ v rs. reach_values es v rs) (read_all es sc) st) (analyze_values L es namings h st)

  abbrev pub WalksHeads : Heads → Type 0
  WalksHeads hs = (ks : List Key) (h : Place) (sc : Scope) (st : AnalysisStack) → After (Step ks h sc (λ v rs. reach_heads hs v rs) (read_heads hs sc) st) (analyze_heads L hs h st)

  value_fits : OutFits (FV, [])
  unfolding mark_among out_marks code choose out_fields widths width Numbers
  value_fits = fits_fields FV [] refl refl refl tt

  pub no_values_walk : WalksValues no_exprs
  unfolding analyze_values reach_values read_all
  no_values_walk namings named ks h sc st = fine (step_none ks h sc st)

  pub values_walk : (e : Expr) (es : Exprs) → Walks L e → WalksValues es → WalksValues (e then es)
  unfolding analyze_values reach_values read_all open_frame
  values_walk e es one all namings named ks h sc st =
      after_bind {P = λ (b : AnalysisStack). b ≡ with_frames (new_frame false (length st.locals) 0 ∷ st.frames) st} _ (after_need _ 7 (place_of e) _ λ _. fine refl) λ a is.
      after_bind _ (one (first_naming namings) (first_fits namings named) ks h sc a) λ b walked.
      after_bind _ (using_closes L (place_of e) st b (subst (λ (a : AnalysisStack). Step ks h sc (λ v rs. reach e v rs) (read e sc) a b) is walked)) λ c closed.
      after_bind _ (step_write L (place_of e) FV [] c value_fits closed) λ d first.
      after_weaken (all (tail namings) (rest_fit namings named) ks h sc d) λ f second.
      step_by (λ v rs. reach_values (e then es) v rs) (λ v rs. value_shape (reach_values es v rs) v (reach e)) refl (step_then first second)

  pub no_heads_walk : WalksHeads no_heads
  unfolding analyze_heads reach_heads read_heads
  no_heads_walk ks h sc st = fine (step_none ks h sc st)

  pub fixed_walks : (p : ℕ) (head : Head) (hs : Heads) → OutFits (FH, 0 ∷ head.name ∷ head.plus ∷ head.visibility ∷ []) → WalksHeads hs → WalksHeads (fixed p head hs)
  unfolding analyze_heads reach_heads read_heads ◌>>=◌
  fixed_walks p head hs fits all ks h sc st =
      after_bind _ (step_write L p FH _ st fits (step_none ks h sc st)) λ b first.
      after_weaken (all ks h sc b) λ c second. step_by (λ v rs. reach_heads (fixed p head hs) v rs) (λ v rs. shape v rs) refl (step_then first second)
    where
      shape : (v : View) (rs : Trail) → reach_heads (fixed p head hs) v rs ≡ both_back (λ v rs. expect FH rs >>= λ x. nothing x.1) (λ v rs. reach_heads hs v rs) v rs
      shape v rs = head_shape (reach_heads hs v rs) nothing

  pub computed_walks : (p : ℕ) (head : Head) (e : Expr) (hs : Heads) → OutFits (FH, 1 ∷ 0 ∷ head.plus ∷ head.visibility ∷ []) → Walks L e → WalksHeads hs → WalksHeads (computed p head e hs)
  unfolding analyze_heads reach_heads read_heads
  computed_walks p head e hs fits one all ks h sc st =
      after_bind _ (one unnamed unnamed_fits ks h sc st) λ a walked.
      after_bind _ (step_write L p FH _ a fits walked) λ b first.
      after_weaken (all ks h sc b) λ c second. step_by (λ v rs. reach_heads (computed p head e hs) v rs) (λ v rs. head_shape (reach_heads hs v rs) (reach e v)) refl (step_then first second)
