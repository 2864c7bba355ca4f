-- The walk through an output, form by form. Assumes nothing.
use Prim.Native.Nat.{ℕ, suc, ◌+◌, ◌<◌}
use mathlib.Core.Bool.{Bool, true, false}
use mathlib.Core.List.{List, [], ◌∷◌, ◌++◌}
use mathlib.Core.Option.{Option, none, some}
use native.Mathlib.Omega.{arith}
use mathlib.Core.Path.{◌≡◌, refl, ap, ◌∙◌, subst}
use lib.ListN.{length, get_or}
use lib.Dec.{eqb}
use borrow.Author.Tests.{eq-eqb}
use Rattle.rules.specs.Outcome.{choose}
use Rattle.rules.specs.Numbers.{Name, BV, code}
use Rattle.rules.specs.Records.{Span, out_fields, widths, width}
use Rattle.rules.specs.Range.{Numbers}
use Rattle.rules.specs.Depths.{no_dependence}
use Rattle.rules.specs.Tree.{Expr, Binds, no_binds, bind}
use Rattle.rules.specs.State.{Limits, AnalysisStack, with_frames, with_taint}
use Rattle.rules.specs.Writing.{open_frame}
use Rattle.rules.specs.Walk.{Place, Naming, unnamed, naming_numbers, bind_naming, analyze, analyze_binds}
use Rattle.rules.specs.Frames.{new_frame}
use Rattle.rules.proofs.After.{After, fine, after_weaken, after_bind, after_need}
use Rattle.claim_scope.specs.Scope.{Scope, Meant}
use Rattle.claim_reach.specs.Lexical.{read, read_binds}
use Rattle.claim_reach.specs.Decode.{◌>>=◌, mark_among, out_marks}
use Rattle.claim_reach.specs.Reach.{View, Trail, Reached, expect, check, open_using, bind_slots, reach, reach_binds}
use Rattle.claim_reach.proofs.Decoding.{OutFits, fits_fields}
use Rattle.claim_reach.proofs.Promise.{Key, Back, Step, both_back}
use Rattle.claim_reach.proofs.Frames.{using_closes}
use Rattle.claim_reach.proofs.Ending.{step_from}
use Rattle.claim_reach.proofs.Specs.{Specs, specified, spec_kept, specs_none, specs_then, specs_by}

-- what was reached before these
abbrev pub joined : List Meant → List Meant × Trail → Reached
joined ms w = some (w.0 ++ ms, w.1)

-- how the walk over one spec stands among others
pub spec_shape : (o : Option (List ℕ × Trail)) (c : List ℕ → Option (Unit {0})) (opens : Trail → Option (View × Trail)) (r : View → Trail → Reached) (g : List Meant × Trail → Reached)
    → (o >>= λ y. c y.0 >>= λ _. opens y.1 >>= λ z. r z.0 z.1 >>= g) ≡ ((o >>= λ y. c y.0 >>= λ _. opens y.1 >>= λ z. r z.0 z.1) >>= g)
unfolding ◌>>=◌
spec_shape none c opens r g = refl
spec_shape (some y) c opens r g = by (c y.0) (opens y.1)
  where
    by : (t : Option (Unit {0})) (z : Option (View × Trail))
        → (t >>= λ _. z >>= λ z. r z.0 z.1 >>= g) ≡ ((t >>= λ _. z >>= λ z. r z.0 z.1) >>= g)
    by none z = refl
    by (some u) none = refl
    by (some u) (some z) = refl

-- what the value depends on is nothing to the walk
pub step_taint : {ks : List Key} {h : Place} {sc : Scope} {walk : Back} {ms : List Meant} {b : AnalysisStack} (st : AnalysisStack) → Step ks h sc walk ms (with_taint no_dependence st) b → Step ks h sc walk ms st b
unfolding with_taint
step_taint st s = step_from st (with_taint no_dependence st) (record { same_keys = refl; same_frames = refl; same_out = refl; same_errored = refl }) s

-- the name that a function's record would have is in range
abbrev pub NamingFits : Naming → Type 0
NamingFits naming = Numbers (naming_numbers naming)

pub unnamed_fits : NamingFits unnamed
unfolding naming_numbers Numbers
unnamed_fits = (omega arith, (omega arith, tt))

bind_fits : (f : Bool) (name : Name) (span : Span) → Numbers (name ∷ []) → NamingFits (bind_naming f name span)
unfolding bind_naming naming_numbers Numbers
bind_fits true name span named = (omega arith, named)
bind_fits false name span named = unnamed_fits

module _ (L : Limits) where
  -- the promise for an expression, and for binds
  abbrev pub Walks : Expr → Type 0
  Walks e = (naming : Naming) → NamingFits naming → (ks : List Key) (h : Place) (sc : Scope) (st : AnalysisStack) → After (Step ks h sc (λ v rs. reach e v rs) (read e sc) st) (analyze L e naming h st)

  abbrev pub WalksBinds : Binds → Type 0
  WalksBinds bs = (base kept : ℕ) (ks : List Key) (h : Place) (sc : Scope) (st : AnalysisStack)
      → After (Specs ks h sc base kept (bind_slots bs) (λ v rs. reach_binds bs (base + kept) v rs) (read_binds bs sc) st) (analyze_binds L bs base kept h st)

  slot_fits : (n : ℕ) → n < 65535 → OutFits (BV, n ∷ [])
  unfolding mark_among out_marks code choose out_fields widths width Numbers
  slot_fits n small = fits_fields BV (n ∷ []) refl refl refl (omega arith, tt)

  slot_passes : (k : ℕ) → check (eqb (get_or (k ∷ []) 0 0) k) ≡ some tt
  unfolding check
  slot_passes k = rw (eq-eqb k k refl) refl

  pub bind_walks : (p : ℕ) (name : Name) (span : Span) (f : Bool) (e : Expr) (bs : Binds) → Numbers (name ∷ []) → Walks e → WalksBinds bs → WalksBinds (bind p name span f e bs)
  unfolding analyze_binds open_frame bind_slots reach_binds read_binds ◌>>=◌
  bind_walks p name span f e bs named value rest base kept ks h sc st =
      after_bind {P = λ (b : AnalysisStack). b ≡ with_frames (new_frame false (length (with_taint no_dependence st).locals) 0 ∷ (with_taint no_dependence st).frames) (with_taint no_dependence st)} _ (after_need _ 7 p _ λ _. fine refl) λ a is.
      after_bind _ (value (bind_naming f name span) (bind_fits f name span named) ks h sc a) λ b walked.
      after_bind _ (using_closes L p (with_taint no_dependence st) b (subst (λ (a : AnalysisStack). Step ks h sc (λ v rs. reach e v rs) (read e sc) a b) is walked)) λ c closed.
      after_bind _ (specified L p base kept _ _ BV (λ slot. slot ∷ []) c) λ x done.
      after_weaken (rest base x.0 ks h sc x.1) λ y others.
      specs_by (λ v rs. reach_binds (bind p name span f e bs) (base + kept) v rs) (λ v rs. shape v rs)
      (specs_then (λ (n : ℕ) (v : View) (rs : Trail). reach_binds bs (base + n) v rs) p base kept st x y
      (spec_kept p base kept BV ((base + kept) ∷ []) (λ ns. check (eqb (get_or ns 0 0) (base + kept))) st c x (slot_fits (base + kept)) (slot_passes (base + kept)) (step_taint st closed) done) others)
    where
      next : suc (base + kept) ≡ base + suc kept
      next = omega arith

      behind : (v : View) (o : Reached)
          → (o >>= λ x. expect BV x.1 >>= λ y. check (eqb (get_or y.0 0 0) (base + kept)) >>= λ _. open_using v y.1 >>= λ z. reach e z.0 z.1 >>= joined x.0)
          ≡ (o >>= λ x. (expect BV x.1 >>= λ y. check (eqb (get_or y.0 0 0) (base + kept)) >>= λ _. open_using v y.1 >>= λ z. reach e z.0 z.1) >>= joined x.0)
      behind v none = refl
      behind v (some x) = spec_shape (expect BV x.1) (λ ns. check (eqb (get_or ns 0 0) (base + kept))) (open_using v) (reach e) (joined x.0)

      shape : (v : View) (rs : Trail)
          → reach_binds (bind p name span f e bs) (base + kept) v rs
          ≡ both_back (λ v rs. expect BV rs >>= λ x. check (eqb (get_or x.0 0 0) (base + kept)) >>= λ _. open_using v x.1 >>= λ x. reach e x.0 x.1) (λ v rs. reach_binds bs (base + suc kept) v rs) v rs
      shape v rs = ap (λ (k : ℕ). reach_binds bs k v rs >>= λ x. expect BV x.1 >>= λ y. check (eqb (get_or y.0 0 0) (base + kept)) >>= λ _. open_using v y.1 >>= λ z. reach e z.0 z.1 >>= joined x.0) next
          ∙ behind v (reach_binds bs (base + suc kept) v rs)

  pub no_binds_walk : WalksBinds no_binds
  unfolding analyze_binds bind_slots reach_binds read_binds
  no_binds_walk base kept ks h sc st = fine (specs_none ks h sc base kept st)
