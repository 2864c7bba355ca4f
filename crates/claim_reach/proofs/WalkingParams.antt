-- The walk through the output of parameters. Assumes nothing.
use Prim.Native.Nat.{ℕ, suc, ◌+◌, ◌<◌}
use mathlib.Core.Bool.{false}
use mathlib.Core.List.{List, [], ◌∷◌}
use mathlib.Core.Option.{Option, none, some}
use native.Mathlib.Omega.{arith}
use mathlib.Core.Path.{◌≡◌, refl, ap, ◌∙◌, subst}
use lib.ListN.{length, get_or}
use lib.Dec.{eqb}
use borrow.Author.Tests.{eq-eqb}
use Rattle.rules.specs.Outcome.{choose}
use Rattle.rules.specs.Numbers.{Name, PA, code}
use Rattle.rules.specs.Records.{Span, out_fields, widths, width}
use Rattle.rules.specs.Range.{Numbers}
use Rattle.rules.specs.Depths.{no_dependence}
use Rattle.rules.specs.Tree.{Expr, Params, no_params, param, param_or}
use Rattle.rules.specs.State.{Limits, AnalysisStack, with_frames, with_taint}
use Rattle.rules.specs.Writing.{open_frame}
use Rattle.rules.specs.Walk.{Place, unnamed, analyze_params}
use Rattle.rules.specs.Frames.{new_frame}
use Rattle.rules.proofs.After.{After, fine, after_weaken, after_bind, after_need}
use Rattle.claim_scope.specs.Scope.{Scope, Meant}
use Rattle.claim_reach.specs.Lexical.{read, read_params}
use Rattle.claim_reach.specs.Decode.{◌>>=◌, mark_among, out_marks}
use Rattle.claim_reach.specs.Reach.{View, Trail, Reached, expect, check, open_using, param_slots, reach, reach_params}
use Rattle.claim_reach.proofs.Decoding.{OutFits, fits_fields}
use Rattle.claim_reach.proofs.Promise.{Key, Step, both_back, step_none}
use Rattle.claim_reach.proofs.Frames.{using_closes}
use Rattle.claim_reach.proofs.Specs.{Specs, specified, spec_kept, specs_none, specs_then, specs_by}
use Rattle.claim_reach.proofs.Walking.{Walks, unnamed_fits, joined, spec_shape, step_taint}

-- how the walk over one parameter without a default stands among others
param_shape : (o : Option (List ℕ × Trail)) (c : List ℕ → Option (Unit {0})) (r : Trail → Reached) (g : List Meant × Trail → Reached)
    → (o >>= λ y. c y.0 >>= λ _. r y.1 >>= g) ≡ ((o >>= λ y. c y.0 >>= λ _. r y.1) >>= g)
unfolding ◌>>=◌
param_shape none c r g = refl
param_shape (some y) c r g = by (c y.0)
  where
    by : (t : Option (Unit {0})) → (t >>= λ _. r y.1 >>= g) ≡ ((t >>= λ _. r y.1) >>= g)
    by none = refl
    by (some u) = refl

abbrev nothing : Trail → Reached
nothing rs = some ([], rs)

module _ (L : Limits) where
  abbrev pub WalksParams : Params → Type 0
  WalksParams ps = (kept : ℕ) (ks : List Key) (h : Place) (sc : Scope) (st : AnalysisStack)
      → After (Specs ks h sc 0 kept (param_slots ps) (λ v rs. reach_params ps (0 + kept) v rs) (read_params ps sc) st) (analyze_params L ps kept h st)

  slot_fits : (name n flag : ℕ) → Numbers (name ∷ []) → flag < 2 → n < 65535 → OutFits (PA, name ∷ n ∷ flag ∷ [])
  unfolding mark_among out_marks code choose out_fields widths width Numbers
  slot_fits name n flag named bit small = fits_fields PA (name ∷ n ∷ flag ∷ []) refl refl refl (named.0, (omega arith, (omega arith, tt)))

  slot_passes : (name k flag : ℕ) → check (eqb (get_or (name ∷ k ∷ flag ∷ []) 1 0) k) ≡ some tt
  unfolding check
  slot_passes name k flag = rw (eq-eqb k k refl) refl

  pub no_params_walk : WalksParams no_params
  unfolding analyze_params param_slots reach_params read_params
  no_params_walk kept ks h sc st = fine (specs_none ks h sc 0 kept st)

  pub param_or_walks : (p : ℕ) (name : Name) (span : Span) (e : Expr) (ps : Params) → Numbers (name ∷ []) → Walks L e → WalksParams ps → WalksParams (param_or p name span e ps)
  unfolding analyze_params open_frame param_slots reach_params read_params ◌>>=◌
  param_or_walks p name span e ps named value rest kept ks h sc st =
      after_bind {P = λ (b : AnalysisStack). b ≡ with_frames (new_frame false (length (with_taint no_dependence st).locals) 0 ∷ (with_taint no_dependence st).frames) (with_taint no_dependence st)} _ (after_need _ 7 p _ λ _. fine refl) λ a is.
      after_bind _ (value unnamed unnamed_fits ks h sc a) λ b walked.
      after_bind _ (using_closes L p (with_taint no_dependence st) b (subst (λ (a : AnalysisStack). Step ks h sc (λ v rs. reach e v rs) (read e sc) a b) is walked)) λ c closed.
      after_bind _ (specified L p 0 kept _ _ PA (λ slot. name ∷ slot ∷ 1 ∷ []) c) λ x done.
      after_weaken (rest x.0 ks h sc x.1) λ y others.
      specs_by (λ v rs. reach_params (param_or p name span e ps) (0 + kept) v rs) (λ v rs. shape v rs)
      (specs_then (λ (n : ℕ) (v : View) (rs : Trail). reach_params ps (0 + n) v rs) p 0 kept st x y
      (spec_kept p 0 kept PA (name ∷ (0 + kept) ∷ 1 ∷ []) (λ ns. check (eqb (get_or ns 1 0) (0 + kept))) st c x (slot_fits name (0 + kept) 1 named (omega arith)) (slot_passes name (0 + kept) 1) (step_taint st closed) done) others)
    where
      next : suc (0 + kept) ≡ 0 + suc kept
      next = omega arith

      behind : (v : View) (o : Reached)
          → (o >>= λ x. expect PA x.1 >>= λ y. check (eqb (get_or y.0 1 0) (0 + kept)) >>= λ _. open_using v y.1 >>= λ z. reach e z.0 z.1 >>= joined x.0)
          ≡ (o >>= λ x. (expect PA x.1 >>= λ y. check (eqb (get_or y.0 1 0) (0 + kept)) >>= λ _. open_using v y.1 >>= λ z. reach e z.0 z.1) >>= joined x.0)
      behind v none = refl
      behind v (some x) = spec_shape (expect PA x.1) (λ ns. check (eqb (get_or ns 1 0) (0 + kept))) (open_using v) (reach e) (joined x.0)

      shape : (v : View) (rs : Trail)
          → reach_params (param_or p name span e ps) (0 + kept) v rs
          ≡ both_back (λ v rs. expect PA rs >>= λ x. check (eqb (get_or x.0 1 0) (0 + kept)) >>= λ _. open_using v x.1 >>= λ x. reach e x.0 x.1) (λ v rs. reach_params ps (0 + suc kept) v rs) v rs
      shape v rs = ap (λ (k : ℕ). reach_params ps k v rs >>= λ x. expect PA x.1 >>= λ y. check (eqb (get_or y.0 1 0) (0 + kept)) >>= λ _. open_using v y.1 >>= λ z. reach e z.0 z.1 >>= joined x.0) next
          ∙ behind v (reach_params ps (0 + suc kept) v rs)

  pub param_walks : (p : ℕ) (name : Name) (span : Span) (ps : Params) → Numbers (name ∷ []) → WalksParams ps → WalksParams (param p name span ps)
  unfolding analyze_params param_slots reach_params read_params ◌>>=◌
  param_walks p name span ps named rest kept ks h sc st =
      after_bind _ (specified L p 0 kept _ _ PA (λ slot. name ∷ slot ∷ 0 ∷ []) (with_taint no_dependence st)) λ x done.
      after_weaken (rest x.0 ks h sc x.1) λ y others.
      specs_by (λ v rs. reach_params (param p name span ps) (0 + kept) v rs) (λ v rs. shape v rs)
      (specs_then (λ (n : ℕ) (v : View) (rs : Trail). reach_params ps (0 + n) v rs) p 0 kept st x y
      (spec_kept p 0 kept PA (name ∷ (0 + kept) ∷ 0 ∷ []) (λ ns. check (eqb (get_or ns 1 0) (0 + kept))) st (with_taint no_dependence st) x (slot_fits name (0 + kept) 0 named (omega arith)) (slot_passes name (0 + kept) 0) (step_taint st (step_none ks h sc (with_taint no_dependence st))) done) others)
    where
      next : suc (0 + kept) ≡ 0 + suc kept
      next = omega arith

      behind : (o : Reached)
          → (o >>= λ x. expect PA x.1 >>= λ y. check (eqb (get_or y.0 1 0) (0 + kept)) >>= λ _. nothing y.1 >>= joined x.0)
          ≡ (o >>= λ x. (expect PA x.1 >>= λ y. check (eqb (get_or y.0 1 0) (0 + kept)) >>= λ _. nothing y.1) >>= joined x.0)
      behind none = refl
      behind (some x) = param_shape (expect PA x.1) (λ ns. check (eqb (get_or ns 1 0) (0 + kept))) nothing (joined x.0)

      shape : (v : View) (rs : Trail)
          → reach_params (param p name span ps) (0 + kept) v rs
          ≡ both_back (λ v rs. expect PA rs >>= λ x. check (eqb (get_or x.0 1 0) (0 + kept)) >>= λ _. nothing x.1) (λ v rs. reach_params ps (0 + suc kept) v rs) v rs
      shape v rs = ap (λ (k : ℕ). reach_params ps k v rs >>= λ x. expect PA x.1 >>= λ y. check (eqb (get_or y.0 1 0) (0 + kept)) >>= λ _. nothing y.1 >>= joined x.0) next
          ∙ behind (reach_params ps (0 + suc kept) v rs)
