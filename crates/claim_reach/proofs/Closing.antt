-- A frame that closes: its shape opens it again, over every later view of the frame beneath. Assumes nothing.
use Prim.Native.Nat.{ℕ, suc, ◌*◌, ◌<◌}
use mathlib.Core.List.{List, [], ◌∷◌, ◌++◌}
use mathlib.Core.Option.{some}
use native.Mathlib.Omega.{arith}
use mathlib.Core.Path.{◌≡◌, refl, sym, subst}
use lib.ListN.{length, get_or, drop}
use Rattle.rules.specs.Numbers.{SH}
use Rattle.rules.specs.Range.{Numbers}
use Rattle.rules.specs.Tree.{Binding}
use Rattle.rules.specs.Frames.{LSlot, local_slot, capture_slot, Capture, ClosureFrame, top, beneath}
use Rattle.rules.specs.Writing.{slot_number, pair_of, pairs_of, shape_numbers}
use Rattle.claim_reach.specs.Reach.{View, sources}
use Rattle.claim_reach.proofs.Resolving.{Grown, grown, Stacked, on_top, Later, Sourced, no_more, also, Good, one_more, view_of, taken_of, sourced_later, shape_opens}
use Rattle.claim_reach.proofs.Decoding.{OutFits, fits_shape}

module _ (lbs : List Binding) where
  pairs_count : (cs : List Capture) → length (pairs_of cs) ≡ 2 * length cs
  unfolding pairs_of pair_of
  pairs_count [] = refl
  pairs_count (c ∷ cs) = by c.source (pairs_count cs)
    where
      by : (s : LSlot) → length (pairs_of cs) ≡ 2 * length cs → length (pair_of s ++ pairs_of cs) ≡ 2 * suc (length cs)
      by (local_slot n) h = omega (arith, h)
      by (capture_slot n) h = omega (arith, h)

  pairs_small : {n : ℕ} {v : View} {cs : List Capture} → Sourced lbs n v cs → Numbers (pairs_of cs)
  unfolding pairs_of pair_of Numbers slot_number
  pairs_small no_more = tt
  pairs_small (also {c = c} {cs = cs} e small lt r) = by c.source small (pairs_small r)
    where
      by : (s : LSlot) → slot_number s < 65536 → Numbers (pairs_of cs) → Numbers (pair_of s ++ pairs_of cs)
      by (local_slot n) small h = (omega arith, (omega arith, h))
      by (capture_slot n) small h = (omega arith, (omega arith, h))

  -- fs were the frames when f was opened above them, gs are those when it closes
  pub record Shut (f : ClosureFrame) (fs gs : List ClosureFrame) : Type 0 where
    pub good : Good lbs (beneath gs)
    pub stacked : Stacked f.first_local (beneath gs)
    pub grew : Grown fs (beneath gs)
    pub fits : OutFits (SH, shape_numbers (top gs))
    pub counts : get_or (shape_numbers (top gs)) 0 0 ≡ f.n_locals
    pub opens : (v : View) → Later (view_of lbs (beneath gs)) v → sources v (drop 2 (shape_numbers (top gs))) ≡ some (taken_of lbs (top gs).captures)
    pub same_first : (top gs).first_local ≡ f.first_local
    pub same_kind : (top gs).is_defining ≡ f.is_defining

  pub shuts : {n : ℕ} (f : ClosureFrame) (fs gs : List ClosureFrame) → Grown (f ∷ fs) gs → Good lbs gs → Stacked n gs → Shut f fs gs
  unfolding top beneath shape_numbers Numbers
  shuts f fs _ (grown {gs = gs} more g) (one_more sourced good) (on_top s first empty few caps) = record {
    good = good;
    stacked = subst (λ (n : ℕ). Stacked n gs) (sym first) s;
    grew = g;
    fits = fits_shape f.n_locals (length (f.captures ++ more)) (pairs_of (f.captures ++ more)) (pairs_count (f.captures ++ more)) (omega arith, (omega arith, pairs_small sourced));
    counts = refl;
    opens = λ v l. shape_opens lbs (sourced_later lbs l sourced);
    same_first = refl;
    same_kind = refl;
  }
