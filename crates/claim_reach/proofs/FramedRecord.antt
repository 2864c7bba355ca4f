-- The record that stands after a defining frame. Assumes nothing.
use Prim.Native.Nat.{ℕ, ◌≤◌}
use mathlib.Core.List.{List}
use mathlib.Core.Option.{some}
use native.Mathlib.Omega.{arith}
use mathlib.Core.Path.{◌≡◌, refl, sym, ap, subst}
use lib.ListN.{length}
use Rattle.rules.specs.Numbers.{Mark}
use Rattle.rules.specs.Tree.{Binding}
use Rattle.rules.specs.State.{Limits, AnalysisStack, with_out, with_sink}
use Rattle.rules.specs.Writing.{emit}
use Rattle.rules.specs.Walk.{Place}
use Rattle.rules.proofs.After.{After, after_weaken}
use Rattle.claim_scope.specs.Scope.{Scope, Meant}
use Rattle.claim_reach.specs.Decode.{◌>>=◌}
use Rattle.claim_reach.specs.Reach.{expect, open_defining}
use Rattle.claim_reach.proofs.Decoding.{OutFits}
use Rattle.claim_reach.proofs.Promise.{Key, labels, Back, Step, label_count}
use Rattle.claim_reach.proofs.Frames.{emit_is}
use Rattle.claim_reach.proofs.Ending.{kept_emit}
use Rattle.claim_reach.proofs.Framed.{Framed}

-- a walk in a frame with these slots, after a record of which only the mark is read
abbrev pub record_back : Mark → List Binding → Back → Back
record_back m slots walk v rs = expect m rs >>= λ x. open_defining slots v x.1 >>= λ y. walk y.0 y.1

module _ (L : Limits) where
  -- as many specs as were kept fit in its numbers
  pub framed_emitted : {h : Place} {sc : Scope} {slots : List Binding} {walk : Back} {ms : List Meant} {kept : ℕ} {a : AnalysisStack} (ks new : List Key) (all : List Binding) (p : ℕ) (m : Mark) (ns : List ℕ) (b : AnalysisStack)
      → labels new ≡ all → length slots ≤ length all → (kept ≤ 65535 → OutFits (m, ns)) → Framed ks new h sc slots walk ms kept a b → After (Step ks h sc (record_back m all walk) ms a) (emit L p m ns b)
  unfolding with_out with_sink ◌>>=◌
  framed_emitted {h = h} {sc = sc} {walk = walk} {ms = ms} {a = a} ks new all p m ns b same fewer fits f = after_weaken (emit_is L p m ns b) λ c is.
      subst (λ (slots : List Binding). Step ks h sc (record_back m slots walk) ms a c) same (subst (λ (c : AnalysisStack). Step ks h sc (record_back m (labels new) walk) ms a c) (sym is) (record {
        calm = f.calm;
        kept = λ q agree r. (let k = f.framed_kept q agree r in kept_emit a b m ns (λ _. some tt) (fits (omega (arith, k.count, k.few, label_count new, ap length same))) refl k.all);
      }))
