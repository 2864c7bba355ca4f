-- A frame's end, and a spec's: what they leave of what was kept. Assumes nothing.
use Prim.Native.Nat.{ℕ}
use mathlib.Core.Bool.{false}
use mathlib.Core.List.{List, [], ◌∷◌, ◌++◌, reverse}
use mathlib.Core.Option.{Option, some}
use mathlib.Core.Path.{◌≡◌, refl, sym, ap, ◌∙◌, subst}
use lib.ListN.{length}
use Rattle.rules.specs.Numbers.{Mark, SH, record_bytes}
use Rattle.rules.specs.Frames.{ClosureFrame, top, beneath}
use Rattle.rules.specs.Settling.{propagate_use}
use Rattle.rules.specs.State.{Limits, AnalysisStack, with_frames, with_locals, with_references, with_out, with_sink}
use Rattle.rules.specs.Writing.{close_frame}
use Rattle.rules.specs.Scoping.{first_in_frame, settle_frame, finish_frame}
use Rattle.rules.specs.Walk.{Place}
use Rattle.rules.proofs.After.{After, fine, after_bind}
use Rattle.claim_scope.specs.Scope.{Scope, Meant}
use Rattle.claim_reach.specs.Decode.{◌>>=◌}
use Rattle.claim_reach.specs.Reach.{expect, open_defining}
use Rattle.claim_reach.proofs.Resolving.{Grown, all_grown, grown, Stacked, Good, view_of, Later}
use Rattle.claim_reach.proofs.Decoding.{OutFits}
use Rattle.claim_reach.proofs.Promise.{Key, labels, Ready, Back, Kept, Step, expect_first, back}
use Rattle.claim_reach.proofs.Frames.{emit_is, out_more, fit_more, closed_state}
use Rattle.claim_reach.proofs.Using.{kept_from}
use Rattle.claim_reach.proofs.Names.{step_same}
use Rattle.claim_reach.proofs.Keys.{Same, same_then, same_settle, use_keeps, same_judge_all}
use Rattle.claim_reach.proofs.Relabel.{defined_frame, left_state, defining_kept}

-- what was kept is kept where nothing of it changes
pub kept_same : {ks : List Key} {walk : Back} {ms : List Meant} {a : AnalysisStack} (b c : AnalysisStack) → Same b c → Kept ks walk ms a b → Kept ks walk ms a c
kept_same {ks = ks} {walk = walk} {ms = ms} {a = a} b c s k = record {
  ready = record {
    same_keys = s.same_keys ∙ k.ready.same_keys;
    good = subst (λ (fs : List ClosureFrame). Good (labels ks) fs) (sym s.same_frames) k.ready.good;
    stacked = subst (λ (fs : List ClosureFrame). Stacked (length ks) fs) (sym s.same_frames) k.ready.stacked;
  };
  grew = subst (λ (fs : List ClosureFrame). Grown a.frames fs) (sym s.same_frames) k.grew;
  written = k.written;
  out = s.same_out ∙ k.out;
  fit = k.fit;
  walked = λ v rest l. k.walked v rest (subst (λ (fs : List ClosureFrame). Later (view_of (labels ks) fs) v) s.same_frames l);
}

-- and where it began with what only differs in such things
pub step_from : {ks : List Key} {h : Place} {sc : Scope} {walk : Back} {ms : List Meant} {b : AnalysisStack} (a a' : AnalysisStack) → Same a a' → Step ks h sc walk ms a' b → Step ks h sc walk ms a b
step_from {ks = ks} {h = h} {sc = sc} a a' s x =
    let first : Step ks h sc (λ v rs. some ([], rs)) [] a a' = step_same a a' s.same_frames s.same_out s.same_errored s.same_keys in
    record {
      calm = λ e. first.calm (x.calm e);
      kept = λ e agree r. kept_from a a' s.same_frames s.same_out (x.kept e agree (first.kept (x.calm e) agree r).ready);
    }

-- and where a record is written that the walk expects
pub kept_emit : {ks : List Key} {walk : Back} {ms : List Meant} (a b : AnalysisStack) (m : Mark) (ns : List ℕ) (with_numbers : List ℕ → Option (Unit {0})) → OutFits (m, ns) → with_numbers ns ≡ some tt
    → Kept ks walk ms a b → Kept ks (λ v rs. expect m rs >>= λ x. with_numbers x.0 >>= λ _. walk v x.1) ms a (with_out (b.sink.out ++ record_bytes m ns) b)
unfolding with_out with_sink ◌>>=◌
kept_emit {ks = ks} a b m ns with_numbers fits passes k = record {
  ready = record { same_keys = k.ready.same_keys; good = k.ready.good; stacked = k.ready.stacked };
  grew = k.grew;
  written = k.written ++ ((m, ns) ∷ []);
  out = out_more b.sink.out a.sink.out k.written m ns k.out;
  fit = fit_more k.written m ns k.fit fits;
  walked = λ v rest l. rw (back k.written ((m, ns) ∷ []) rest, expect_first m ns (reverse k.written ++ rest), passes) (k.walked v rest l);
}

-- The frame on top begins where it began

pub grown_first : (fs gs : List ClosureFrame) → Grown fs gs → (top gs).first_local ≡ (top fs).first_local
unfolding top
grown_first [] _ all_grown = refl
grown_first (f ∷ fs) _ (grown more g) = refl

-- The end of a frame

pub record Finished (b c : AnalysisStack) : Type 0 where
  pub last : AnalysisStack
  pub same : Same b last
  pub closed : Same (left_state (first_in_frame last) last) c

-- a step after the end that only differs in such things
pub finished_same : {b c d : AnalysisStack} → Same c d → Finished b c → Finished b d
finished_same s f = record { last = f.last; same = f.same; closed = same_then f.closed s }

pub finished_calm : {b c : AnalysisStack} → Finished b c → c.sink.errored ≡ false → b.sink.errored ≡ false
unfolding left_state closed_state with_frames with_locals with_out with_sink
finished_calm f e = sym f.same.same_errored ∙ sym f.closed.same_errored ∙ e

module _ (L : Limits) where
  pub finishes : (p kept before : ℕ) (st : AnalysisStack) → After (Finished st) (finish_frame L p kept before st)
  unfolding finish_frame close_frame left_state closed_state with_references with_locals with_frames with_out with_sink
  finishes p kept before st = after_bind _ (same_judge_all L p _ (settle_frame propagate_use kept before st)) λ d h.
      after_bind _ (emit_is L p SH _ _) λ c e. fine (record {
        last = d;
        same = same_then (same_settle propagate_use use_keeps kept before st) h;
        closed = subst (λ (c : AnalysisStack). Same (left_state (first_in_frame d) d) (with_frames (beneath c.frames) c)) (sym e) (record { same_keys = refl; same_frames = refl; same_out = refl; same_errored = refl });
      })

-- all that a defining frame kept
pub finished_kept : (ks new : List Key) {walk : Back} {ms : List Meant} (a a₁ b c : AnalysisStack) → Ready ks a
    → a₁.frames ≡ defined_frame (length ks) (length new) ∷ a.frames → a₁.sink.out ≡ a.sink.out → Kept (ks ++ new) walk ms a₁ b → Finished b c
    → Kept ks (λ v rs. open_defining (labels new) v rs >>= λ x. walk x.0 x.1) ms a c
unfolding first_in_frame defined_frame top
finished_kept ks new {walk = walk} {ms = ms} a a₁ b c r same_frames same_out k f =
    let d = f.last in
    let k₁ : Kept (ks ++ new) walk ms a₁ d = kept_same b d f.same k in
    let first : first_in_frame d ≡ length ks = grown_first a₁.frames d.frames k₁.grew ∙ ap (λ (fs : List ClosureFrame). (top fs).first_local) same_frames in
    kept_same (left_state (length ks) d) c (subst (λ (n : ℕ). Same (left_state n d) c) first f.closed) (defining_kept ks new a a₁ d r same_frames same_out k₁)
