-- A using frame around a step. Assumes nothing.
use Prim.Native.Nat.{ℕ, ◌+◌}
use mathlib.Core.Bool.{Bool, false}
use mathlib.Core.List.{List, [], ◌∷◌, ◌++◌, reverse, append_assoc, append-nil}
use mathlib.Core.Option.{some}
use native.Mathlib.Omega.{arith}
use mathlib.Core.Path.{◌≡◌, refl, sym, ap, ◌∙◌, subst}
use lib.ListN.{length, get_or, drop, length-map}
use borrow.Author.Tests.{eq-eqb}
use Rattle.rules.specs.Outcome.{choose}
use Rattle.rules.specs.Numbers.{Record, Mark, SH, record_bytes, records_bytes}
use Rattle.rules.specs.Tree.{Binding}
use Rattle.rules.specs.Frames.{ClosureFrame, new_frame, no_frame, top, beneath, defining}
use Rattle.rules.specs.State.{Limits, AnalysisStack, with_frames, with_out, with_sink}
use Rattle.rules.specs.Writing.{shape_numbers, emit, close_frame}
use Rattle.rules.specs.Walk.{Place}
use Rattle.rules.proofs.After.{After, fine, after_bind, after_need}
use Rattle.claim_scope.specs.Scope.{Scope, Meant}
use Rattle.claim_reach.specs.Decode.{◌>>=◌}
use Rattle.claim_reach.specs.Reach.{View, Trail, sources, check, open_using, open_defining}
use Rattle.claim_reach.proofs.Resolving.{Stacked, on_top, no_more, one_more, slots_of, taken_of}
use Rattle.claim_reach.proofs.Decoding.{OutFits, AllFit, fit_append, records_append, record_one}
use Rattle.claim_reach.proofs.Closing.{Shut, shuts}
use Rattle.claim_reach.proofs.Promise.{Key, keys, labels, Ready, Back, Kept, Step, expect_first, back}

-- what writing a record does
pub emit_is : (L : Limits) (p : ℕ) (m : Mark) (ns : List ℕ) (b : AnalysisStack) → After (λ (c : AnalysisStack). c ≡ with_out (b.sink.out ++ record_bytes m ns) b) (emit L p m ns b)
unfolding emit
emit_is L p m ns b = after_need _ 9 p _ λ _. fine refl

-- one more record after others
pub out_more : (s : List ℕ) (out : List ℕ) (rs : List Record) (m : Mark) (ns : List ℕ) → s ≡ out ++ records_bytes rs → s ++ record_bytes m ns ≡ out ++ records_bytes (rs ++ ((m, ns) ∷ []))
out_more s out rs m ns e =
    ap (λ (s : List ℕ). s ++ record_bytes m ns) e ∙ append_assoc out (records_bytes rs) (record_bytes m ns)
    ∙ ap (λ (s : List ℕ). out ++ (records_bytes rs ++ s)) (sym (record_one (m, ns)))
    ∙ ap (λ (s : List ℕ). out ++ s) (sym (records_append rs ((m, ns) ∷ [])))

pub fit_more : (rs : List Record) (m : Mark) (ns : List ℕ) → AllFit rs → OutFits (m, ns) → AllFit (rs ++ ((m, ns) ∷ []))
unfolding AllFit
fit_more rs m ns h f = fit_append rs ((m, ns) ∷ []) h (f, tt)

-- a shape is opened with what it captured

using_opens : (v : View) (ns : List ℕ) (rs : Trail) (bs : List Binding) → get_or ns 0 0 ≡ 0 → sources v (drop 2 ns) ≡ some bs
    → open_using v ((SH, ns) ∷ rs) ≡ some (record { slots = v.slots; taken = bs }, rs)
unfolding open_using ◌>>=◌ check
using_opens v ns rs bs none_own e = rw (expect_first SH ns rs, none_own, e) refl

pub defining_opens : (new : List Binding) (v : View) (ns : List ℕ) (rs : Trail) (bs : List Binding) → get_or ns 0 0 ≡ length new → sources v (drop 2 ns) ≡ some bs
    → open_defining new v ((SH, ns) ∷ rs) ≡ some (record { slots = new; taken = bs }, rs)
unfolding open_defining ◌>>=◌ check
defining_opens new v ns rs bs count e = rw (expect_first SH ns rs, eq-eqb (get_or ns 0 0) (length new) count, e) refl

-- a using frame reads the slots beneath
home_beneath : (gs : List ClosureFrame) → (top gs).is_defining ≡ false → defining gs ≡ defining (beneath gs)
unfolding defining top beneath choose no_frame
home_beneath [] e = refl
home_beneath (f ∷ fs) e = ap (λ (b : Bool). choose b (λ _. f) (λ _. defining fs)) e

pub as_many : (ks : List Key) (st : AnalysisStack) → keys st.locals ≡ ks → length st.locals ≡ length ks
as_many ks st e = sym (length-map st.locals _) ∙ ap length e

using_opened : AnalysisStack → AnalysisStack
using_opened a = with_frames (new_frame false (length a.locals) 0 ∷ a.frames) a

unfoldable pub closed_state : AnalysisStack → AnalysisStack
closed_state b = with_frames (beneath b.frames) (with_out (b.sink.out ++ record_bytes SH (shape_numbers (top b.frames))) b)

ready_opened : (ks : List Key) (a : AnalysisStack) → Ready ks a → Ready ks (using_opened a)
unfolding using_opened with_frames new_frame
ready_opened ks a r = record {
  same_keys = r.same_keys;
  good = one_more no_more r.good;
  stacked = subst (λ (n : ℕ). Stacked n (new_frame false (length a.locals) 0 ∷ a.frames)) zero_more (on_top r.stacked (as_many ks a r.same_keys) (λ _. refl) (omega arith) (omega arith));
}
  where
    zero_more : length ks + 0 ≡ length ks
    zero_more = omega arith

using_kept : {ks : List Key} {walk : Back} {ms : List Meant} (a b : AnalysisStack) → Ready ks a → Kept ks walk ms (using_opened a) b
    → Kept ks (λ v rs. open_using v rs >>= λ x. walk x.0 x.1) ms a (closed_state b)
unfolding using_opened closed_state with_frames with_out with_sink new_frame ◌>>=◌
using_kept {ks = ks} {walk = walk} {ms = ms} a b r k =
    let ns = shape_numbers (top b.frames) in
    let s : Shut (labels ks) (new_frame false (length a.locals) 0) a.frames b.frames = shuts (labels ks) _ a.frames b.frames k.grew k.ready.good k.ready.stacked in
    record {
      ready = record { same_keys = k.ready.same_keys; good = s.good; stacked = subst (λ (n : ℕ). Stacked n (beneath b.frames)) (as_many ks a r.same_keys) s.stacked };
      grew = s.grew;
      written = k.written ++ ((SH, ns) ∷ []);
      out = out_more b.sink.out a.sink.out k.written SH ns k.out;
      fit = fit_more k.written SH ns k.fit s.fits;
      walked = λ v rest l.
          rw (back k.written ((SH, ns) ∷ []) rest, using_opens v ns (reverse k.written ++ rest) (taken_of (labels ks) (top b.frames).captures) s.counts (s.opens v l))
          (k.walked (record { slots = v.slots; taken = taken_of (labels ks) (top b.frames).captures }) rest (record {
            same_slots = l.same_slots ∙ ap (λ (f : ClosureFrame). slots_of (labels ks) f) (sym (home_beneath b.frames s.same_kind));
            more = [];
            taken_then = sym (append-nil _);
          }));
    }

module _ (L : Limits) where
  pub using_closes : {ks : List Key} {h : Place} {sc : Scope} {walk : Back} {ms : List Meant} (p : ℕ) (a b : AnalysisStack)
      → Step ks h sc walk ms (with_frames (new_frame false (length a.locals) 0 ∷ a.frames) a) b
      → After (Step ks h sc (λ v rs. open_using v rs >>= λ x. walk x.0 x.1) ms a) (close_frame L p b)
  unfolding close_frame closed_state using_opened with_frames with_out with_sink
  using_closes {ks = ks} {h = h} {sc = sc} {walk = walk} {ms = ms} p a b x =
      after_bind _ (emit_is L p SH (shape_numbers (top b.frames)) b) λ c e.
      fine (subst (λ (c : AnalysisStack). Step ks h sc (λ v rs. open_using v rs >>= λ x. walk x.0 x.1) ms a (with_frames (beneath c.frames) c)) (sym e) (record {
        calm = x.calm;
        kept = λ e agree r. using_kept a b r (x.kept e agree (ready_opened ks a r));
      }))
