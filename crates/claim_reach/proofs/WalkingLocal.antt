-- The walk through a local's output. Assumes nothing.
use Prim.Native.Nat.{ℕ, ◌≤◌}
use mathlib.Core.Bool.{false}
use mathlib.Core.List.{List, [], ◌∷◌, ◌++◌}
use native.Mathlib.Omega.{arith}
use mathlib.Core.Path.{◌≡◌, refl, subst}
use lib.ListN.{length}
use Rattle.rules.specs.Outcome.{choose}
use Rattle.rules.specs.Numbers.{LO, code}
use Rattle.rules.specs.Records.{out_fields, widths, width}
use Rattle.rules.specs.Range.{Numbers}
use Rattle.rules.specs.Tree.{Expr, Binds, no_binds, bind, local}
use Rattle.rules.specs.Settling.{propagate_analysis}
use Rattle.rules.specs.State.{Limits, AnalysisStack}
use Rattle.rules.specs.Writing.{open_frame}
use Rattle.rules.specs.Scoping.{settle_frame}
use Rattle.rules.specs.Walk.{Place, Naming, unnamed, deeper, is_empty, analyze}
use Rattle.rules.proofs.After.{After, fine, after_bind, after_need}
use Rattle.claim_scope.specs.Scope.{Scope, bind_names, under}
use Rattle.claim_reach.specs.Lexical.{read, read_binds}
use Rattle.claim_reach.specs.Decode.{mark_among, out_marks}
use Rattle.claim_reach.specs.Reach.{bind_slots, reach, reach_binds}
use Rattle.claim_reach.proofs.Decoding.{OutFits, fits_fields}
use Rattle.claim_reach.proofs.Promise.{Key, Back, Step, both_back}
use Rattle.claim_reach.proofs.Keys.{same_settle, analysis_keeps}
use Rattle.claim_reach.proofs.DefiningSteps.{Defines, bind_keys, bind_keys_names, bind_keys_slots, defines_binds}
use Rattle.claim_reach.proofs.Ending.{finishes}
use Rattle.claim_reach.proofs.Framed.{agree_named, frame_opened, framed}
use Rattle.claim_reach.proofs.FramedRecord.{record_back, framed_emitted}
use Rattle.claim_reach.proofs.Walking.{unnamed_fits, Walks, WalksBinds}

count_fits : (n : ℕ) → n ≤ 65535 → OutFits (LO, n ∷ [])
unfolding mark_among out_marks code choose out_fields widths width Numbers
count_fits n few = fits_fields LO (n ∷ []) refl refl refl (omega arith, tt)

-- how a local's output is walked where it has binds
local_back : Binds → Expr → Back
local_back bs e = record_back LO (bind_slots bs) (both_back (λ v rs. reach_binds bs 0 v rs) (λ v rs. reach e v rs))

module _ (L : Limits) where
  -- a local with binds, from the promise for its binds and for its body
  framed_local : (p : ℕ) (bs : Binds) (e : Expr) → WalksBinds L bs → Walks L e → (naming : Naming) (ks : List Key) (h : Place) (sc : Scope) (st : AnalysisStack) → is_empty bs ≡ false
      → After (Step ks h sc (λ v rs. local_back bs e v rs) (read_binds bs (under (bind_names bs) sc) ++ read e (under (bind_names bs) sc)) st) (analyze L (local p bs e) naming h st)
  unfolding analyze open_frame choose frame_opened local_back
  framed_local p bs e binds body naming ks h sc st some_binds = rw some_binds (
      after_bind {P = λ (b : AnalysisStack). b ≡ frame_opened st} _ (after_need _ 7 p _ λ _. fine refl) λ a is.
      after_bind _ (defines_binds L ks st.frames sc.names bs h.depth [] a) λ b defines.
      after_bind _ (binds 0 0 (ks ++ bind_keys bs) h (under (bind_names bs) sc) b) λ x specs.
      after_bind _ (body unnamed unnamed_fits (ks ++ bind_keys bs) (deeper h) (under (bind_names bs) sc) (settle_frame propagate_analysis x.0 (length st.references) x.1)) λ d walked.
      after_bind _ (finishes L p x.0 (length st.references) d) λ c finished.
      framed_emitted L ks (bind_keys bs) (bind_slots bs) p LO (x.0 ∷ []) c (bind_keys_slots bs) (omega arith) (count_fits x.0)
      (framed ks (bind_keys bs) 0 (bind_slots bs) st b x (settle_frame propagate_analysis x.0 (length st.references) x.1) d c
      (λ agree r scoped. agree_named ks (bind_keys bs) (bind_names bs) h sc (bind_keys_names bs) agree scoped)
      (bind_keys_slots bs)
      (subst (λ (a : AnalysisStack). Defines ks st.frames sc.names [] (bind_keys bs) a b) is defines)
      specs (same_settle propagate_analysis analysis_keeps x.0 (length st.references) x.1) walked finished))

  pub local_walks : (p : ℕ) (bs : Binds) (e : Expr) → WalksBinds L bs → Walks L e → Walks L (local p bs e)
  unfolding analyze reach read read_binds is_empty choose bind_names under local_back
  local_walks p no_binds e binds body naming named ks h sc st = body unnamed unnamed_fits ks h sc st
  local_walks p (bind q name span f v bs) e binds body naming named ks h sc st = framed_local p (bind q name span f v bs) e binds body naming ks h sc st refl
