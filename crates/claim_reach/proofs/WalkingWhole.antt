-- The walk through an object's output. Assumes nothing.
use Prim.Native.Nat.{ℕ, ◌<◌, ◌≤◌}
use mathlib.Core.Bool.{Bool, true, false, ◌&&◌, ◌||◌}
use mathlib.Core.List.{List, [], ◌∷◌, ◌++◌, append_assoc}
use mathlib.Core.Option.{none, some}
use native.Mathlib.Omega.{arith}
use mathlib.Core.Path.{◌≡◌, refl, sym, ap, ◌∙◌, subst}
use lib.ListN.{length}
use Rattle.rules.specs.Outcome.{choose, given}
use Rattle.rules.specs.Numbers.{OB, code, bit}
use Rattle.rules.specs.Records.{out_fields, widths, width}
use Rattle.rules.specs.Range.{Numbers}
use Rattle.rules.specs.Tree.{Exprs, Binds, Heads, no_exprs, object, count_exprs, Binding, at_record}
use Rattle.rules.specs.Settling.{propagate_analysis}
use Rattle.rules.specs.State.{Limits, ObjectUse, AnalysisStack, with_object_use}
use Rattle.rules.specs.Writing.{open_frame}
use Rattle.rules.specs.Scoping.{settle_frame}
use Rattle.rules.specs.Walk.{Place, deeper, is_outermost, entered_use, left_use, is_static, object_numbers, head_namings, analyze, analyze_assertions}
use Rattle.rules.proofs.After.{fine, after_weaken, after_bind, after_need}
use Rattle.claim_scope.specs.Scope.{Scope, Meant, bind_names, under}
use Rattle.claim_reach.specs.Lexical.{read, read_all, read_binds, read_heads}
use Rattle.claim_reach.specs.Decode.{◌>>=◌, mark_among, out_marks}
use Rattle.claim_reach.specs.Reach.{View, Trail, Reached, expect, open_defining, bind_slots, reach, reach_assertions, reach_values, reach_binds, reach_heads}
use Rattle.claim_reach.proofs.Decoding.{OutFits, fits_fields}
use Rattle.claim_reach.proofs.Promise.{Key, Agree, Ready, Back, both_back, step_none, step_then, step_by}
use Rattle.claim_reach.proofs.Frames.{as_many}
use Rattle.claim_reach.proofs.Keys.{Same, same_settle, analysis_keeps}
use Rattle.claim_reach.proofs.Defining.{Names, names_in, Scoped}
use Rattle.claim_reach.proofs.DefiningSteps.{Defines, bind_keys, bind_keys_names, bind_keys_slots, defines_then, defines_this, defines_binds}
use Rattle.claim_reach.proofs.Ending.{step_from, finished_same, finishes}
use Rattle.claim_reach.proofs.Framed.{frame_opened, framed}
use Rattle.claim_reach.proofs.FramedRecord.{record_back, framed_emitted}
use Rattle.claim_reach.proofs.InObject.{agree_in_object}
use Rattle.claim_reach.proofs.Walking.{Walks, WalksBinds, joined, spec_shape}
use Rattle.claim_reach.proofs.WalkingForms.{WalksAssertions}
use Rattle.claim_reach.proofs.WalkingObject.{NamingsFit, WalksHeads, WalksValues}
use Rattle.rules.specs.Walk
use Rattle.claim_scope.specs.Scope

-- which of self, super and $ an object used is nothing to the walk

same_use : (u : ObjectUse) (st : AnalysisStack) → Same st (with_object_use u st)
unfolding with_object_use
same_use u st = record { same_keys = refl; same_frames = refl; same_out = refl; same_errored = refl }

-- The object's record

bit_small : (b : Bool) → bit b < 4294967296
bit_small true = omega arith
bit_small false = omega arith

object_fits : (outermost : Bool) (u : ObjectUse) (kept : ℕ) (hs : Heads) (ts vs : Exprs) → Numbers (count_exprs ts ∷ count_exprs vs ∷ []) → kept ≤ 65535 → OutFits (OB, object_numbers outermost u kept hs ts vs)
unfolding object_numbers mark_among out_marks code choose out_fields widths width Numbers
object_fits outermost u kept hs ts vs counts few =
    let dollar = outermost && u.dollar_used in
    fits_fields OB _ refl refl refl
    (bit_small (u.self_used || u.super_used || dollar), (bit_small dollar, (bit_small u.super_used, (omega arith, (counts.0, (counts.1.0, (bit_small (is_static [] hs), tt)))))))

-- How the walk over an object goes

append_four : {A : Type 0} (ws xs ys zs : List A) → ws ++ xs ++ ys ++ zs ≡ ws ++ (xs ++ (ys ++ zs))
append_four ws xs ys zs = append_assoc (ws ++ xs) ys zs ∙ append_assoc ws xs (ys ++ zs)

-- three walks, one after the other
three_shape : (o : Reached) (second third : Trail → Reached) (g : List Meant × Trail → Reached)
    → (o >>= λ x. second x.1 >>= λ y. third y.1 >>= λ z. g (z.0 ++ (y.0 ++ x.0), z.1))
    ≡ (((o >>= λ x. second x.1 >>= joined x.0) >>= λ y. third y.1 >>= joined y.0) >>= g)
unfolding ◌>>=◌
three_shape none second third g = refl
three_shape (some x) second third g = by (second x.1)
  where
    last : (ys : List Meant) (o : Reached) → (o >>= λ z. g (z.0 ++ ys, z.1)) ≡ ((o >>= joined ys) >>= g)
    last ys none = refl
    last ys (some z) = refl

    by : (o : Reached) → (o >>= λ y. third y.1 >>= λ z. g (z.0 ++ (y.0 ++ x.0), z.1)) ≡ (((o >>= joined x.0) >>= λ y. third y.1 >>= joined y.0) >>= g)
    by none = refl
    by (some y) = last (y.0 ++ x.0) (third y.1)

abbrev this_key : ℕ → Key
this_key p = (at_record p, none)

-- what is walked in the object's frame, and all but its heads
abbrev members_back : Binds → Exprs → Exprs → Back
members_back bs ts vs = both_back (λ v rs. reach_binds bs 1 v rs) (both_back (λ v rs. reach_assertions ts v rs) (λ v rs. reach_values vs v rs))

abbrev object_back : ℕ → Binds → Exprs → Exprs → Back
object_back p bs ts vs = record_back OB (at_record p ∷ bind_slots bs) (members_back bs ts vs)

object_shape : (p : ℕ) (hs : Heads) (bs : Binds) (ts vs : Exprs) (v : View) (rs : Trail) → reach (object p hs bs ts vs) v rs ≡ both_back (λ v rs. reach_heads hs v rs) (object_back p bs ts vs) v rs
unfolding reach ◌>>=◌
object_shape p hs bs ts vs v rs =
    (λ i. expect OB rs >>= λ x. open_defining (at_record p ∷ bind_slots bs) v x.1 >>= λ w. reach_values vs w.0 w.1 >>= λ m. reach_assertions ts w.0 m.1 >>= λ k. reach_binds bs 1 w.0 k.1 >>= λ l.
    reach_heads hs v l.1 >>= λ j. some (append_four j.0 l.0 k.0 m.0 i, j.1))
    ∙ (λ i. expect OB rs >>= λ x. open_defining (at_record p ∷ bind_slots bs) v x.1 >>= λ w. three_shape (reach_values vs w.0 w.1) (reach_assertions ts w.0) (reach_binds bs 1 w.0) heads i)
    ∙ spec_shape (expect OB rs) (λ _. some tt) (open_defining (at_record p ∷ bind_slots bs) v) (members_back bs ts vs) heads
  where
    heads : List Meant × Trail → Reached
    heads x = reach_heads hs v x.1 >>= joined x.0

this_names : (p : ℕ) (bs : Binds) → names_in (this_key p ∷ bind_keys bs) ≡ bind_names bs
unfolding names_in given
this_names p bs = bind_keys_names bs

-- all of an object's names are in its frame, `this` first
object_defines : (ks : List Key) (sc : Scope) (p : ℕ) (bs : Binds) (a b c d : AnalysisStack) → b ≡ frame_opened a
    → Defines ks a.frames sc.names [] (this_key p ∷ []) b c → Defines ks a.frames sc.names (this_key p ∷ []) (bind_keys bs) c d
    → Defines ks a.frames sc.names [] (this_key p ∷ bind_keys bs) (frame_opened a) d
object_defines ks sc p bs a b c d is this names =
    subst (λ (b : AnalysisStack). Defines ks a.frames sc.names [] (this_key p ∷ bind_keys bs) b d) is (defines_then [] (this_key p ∷ []) (bind_keys bs) this names)

object_inside : (ks : List Key) (p : ℕ) (bs : Binds) (h : Place) (sc : Scope) (st : AnalysisStack) → Agree ks h sc → Ready ks st → Scoped (ks ++ (this_key p ∷ bind_keys bs)) (names_in (this_key p ∷ bind_keys bs) ++ sc.names)
    → Agree (ks ++ (this_key p ∷ bind_keys bs)) (Walk.in_object (length st.locals) h) (under (bind_names bs) (Scope.in_object p sc))
object_inside ks p bs h sc st agree r scoped = agree_in_object ks (this_key p) (bind_keys bs) (bind_names bs) p (length st.locals) h sc refl (as_many ks st r.same_keys) agree
    (subst (λ (ns : Names). Scoped (ks ++ (this_key p ∷ bind_keys bs)) (ns ++ sc.names)) (this_names p bs) scoped)

-- The state as the object's frame opens, and after its end

entered : Place → AnalysisStack → AnalysisStack
entered h st = with_object_use (entered_use (is_outermost h) st.object_use) st

left : (outer st : AnalysisStack) → AnalysisStack
left outer st = with_object_use (left_use outer.object_use st.object_use) st

module _ (L : Limits) where
  pub no_assertions_walk : WalksAssertions L no_exprs
  unfolding analyze_assertions reach_assertions read_all
  no_assertions_walk ks h sc st = fine (step_none ks h sc st)

  pub object_walks : (p : ℕ) (hs : Heads) (bs : Binds) (ts vs : Exprs) → Numbers (count_exprs ts ∷ count_exprs vs ∷ []) → NamingsFit (head_namings hs)
      → WalksHeads L hs → WalksBinds L bs → WalksAssertions L ts → WalksValues L vs → Walks L (object p hs bs ts vs)
  unfolding analyze read open_frame frame_opened with_object_use entered left
  object_walks p hs bs ts vs counts namings heads binds assertions values naming named ks h sc st =
      after_bind _ (heads ks h sc st) λ a outside.
      after_bind {P = λ (b : AnalysisStack). b ≡ frame_opened (entered h a)} _ (after_need _ 7 p _ λ _. fine refl) λ b is.
      after_bind _ (defines_this L ks a.frames sc.names p (place a).depth b) λ c this.
      after_bind _ (defines_binds L ks a.frames sc.names bs (place a).depth (this_key p ∷ []) c) λ d names.
      after_bind _ (binds 1 0 (ks ++ new) (place a) scope d) λ x specs.
      after_bind _ (assertions (ks ++ new) (deeper (place a)) scope (settle_frame propagate_analysis x.0 (length a.references) x.1)) λ e asserted.
      after_bind _ (values (head_namings hs) namings (ks ++ new) (deeper (place a)) scope e) λ f valued.
      after_bind _ (finishes L p x.0 (length a.references) f) λ g finished.
      after_weaken
      (framed_emitted L ks new (at_record p ∷ bind_slots bs) p OB (object_numbers (is_outermost h) g.object_use x.0 hs ts vs) (left a g) (ap (λ (bs : List Binding). at_record p ∷ bs) (bind_keys_slots bs)) (omega arith) (object_fits (is_outermost h) g.object_use x.0 hs ts vs counts)
      (framed ks new 1 (bind_slots bs) (entered h a) d x (settle_frame propagate_analysis x.0 (length a.references) x.1) f (left a g)
      (object_inside ks p bs h sc (entered h a)) (bind_keys_slots bs) (object_defines ks sc p bs (entered h a) b c d is this names)
      specs (same_settle propagate_analysis analysis_keeps x.0 (length a.references) x.1) (step_then asserted valued) (finished_same (same_use _ g) finished))) λ k inside.
      step_by (λ v rs. reach (object p hs bs ts vs) v rs) (object_shape p hs bs ts vs)
      (sym (append_four (read_heads hs sc) (read_binds bs scope) (read_all ts scope) (read_all vs scope)))
      (step_then outside (step_from a (entered h a) (same_use _ a) inside))
    where
      new : List Key
      new = this_key p ∷ bind_keys bs

      scope : Scope
      scope = under (bind_names bs) (Scope.in_object p sc)

      place : AnalysisStack → Place
      place a = Walk.in_object (length a.locals) h
