-- A defining frame around its specs and its body. Assumes nothing.
use Prim.Native.Nat.{ℕ, ◌+◌, ◌≤◌}
use mathlib.Core.Bool.{true, false, false≢true}
use mathlib.Core.List.{List, [], ◌∷◌, ◌++◌, append-nil}
use mathlib.Core.Option.{Option, none, some}
use native.Mathlib.Omega.{arith}
use mathlib.Core.Path.{◌≡◌, refl, sym, ap, ap₂, ◌∙◌, subst}
use lib.ListN.{length, get_or, drop, length-append, get_or-append}
use lib.Seq.{drop-drop, drop-append_seam}
use Rattle.rules.specs.Tree.{Binding, external}
use Rattle.rules.specs.Frames.{ClosureFrame, new_frame, top}
use Rattle.rules.specs.State.{AnalysisStack, with_frames}
use Rattle.rules.specs.Scoping.{first_in_frame}
use Rattle.rules.specs.Walk.{Place, deeper}
use Rattle.claim_scope.specs.Scope.{Scope, Meant, under}
use Rattle.claim_reach.specs.Decode.{◌>>=◌}
use Rattle.claim_reach.specs.Reach.{open_defining}
use Rattle.claim_reach.proofs.Resolving.{Stacked, on_top, Good, no_more, one_more}
use Rattle.claim_reach.proofs.Promise.{Key, labels, labelled, Inside, Agree, Ready, Back, Kept, Step, kept_then, both_back, label_count}
use Rattle.claim_reach.proofs.Frames.{as_many}
use Rattle.claim_reach.proofs.Keys.{Same}
use Rattle.claim_reach.proofs.Relabel.{labels_append, alike_back, alike_keys, good_alike, defined_frame}
use Rattle.claim_reach.proofs.Defining.{Names, names_in, Scoped}
use Rattle.claim_reach.proofs.DefiningSteps.{Holding, Defines}
use Rattle.claim_reach.proofs.Ending.{kept_same, Finished, finished_calm, finished_kept}
use Rattle.claim_reach.proofs.Specs.{Specs}

-- The scope inside

pub labelled_more : (ks new : List Key) (o : Option ℕ) → Inside (length ks) o → labelled (ks ++ new) o ≡ labelled ks o
unfolding labelled Inside
labelled_more ks new none h = refl
labelled_more ks new (some id) h =
    ap {B = Option Binding} some (ap (λ (bs : List Binding). get_or bs id (external 0)) (labels_append ks new) ∙ get_or-append (labels ks) (labels new) (external 0) id (omega (arith, label_count ks)))

pub inside_more : (ks new : List Key) (o : Option ℕ) → Inside (length ks) o → Inside (length (ks ++ new)) o
unfolding Inside
inside_more ks new none h = tt
inside_more ks new (some id) h = omega (arith, length-append ks new)

pub agree_under : (ks new : List Key) (names : Names) (h : Place) (sc : Scope) → Agree ks h sc → Scoped (ks ++ new) (names ++ sc.names) → Agree (ks ++ new) h (under names sc)
unfolding under Scoped
agree_under ks new names h sc a s = record {
  names = s;
  this = labelled_more ks new h.this_local a.this_inside ∙ a.this;
  dollar = labelled_more ks new h.dollar_alias a.dollar_inside ∙ a.dollar;
  this_inside = inside_more ks new h.this_local a.this_inside;
  dollar_inside = inside_more ks new h.dollar_alias a.dollar_inside;
}

-- as the names are told
pub agree_named : (ks new : List Key) (names : Names) (h : Place) (sc : Scope) → names_in new ≡ names → Agree ks h sc → Scoped (ks ++ new) (names_in new ++ sc.names) → Agree (ks ++ new) h (under names sc)
agree_named ks new names h sc e a s = agree_under ks new names h sc a (subst (λ (ns : Names). Scoped (ks ++ new) (ns ++ sc.names)) e s)

pub agree_deeper : (ks : List Key) (h : Place) (sc : Scope) → Agree ks h sc → Agree ks (deeper h) sc
unfolding deeper
agree_deeper ks h sc a = record { names = a.names; this = a.this; dollar = a.dollar; this_inside = a.this_inside; dollar_inside = a.dollar_inside }

-- The frame, before its names and with them

unfoldable pub frame_opened : AnalysisStack → AnalysisStack
frame_opened st = with_frames (new_frame true (length st.locals) 0 ∷ st.frames) st

holding_none : (ks : List Key) (h : Place) (sc : Scope) (st : AnalysisStack) → Agree ks h sc → Ready ks st → Holding ks st.frames sc.names [] (frame_opened st)
unfolding frame_opened with_frames new_frame defined_frame Scoped names_in
holding_none ks h sc st a r = record {
  same_keys = r.same_keys ∙ sym (append-nil ks);
  same_frames = ap (λ (n : ℕ). defined_frame n 0 ∷ st.frames) (as_many ks st r.same_keys);
  few = omega arith;
  scoped = subst (λ (ks : List Key). Scoped ks sc.names) (sym (append-nil ks)) a.names;
}

ready_holding : (ks new : List Key) (names : Names) (a b : AnalysisStack) → Ready ks a → Holding ks a.frames names new b → Ready (ks ++ new) b
unfolding defined_frame
ready_holding ks new names a b r h = record {
  same_keys = h.same_keys;
  good = subst (λ (fs : List ClosureFrame). Good (labels (ks ++ new)) fs) (sym h.same_frames) (one_more no_more (good_alike (alike_back (alike_keys ks new)) r.stacked r.good));
  stacked = subst (λ (fs : List ClosureFrame). Stacked (length (ks ++ new)) fs) (sym h.same_frames)
      (subst (λ (n : ℕ). Stacked n (defined_frame (length ks) (length new) ∷ a.frames)) (sym (length-append ks new)) (on_top {f = defined_frame (length ks) (length new)} r.stacked refl (λ e. absurd (not_false e)) h.few (omega arith)));
}
  where
    not_false : true ≡ false → ⊥
    not_false e = false≢true (sym e)

own_slots_from : (ks new : List Key) (names : Names) (base : ℕ) (fs : List ClosureFrame) (st : AnalysisStack) → Holding ks fs names new st → drop (first_in_frame st + (base + 0)) (labels (ks ++ new)) ≡ drop base (labels new)
unfolding first_in_frame top defined_frame
own_slots_from ks new names base fs st h =
    let first : (top st.frames).first_local ≡ length (labels ks) = ap (λ (fs : List ClosureFrame). (top fs).first_local) h.same_frames ∙ sym (label_count ks) in
    let at : (top st.frames).first_local + (base + 0) ≡ length (labels ks) + base = omega (arith, first) in
    ap₂ (λ (n : ℕ) (bs : List Binding). drop n bs) at (labels_append ks new) ∙ sym (drop-drop base (length (labels ks)) (labels ks ++ labels new)) ∙ ap (drop base) (drop-append_seam (labels ks) (labels new))

-- what a frame promises: how many specs were kept, that they are few, and the walk through its shape
pub record FramedKept (ks new : List Key) (slots : List Binding) (walk : Back) (ms : List Meant) (kept : ℕ) (a b : AnalysisStack) : Type 0 where
  pub count : kept ≡ length slots
  pub few : length new ≤ 65535
  pub all : Kept ks (λ v rs. open_defining (labels new) v rs >>= λ x. walk x.0 x.1) ms a b

pub record Framed (ks new : List Key) (h : Place) (sc : Scope) (slots : List Binding) (walk : Back) (ms : List Meant) (kept : ℕ) (a b : AnalysisStack) : Type 0 where
  pub calm : b.sink.errored ≡ false → a.sink.errored ≡ false
  pub framed_kept : b.sink.errored ≡ false → Agree ks h sc → Ready ks a → FramedKept ks new slots walk ms kept a b

-- what the walk means can be told otherwise where it stayed calm
pub framed_means : {ks new : List Key} {h : Place} {sc : Scope} {slots : List Binding} {walk : Back} {ms ns : List Meant} {kept : ℕ} {a b : AnalysisStack} → (b.sink.errored ≡ false → Agree ks h sc → Ready ks a → ms ≡ ns)
    → Framed ks new h sc slots walk ms kept a b → Framed ks new h sc slots walk ns kept a b
framed_means {ks = ks} {new = new} {slots = slots} {walk = walk} {kept = kept} {a = a} {b = b} means f = record {
  calm = f.calm;
  framed_kept = λ q agree r. subst (λ (ms : List Meant). FramedKept ks new slots walk ms kept a b) (means q agree r) (f.framed_kept q agree r);
}

-- what is known inside a frame that stayed calm: its names are defined, its specs kept, and its body can be walked
pub record InsideKept (ks new : List Key) (names : Names) (slots : List Binding) (specs body : Back) (ms ns : List Meant) (kept : ℕ) (a b c d : AnalysisStack) : Type 0 where
  pub held : Holding ks a.frames names new b
  pub count : kept ≡ length slots
  pub specs_kept : Kept (ks ++ new) specs ms b c
  pub body_kept : Kept (ks ++ new) body ns c d

pub inside_kept : {h h' : Place} {sc sc' : Scope} {specs body : Back} {ms ns : List Meant} (ks new : List Key) (base : ℕ) (slots : List Binding) (a b : AnalysisStack) (x : ℕ × AnalysisStack) (c d : AnalysisStack)
    → (Agree ks h sc → Ready ks a → Scoped (ks ++ new) (names_in new ++ sc.names) → Agree (ks ++ new) h' sc') → drop base (labels new) ≡ slots
    → Defines ks a.frames sc.names [] new (frame_opened a) b
    → Specs (ks ++ new) h' sc' base 0 slots specs ms b x
    → Same x.1 c
    → Step (ks ++ new) (deeper h') sc' body ns c d
    → d.sink.errored ≡ false → Agree ks h sc → Ready ks a
    → InsideKept ks new sc.names slots specs body ms ns x.0 a b c d
unfolding frame_opened with_frames
inside_kept {h = h} {h' = h'} {sc = sc} {sc' = sc'} {specs = specs} {ms = ms} ks new base slots a b x c d inside same_slots defines specs_step same body_step calm_d agree r =
    let calm_x = sym same.same_errored ∙ body_step.calm calm_d in
    let held : Holding ks a.frames sc.names new b = defines.holding (specs_step.calm calm_x) (holding_none ks h sc a agree r) in
    let inner : Agree (ks ++ new) h' sc' = inside agree r held.scoped in
    let ready : Ready (ks ++ new) b = ready_holding ks new sc.names a b r held in
    let k = specs_step.kept_all calm_x inner ready (own_slots_from ks new sc.names base a.frames b held ∙ same_slots) in
    let k₁ : Kept (ks ++ new) specs ms b c = kept_same x.1 c same k.all in
    let zero_first : 0 + length slots ≡ length slots = omega arith in
    record {
      held = held;
      count = k.count ∙ zero_first;
      specs_kept = k₁;
      body_kept = body_step.kept calm_d (agree_deeper (ks ++ new) h' sc' inner) k₁.ready;
    }

pub framed : {h h' : Place} {sc sc' : Scope} {specs body : Back} {ms ns : List Meant} (ks new : List Key) (base : ℕ) (slots : List Binding) (a b : AnalysisStack) (x : ℕ × AnalysisStack) (c d e : AnalysisStack)
    → (Agree ks h sc → Ready ks a → Scoped (ks ++ new) (names_in new ++ sc.names) → Agree (ks ++ new) h' sc') → drop base (labels new) ≡ slots
    → Defines ks a.frames sc.names [] new (frame_opened a) b
    → Specs (ks ++ new) h' sc' base 0 slots specs ms b x
    → Same x.1 c
    → Step (ks ++ new) (deeper h') sc' body ns c d
    → Finished d e
    → Framed ks new h sc slots (both_back specs body) (ms ++ ns) x.0 a e
unfolding frame_opened with_frames
framed ks new base slots a b x c d e inside same_slots defines specs_step same body_step finished = record {
  calm = λ q. defines.calm (specs_step.calm (sym same.same_errored ∙ body_step.calm (finished_calm finished q)));
  framed_kept = λ q agree r.
      (let k = inside_kept ks new base slots a b x c d inside same_slots defines specs_step same body_step (finished_calm finished q) agree r in
      record {
        count = k.count;
        few = k.held.few;
        all = finished_kept ks new a b d e r k.held.same_frames defines.same_out (kept_then k.specs_kept k.body_kept) finished;
      });
}
