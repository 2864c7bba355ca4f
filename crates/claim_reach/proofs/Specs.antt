-- A bind or a parameter that is kept: its record stands after its value, with its slot. Assumes nothing.
use Prim.Native.Nat.{ℕ, zero, suc, ◌+◌, ◌-◌, ◌<◌, ◌≤◌}
use mathlib.Core.Bool.{true, false, false≢true}
use mathlib.Core.List.{List, [], ◌∷◌, ◌++◌}
use mathlib.Core.Option.{Option, none, some}
use native.Mathlib.Omega.{arith}
use mathlib.Core.Path.{◌≡◌, refl, sym, ap, ◌∙◌, subst}
use lib.ListN.{length, get_or, drop, length-drop}
use lib.Seq.{get_or-drop, drop-drop}
use borrow.Author.Tests.{eq-eqb}
use Rattle.rules.specs.Numbers.{Mark, record_bytes}
use Rattle.rules.specs.Depths.{AnalysisResult}
use Rattle.rules.specs.Tree.{Binding, at_record, external}
use Rattle.rules.specs.Locals.{local_at}
use Rattle.rules.specs.Frames.{ClosureFrame, no_frame, new_frame, top}
use Rattle.rules.specs.State.{Limits, AnalysisStack, with_locals, with_taint, with_out, with_sink, taken_back}
use Rattle.rules.specs.Scoping.{first_in_frame, is_at, is_kept, set_analysis, taint_outer, drop_spec, record_spec_init}
use Rattle.rules.specs.Walk.{Place}
use Rattle.rules.proofs.After.{After, fine, after_bind, after_choose}
use Rattle.claim_scope.specs.Scope.{Scope, Meant}
use Rattle.claim_reach.specs.Decode.{◌>>=◌}
use Rattle.claim_reach.specs.Reach.{View, Trail, expect}
use Rattle.claim_reach.proofs.Resolving.{Stacked, bottom, on_top}
use Rattle.claim_reach.proofs.Decoding.{OutFits}
use Rattle.claim_reach.proofs.Promise.{Key, keys, labels, Agree, Ready, Back, Kept, Step, kept_then, kept_walk, both_back, step_none, label_count}
use Rattle.claim_reach.proofs.Frames.{emit_is}
use Rattle.claim_reach.proofs.Names.{key_at}
use Rattle.claim_reach.proofs.Keys.{Same, same_then, same_references_kept, same_analysis}
use Rattle.claim_reach.proofs.Ending.{kept_same, kept_emit, grown_first}

label_as : (ks : List Key) (id : ℕ) → get_or (labels ks) id (external 0) ≡ (get_or ks id (external 0, none)).0
label_as [] id = refl
label_as (k ∷ ks) zero = refl
label_as (k ∷ ks) (suc id) = label_as ks id

-- the spec at p is that of its slot
kept_there : (ks : List Key) (p slot : ℕ) (st : AnalysisStack) → keys st.locals ≡ ks → get_or (labels ks) (first_in_frame st + slot) (external 0) ≡ at_record p → is_kept p slot st ≡ true
unfolding is_kept is_at
kept_there ks p slot st same e =
    let stands : (local_at st.locals (first_in_frame st + slot)).stands_for ≡ at_record p =
    sym (ap (λ (k : Key). k.0) (key_at st.locals (first_in_frame st + slot))) ∙ sym (label_as (keys st.locals) (first_in_frame st + slot))
    ∙ ap (λ (ks : List Key). get_or (labels ks) (first_in_frame st + slot) (external 0)) same ∙ e in
    ap (is_at p) stands ∙ eq-eqb p p refl

-- what keeping it leaves
pub record Recorded (m : Mark) (ns : List ℕ) (kept : ℕ) (b : AnalysisStack) (x : ℕ × AnalysisStack) : Type 0 where
  pub count : x.0 ≡ suc kept
  pub last : AnalysisStack
  pub same : Same b last
  pub is : x.1 ≡ with_out (last.sink.out ++ record_bytes m ns) last

pub record Specified (p slot kept : ℕ) (m : Mark) (ns : List ℕ) (b : AnalysisStack) (x : ℕ × AnalysisStack) : Type 0 where
  pub same_errored : x.1.sink.errored ≡ b.sink.errored
  pub recorded : is_kept p slot b ≡ true → Recorded m ns kept b x

module _ (L : Limits) where
  pub specified : (p base kept start : ℕ) (outer : AnalysisResult) (m : Mark) (numbers : ℕ → List ℕ) (st : AnalysisStack)
      → After (Specified p (base + kept) kept m (numbers (base + kept)) st) (record_spec_init L p base kept start outer m numbers st)
  unfolding record_spec_init taint_outer with_taint drop_spec taken_back with_out with_sink with_locals
  specified p base kept start outer m numbers st = after_choose _ _ _
      (λ _. after_bind _ (same_references_kept L p _ st) λ b h.
      after_bind _ (emit_is L p m (numbers (base + kept)) (taint_outer outer (set_analysis (first_in_frame st + (base + kept)) b))) λ c e.
      fine (record {
        same_errored = ap (λ (c : AnalysisStack). c.sink.errored) e ∙ (same_analysis (first_in_frame st + (base + kept)) b).same_errored ∙ h.same_errored;
        recorded = λ _. record {
          count = refl;
          last = taint_outer outer (set_analysis (first_in_frame st + (base + kept)) b);
          same = same_then h (tainted (same_analysis (first_in_frame st + (base + kept)) b));
          is = e;
        };
      }))
      (λ dropped. fine (record { same_errored = refl; recorded = λ is. absurd (false≢true (sym dropped ∙ is)) }))
    where
      tainted : {b d : AnalysisStack} → Same b d → Same b (taint_outer outer d)
      tainted s = record { same_keys = s.same_keys; same_frames = s.same_frames; same_out = s.same_out; same_errored = s.same_errored }

-- the slots of a frame are few
few_slots : {n : ℕ} {fs : List ClosureFrame} → Stacked n fs → n ≤ (top fs).first_local + 65535
unfolding top no_frame new_frame
few_slots bottom = omega arith
few_slots (on_top s first empty few caps) = omega (arith, first)

-- a slot that is a label's of the frame on top
pub slot_small : (ks : List Key) (st : AnalysisStack) (slot : ℕ) (b : Binding) (bs : List Binding) → Ready ks st → drop (first_in_frame st + slot) (labels ks) ≡ b ∷ bs → slot < 65535
unfolding first_in_frame
slot_small ks st slot b bs r e =
    let inside : length (labels ks) - ((top st.frames).first_local + slot) ≡ suc (length bs) = sym (length-drop _ (labels ks)) ∙ ap length e in
    omega (arith, inside, few_slots r.stacked, label_count ks)

-- Specs: those of `slots` are next, with slots from base + kept on
pub record SpecsKept (ks : List Key) (kept : ℕ) (slots : List Binding) (walk : Back) (ms : List Meant) (a : AnalysisStack) (x : ℕ × AnalysisStack) : Type 0 where
  pub count : x.0 ≡ kept + length slots
  pub all : Kept ks walk ms a x.1

pub record Specs (ks : List Key) (h : Place) (sc : Scope) (base kept : ℕ) (slots : List Binding) (walk : Back) (ms : List Meant) (a : AnalysisStack) (x : ℕ × AnalysisStack) : Type 0 where
  pub calm : x.1.sink.errored ≡ false → a.sink.errored ≡ false
  pub kept_all : x.1.sink.errored ≡ false → Agree ks h sc → Ready ks a → drop (first_in_frame a + (base + kept)) (labels ks) ≡ slots → SpecsKept ks kept slots walk ms a x

-- one spec, that at p
pub record OneKept (ks : List Key) (kept : ℕ) (walk : Back) (ms : List Meant) (a : AnalysisStack) (x : ℕ × AnalysisStack) : Type 0 where
  pub count : x.0 ≡ suc kept
  pub all : Kept ks walk ms a x.1

pub record OneSpec (ks : List Key) (h : Place) (sc : Scope) (p base kept : ℕ) (walk : Back) (ms : List Meant) (a : AnalysisStack) (x : ℕ × AnalysisStack) : Type 0 where
  pub calm : x.1.sink.errored ≡ false → a.sink.errored ≡ false
  pub kept_one : x.1.sink.errored ≡ false → Agree ks h sc → Ready ks a → (more : List Binding) → drop (first_in_frame a + (base + kept)) (labels ks) ≡ at_record p ∷ more → OneKept ks kept walk ms a x

first_there : {A : Type 0} (xs : List A) (i : ℕ) (d y : A) (ys : List A) → drop i xs ≡ y ∷ ys → get_or xs i d ≡ y
first_there xs i d y ys e =
    let same : i + 0 ≡ i = omega arith in
    ap (λ (k : ℕ). get_or xs k d) (sym same) ∙ sym (get_or-drop i xs 0 d) ∙ ap (λ (l : List _). get_or l 0 d) e

-- a value's step, and then its record
pub spec_kept : {ks : List Key} {h : Place} {sc : Scope} {walk : Back} {ms : List Meant} (p base kept : ℕ) (m : Mark) (ns : List ℕ) (with_numbers : List ℕ → Option (Unit {0})) (a b : AnalysisStack) (x : ℕ × AnalysisStack)
    → (base + kept < 65535 → OutFits (m, ns)) → with_numbers ns ≡ some tt → Step ks h sc walk ms a b → Specified p (base + kept) kept m ns b x
    → OneSpec ks h sc p base kept (λ v rs. expect m rs >>= λ x. with_numbers x.0 >>= λ _. walk v x.1) ms a x
unfolding first_in_frame
spec_kept {ks = ks} {walk = walk} {ms = ms} p base kept m ns with_numbers a b x fits passes s d = record {
  calm = λ e. s.calm (sym d.same_errored ∙ e);
  kept_one = λ e agree r more there.
      (let k : Kept ks walk ms a b = s.kept (sym d.same_errored ∙ e) agree r in
      let first : first_in_frame b ≡ first_in_frame a = grown_first a.frames b.frames k.grew in
      let label : get_or (labels ks) (first_in_frame b + (base + kept)) (external 0) ≡ at_record p =
      ap (λ (f : ℕ). get_or (labels ks) (f + (base + kept)) (external 0)) first ∙ first_there (labels ks) (first_in_frame a + (base + kept)) (external 0) (at_record p) more there in
      let r₁ = d.recorded (kept_there ks p (base + kept) b k.ready.same_keys label) in
      record {
        count = r₁.count;
        all = subst (λ (c : AnalysisStack). Kept ks (λ v rs. expect m rs >>= λ x. with_numbers x.0 >>= λ _. walk v x.1) ms a c) (sym r₁.is)
            (kept_emit a r₁.last m ns with_numbers (fits (slot_small ks a (base + kept) (at_record p) more r there)) passes (kept_same b r₁.last r₁.same k));
      });
}

pub specs_none : (ks : List Key) (h : Place) (sc : Scope) (base kept : ℕ) (st : AnalysisStack) → Specs ks h sc base kept [] (λ v rs. some ([], rs)) [] st (kept, st)
specs_none ks h sc base kept st = record {
  calm = λ e. e;
  kept_all = λ e agree r there. (let same : kept + 0 ≡ kept = omega arith in record { count = sym same; all = (step_none ks h sc st).kept e agree r });
}

-- one spec and those after it; how those are walked is told by how many were kept before them
pub specs_then : {ks : List Key} {h : Place} {sc : Scope} {first : Back} {ms ns : List Meant} {more : List Binding} (second : ℕ → Back) (p base kept : ℕ) (a : AnalysisStack) (x y : ℕ × AnalysisStack)
    → OneSpec ks h sc p base kept first ms a x → Specs ks h sc base x.0 more (second x.0) ns x.1 y → Specs ks h sc base kept (at_record p ∷ more) (both_back first (second (suc kept))) (ms ++ ns) a y
unfolding first_in_frame
specs_then {ks = ks} {ns = ns} {more = more} second p base kept a x y one rest = record {
  calm = λ e. one.calm (rest.calm e);
  kept_all = λ e agree r there.
      (let k = one.kept_one (rest.calm e) agree r more there in
      let first : first_in_frame x.1 ≡ first_in_frame a = grown_first a.frames x.1.frames k.all.grew in
      let next : first_in_frame x.1 + (base + x.0) ≡ first_in_frame a + (base + kept) + 1 = omega (arith, first, k.count) in
      let behind : drop (first_in_frame x.1 + (base + x.0)) (labels ks) ≡ more =
      ap (λ (n : ℕ). drop n (labels ks)) next ∙ sym (drop-drop 1 (first_in_frame a + (base + kept)) (labels ks)) ∙ ap (drop 1) there in
      let all = rest.kept_all e agree k.all.ready behind in
      record { count = omega (arith, all.count, k.count); all = kept_then k.all (subst (λ (n : ℕ). Kept ks (second n) ns x.1 y.1) k.count all.all) });
}

pub specs_by : {ks : List Key} {h : Place} {sc : Scope} {walk : Back} {ms : List Meant} {slots : List Binding} {base kept : ℕ} {a : AnalysisStack} {x : ℕ × AnalysisStack} (other : Back) → ((v : View) (rs : Trail) → other v rs ≡ walk v rs)
    → Specs ks h sc base kept slots walk ms a x → Specs ks h sc base kept slots other ms a x
specs_by other same s = record {
  calm = s.calm;
  kept_all = λ e agree r there. (let k = s.kept_all e agree r there in record {
    count = k.count;
    all = kept_walk other (λ v rs y d. same v rs ∙ d) k.all;
  });
}
