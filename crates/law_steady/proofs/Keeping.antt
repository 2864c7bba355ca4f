-- What several steps leave as it was, from what each of them does. Assumes nothing.
use Prim.Native.Nat.{ℕ, ◌+◌, ◌≤◌}
use native.Mathlib.Omega.{arith}
use mathlib.Core.List.{List, [], ◌∷◌, ◌++◌, map, tail, append_assoc, append-nil}
use mathlib.Core.Path.{◌≡◌, refl, sym, ap, ◌∙◌}
use lib.ListN.{length, take}
use lib.Seq.{take-append_seam}
use Rattle.rules.specs.Outcome.{Outcome}
use Rattle.rules.specs.Frames.{ClosureFrame, top, beneath, no_frame, new_frame}
use Rattle.rules.specs.Settling.{Reference}
use Rattle.rules.specs.Scoping.{first_in_frame}
use Rattle.rules.specs.State.{AnalysisStack}
use Rattle.settling.specs.Meaning.{Below}
use Rattle.rules.proofs.After.{After, after_weaken}
use Rattle.law_steady.specs.Steady.{FrameHead, frame_head, frame_heads, first_locals, heads_beneath, Sound, Steady, Begins, SteadySpecs, Defined}

-- References

pub begins_same : (refs refs' : List Reference) → refs' ≡ refs → Begins refs refs'
begins_same refs refs' e = record { more = []; is = e ∙ sym (append-nil refs) }

pub begins_then : {a b c : List Reference} → Begins a b → Begins b c → Begins a c
begins_then {a = a} h k = record { more = h.more ++ k.more; is = k.is ∙ ap (λ (refs : List Reference). refs ++ k.more) h.is ∙ append_assoc a h.more k.more }

-- those that were there before are had back by their number
pub begins_back : {a b : List Reference} → Begins a b → take (length a) b ≡ a
begins_back {a = a} h = ap (take (length a)) h.is ∙ take-append_seam a h.more

pub below_more : (n m : ℕ) (refs : List Reference) → n ≤ m → Below n refs → Below m refs
unfolding Below
below_more n m [] le h = tt
below_more n m (ref ∷ refs) le h = (omega (arith, h.0), omega (arith, h.1), below_more n m refs le h.2)

pub below_both : (n : ℕ) (refs more : List Reference) → Below n refs → Below n more → Below n (refs ++ more)
unfolding Below
below_both n [] more h k = k
below_both n (ref ∷ refs) more h k = (h.0, h.1, below_both n refs more h.2 k)

pub sound_same : (st st' : AnalysisStack) → length st.locals ≤ length st'.locals → st'.references ≡ st.references → Sound st → Sound st'
unfolding Sound
sound_same st st' le e h = rw e (below_more (length st.locals) (length st'.locals) st.references le h)

-- Frames

pub heads_tail : (st : AnalysisStack) → heads_beneath st ≡ tail (frame_heads st)
unfolding heads_beneath frame_heads beneath
heads_tail st = of st.frames
  where
    of : (fs : List ClosureFrame) → map frame_head (beneath fs) ≡ tail (map frame_head fs)
    of [] = refl
    of (f ∷ fs) = refl

pub beneath_same : (st st' : AnalysisStack) → frame_heads st' ≡ frame_heads st → heads_beneath st' ≡ heads_beneath st
beneath_same st st' e = heads_tail st' ∙ ap tail e ∙ sym (heads_tail st)

-- where the first of these frames begins
first_of : List FrameHead → ℕ
first_of [] = 0
first_of (h ∷ hs) = h.first_local

first_head : (st : AnalysisStack) → first_in_frame st ≡ first_of (frame_heads st)
unfolding first_in_frame frame_heads top no_frame new_frame frame_head first_of
first_head st = of st.frames
  where
    of : (fs : List ClosureFrame) → (top fs).first_local ≡ first_of (map frame_head fs)
    of [] = refl
    of (f ∷ fs) = refl

pub first_same : (st st' : AnalysisStack) → frame_heads st' ≡ frame_heads st → first_in_frame st' ≡ first_in_frame st
first_same st st' e = first_head st' ∙ ap first_of e ∙ sym (first_head st)

-- the same frames but for captures are as many, and begin at the same locals

-- Expressions

pub steady_none : (st : AnalysisStack) → Steady 0 st st
steady_none st = record { same_count = refl; same_references = refl; same_frames = refl; few_rounds = omega arith; longer = omega arith }

pub steady_then : {a b c : ℕ} {st st' st'' : AnalysisStack} → Steady a st st' → Steady b st' st'' → a + b ≤ c → Steady c st st''
steady_then h k le = record {
  same_count = k.same_count ∙ h.same_count;
  same_references = k.same_references ∙ h.same_references;
  same_frames = k.same_frames ∙ h.same_frames;
  few_rounds = omega (arith, h.few_rounds, k.few_rounds);
  longer = omega (arith, h.longer, k.longer);
}

pub steady_more : {a b : ℕ} {st st' : AnalysisStack} → Steady a st st' → a ≤ b → Steady b st st'
steady_more h le =
    record { same_count = h.same_count; same_references = h.same_references; same_frames = h.same_frames; few_rounds = omega (arith, h.few_rounds); longer = h.longer }

-- the same with the last step's outcome
pub after_steady : {a b c : ℕ} {st st' : AnalysisStack} {o : Outcome AnalysisStack} → Steady a st st' → After (Steady b st') o → a + b ≤ c → After (Steady c st) o
after_steady h k le = after_weaken k λ _ last. steady_then h last le

-- the references stay sound
pub steady_sound : {most : ℕ} {st st' : AnalysisStack} → Steady most st st' → Sound st → Sound st'
steady_sound {st = st} {st' = st'} h = sound_same st st' (omega (arith, h.same_count)) h.same_references

-- A using frame above a state: what it leaves for when it closes

pub record Opened (most : ℕ) (st st' : AnalysisStack) : Type 0 where
  pub same_count : length st'.locals ≡ length st.locals
  pub same_references : st'.references ≡ st.references
  pub same_beneath : heads_beneath st' ≡ frame_heads st
  pub few_rounds : st'.sink.rounds ≤ st.sink.rounds + most
  pub longer : length st.sink.out ≤ length st'.sink.out

pub opened_then : {a b : ℕ} {st st' st'' : AnalysisStack} → Opened a st st' → Steady b st' st'' → Opened (a + b) st st''
opened_then {st' = st'} {st'' = st''} h k = record {
  same_count = k.same_count ∙ h.same_count;
  same_references = k.same_references ∙ h.same_references;
  same_beneath = beneath_same st' st'' k.same_frames ∙ h.same_beneath;
  few_rounds = omega (arith, h.few_rounds, k.few_rounds);
  longer = omega (arith, h.longer, k.longer);
}

-- A defining frame above a state: its locals and references stand after those that were there

pub record Within (most : ℕ) (st st' : AnalysisStack) : Type 0 where
  pub more_locals : length st.locals ≤ length st'.locals
  pub first : first_in_frame st' ≡ length st.locals
  pub more_references : Begins st.references st'.references
  pub same_beneath : heads_beneath st' ≡ frame_heads st
  pub few_rounds : st'.sink.rounds ≤ st.sink.rounds + most
  pub longer : length st.sink.out ≤ length st'.sink.out

pub within_then : {a b : ℕ} {st st' st'' : AnalysisStack} → Within a st st' → Steady b st' st'' → Within (a + b) st st''
within_then {st' = st'} {st'' = st''} h k = record {
  more_locals = omega (arith, h.more_locals, k.same_count);
  first = first_same st' st'' k.same_frames ∙ h.first;
  more_references = begins_then h.more_references (begins_same st'.references st''.references k.same_references);
  same_beneath = beneath_same st' st'' k.same_frames ∙ h.same_beneath;
  few_rounds = omega (arith, h.few_rounds, k.few_rounds);
  longer = omega (arith, h.longer, k.longer);
}

pub within_specs : {a b count kept kept' : ℕ} {st st' st'' : AnalysisStack} → Within a st st' → SteadySpecs b count kept kept' st' st'' → Within (a + b) st st''
within_specs {st' = st'} {st'' = st''} h k = record {
  more_locals = omega (arith, h.more_locals, k.same_count);
  first = first_same st' st'' k.same_frames ∙ h.first;
  more_references = begins_then h.more_references k.more_references;
  same_beneath = beneath_same st' st'' k.same_frames ∙ h.same_beneath;
  few_rounds = omega (arith, h.few_rounds, k.few_rounds);
  longer = omega (arith, h.longer, k.longer);
}

pub within_defined : {a : ℕ} {st st' st'' : AnalysisStack} → Within a st st' → Defined st' st'' → Within a st st''
within_defined {st' = st'} {st'' = st''} h k = record {
  more_locals = omega (arith, h.more_locals, k.more_locals);
  first = k.same_first ∙ h.first;
  more_references = begins_then h.more_references (begins_same st'.references st''.references k.same_references);
  same_beneath = k.same_beneath ∙ h.same_beneath;
  few_rounds = omega (arith, h.few_rounds, k.same_rounds);
  longer = omega (arith, h.longer, ap length k.same_out);
}

-- from the state before something else that changes none of it
pub within_from : {a b c : ℕ} {st st' st'' : AnalysisStack} → Steady a st st' → Within b st' st'' → a + b ≤ c → Within c st st''
within_from {st = st} {st' = st'} h k le = record {
  more_locals = omega (arith, h.same_count, k.more_locals);
  first = k.first ∙ h.same_count;
  more_references = begins_then (begins_same st.references st'.references h.same_references) k.more_references;
  same_beneath = k.same_beneath ∙ h.same_frames;
  few_rounds = omega (arith, h.few_rounds, k.few_rounds);
  longer = omega (arith, h.longer, k.longer);
}

-- Specs

pub specs_then : {a b c m n o kept kept' kept'' : ℕ} {st st' st'' : AnalysisStack} → SteadySpecs a m kept kept' st st' → SteadySpecs b n kept' kept'' st' st''
    → a + b ≤ c → m + n ≤ o → SteadySpecs c o kept kept'' st st''
specs_then h k le few = record {
  same_count = k.same_count ∙ h.same_count;
  more_references = begins_then h.more_references k.more_references;
  same_frames = k.same_frames ∙ h.same_frames;
  few_rounds = omega (arith, h.few_rounds, k.few_rounds);
  few_kept = omega (arith, h.few_kept, k.few_kept);
  longer = omega (arith, h.longer, k.longer);
  sound = λ s. k.sound (h.sound s);
}

-- a step that is no spec's end keeps none
pub specs_steady : {most : ℕ} (kept : ℕ) {st st' : AnalysisStack} → Steady most st st' → SteadySpecs most 0 kept kept st st'
specs_steady kept {st = st} {st' = st'} h = record {
  same_count = h.same_count;
  more_references = begins_same st.references st'.references h.same_references;
  same_frames = h.same_frames;
  few_rounds = h.few_rounds;
  few_kept = omega arith;
  longer = h.longer;
  sound = steady_sound h;
}

-- another number of kept ones
pub specs_kept : {most m n kept kept' kept'' : ℕ} {st st' : AnalysisStack} → SteadySpecs most m kept kept' st st' → kept'' ≤ kept + n → SteadySpecs most n kept kept'' st st'
specs_kept h few = record {
  same_count = h.same_count;
  more_references = h.more_references;
  same_frames = h.same_frames;
  few_rounds = h.few_rounds;
  few_kept = few;
  longer = h.longer;
  sound = h.sound;
}

-- Definitions

pub defined_none : (st st' : AnalysisStack) → length st'.locals ≡ length st.locals → st'.references ≡ st.references → st'.frames ≡ st.frames
    → st'.sink.rounds ≡ st.sink.rounds → st'.sink.out ≡ st.sink.out → Defined st st'
unfolding first_locals heads_beneath first_in_frame
defined_none st st' same references frames rounds out = record {
  more_locals = omega arith;
  same_references = references;
  same_rounds = rounds;
  same_out = out;
  same_frame_count = λ _. ap length frames;
  same_firsts = λ _. ap (map (λ (f : ClosureFrame). f.first_local)) frames;
  same_first = ap (λ (fs : List ClosureFrame). (top fs).first_local) frames;
  same_beneath = ap (λ (fs : List ClosureFrame). map frame_head (beneath fs)) frames;
  sound = sound_same st st' (omega arith) references;
}

pub defined_then : {st st' st'' : AnalysisStack} → Defined st st' → Defined st' st'' → Defined st st''
defined_then h k = record {
  more_locals = omega (arith, h.more_locals, k.more_locals);
  same_references = k.same_references ∙ h.same_references;
  same_rounds = k.same_rounds ∙ h.same_rounds;
  same_out = k.same_out ∙ h.same_out;
  same_frame_count = λ any. k.same_frame_count (omega (arith, h.same_frame_count any)) ∙ h.same_frame_count any;
  same_firsts = λ any. k.same_firsts (omega (arith, h.same_frame_count any)) ∙ h.same_firsts any;
  same_first = k.same_first ∙ h.same_first;
  same_beneath = k.same_beneath ∙ h.same_beneath;
  sound = λ s. k.sound (h.sound s);
}
