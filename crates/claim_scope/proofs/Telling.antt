-- What several steps of the analysis report and keep together, from what each of them does. Assumes nothing.
use Prim.Native.Nat.{ℕ}
use mathlib.Core.Bool.{Bool, true, false, ◌||◌, or-false}
use mathlib.Core.List.{List, [], ◌∷◌, ◌++◌, map, append_assoc, append-nil}
use mathlib.Core.Path.{◌≡◌, refl, sym, ap, ◌∙◌, subst}
use lib.ListN.{length}
use Rattle.rules.specs.Outcome.{Outcome}
use Rattle.rules.specs.Writing.{Level, error, warning}
use Rattle.rules.specs.Frames.{ClosureFrame, top, beneath, no_frame, new_frame}
use Rattle.rules.specs.State.{AnalysisStack, Sink}
use Rattle.rules.specs.Scoping.{first_in_frame}
use Rattle.claim_scope.specs.StaticCheck.{Found, Diagnostic, diagnostic_bytes, diagnostics_bytes, if_error, errors_among, any_found}
use Rattle.claim_scope.proofs.Finding.{Key, keys}
use Rattle.rules.proofs.After.{After, after_weaken}

-- Reports

bytes_append : (ds es : List Diagnostic) → diagnostics_bytes (ds ++ es) ≡ diagnostics_bytes ds ++ diagnostics_bytes es
unfolding diagnostics_bytes
bytes_append [] es = refl
bytes_append (d ∷ ds) es =
    ap (λ (bs : List ℕ). diagnostic_bytes d ++ bs) (bytes_append ds es) ∙ sym (append_assoc (diagnostic_bytes d) (diagnostics_bytes ds) (diagnostics_bytes es))

if_error_append : (l : Level) (f : Found) (fs gs : List Found) → if_error l f (fs ++ gs) ≡ if_error l f fs ++ gs
unfolding if_error
if_error_append error f fs gs = refl
if_error_append warning f fs gs = refl

among_append : (ds es : List Diagnostic) → errors_among (ds ++ es) ≡ errors_among ds ++ errors_among es
unfolding errors_among
among_append [] es = refl
among_append (d ∷ ds) es = ap (if_error d.level d.found) (among_append ds es) ∙ if_error_append d.level d.found (errors_among ds) (errors_among es)

any_append : (b : Bool) (fs gs : List Found) → ((b || any_found fs) || any_found gs) ≡ (b || any_found (fs ++ gs))
unfolding any_found
any_append true fs gs = refl
any_append false [] gs = refl
any_append false (f ∷ fs) gs = refl

-- between two sinks just these errors were reported, and perhaps warnings
pub record Told (fs : List Found) (s s' : Sink) : Type 0 where
  pub more : List Diagnostic
  pub bytes : s'.diagnostics ≡ s.diagnostics ++ diagnostics_bytes more
  pub among : errors_among more ≡ fs
  pub flag : s'.errored ≡ (s.errored || any_found fs)

pub told_none : (s s' : Sink) → s'.diagnostics ≡ s.diagnostics → s'.errored ≡ s.errored → Told [] s s'
unfolding diagnostics_bytes errors_among any_found
told_none s s' e f = record { more = []; bytes = e ∙ sym (append-nil s.diagnostics); among = refl; flag = f ∙ sym (or-false s.errored) }

pub told_then : {fs gs : List Found} {a b c : Sink} → Told fs a b → Told gs b c → Told (fs ++ gs) a c
told_then {fs = fs} {gs = gs} {a = a} h k = record {
  more = h.more ++ k.more;
  bytes = k.bytes ∙ ap (λ (bs : List ℕ). bs ++ diagnostics_bytes k.more) h.bytes ∙ append_assoc a.diagnostics (diagnostics_bytes h.more) (diagnostics_bytes k.more)
      ∙ ap (λ (bs : List ℕ). a.diagnostics ++ bs) (sym (bytes_append h.more k.more));
  among = among_append h.more k.more ∙ ap (λ (x : List Found). x ++ errors_among k.more) h.among ∙ ap (λ (x : List Found). fs ++ x) k.among;
  flag = k.flag ∙ ap (λ (x : Bool). x || any_found gs) h.flag ∙ any_append a.errored fs gs;
}

pub told_is : {fs gs : List Found} {a b : Sink} → fs ≡ gs → Told fs a b → Told gs a b
told_is {a = a} {b = b} e h = subst (λ (x : List Found). Told x a b) e h

-- Frames, by where their locals begin

unfoldable pub firsts : AnalysisStack → List ℕ
firsts st = map (λ (f : ClosureFrame). f.first_local) st.frames

unfoldable pub firsts_beneath : AnalysisStack → List ℕ
firsts_beneath st = map (λ (f : ClosureFrame). f.first_local) (beneath st.frames)

without_first : List ℕ → List ℕ
without_first [] = []
without_first (n ∷ ns) = ns

the_first : List ℕ → ℕ
the_first [] = 0
the_first (n ∷ ns) = n

beneath_same : (st st' : AnalysisStack) → firsts st' ≡ firsts st → firsts_beneath st' ≡ firsts_beneath st
unfolding firsts firsts_beneath beneath without_first
beneath_same st st' e = of st'.frames ∙ ap without_first e ∙ sym (of st.frames)
  where
    of : (fs : List ClosureFrame) → map (λ (f : ClosureFrame). f.first_local) (beneath fs) ≡ without_first (map (λ (f : ClosureFrame). f.first_local) fs)
    of [] = refl
    of (f ∷ fs) = refl

first_same : (st st' : AnalysisStack) → firsts st' ≡ firsts st → first_in_frame st' ≡ first_in_frame st
unfolding firsts first_in_frame top no_frame new_frame the_first
first_same st st' e = of st'.frames ∙ ap the_first e ∙ sym (of st.frames)
  where
    of : (fs : List ClosureFrame) → (top fs).first_local ≡ the_first (map (λ (f : ClosureFrame). f.first_local) fs)
    of [] = refl
    of (f ∷ fs) = refl

-- An expression's walk: the names in force are the same after it, and these errors were reported

pub record Walked (fs : List Found) (st st' : AnalysisStack) : Type 0 where
  pub same : keys st' ≡ keys st
  pub frames : firsts st' ≡ firsts st
  pub told : Told fs st.sink st'.sink

pub quiet : (st st' : AnalysisStack) → keys st' ≡ keys st → firsts st' ≡ firsts st → st'.sink.diagnostics ≡ st.sink.diagnostics → st'.sink.errored ≡ st.sink.errored → Walked [] st st'
quiet st st' e f d x = record { same = e; frames = f; told = told_none st.sink st'.sink d x }

pub walked_none : (st : AnalysisStack) → Walked [] st st
walked_none st = quiet st st refl refl refl refl

pub walked_then : {fs gs : List Found} {st st' st'' : AnalysisStack} → Walked fs st st' → Walked gs st' st'' → Walked (fs ++ gs) st st''
walked_then h k = record { same = k.same ∙ h.same; frames = k.frames ∙ h.frames; told = told_then h.told k.told }

pub walked_is : {fs gs : List Found} {st st' : AnalysisStack} → fs ≡ gs → Walked fs st st' → Walked gs st st'
walked_is {st = st} {st' = st'} e h = subst (λ (x : List Found). Walked x st st') e h

-- a step that reports no error after a walk
pub walked_on : {fs : List Found} {st st' st'' : AnalysisStack} → Walked fs st st' → Walked [] st' st'' → Walked fs st st''
walked_on {fs = fs} h k = walked_is (append-nil fs) (walked_then h k)

pub after_walked : {fs gs : List Found} {st st' : AnalysisStack} {o : Outcome AnalysisStack} → Walked fs st st' → After (Walked gs st') o → After (Walked (fs ++ gs) st) o
after_walked h k = after_weaken k λ _ last. walked_then h last

pub after_on : {fs : List Found} {st st' : AnalysisStack} {o : Outcome AnalysisStack} → Walked fs st st' → After (Walked [] st') o → After (Walked fs st) o
after_on h k = after_weaken k λ _ last. walked_on h last

-- A frame above a state: its own names stand after those that were in force

pub record Inside (fs : List Found) (own : List Key) (st st' : AnalysisStack) : Type 0 where
  pub names : keys st' ≡ keys st ++ own
  pub first : first_in_frame st' ≡ length st.locals
  pub frames : firsts_beneath st' ≡ firsts st
  pub told : Told fs st.sink st'.sink

pub inside_then : {fs gs : List Found} {own : List Key} {st st' st'' : AnalysisStack} → Inside fs own st st' → Walked gs st' st'' → Inside (fs ++ gs) own st st''
inside_then {st' = st'} {st'' = st''} h k = record {
  names = k.same ∙ h.names;
  first = first_same st' st'' k.frames ∙ h.first;
  frames = beneath_same st' st'' k.frames ∙ h.frames;
  told = told_then h.told k.told;
}

pub inside_is : {fs gs : List Found} {own : List Key} {st st' : AnalysisStack} → fs ≡ gs → Inside fs own st st' → Inside gs own st st'
inside_is {own = own} {st = st} {st' = st'} e h = subst (λ (x : List Found). Inside x own st st') e h

pub inside_on : {fs : List Found} {own : List Key} {st st' st'' : AnalysisStack} → Inside fs own st st' → Walked [] st' st'' → Inside fs own st st''
inside_on {fs = fs} h k = inside_is (append-nil fs) (inside_then h k)
