-- The steps that define names. Assumes nothing.
use Prim.Native.Nat.{ℕ, zero, suc, ◌+◌, ◌-◌, ◌<◌, ◌≤◌}
use mathlib.Core.Bool.{Bool, true, false, false≢true, or-true}
use mathlib.Core.List.{List, [], ◌∷◌, ◌++◌, append_assoc, append-nil}
use mathlib.Core.Option.{Option, none, some}
use native.Mathlib.Omega.{arith}
use native.Mathlib.Decide.{dec_lt}
use mathlib.Core.Path.{◌≡◌, refl, sym, ap, ap₂, ◌∙◌, subst}
use lib.ListN.{length, get_or, length-append}
use lib.Seq.{get_or-drop, drop-append_seam}
use borrow.Author.Tests.{ltb-true}
use Rattle.rules.specs.Outcome.{choose, given}
use Rattle.rules.specs.Numbers.{Name}
use Rattle.rules.specs.Records.{Span}
use Rattle.rules.specs.Tree.{Binding, at_record, external, Binds, Params, no_binds, bind, no_params, param, param_or}
use Rattle.rules.specs.Locals.{LocalDefinition, local_at, new_local, newest, has_name}
use Rattle.rules.specs.Frames.{ClosureFrame, top, beneath, with_one_more_local}
use Rattle.rules.specs.State.{Limits, AnalysisStack, with_frames, with_locals, with_sink}
use Rattle.rules.specs.Writing.{is_error, report}
use Rattle.rules.specs.Scoping.{first_in_frame, is_taken, push_local, push_in_frame, define_local, define_this}
use Rattle.rules.specs.Walk.{define_binds, define_params}
use Rattle.rules.proofs.After.{After, fine, after_weaken, after_bind, after_need, after_choose}
use Rattle.claim_scope.specs.Scope.{meaning, bind_names, param_names}
use Rattle.claim_reach.specs.Reach.{bind_slots, param_slots}
use Rattle.claim_reach.proofs.Resolving.{none≢some}
use Rattle.claim_reach.proofs.Promise.{Key, key, keys, labels, named, keys_append}
use Rattle.claim_reach.proofs.Names.{key_at, named_as}
use Rattle.claim_reach.proofs.Relabel.{defined_frame}
use Rattle.claim_reach.proofs.Frames.{as_many}
use Rattle.claim_reach.proofs.Defining.{Names, names_in, Scoped, scoped_name, scoped_this, one_longer}

-- A name that is not taken is not among the frame's

none_named : (name : Name) (ls : List LocalDefinition) (first n : ℕ) → newest name ls first n ≡ none → (i : ℕ) → i < n → named name (get_or (keys ls) (first + i) (external 0, none)).1 ≡ false
unfolding newest choose
none_named name ls first zero e i h = absurd (omega arith)
none_named name ls first (suc n) e i h = by (has_name name (local_at ls (first + n))) refl e (none_named name ls first n) (dec_lt i n)
  where
    by : (b : Bool) → has_name name (local_at ls (first + n)) ≡ b → choose b (λ _. some (first + n)) (λ _. newest name ls first n) ≡ none
        → (newest name ls first n ≡ none → (i : ℕ) → i < n → named name (get_or (keys ls) (first + i) (external 0, none)).1 ≡ false) → Dec (i < n)
        → named name (get_or (keys ls) (first + i) (external 0, none)).1 ≡ false
    by true d e ih dec = absurd (none≢some (sym e))
    by false d e ih (yes lt) = ih e i lt
    by false d e ih (no ge) = let last : i ≡ n = omega arith in rw (last, key_at ls (first + n)) (sym (named_as name (local_at ls (first + n))) ∙ d)

unnamed : (name : Name) (seg : List Key) → ((i : ℕ) → i < length seg → named name (get_or seg i (external 0, none)).1 ≡ false) → meaning name (names_in seg) ≡ none
unfolding names_in meaning named given choose
unnamed name [] h = refl
unnamed name (k ∷ seg) h = by k.1 (h 0 (omega arith)) (unnamed name seg (λ i lt. h (suc i) (omega arith)))
  where
    by : (o : Option Name) → named name o ≡ false → meaning name (names_in seg) ≡ none → meaning name (given o (λ _. names_in seg) (λ n. (n, k.0) ∷ names_in seg)) ≡ none
    by none d ih = ih
    by (some m) d ih = rw d ih

-- the frame on top has defined `seg`, above the locals `ks` and the frames `fs`, in a scope with these names
pub record Holding (ks : List Key) (fs : List ClosureFrame) (names : Names) (seg : List Key) (st : AnalysisStack) : Type 0 where
  pub same_keys : keys st.locals ≡ ks ++ seg
  pub same_frames : st.frames ≡ defined_frame (length ks) (length seg) ∷ fs
  pub few : length seg ≤ 65535
  pub scoped : Scoped (ks ++ seg) (names_in seg ++ names)

-- one that defines `new` there
pub record Defines (ks : List Key) (fs : List ClosureFrame) (names : Names) (seg new : List Key) (a b : AnalysisStack) : Type 0 where
  pub calm : b.sink.errored ≡ false → a.sink.errored ≡ false
  pub same_out : b.sink.out ≡ a.sink.out
  pub holding : b.sink.errored ≡ false → Holding ks fs names seg a → Holding ks fs names (seg ++ new) b

pub defines_none : (ks : List Key) (fs : List ClosureFrame) (names : Names) (seg : List Key) (st : AnalysisStack) → Defines ks fs names seg [] st st
defines_none ks fs names seg st = record { calm = λ e. e; same_out = refl; holding = λ e h. subst (λ (seg : List Key). Holding ks fs names seg st) (sym (append-nil seg)) h }

pub defines_then : {ks : List Key} {fs : List ClosureFrame} {names : Names} {a b c : AnalysisStack} (seg new more : List Key) → Defines ks fs names seg new a b → Defines ks fs names (seg ++ new) more b c → Defines ks fs names seg (new ++ more) a c
defines_then {ks = ks} {fs = fs} {names = names} {c = c} seg new more h k = record {
  calm = λ e. h.calm (k.calm e);
  same_out = k.same_out ∙ h.same_out;
  holding = λ e held. subst (λ (seg : List Key). Holding ks fs names seg c) (append_assoc seg new more) (k.holding e (h.holding (k.calm e) held));
}

not_taken : (o : Option ℕ) → given o (λ _. false) (λ id. true) ≡ false → o ≡ none
unfolding given
not_taken none e = refl
not_taken (some id) e = absurd (false≢true (sym e))

free_name : {ks : List Key} {fs : List ClosureFrame} {names : Names} {seg : List Key} (name : Name) (st : AnalysisStack) → is_taken name st ≡ false → Holding ks fs names seg st → meaning name (names_in seg) ≡ none
unfolding is_taken first_in_frame top defined_frame
free_name {ks = ks} {seg = seg} name st e h =
    let first : (top st.frames).first_local ≡ length ks = ap (λ (fs : List ClosureFrame). (top fs).first_local) h.same_frames in
    let count : length st.locals - (top st.frames).first_local ≡ length seg = omega (arith, first, as_many (ks ++ seg) st h.same_keys, length-append ks seg) in
    let no_local : newest name st.locals (length ks) (length seg) ≡ none = ap₂ (newest name st.locals) (sym first) (sym count) ∙ not_taken _ e in
    unnamed name seg λ i lt.
    ap (λ (k : Key). named name k.1) (ap (λ (ks : List Key). get_or ks i (external 0, none)) (sym (drop-append_seam ks seg)) ∙ get_or-drop (length ks) (ks ++ seg) i (external 0, none) ∙ ap (λ (all : List Key). get_or all (length ks + i) (external 0, none)) (sym h.same_keys))
    ∙ none_named name st.locals (length ks) (length seg) no_local i lt

-- The keys of binds and of parameters

unfoldable pub bind_keys : Binds → List Key
bind_keys no_binds = []
bind_keys (bind p name span f e bs) = (at_record p, some name) ∷ bind_keys bs

unfoldable pub param_keys : Params → List Key
param_keys no_params = []
param_keys (param p name span ps) = (at_record p, some name) ∷ param_keys ps
param_keys (param_or p name span d ps) = (at_record p, some name) ∷ param_keys ps

pub bind_keys_names : (bs : Binds) → names_in (bind_keys bs) ≡ bind_names bs
unfolding bind_keys names_in bind_names given
bind_keys_names no_binds = refl
bind_keys_names (bind p name span f e bs) = ap (λ (ns : Names). (name, at_record p) ∷ ns) (bind_keys_names bs)

pub param_keys_names : (ps : Params) → names_in (param_keys ps) ≡ param_names ps
unfolding param_keys names_in param_names given
param_keys_names no_params = refl
param_keys_names (param p name span ps) = ap (λ (ns : Names). (name, at_record p) ∷ ns) (param_keys_names ps)
param_keys_names (param_or p name span d ps) = ap (λ (ns : Names). (name, at_record p) ∷ ns) (param_keys_names ps)

pub bind_keys_slots : (bs : Binds) → labels (bind_keys bs) ≡ bind_slots bs
unfolding bind_keys bind_slots
bind_keys_slots no_binds = refl
bind_keys_slots (bind p name span f e bs) = ap (λ (ns : List Binding). at_record p ∷ ns) (bind_keys_slots bs)

pub param_keys_slots : (ps : Params) → labels (param_keys ps) ≡ param_slots ps
unfolding param_keys param_slots
param_keys_slots no_params = refl
param_keys_slots (param p name span ps) = ap (λ (ns : List Binding). at_record p ∷ ns) (param_keys_slots ps)
param_keys_slots (param_or p name span d ps) = ap (λ (ns : List Binding). at_record p ∷ ns) (param_keys_slots ps)

-- The steps

record Pushed (ks : List Key) (fs : List ClosureFrame) (names : Names) (seg : List Key) (k : Key) (a b : AnalysisStack) : Type 0 where
  same_errored : b.sink.errored ≡ a.sink.errored
  same_out : b.sink.out ≡ a.sink.out
  holding : Holding ks fs names seg a → length seg < 65535 → Scoped ((ks ++ seg) ++ (k ∷ [])) (names_in (seg ++ (k ∷ [])) ++ names) → Holding ks fs names (seg ++ (k ∷ [])) b

module _ (L : Limits) (ks : List Key) (fs : List ClosureFrame) (names : Names) where
  pushed : (p : ℕ) (l : LocalDefinition) (seg : List Key) (st : AnalysisStack) → After (Pushed ks fs names seg (key l) st) (push_in_frame L p l st)
  unfolding push_in_frame push_local with_frames with_locals with_one_more_local top beneath defined_frame
  pushed p l seg st = after_bind {P = λ (b : AnalysisStack). b ≡ with_locals (st.locals ++ (l ∷ [])) st} _ (after_need _ 6 p _ λ _. fine refl) λ b e.
      fine (subst (λ (b : AnalysisStack). Pushed ks fs names seg (key l) st (with_frames (with_one_more_local (top b.frames) ∷ beneath b.frames) b)) (sym e) (record {
        same_errored = refl;
        same_out = refl;
        holding = λ h few scoped. record {
          same_keys = keys_append st.locals (l ∷ []) ∙ ap (λ (ks : List Key). ks ++ (key l ∷ [])) h.same_keys ∙ append_assoc ks seg (key l ∷ []);
          same_frames = ap (λ (gs : List ClosureFrame). with_one_more_local (top gs) ∷ beneath gs) h.same_frames ∙ ap (λ (n : ℕ). defined_frame (length ks) n ∷ fs) (sym (one_longer seg (key l)));
          few = omega (arith, one_longer seg (key l));
          scoped = subst (λ (all : List Key). Scoped all (names_in (seg ++ (key l ∷ [])) ++ names)) (append_assoc ks seg (key l ∷ [])) scoped;
        };
      }))

  pub defines_name : (p : ℕ) (name : Name) (span : Span) (depth : ℕ) (seg : List Key) (st : AnalysisStack) → After (Defines ks fs names seg ((at_record p, some name) ∷ []) st) (define_local L p name span depth st)
  unfolding define_local new_local report with_sink is_error top defined_frame
  defines_name p name span depth seg st = after_choose _ _ _
      (λ _. after_need _ 10 p _ λ _. fine (record {
        calm = λ d. absurd (false≢true (sym d ∙ or-true st.sink.errored));
        same_out = refl;
        holding = λ d. absurd (false≢true (sym d ∙ or-true st.sink.errored));
      }))
      (λ free. after_need _ 11 p _ λ few. after_weaken (pushed p _ seg st) λ b h. record {
        calm = λ d. sym h.same_errored ∙ d;
        same_out = h.same_out;
        holding = λ d held. h.holding held
            (omega (arith, ltb-true (top st.frames).n_locals 65535 few, ap (λ (gs : List ClosureFrame). (top gs).n_locals) held.same_frames))
            (scoped_name ks seg names name (at_record p) held.scoped (free_name name st free held));
      })

  pub defines_this : (p depth : ℕ) (st : AnalysisStack) → After (Defines ks fs names [] ((at_record p, none) ∷ []) st) (define_this L p depth st)
  unfolding define_this new_local
  defines_this p depth st = after_weaken (pushed p _ [] st) λ b h. record {
    calm = λ d. sym h.same_errored ∙ d;
    same_out = h.same_out;
    holding = λ d held. h.holding held (omega arith) (scoped_this ks [] names (at_record p) held.scoped);
  }

  pub defines_binds : (bs : Binds) (depth : ℕ) (seg : List Key) (st : AnalysisStack) → After (Defines ks fs names seg (bind_keys bs) st) (define_binds L bs depth st)
  unfolding define_binds bind_keys
  defines_binds no_binds depth seg st = fine (defines_none ks fs names seg st)
  defines_binds (bind p name span f e bs) depth seg st = after_bind _ (defines_name p name span depth seg st) λ b h.
      after_weaken (defines_binds bs depth (seg ++ ((at_record p, some name) ∷ [])) b) λ c k. defines_then seg ((at_record p, some name) ∷ []) (bind_keys bs) h k

  pub defines_params : (ps : Params) (depth : ℕ) (seg : List Key) (st : AnalysisStack) → After (Defines ks fs names seg (param_keys ps) st) (define_params L ps depth st)
  unfolding define_params param_keys
  defines_params no_params depth seg st = fine (defines_none ks fs names seg st)
  defines_params (param p name span ps) depth seg st = after_bind _ (defines_name p name span depth seg st) λ b h.
      after_weaken (defines_params ps depth (seg ++ ((at_record p, some name) ∷ [])) b) λ c k. defines_then seg ((at_record p, some name) ∷ []) (param_keys ps) h k
  defines_params (param_or p name span d ps) depth seg st = after_bind _ (defines_name p name span depth seg st) λ b h.
      after_weaken (defines_params ps depth (seg ++ ((at_record p, some name) ∷ [])) b) λ c k. defines_then seg ((at_record p, some name) ∷ []) (param_keys ps) h k
