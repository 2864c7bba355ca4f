-- Whether a function gives its argument: the bytes of its body say what the tree says. Assumes nothing.
use Prim.Native.Nat.{ℕ, zero, suc, ◌+◌, ◌-◌, ◌<◌, ◌≤◌}
use mathlib.Core.Bool.{Bool, true, false, ◌&&◌, false≢true}
use mathlib.Core.List.{List, [], ◌∷◌, ◌++◌, reverse, append-nil}
use mathlib.Core.Option.{none, some, some-injective}
use native.Mathlib.Omega.{arith}
use mathlib.Core.Path.{◌≡◌, refl, sym, ap, ap₂, ◌∙◌}
use lib.ListN.{length, drop}
use lib.Seq.{drop-append_seam, get_or-append_seam}
use lib.Dec.{eqb, leb, ltb, leb→le}
use borrow.Author.Tests.{eqb-true, eqb-false, eq-eqb, ne_eqb}
use Rattle.rules.specs.Outcome.{ok, choose}
use Rattle.rules.specs.Numbers.{Name, Record, Mark, LS, code, same_name, same_bytes, record_bytes, records_bytes, mark_bytes, numbers_bytes, number_bytes}
use Rattle.rules.specs.Records.{Span, out_fields, widths, width}
use Rattle.rules.specs.Range.{Numbers, RecordFits, PlainStands, ExprFits}
use Rattle.rules.specs.FirstWalk.{level, any_expression, Form, rows, row_of}
use Rattle.rules.specs.Tree.{Binding, at_record, external, Expr, Params, identity, constant, variable, constants, array, plain, import, local, function, object, no_binds, bind, no_params, param, param_or}
use Rattle.rules.specs.Locals.{newest}
use Rattle.rules.specs.Frames.{LSlot, capture_slot, ClosureFrame, Resolved, defining, holds, slot_in, resolve_at, resolve_to_slot}
use Rattle.rules.specs.State.{Limits, AnalysisStack, with_frames, with_locals, with_object_use, with_taint, with_out, with_sink, written}
use Rattle.rules.specs.Writing.{slot_mark, slot_number}
use Rattle.rules.specs.Scoping.{touch_local, touch_object, emit_slot}
use Rattle.rules.specs.Walk.{Place, Naming, unnamed, identity_local, first_has_default, is_identity, is_empty, use_identity, use_local, analyze}
use Rattle.rules.proofs.After.{After, fine, after_ok, after_weaken, after_bind, after_need, after_choose, after_given, both_passed, after_self}
use Rattle.claim_scope.specs.Scope.{Meant}
use Rattle.claim_reach.specs.Lexical.{is_name, is_last, gives_argument}
use Rattle.claim_reach.specs.Decode.{◌>>=◌, mark_among, out_marks, out_records}
use Rattle.claim_reach.specs.Reach.{View, expect, leaf, is_iy, param_slots, reach_identity, reach}
use Rattle.claim_reach.proofs.Resolving.{both, none≢some, missed, Grown, grown, view_of}
use Rattle.claim_reach.proofs.Decoding.{AllFit, records_decoded, record_one, fits_fields}
use Rattle.claim_reach.proofs.Promise.{Key, keys, labels, named, newest_key, Inside, Back, Kept}
use Rattle.claim_reach.proofs.Frames.{emit_is, as_many}
use Rattle.claim_reach.proofs.Names.{newest_as, newest_inside, found_inside, bad_errors}
use Rattle.claim_reach.proofs.Relabel.{defined_frame}
use Rattle.claim_reach.proofs.Defining.{one_longer}
use Rattle.claim_reach.proofs.DefiningSteps.{param_keys}

-- Bytes

equal_bytes : (xs ys : List ℕ) → same_bytes xs ys ≡ true → xs ≡ ys
unfolding same_bytes choose
equal_bytes [] [] e = refl
equal_bytes [] (y ∷ ys) e = absurd (false≢true e)
equal_bytes (x ∷ xs) [] e = absurd (false≢true e)
equal_bytes (x ∷ xs) (y ∷ ys) e = let b = both_passed (eqb x y) (λ _. same_bytes xs ys) e in ap₂ {C = List ℕ} ◌∷◌ (eqb-true x y b.0) (equal_bytes xs ys b.1)

-- all that was written from one state to another is the first slot
unfoldable pub says_first : AnalysisStack → AnalysisStack → Bool
says_first a b = same_bytes (drop (written a) b.sink.out) (record_bytes LS (0 ∷ []))

first_fits : AllFit ((LS, 0 ∷ []) ∷ [])
unfolding AllFit mark_among out_marks code choose out_fields widths width Numbers
first_fits = (fits_fields LS (0 ∷ []) refl refl refl (omega arith, tt), tt)

said_as : (a b : AnalysisStack) (s : List ℕ) → b.sink.out ≡ a.sink.out ++ s → says_first a b ≡ same_bytes s (record_bytes LS (0 ∷ []))
unfolding says_first written
said_as a b s e = ap (λ (s : List ℕ). same_bytes s (record_bytes LS (0 ∷ []))) (ap (drop (length a.sink.out)) e ∙ drop-append_seam a.sink.out s)

-- what is walked back as anything else has other bytes
other_bytes : {ks : List Key} {walk : Back} {ms : List Meant} (a b : AnalysisStack) → ((v : View) → walk v ((LS, 0 ∷ []) ∷ []) ≡ none) → Kept ks walk ms a b → says_first a b ≡ false
other_bytes {ks = ks} {walk = walk} {ms = ms} a b fails k = said_as a b (records_bytes k.written) k.out ∙ by (same_bytes (records_bytes k.written) (record_bytes LS (0 ∷ []))) refl
  where
    same_records : records_bytes k.written ≡ record_bytes LS (0 ∷ []) → k.written ≡ (LS, 0 ∷ []) ∷ []
    same_records e = some-injective _ _ (sym (records_decoded k.written k.fit) ∙ ap out_records (e ∙ sym (record_one (LS, 0 ∷ []))) ∙ records_decoded ((LS, 0 ∷ []) ∷ []) first_fits)

    v : View
    v = view_of (labels ks) b.frames

    walks_first : k.written ≡ (LS, 0 ∷ []) ∷ [] → ⊥
    walks_first e = none≢some (sym (fails v) ∙ ap (λ (rs : List Record). walk v (reverse rs ++ [])) (sym e) ∙ k.walked v [] (record { same_slots = refl; more = []; taken_then = sym (append-nil _) }))

    by : (t : Bool) → same_bytes (records_bytes k.written) (record_bytes LS (0 ∷ [])) ≡ t → t ≡ false
    by true e = absurd (walks_first (same_records (equal_bytes _ _ e)))
    by false e = refl

-- Slots, where the frame on top has one local

first_slot : LSlot → Bool
first_slot s = same_bytes (record_bytes (slot_mark s) (slot_number s ∷ [])) (record_bytes LS (0 ∷ []))

captured_other : (k : ℕ) → first_slot (capture_slot k) ≡ false
unfolding first_slot same_bytes record_bytes slot_mark mark_bytes code choose
captured_other k = refl

-- the frame's own local is its first slot, and older ones are captured
resolved_first : (most p above id n : ℕ) (fs gs : List ClosureFrame) → Grown (defined_frame n 1 ∷ fs) gs → id ≤ n → After (λ (r : Resolved). first_slot r.slot ≡ eqb n id) (resolve_at most p above id gs)
unfolding resolve_at defining choose holds slot_in defined_frame first_slot same_bytes record_bytes slot_mark slot_number mark_bytes numbers_bytes number_bytes code
resolved_first most p above id n fs _ (grown more g) le = after_choose _ _ _
    (λ e. fine (let there : id ≡ n = own e in rw (there, eq-eqb n n refl, self) refl))
    (λ e. after_given _ _ _
    (λ _. after_bind _ (after_self _) λ r _. after_need _ 12 p _ λ _. after_need _ 8 p _ λ _. fine (captured_other (length more) ∙ sym (older e)))
    (λ k _. fine (captured_other k ∙ sym (older e))))
  where
    self : n - n ≡ 0
    self = omega arith

    frame : ClosureFrame
    frame = record { is_defining = true; first_local = n; n_locals = 1; captures = [] ++ more }

    own : holds frame id ≡ true → id ≡ n
    own e = omega (arith, leb→le n id (both (leb n id) (ltb id (n + 1)) e).0)

    older : holds frame id ≡ false → eqb n id ≡ false
    older e = ne_eqb n id λ same. (let less : id < n = missed [] frame id e (omega arith) in omega arith)

-- where a function with one parameter, of this name, stands: below its frame are these locals, and self and $ are among them
pub record Alone (ks : List Key) (name : Name) (h : Place) (st : AnalysisStack) : Type 0 where
  pub parameter : Binding
  pub same_keys : keys st.locals ≡ ks ++ ((parameter, some name) ∷ [])
  pub outside : List ClosureFrame
  pub grew : Grown (defined_frame (length ks) 1 ∷ outside) st.frames
  pub this_outside : Inside (length ks) h.this_local
  pub dollar_outside : Inside (length ks) h.dollar_alias

-- a name's local is the parameter where it is the parameter's name, and older where not
found_as : (ks : List Key) (b : Binding) (name found : Name) (id : ℕ) → newest_key found (ks ++ ((b, some name) ∷ [])) (suc (length ks)) ≡ some id → (id ≤ length ks) × (eqb (length ks) id ≡ same_name name found)
unfolding newest_key named choose same_name
found_as ks b name found id e = by (eqb found name) refl (rw (get_or-append_seam ks (b, some name) [] (external 0, none)) at e)
  where
    all : List Key
    all = ks ++ ((b, some name) ∷ [])

    by : (t : Bool) → eqb found name ≡ t → choose t (λ _. some (length ks)) (λ _. newest_key found all (length ks)) ≡ some id → (id ≤ length ks) × (eqb (length ks) id ≡ eqb name found)
    by true d e =
        let last : length ks ≡ id = some-injective _ _ e in
        (omega arith, eq-eqb _ _ last ∙ sym (eq-eqb name found (sym (eqb-true found name d))))
    by false d e =
        let older : id < length ks = found_inside (length ks) _ id e (newest_inside found all (length ks)) in
        (omega arith, ne_eqb (length ks) id (λ same. omega arith) ∙ sym (ne_eqb name found (λ same. eqb-false found name d (sym same))))

-- no record of a tree is a slot's
no_slot : (m : Mark) (form : Form) (ns : List ℕ) → RecordFits (rows any_expression) m form ns → eqb (code LS) (code m) ≡ false
unfolding row_of rows code choose
no_slot m form ns h = ne_eqb (code LS) (code m) λ e. none≢some (ap (λ (c : ℕ). row_of c (rows any_expression)) e ∙ h.known)

identity_outside : (n which : ℕ) (h : Place) → Inside n h.this_local → Inside n h.dollar_alias → Inside n (identity_local which h)
unfolding identity_local
identity_outside n zero h this dollar = this
identity_outside n (suc zero) h this dollar = this
identity_outside n (suc (suc k)) h this dollar = dollar

module _ (L : Limits) (ks : List Key) (name : Name) where
  slot_first : (p id n : ℕ) (fs : List ClosureFrame) (st : AnalysisStack) → Grown (defined_frame n 1 ∷ fs) st.frames → id ≤ n → After (λ (b : AnalysisStack). says_first st b ≡ eqb n id) (emit_slot L p id st)
  unfolding emit_slot resolve_to_slot with_frames with_out with_sink first_slot
  slot_first p id n fs st g le = after_bind _ (resolved_first L.captures p 0 id n fs st.frames g le) λ r told.
      after_weaken (emit_is L p (slot_mark r.slot) (slot_number r.slot ∷ []) (with_frames r.frames st)) λ b is.
      said_as st b (record_bytes (slot_mark r.slot) (slot_number r.slot ∷ [])) (ap (λ (b : AnalysisStack). b.sink.out) is) ∙ told

  name_first : (p : ℕ) (found : Name) (span : Span) (h : Place) (st : AnalysisStack) → Alone ks name h st
      → After (λ (b : AnalysisStack). b.sink.errored ≡ false → says_first st b ≡ same_name name found) (use_local L p found span h st)
  unfolding use_local touch_local with_taint with_locals says_first written
  name_first p found span h st alone = after_given _ _ _
      (λ _. after_weaken (bad_errors L p 1 found span 3 st) λ b e calm. absurd (false≢true (sym calm ∙ e)))
      (λ id e. (let found_there = found_as ks alone.parameter name found id (sym same_newest ∙ e) in
      after_weaken (slot_first p id (length ks) alone.outside (touch_local h.depth id st) alone.grew found_there.0) λ b told calm. told ∙ found_there.1))
    where
      same_newest : newest found st.locals 0 (length st.locals) ≡ newest_key found (ks ++ ((alone.parameter, some name) ∷ [])) (suc (length ks))
      same_newest = newest_as found st.locals (length st.locals) ∙ ap₂ (newest_key found) alone.same_keys (as_many _ st alone.same_keys ∙ one_longer ks (alone.parameter, some name))

  identity_first : (p which : ℕ) (span : Span) (h : Place) (st : AnalysisStack) → Alone ks name h st → (which ≡ 1 → ⊥)
      → After (λ (b : AnalysisStack). b.sink.errored ≡ false → says_first st b ≡ false) (use_identity L p which span h st)
  unfolding use_identity touch_object with_taint with_object_use says_first written
  identity_first p which span h st alone no_super = after_given _ _ _
      (λ _. after_weaken (bad_errors L p _ 0 span which st) λ b e calm. absurd (false≢true (sym calm ∙ e)))
      (λ id e. after_choose _ _ _ (λ d. absurd (no_super (eqb-true which 1 d)))
      (λ _. (let older : id < length ks = found_inside (length ks) _ id e (identity_outside (length ks) which h alone.this_outside alone.dollar_outside) in
      after_weaken (slot_first p id (length ks) alone.outside (touch_object id (with_object_use _ st)) alone.grew (omega arith)) λ b told calm. told ∙ ne_eqb (length ks) id (λ same. omega arith))))

  -- what the body wrote is the first slot just where it is the parameter's name
  pub body_first : (e : Expr) (levels at : ℕ) → ExprFits e (level any_expression) levels at → (naming : Naming) (h : Place) (st b : AnalysisStack) → analyze L e naming h st ≡ ok b → Alone ks name h st → b.sink.errored ≡ false
      → (all : List Key) (ms : List Meant) → Kept all (λ v rs. reach e v rs) ms st b → says_first st b ≡ is_name name e
  unfolding ExprFits PlainStands analyze is_name reach reach_identity expect leaf is_iy is_empty choose code ◌>>=◌
  body_first (identity p zero span) levels at fits naming h st b is alone calm all ms k = after_ok (identity_first p zero span h st alone (λ e. omega arith)) is calm
  body_first (identity p (suc zero) span) levels at fits naming h st b is alone calm all ms k = other_bytes st b (λ v. refl) k
  body_first (identity p (suc (suc n)) span) levels at fits naming h st b is alone calm all ms k = after_ok (identity_first p (suc (suc n)) span h st alone (λ e. omega arith)) is calm
  body_first (constant p value) levels at fits naming h st b is alone calm all ms k = other_bytes st b (λ v. refl) k
  body_first (variable p found span) levels at fits naming h st b is alone calm all ms k = after_ok (name_first p found span h st alone) is calm
  body_first (constants p values) levels at fits naming h st b is alone calm all ms k = other_bytes st b (λ v. refl) k
  body_first (array p es) levels at fits naming h st b is alone calm all ms k = other_bytes st b (λ v. refl) k
  body_first (plain p m ns es) levels at fits naming h st b is alone calm all ms k = other_bytes st b (λ v. rw (no_slot m _ ns fits.2.2) refl) k
  body_first (import p which span true path) levels at fits naming h st b is alone calm all ms k = other_bytes st b (λ v. refl) k
  body_first (import p which span false path) levels at fits naming h st b is alone calm all ms k = other_bytes st b (λ v. refl) k
  body_first (local p no_binds e) levels at fits naming h st b is alone calm all ms k = body_first e _ _ fits.3 unnamed h st b is alone calm all ms k
  body_first (local p (bind q other span f value bs) e) levels at fits naming h st b is alone calm all ms k = other_bytes st b (λ v. refl) k
  body_first (function p span ps e) levels at fits naming h st b is alone calm all ms k = other_bytes st b (λ v. refl) k
  body_first (object p hs bs ts vs) levels at fits naming h st b is alone calm all ms k = other_bytes st b (λ v. refl) k

-- so the bytes of a function whose parameters are all kept say what the tree says
pub argument_given : (ps : Params) (e : Expr) (kept : ℕ) (body : List ℕ) → kept ≡ length (param_slots ps)
    → ((q : ℕ) (name : Name) → param_keys ps ≡ (at_record q, some name) ∷ [] → same_bytes body (record_bytes LS (0 ∷ [])) ≡ is_name name e)
    → is_identity ps kept body ≡ gives_argument ps e
unfolding is_identity gives_argument first_has_default is_last param_slots param_keys
argument_given no_params e kept body count one = rw count refl
argument_given (param q name span no_params) e kept body count one = rw count (one q name refl)
argument_given (param q name span (param q₁ other span₁ ps)) e kept body count one = rw (ne_eqb kept 1 λ e. omega (arith, count)) refl
argument_given (param q name span (param_or q₁ other span₁ d ps)) e kept body count one = rw (ne_eqb kept 1 λ e. omega (arith, count)) refl
argument_given (param_or q name span d ps) e kept body count one = by (eqb kept 1)
  where
    by : (t : Bool) → ((t && false) && same_bytes body (record_bytes LS (0 ∷ []))) ≡ false
    by true = refl
    by false = refl
