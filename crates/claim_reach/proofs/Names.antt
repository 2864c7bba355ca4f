-- Steps that use a name, self, super, $ or an import, and what never changes of a local. Assumes nothing.
use Prim.Native.Nat.{ℕ, zero, suc, ◌+◌, ◌<◌}
use mathlib.Core.Bool.{true, false, false≢true, or-true}
use mathlib.Core.List.{List, [], ◌∷◌, append-nil}
use mathlib.Core.Option.{Option, none, some}
use native.Mathlib.Omega.{arith}
use mathlib.Core.Path.{◌≡◌, refl, sym, ap, ◌∙◌, subst}
use lib.ListN.{length, get_or, set}
use borrow.Author.Tests.{eqb-true}
use Rattle.rules.specs.Outcome.{choose, given}
use Rattle.rules.specs.Numbers.{Name, Mark, SU, code, same_name, records_bytes}
use Rattle.rules.specs.Records.{Span, out_fields, widths, width}
use Rattle.rules.specs.Range.{Numbers}
use Rattle.rules.specs.Tree.{Binding, external}
use Rattle.rules.specs.Locals.{LocalDefinition, local_at, no_local, new_local, newest, has_name, use_at, note_reference, with_used_by_sibling, with_used_at_depth, with_scratch_referenced}
use Rattle.rules.specs.State.{Limits, ObjectUse, AnalysisStack, with_out, with_sink, with_locals, with_taint, with_object_use}
use Rattle.rules.specs.Writing.{is_error, emit, report, bad_place}
use Rattle.rules.specs.Scoping.{touch_local, touch_object, emit_slot}
use Rattle.rules.specs.Walk.{Place, identity_local, mark_used, use_local, use_identity}
use Rattle.rules.proofs.After.{After, fine, after_weaken, after_bind, after_need, after_choose, after_given, chosen}
use Rattle.claim_scope.specs.Scope.{Scope, Meant, meaning, identity_means}
use Rattle.claim_reach.specs.Lexical.{identity_read}
use Rattle.claim_reach.specs.Decode.{◌>>=◌, mark_among, out_marks}
use Rattle.claim_reach.specs.Reach.{Trail, Reached, expect, slot_read, leaf, reach_identity}
use Rattle.claim_reach.proofs.Resolving.{grown_refl}
use Rattle.claim_reach.proofs.Decoding.{OutFits, AllFit, fits_fields}
use Rattle.claim_reach.proofs.Promise.{Key, key, keys, labels, named, newest_key, labelled, Inside, Agree, Back, Kept, Step, step_by, step_emit}
use Rattle.claim_reach.proofs.Frames.{as_many}
use Rattle.claim_reach.proofs.Using.{kept_from, slot_written}

-- Keys

pub key_at : (ls : List LocalDefinition) (id : ℕ) → get_or (keys ls) id (external 0, none) ≡ key (local_at ls id)
unfolding local_at no_local new_local
key_at [] id = refl
key_at (l ∷ ls) zero = refl
key_at (l ∷ ls) (suc id) = key_at ls id

pub keys_set : (ls : List LocalDefinition) (id : ℕ) (l : LocalDefinition) → key l ≡ key (local_at ls id) → keys (set ls id l) ≡ keys ls
unfolding local_at
keys_set [] id l e = refl
keys_set (x ∷ ls) zero l e = ap (λ (k : Key). k ∷ keys ls) e
keys_set (x ∷ ls) (suc id) l e = ap (λ (ks : List Key). key x ∷ ks) (keys_set ls id l e)

pub named_as : (name : Name) (l : LocalDefinition) → has_name name l ≡ named name l.name
unfolding has_name named given
named_as name l = by l.name
  where
    by : (o : Option Name) → given o (λ _. false) (λ m. same_name name m) ≡ named name o
    by none = refl
    by (some m) = refl

pub newest_as : (name : Name) (ls : List LocalDefinition) (n : ℕ) → newest name ls 0 n ≡ newest_key name (keys ls) n
unfolding newest newest_key
newest_as name ls zero = refl
newest_as name ls (suc n) =
    let zero_first : 0 + n ≡ n = omega arith in
    rw (zero_first, named_as name (local_at ls n), newest_as name ls n, key_at ls n) refl

pub newest_inside : (name : Name) (ks : List Key) (n : ℕ) → Inside n (newest_key name ks n)
unfolding newest_key Inside
newest_inside name ks zero = tt
newest_inside name ks (suc n) = chosen (λ (o : Option ℕ). Inside (suc n) o) _ _ _ (λ _. omega arith) (λ _. more (newest_key name ks n) (newest_inside name ks n))
  where
    more : (o : Option ℕ) → Inside n o → Inside (suc n) o
    more none h = tt
    more (some id) h = omega arith

-- Steps

pub step_errored : {ks : List Key} {h : Place} {sc : Scope} {walk : Back} {ms : List Meant} {a b : AnalysisStack} → b.sink.errored ≡ true → Step ks h sc walk ms a b
step_errored e = record { calm = λ d. absurd (false≢true (sym d ∙ e)); kept = λ d. absurd (false≢true (sym d ∙ e)) }

-- a step that writes nothing and leaves frames, output and keys
pub step_same : {ks : List Key} {h : Place} {sc : Scope} (a b : AnalysisStack) → b.frames ≡ a.frames → b.sink.out ≡ a.sink.out → b.sink.errored ≡ a.sink.errored → keys b.locals ≡ keys a.locals
    → Step ks h sc (λ v rs. some ([], rs)) [] a b
unfolding records_bytes AllFit
step_same {ks = ks} a b same_frames same_out same_errored e = record {
  calm = λ d. sym same_errored ∙ d;
  kept = λ d agree r. record {
    ready = record { same_keys = e ∙ r.same_keys; good = rw same_frames r.good; stacked = rw same_frames r.stacked };
    grew = rw same_frames (grown_refl a.frames);
    written = [];
    out = same_out ∙ sym (append-nil a.sink.out);
    fit = tt;
    walked = λ v rest l. refl;
  };
}

kept_means : {ks : List Key} {walk : Back} {ms ns : List Meant} {a b : AnalysisStack} → ms ≡ ns → Kept ks walk ms a b → Kept ks walk ns a b
kept_means {ks = ks} {walk = walk} {a = a} {b = b} e k = subst (λ (ms : List Meant). Kept ks walk ms a b) e k

touched_key : (depth : ℕ) (l : LocalDefinition) → key (note_reference (use_at depth l)) ≡ key l
unfolding note_reference use_at with_scratch_referenced with_used_by_sibling with_used_at_depth
touched_key depth l =
    chosen (λ (x : LocalDefinition). key x ≡ key (use_at depth l)) _ _ _ (λ _. refl) (λ _. refl)
    ∙ chosen (λ (x : LocalDefinition). key x ≡ key l) _ _ _ (λ _. refl) (λ _. refl)

-- the local of an id that was found
found_label : (ks : List Key) (o : Option ℕ) (m : Option Binding) (id : ℕ) → o ≡ some id → labelled ks o ≡ m → some (get_or (labels ks) id (external 0)) ≡ m
unfolding labelled
found_label ks o m id e d = rw e at d

pub found_inside : (n : ℕ) (o : Option ℕ) (id : ℕ) → o ≡ some id → Inside n o → id < n
unfolding Inside
found_inside n o id e d = rw e at d

pub unchecked : (walk : Trail → Reached) (o : Option (List ℕ × Trail)) → (o >>= λ x. walk x.1) ≡ (o >>= λ x. some (tt {0}) >>= λ _. walk x.1)
unfolding ◌>>=◌
unchecked walk none = refl
unchecked walk (some x) = refl

module _ (L : Limits) where
  pub bad_errors : (p c : ℕ) (name : Name) (span : Span) (bad : ℕ) (st : AnalysisStack) → After (λ (b : AnalysisStack). b.sink.errored ≡ true) (bad_place L p c name span bad st)
  unfolding bad_place report emit with_out with_sink is_error
  bad_errors p c name span bad st =
      after_bind {P = λ (b : AnalysisStack). b.sink.errored ≡ true} _ (after_need _ 10 p _ λ _. fine (or-true st.sink.errored)) λ st₁ e. after_need _ 9 p _ λ _. fine e

  pub local_step : (ks : List Key) (sc : Scope) (p : ℕ) (name : Name) (span : Span) (h : Place) (st : AnalysisStack)
      → After (Step ks h sc (λ v rs. slot_read v p rs) ((p, meaning name sc.names) ∷ []) st) (use_local L p name span h st)
  unfolding use_local touch_local with_taint with_locals
  local_step ks sc p name span h st = after_given _ _ _
      (λ _. after_weaken (bad_errors p 1 name span 3 st) λ b e. step_errored e)
      (λ id e. after_weaken (slot_written L p id (touch_local h.depth id st)) λ b w. record {
        calm = λ d. sym w.same_errored ∙ d;
        kept = λ d agree r. (let same : newest_key name ks (length ks) ≡ some id = sym (rw (as_many ks st r.same_keys, newest_as name st.locals (length ks), r.same_keys) refl) ∙ e in
            kept_means (ap (λ (m : Option Binding). (p, m) ∷ []) (found_label ks (newest_key name ks (length ks)) (meaning name sc.names) id same (agree.names name)))
            (kept_from st (touch_local h.depth id st) refl refl
            (w.kept ks (record { same_keys = keys_set st.locals id _ (touched_key h.depth (local_at st.locals id)) ∙ r.same_keys; good = r.good; stacked = r.stacked })
            (found_inside (length ks) _ id same (newest_inside name ks (length ks))))));
      })

  -- a record of which the walk reads only the mark
  pub step_write : {ks : List Key} {h : Place} {sc : Scope} {walk : Back} {ms : List Meant} {a : AnalysisStack} (p : ℕ) (m : Mark) (ns : List ℕ) (b : AnalysisStack) → OutFits (m, ns)
      → Step ks h sc walk ms a b → After (Step ks h sc (λ v rs. expect m rs >>= λ x. walk v x.1) ms a) (emit L p m ns b)
  step_write {walk = walk} p m ns b fits x = after_weaken (step_emit L p m ns b (λ _. some tt) fits refl x) λ c s. step_by (λ v rs. expect m rs >>= λ x. walk v x.1) (λ v rs. unchecked (walk v) (expect m rs)) refl s

  -- the slot of an object's `this`
  this_step : {ks : List Key} {h : Place} {sc : Scope} (p id : ℕ) (o : Option ℕ) (m : Option Binding) (u : ObjectUse) (st : AnalysisStack) → o ≡ some id
      → (Agree ks h sc → labelled ks o ≡ m) → (Agree ks h sc → Inside (length ks) o)
      → After (Step ks h sc (λ v rs. slot_read v p rs) ((p, m) ∷ []) st) (emit_slot L p id (touch_object id (with_object_use u st)))
  unfolding touch_object with_taint with_object_use
  this_step {ks = ks} p id o m u st e means inside = after_weaken (slot_written L p id (touch_object id (with_object_use u st))) λ b w. record {
    calm = λ d. sym w.same_errored ∙ d;
    kept = λ d agree r.
        kept_means (ap (λ (m : Option Binding). (p, m) ∷ []) (found_label ks o m id e (means agree)))
        (kept_from st (touch_object id (with_object_use u st)) refl refl
        (w.kept ks (record { same_keys = r.same_keys; good = r.good; stacked = r.stacked }) (found_inside (length ks) o id e (inside agree))));
  }

  pub identity_step : (ks : List Key) (sc : Scope) (p which : ℕ) (span : Span) (h : Place) (st : AnalysisStack)
      → After (Step ks h sc (λ v rs. reach_identity p which v rs) (identity_read p which sc) st) (use_identity L p which span h st)
  unfolding use_identity identity_local reach_identity identity_read identity_means mark_used touch_object with_taint with_object_use leaf mark_among out_marks code choose out_fields widths width Numbers
  identity_step ks sc p zero span h st = after_given _ _ _
      (λ _. after_weaken (bad_errors p _ 0 span 0 st) λ b e. step_errored e)
      (λ id e. this_step p id h.this_local sc.inner _ st e (λ a. a.this) (λ a. a.this_inside))
  identity_step ks sc p (suc zero) span h st = after_given _ _ _
      (λ _. after_weaken (bad_errors p _ 0 span 1 st) λ b e. step_errored e)
      (λ id e. after_weaken (step_write p SU [] (touch_object id (with_object_use (mark_used 1 st.object_use) st)) (fits_fields SU [] refl refl refl tt) (step_same st _ refl refl refl refl)) λ b s.
      step_by (λ v rs. leaf SU rs) (λ v rs. refl) refl s)
  identity_step ks sc p (suc (suc k)) span h st = after_given _ _ _
      (λ _. after_weaken (bad_errors p _ 0 span (suc (suc k)) st) λ b e. step_errored e)
      (λ id e. after_choose _ _ _ (λ d. absurd (omega (arith, eqb-true (suc (suc k)) 1 d))) (λ _. this_step p id h.dollar_alias sc.outer _ st e (λ a. a.dollar) (λ a. a.dollar_inside)))
