-- A frame whose names are defined: its specs are all still to come. Assumes nothing.
use Prim.Native.Nat.{ℕ, ◌+◌}
use native.Mathlib.Omega.{arith}
use mathlib.Core.Bool.{true, false}
use mathlib.Core.List.{List, [], ◌∷◌, ◌++◌, map-append, append_assoc, append-nil}
use mathlib.Core.Option.{none, some}
use mathlib.Core.Path.{◌≡◌, refl, sym, ap, ◌∙◌, subst}
use lib.ListN.{length, take, drop, length-append}
use lib.Seq.{take-append_seam, drop_at, drop-length, drop-append_seam}
use Rattle.rules.specs.Numbers.{Name}
use Rattle.rules.specs.Records.{Span, no_span}
use Rattle.rules.specs.Tree.{Binding, at_record, Binds, Params, no_binds, bind, no_params, param, param_or}
use Rattle.rules.specs.Locals.{LocalDefinition, new_local}
use Rattle.rules.specs.Frames.{new_frame, top}
use Rattle.rules.specs.State.{Limits, AnalysisStack, with_locals, with_frames}
use Rattle.rules.specs.Writing.{open_frame}
use Rattle.rules.specs.Scoping.{first_in_frame, push_local, push_in_frame, define_local, define_this}
use Rattle.rules.specs.Walk.{define_binds, define_params}
use Rattle.rules.proofs.After.{After, fine, after_weaken, after_bind, after_need, after_choose, after_both}
use Rattle.rules.proofs.ReadRecords.{Every}
use Rattle.rules.proofs.Spreading.{Inside}
use Rattle.law_steady.specs.Steady.{Defined}
use Rattle.law_steady.proofs.Steps.{defined_this, defined_binds, defined_params}
use Rattle.claim_rounds.proofs.Later.{later_is, bindings, FirstUnnoted}
use Rattle.claim_rounds.proofs.Steps.{report_writes}
use Rattle.claim_rounds.proofs.Framed.{Among, none, skipped, next, among_both, Specs}

-- the places of the specs' records

unfoldable pub bind_places : Binds → List ℕ
bind_places no_binds = []
bind_places (bind p name span is_function value bs) = p ∷ bind_places bs

unfoldable pub param_places : Params → List ℕ
param_places no_params = []
param_places (param p name span ps) = p ∷ param_places ps
param_places (param_or p name span default ps) = p ∷ param_places ps

-- locals for some of these records, after those that were there
record Grown (places : List ℕ) (st st' : AnalysisStack) : Type 0 where
  more : List LocalDefinition
  is : st'.locals ≡ st.locals ++ more
  among : Among (bindings more) places

grown_none : (st : AnalysisStack) → Grown [] st st
unfolding bindings
grown_none st = record { more = []; is = sym (append-nil st.locals); among = none }

grown_then : {ps qs : List ℕ} {st st' st'' : AnalysisStack} → Grown ps st st' → Grown qs st' st'' → Grown (ps ++ qs) st st''
unfolding bindings
grown_then {ps = ps} {qs = qs} {st = st} h k = record {
  more = h.more ++ k.more;
  is = k.is ∙ ap (λ (ls : List LocalDefinition). ls ++ k.more) h.is ∙ append_assoc st.locals h.more k.more;
  among = subst (λ (bs : List Binding). Among bs (ps ++ qs)) (sym (map-append (λ (l : LocalDefinition). l.stands_for) h.more k.more)) (among_both h.among k.among);
}

-- a frame above `outer` in which no spec was analysed yet: its locals are these
pub record Begun (outer : AnalysisStack) (own : List LocalDefinition) (st : AnalysisStack) : Type 0 where
  pub is : st.locals ≡ outer.locals ++ own
  pub first : first_in_frame st ≡ length outer.locals
  pub same_references : st.references ≡ outer.references
  pub same_rounds : st.sink.rounds ≡ outer.sink.rounds

-- its first `base` locals are no specs', the others are those of some of these records, in order
pub record Named (outer : AnalysisStack) (base : ℕ) (places : List ℕ) (st : AnalysisStack) : Type 0 where
  pub n : ℕ
  pub specs : Specs outer base n 0 places st
  pub same_rounds : st.sink.rounds ≡ outer.sink.rounds

unnoted_more : (own more : List LocalDefinition) → FirstUnnoted (length own) own → FirstUnnoted (length own) (own ++ more)
unnoted_more [] more h = tt
unnoted_more (l ∷ own) more h = (h.0, unnoted_more own more h.1)

specs_begin : {outer : AnalysisStack} {places : List ℕ} (own : List LocalDefinition) {st st' : AnalysisStack} → FirstUnnoted (length own) own → Begun outer own st → Grown places st st' → Defined st st'
    → Named outer (length own) places st'
specs_begin {outer = outer} {places = places} own {st' = st'} unnoted b g d = record {
  n = length g.more;
  specs = record {
    framed = record {
      first = d.same_first ∙ b.first;
      count = omega (arith, ap length flat, length-append outer.locals (own ++ g.more), length-append own g.more);
      inside = subst (Every (Inside (length outer.locals + length own) (length g.more)))
          (sym (ap (drop (length outer.references)) (d.same_references ∙ b.same_references) ∙ drop-length outer.references)) tt;
      outer_later = later_is outer.locals _ (ap (take (length outer.locals)) flat ∙ take-append_seam outer.locals (own ++ g.more));
    };
    enough = omega (arith, ap length (d.same_references ∙ b.same_references));
    few = omega arith;
    own = subst (FirstUnnoted (length own)) (sym (ap (drop (length outer.locals)) flat ∙ drop-append_seam outer.locals (own ++ g.more))) (unnoted_more own g.more unnoted);
    to_come = subst (λ (ls : List LocalDefinition). Among (bindings ls) places) (sym (ap (drop (length outer.locals + length own + 0)) whole ∙ drop_at (outer.locals ++ own) g.more _ own_length)) g.among;
  };
  same_rounds = d.same_rounds ∙ b.same_rounds;
}
  where
    whole : st'.locals ≡ (outer.locals ++ own) ++ g.more
    whole = g.is ∙ ap (λ (ls : List LocalDefinition). ls ++ g.more) b.is

    flat : st'.locals ≡ outer.locals ++ (own ++ g.more)
    flat = whole ∙ append_assoc outer.locals own g.more

    own_length : length (outer.locals ++ own) ≡ length outer.locals + length own + 0
    own_length = omega (arith, length-append outer.locals own)

module _ (L : Limits) where
  pushed : (p : ℕ) (l : LocalDefinition) (st : AnalysisStack) → After (λ (st' : AnalysisStack). st'.locals ≡ st.locals ++ (l ∷ [])) (push_in_frame L p l st)
  unfolding push_in_frame push_local with_locals with_frames
  pushed p l st = after_bind {P = λ (st' : AnalysisStack). st'.locals ≡ st.locals ++ (l ∷ [])} _ (after_need _ 6 p _ λ _. fine refl) λ st₁ e. fine e

  grown_local : (p : ℕ) (name : Name) (span : Span) (depth : ℕ) (st : AnalysisStack) → After (Grown (p ∷ []) st) (define_local L p name span depth st)
  unfolding define_local bindings new_local
  grown_local p name span depth st = after_choose _ _ _
      (λ _. after_weaken (report_writes L p _ 2 name span st) λ _ w. record { more = []; is = w.same_locals ∙ sym (append-nil st.locals); among = skipped none })
      (λ _. after_need _ 11 p _ λ _. after_weaken (pushed p _ st) λ _ e. record { more = new_local (at_record p) (some name) span depth false ∷ []; is = e; among = next none })

  grown_binds : (bs : Binds) (depth : ℕ) (st : AnalysisStack) → After (Grown (bind_places bs) st) (define_binds L bs depth st)
  unfolding define_binds bind_places
  grown_binds no_binds depth st = fine (grown_none st)
  grown_binds (bind p name span is_function value bs) depth st = after_bind _ (grown_local p name span depth st) λ st₁ g. after_weaken (grown_binds bs depth st₁) λ _ k. grown_then g k

  grown_params : (ps : Params) (depth : ℕ) (st : AnalysisStack) → After (Grown (param_places ps) st) (define_params L ps depth st)
  unfolding define_params param_places
  grown_params no_params depth st = fine (grown_none st)
  grown_params (param p name span ps) depth st = after_bind _ (grown_local p name span depth st) λ st₁ g. after_weaken (grown_params ps depth st₁) λ _ k. grown_then g k
  grown_params (param_or p name span default ps) depth st = after_bind _ (grown_local p name span depth st) λ st₁ g. after_weaken (grown_params ps depth st₁) λ _ k. grown_then g k

  -- the frame is opened on a state that has what `outer` has

  pub begun_open : (p : ℕ) (outer st : AnalysisStack) → st.locals ≡ outer.locals → st.references ≡ outer.references → st.sink.rounds ≡ outer.sink.rounds
      → After (Begun outer []) (open_frame L p true st)
  unfolding open_frame with_frames first_in_frame top new_frame
  begun_open p outer st locals references rounds = after_need _ 7 p _ λ _. fine (record {
    is = locals ∙ sym (append-nil outer.locals);
    first = ap length locals;
    same_references = references;
    same_rounds = rounds;
  })

  pub this_of : (p depth : ℕ) → LocalDefinition
  this_of p depth = new_local (at_record p) none no_span depth true

  -- an object's `this`, which no reference is kept to
  pub begun_this : {outer : AnalysisStack} (p depth : ℕ) (st : AnalysisStack) → Begun outer [] st → After (Begun outer (this_of p depth ∷ [])) (define_this L p depth st)
  unfolding define_this this_of
  begun_this {outer = outer} p depth st b = after_weaken (after_both (defined_this L p depth st) (pushed p (this_of p depth) st)) λ _ h. record {
    is = h.1 ∙ ap (λ (ls : List LocalDefinition). ls ++ (this_of p depth ∷ [])) (b.is ∙ append-nil outer.locals);
    first = h.0.same_first ∙ b.first;
    same_references = h.0.same_references ∙ b.same_references;
    same_rounds = h.0.same_rounds ∙ b.same_rounds;
  }

  this_unnoted : (p depth : ℕ) → FirstUnnoted 1 (this_of p depth ∷ [])
  unfolding this_of new_local
  this_unnoted p depth = (record { analysed = refl; no_note = refl }, tt)

  pub named_binds : {outer : AnalysisStack} (bs : Binds) (depth : ℕ) (st : AnalysisStack) → Begun outer [] st → After (Named outer 0 (bind_places bs)) (define_binds L bs depth st)
  named_binds bs depth st b = after_weaken (after_both (defined_binds L bs depth st) (grown_binds bs depth st)) λ _ h. specs_begin [] tt b h.1 h.0

  pub named_params : {outer : AnalysisStack} (ps : Params) (depth : ℕ) (st : AnalysisStack) → Begun outer [] st → After (Named outer 0 (param_places ps)) (define_params L ps depth st)
  named_params ps depth st b = after_weaken (after_both (defined_params L ps depth st) (grown_params ps depth st)) λ _ h. specs_begin [] tt b h.1 h.0

  pub named_in_object : {outer : AnalysisStack} (p depth : ℕ) (bs : Binds) (st : AnalysisStack) → Begun outer (this_of p depth ∷ []) st → After (Named outer 1 (bind_places bs)) (define_binds L bs depth st)
  named_in_object p depth bs st b =
      after_weaken (after_both (defined_binds L bs depth st) (grown_binds bs depth st)) λ _ h. specs_begin (this_of p depth ∷ []) (this_unnoted p depth) b h.1 h.0
