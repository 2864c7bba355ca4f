-- The names of a frame: those defined are those kept, in order, and each reference kept is between two of them, so both of its loops settle. Assumes nothing.
use Prim.Native.Nat.{ℕ, zero, suc, ◌+◌, ◌≤◌, ◌<◌}
use native.Mathlib.Omega.{arith}
use native.Mathlib.Nat.{le_antisymm}
use mathlib.Core.Bool.{true, false, false≢true}
use mathlib.Core.List.{List, [], ◌∷◌, ◌++◌, map, tail}
use mathlib.Core.Path.{◌≡◌, refl, sym, ap, ◌∙◌, subst}
use lib.ListN.{length, take, drop, length-drop, length-append}
use lib.Seq.{drop-append-le}
use borrow.Author.Tests.{eq-eqb}
use Rattle.rules.specs.Outcome.{choose}
use Rattle.rules.specs.Numbers.{Mark}
use Rattle.rules.specs.Depths.{AnalysisResult}
use Rattle.rules.specs.Tree.{Binding, at_record, external}
use Rattle.rules.specs.Locals.{LocalDefinition, local_at, no_local, new_local, noted, without_notes, passed_on}
use Rattle.rules.specs.Frames.{ClosureFrame, top}
use Rattle.rules.specs.Settling.{Reference}
use Rattle.rules.specs.State.{Limits, AnalysisStack, with_locals, with_references, with_taint, with_out, with_sink, taken_back}
use Rattle.rules.specs.Scoping.{first_in_frame, frame_locals, is_at, is_kept, set_analysis, taint_outer, drop_spec, keep_references, record_spec_init}
use Rattle.rules.proofs.After.{After, fine, after_bind, after_need, after_choose, chosen}
use Rattle.rules.proofs.ReadRecords.{Every}
use Rattle.rules.proofs.Spreading.{Inside}
use Rattle.law_steady.specs.Steady.{Steady}
use Rattle.law_steady.proofs.Keeping.{first_same}
use Rattle.claim_rounds.proofs.Later.{Later, later_same, later_is, later_then, later_length, later_take, later_drop, later_set, later_from, later_without_notes, local_analysed, bindings, same_bindings, FirstUnnoted, unnoted_later}
use Rattle.claim_rounds.proofs.Steps.{Still, Writes, still_then, still_written, emit_writes}

pub every_both : {A : Type 0} (P : A → Type 0) (xs ys : List A) → Every P xs → Every P ys → Every P (xs ++ ys)
every_both P [] ys h k = k
every_both P (x ∷ xs) ys h k = (h.0, every_both P xs ys h.1 k)

-- Bindings that stand among records at these places, in order

pub data Among : List Binding → List ℕ → Type 0 where
  none : Among [] []
  skipped : {bs : List Binding} {p : ℕ} {ps : List ℕ} → Among bs ps → Among bs (p ∷ ps)
  next : {bs : List Binding} {p : ℕ} {ps : List ℕ} → Among bs ps → Among (at_record p ∷ bs) (p ∷ ps)

pub among_both : {bs cs : List Binding} {ps qs : List ℕ} → Among bs ps → Among cs qs → Among (bs ++ cs) (ps ++ qs)
among_both none k = k
among_both (skipped h) k = skipped (among_both h k)
among_both (next h) k = next (among_both h k)

among_tail : {bs : List Binding} {ps : List ℕ} → Among bs ps → Among (tail bs) ps
among_tail none = none
among_tail (skipped h) = skipped (among_tail h)
among_tail (next h) = skipped h

-- past a place where the first of them stands, and past one where it doesn't

among_next : {bs : List Binding} {p : ℕ} {ps : List ℕ} → Among bs (p ∷ ps) → Among (tail bs) ps
among_next (skipped h) = among_tail h
among_next (next h) = h

first_binding : List Binding → Binding
first_binding [] = external 0
first_binding (b ∷ bs) = b

among_past : {bs : List Binding} {p : ℕ} {ps : List ℕ} → is_at p (first_binding bs) ≡ false → Among bs (p ∷ ps) → Among bs ps
unfolding is_at first_binding
among_past e (skipped h) = h
among_past {p = p} e (next h) = absurd (false≢true (sym e ∙ eq-eqb p p refl))

among_none : {bs : List Binding} → Among bs [] → bs ≡ []
among_none none = refl

-- the first binding from k on is that of the local k

binding_at : (k : ℕ) (ls : List LocalDefinition) → first_binding (bindings (drop k ls)) ≡ (local_at ls k).stands_for
unfolding bindings first_binding local_at no_local new_local
binding_at zero [] = refl
binding_at zero (l ∷ ls) = refl
binding_at (suc k) [] = refl
binding_at (suc k) (l ∷ ls) = binding_at k ls

bindings_next : (k : ℕ) (ls : List LocalDefinition) → bindings (drop (suc k) ls) ≡ tail (bindings (drop k ls))
unfolding bindings
bindings_next zero [] = refl
bindings_next zero (l ∷ ls) = refl
bindings_next (suc k) [] = refl
bindings_next (suc k) (l ∷ ls) = bindings_next k ls

some_left : (p : ℕ) (ls : List LocalDefinition) → is_at p (first_binding (bindings ls)) ≡ true → 0 < length ls
unfolding is_at first_binding bindings
some_left p [] e = absurd (false≢true e)
some_left p (l ∷ ls) e = omega arith

none_left : (ls : List LocalDefinition) → bindings ls ≡ [] → length ls ≡ 0
unfolding bindings
none_left [] e = refl
none_left (l ∷ ls) e = absurd (omega (arith, ap length e))

-- The state inside a frame above `outer`: the frame's first `base` locals are no specs', then come n that are

pub record Framed (outer : AnalysisStack) (base n : ℕ) (st : AnalysisStack) : Type 0 where
  pub first : first_in_frame st ≡ length outer.locals
  pub count : length st.locals ≡ length outer.locals + base + n
  pub inside : Every (Inside (length outer.locals + base) n) (drop (length outer.references) st.references)
  pub outer_later : Later outer.locals (take (length outer.locals) st.locals)

-- `kept` of the n are kept, and those left stand among the records at these places, which are still to come
pub record Specs (outer : AnalysisStack) (base n kept : ℕ) (places : List ℕ) (st : AnalysisStack) : Type 0 where
  pub framed : Framed outer base n st
  pub enough : length outer.references ≤ length st.references
  pub few : kept ≤ n
  pub own : FirstUnnoted base (drop (length outer.locals) st.locals)
  pub to_come : Among (bindings (drop (length outer.locals + base + kept) st.locals)) places

-- what leaves a frame as it is
pub record Keeps (st st' : AnalysisStack) : Type 0 where
  pub same_first : first_in_frame st' ≡ first_in_frame st
  pub same_references : st'.references ≡ st.references
  pub later : Later st.locals st'.locals

pub keeps_then : {st st' st'' : AnalysisStack} → Keeps st st' → Keeps st' st'' → Keeps st st''
keeps_then h k =
    record { same_first = k.same_first ∙ h.same_first; same_references = k.same_references ∙ h.same_references; later = later_then h.later k.later }

pub keeps_steady : {most : ℕ} {st st' : AnalysisStack} → Steady most st st' → Later st.locals st'.locals → Keeps st st'
keeps_steady {st = st} {st' = st'} h later = record { same_first = first_same st st' h.same_frames; same_references = h.same_references; later = later }

pub keeps_written : {st st' : AnalysisStack} → Writes st st' → Keeps st st'
unfolding first_in_frame
keeps_written {st = st} {st' = st'} h =
    record { same_first = ap (λ (fs : List ClosureFrame). (top fs).first_local) h.same_frames; same_references = h.same_references; later = later_is st.locals st'.locals h.same_locals }

pub framed_on : {outer : AnalysisStack} {base n : ℕ} {st st' : AnalysisStack} → Framed outer base n st → Keeps st st' → Framed outer base n st'
framed_on {outer = outer} {base = base} {n = n} h k = record {
  first = k.same_first ∙ h.first;
  count = later_length k.later ∙ h.count;
  inside = subst (λ (refs : List Reference). Every (Inside (length outer.locals + base) n) (drop (length outer.references) refs)) (sym k.same_references) h.inside;
  outer_later = later_then h.outer_later (later_take (length outer.locals) k.later);
}

pub specs_on : {outer : AnalysisStack} {base n kept : ℕ} {places : List ℕ} {st st' : AnalysisStack} → Specs outer base n kept places st → Keeps st st' → Specs outer base n kept places st'
specs_on {outer = outer} {base = base} {kept = kept} {places = places} h k = record {
  framed = framed_on h.framed k;
  enough = omega (arith, h.enough, ap length k.same_references);
  few = h.few;
  own = unnoted_later base (later_drop (length outer.locals) k.later) h.own;
  to_come = subst (λ (bs : List Binding). Among bs places) (sym (same_bindings (later_drop (length outer.locals + base + kept) k.later))) h.to_come;
}

-- where no record is to come, all are kept
pub specs_end : {outer : AnalysisStack} {base n kept : ℕ} {st : AnalysisStack} → Specs outer base n kept [] st → Framed outer base kept st
specs_end {outer = outer} {base = base} {n = n} {kept = kept} {st = st} h =
    let from = length outer.locals + base + kept in
    let gone : length (drop from st.locals) ≡ 0 = none_left (drop from st.locals) (among_none h.to_come) in
    let same : n ≡ kept = le_antisymm (omega (arith, h.framed.count, gone, length-drop from st.locals)) h.few in
    subst (λ (m : ℕ). Framed outer base m st) same h.framed

-- A spec's end

-- the references that one of the frame's specs has noted
noted_inside : (user from n base k : ℕ) (ls : List LocalDefinition) → FirstUnnoted base ls → from ≤ user → user < from + n → from ≤ k + base → k + length ls ≤ from + n
    → Every (Inside from n) (map (λ used. record { user = user; used = used }) (noted k ls))
unfolding noted choose
noted_inside user from n base k [] own above below start end = tt
noted_inside user from n zero k (l ∷ ls) own above below start end =
    chosen (λ (ids : List ℕ). Every (Inside from n) (map (λ used. record { user = user; used = used }) ids)) l.scratch_referenced _ _
    (λ _. (record { user_from = above; user_below = below; used_from = omega arith; used_below = omega arith }, noted_inside user from n zero (suc k) ls tt above below (omega arith) (omega arith)))
    (λ _. noted_inside user from n zero (suc k) ls tt above below (omega arith) (omega arith))
noted_inside user from n (suc base) k (l ∷ ls) own above below start end =
    chosen (λ (ids : List ℕ). Every (Inside from n) (map (λ used. record { user = user; used = used }) ids)) l.scratch_referenced _ _
    (λ e. absurd (false≢true (sym own.0.no_note ∙ e)))
    (λ _. noted_inside user from n base (suc k) ls own.1 above below (omega arith) (omega arith))

-- what a spec's end does to the state around its references, kept or dropped

set_keeps : (id : ℕ) (taint : AnalysisResult) (st : AnalysisStack) → Still st (taint_outer taint (set_analysis id st)) × Keeps st (taint_outer taint (set_analysis id st))
unfolding taint_outer set_analysis with_taint with_locals first_in_frame
set_keeps id taint st =
    let later = later_set st.locals id _ (local_analysed st.taint (local_at st.locals id)) in
    (record { later = later; same_rounds = refl }, record { same_first = refl; same_references = refl; later = later })

drop_keeps : (start : ℕ) (taint : AnalysisResult) (st : AnalysisStack) → Still st (drop_spec start (taint_outer taint st)) × Keeps st (drop_spec start (taint_outer taint st))
unfolding taint_outer drop_spec taken_back with_taint with_out with_sink with_locals first_in_frame frame_locals passed_on
drop_keeps start taint st =
    let later = later_from (first_in_frame st) st.locals _ (later_same (drop (first_in_frame st) st.locals)) in
    (record { later = later; same_rounds = refl }, record { same_first = refl; same_references = refl; later = later })

module _ {outer : AnalysisStack} {base n : ℕ} where
  -- the local of the next slot is that of the record at p, or it isn't

  specs_kept : {kept p : ℕ} {ps : List ℕ} {st : AnalysisStack} → Specs outer base n kept (p ∷ ps) st → is_kept p (base + kept) st ≡ true → Specs outer base n (suc kept) ps st
  unfolding is_kept
  specs_kept {kept = kept} {p = p} {ps = ps} {st = st} h e =
      let from = length outer.locals + base + kept in
      let id : first_in_frame st + (base + kept) ≡ from = omega (arith, h.framed.first) in
      let there : is_at p (first_binding (bindings (drop from st.locals))) ≡ true = ap (is_at p) (binding_at from st.locals) ∙ ap (λ (i : ℕ). is_at p (local_at st.locals i).stands_for) (sym id) ∙ e in
      let left : 0 < length (drop from st.locals) = some_left p (drop from st.locals) there in
      let after : length outer.locals + base + suc kept ≡ suc from = omega arith in
      record {
        framed = h.framed;
        enough = h.enough;
        few = omega (arith, h.framed.count, left, length-drop from st.locals);
        own = h.own;
        to_come = subst (λ (k : ℕ). Among (bindings (drop k st.locals)) ps) (sym after) (subst (λ (bs : List Binding). Among bs ps) (sym (bindings_next from st.locals)) (among_next h.to_come));
      }

  specs_dropped : {kept p : ℕ} {ps : List ℕ} {st : AnalysisStack} → Specs outer base n kept (p ∷ ps) st → is_kept p (base + kept) st ≡ false → Specs outer base n kept ps st
  unfolding is_kept
  specs_dropped {kept = kept} {p = p} {st = st} h e =
      let from = length outer.locals + base + kept in
      let id : first_in_frame st + (base + kept) ≡ from = omega (arith, h.framed.first) in
      record {
        framed = h.framed;
        enough = h.enough;
        few = h.few;
        own = h.own;
        to_come = among_past (ap (is_at p) (binding_at from st.locals) ∙ ap (λ (i : ℕ). is_at p (local_at st.locals i).stands_for) (sym id) ∙ e) h.to_come;
      }

  module _ (L : Limits) where
    -- a kept spec's references
    references_kept : {kept : ℕ} {ps : List ℕ} (p id : ℕ) (st : AnalysisStack) → Specs outer base n kept ps st → length outer.locals + base ≤ id → id < length outer.locals + base + n
        → After (λ (st' : AnalysisStack). Still st st' × Specs outer base n kept ps st') (keep_references L p id st)
    unfolding keep_references with_references with_locals frame_locals first_in_frame
    references_kept p id st h above below =
        let first = first_in_frame st in
        let mine = drop first st.locals in
        let new : List Reference = map (λ used. record { user = id; used = used }) (noted first mine) in
        let cleared = later_from first st.locals (without_notes mine) (later_without_notes mine) in
        let unnoted : Specs outer base n _ _ (with_locals (take first st.locals ++ without_notes mine) st) = specs_on h (record { same_first = refl; same_references = refl; later = cleared }) in
        after_need _ 17 p _ λ _. fine (
          record { later = cleared; same_rounds = refl },
          record {
            framed = record {
              first = h.framed.first;
              count = unnoted.framed.count;
              inside = subst (Every (Inside (length outer.locals + base) n)) (sym (drop-append-le (length outer.references) st.references new h.enough))
                  (every_both (Inside (length outer.locals + base) n) (drop (length outer.references) st.references) new h.framed.inside
                  (noted_inside id (length outer.locals + base) n base first mine (subst (λ (k : ℕ). FirstUnnoted base (drop k st.locals)) (sym h.framed.first) h.own) above below
                  (omega (arith, h.framed.first)) (omega (arith, h.framed.first, h.framed.count, length-drop first st.locals))));
              outer_later = unnoted.framed.outer_later;
            };
            enough = omega (arith, h.enough, length-append st.references new);
            few = h.few;
            own = unnoted.own;
            to_come = unnoted.to_come;
          },
        )

    -- a spec whose value is done
    pub spec_recorded : (p kept start : ℕ) {ps : List ℕ} (taint : AnalysisResult) (m : Mark) (numbers : ℕ → List ℕ) (st : AnalysisStack) → Specs outer base n kept (p ∷ ps) st
        → After (λ (r : ℕ × AnalysisStack). Still st r.1 × Specs outer base n r.0 ps r.1) (record_spec_init L p base kept start taint m numbers st)
    unfolding record_spec_init
    spec_recorded p kept start taint m numbers st h = after_choose _ _ _
        (λ e.
        let id = first_in_frame st + (base + kept) in
        let more = specs_kept h e in
        after_bind _ (references_kept p id st more (omega (arith, h.framed.first)) (omega (arith, h.framed.first, more.few))) λ st₁ s.
        let ended = set_keeps id taint st₁ in
        after_bind _ (emit_writes L p m (numbers (base + kept)) (taint_outer taint (set_analysis id st₁))) λ st₂ w.
        fine (still_then s.0 (still_then ended.0 (still_written w)), specs_on s.1 (keeps_then ended.1 (keeps_written w))))
        (λ e. fine ((drop_keeps start taint st).0, specs_on (specs_dropped h e) (drop_keeps start taint st).1))
