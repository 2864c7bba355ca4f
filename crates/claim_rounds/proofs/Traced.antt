-- Paths through the analysis with their settlings: places and rounds in order, each settling ended in time. Assumes nothing.
use Prim.Native.Nat.{ℕ, suc, ◌+◌, ◌≤◌}
use native.Mathlib.Omega.{arith}
use mathlib.Core.Bool.{Bool, true, false}
use mathlib.Core.List.{List, [], ◌∷◌, ◌++◌, map, map-append}
use mathlib.Core.Path.{◌≡◌, refl, sym, ap₂, ◌∙◌, subst}
use lib.ListN.{length, take, drop}
use Rattle.rules.specs.Outcome.{choose, Outcome, ◌>>=◌}
use Rattle.rules.specs.Locals.{LocalDefinition}
use Rattle.rules.specs.Settling.{Reference, Loop, propagate_analysis, propagate_use, one_round, settle, settled}
use Rattle.rules.specs.State.{Limits, AnalysisStack, with_locals, with_references, with_rounds, with_sink}
use Rattle.rules.specs.Scoping.{first_in_frame, settle_frame, finish_frame}
use Rattle.rules.proofs.After.{After, fine, refused, after_weaken, after_bind, after_both}
use Rattle.rules.proofs.ReadRecords.{Every}
use Rattle.rules.proofs.Spreading.{Inside}
use Rattle.rules.proofs.Rounds.{rounds_at_most, use_settles, analysis_settles, use_settled, analysis_settled}
use Rattle.claim_rounds.specs.Settlings.{Settling, settled_by, Settles, all_rounds, settling, behind, around}
use Rattle.claim_rounds.proofs.Later.{Later, later_then, LaterLoop, analysis_later, use_later, settle_later}
use Rattle.claim_rounds.proofs.Steps.{Still, still_written, still_close, judging_writes}
use Rattle.claim_rounds.proofs.Framed.{every_both, Framed, framed_on, Keeps, keeps_then, keeps_written}

-- from a state to a later one, with these settlings at these places
pub record Walked (places : List ℕ) (ss : List Settling) (st st' : AnalysisStack) : Type 0 where
  pub at_places : map (λ (s : Settling). s.place) ss ≡ places
  pub all_settle : Every Settles ss
  pub sum : st'.sink.rounds ≡ st.sink.rounds + all_rounds ss

rounds_both : (ss ts : List Settling) → all_rounds (ss ++ ts) ≡ all_rounds ss + all_rounds ts
unfolding all_rounds
rounds_both [] ts = omega arith
rounds_both (s ∷ ss) ts = omega (arith, rounds_both ss ts)

pub walked_same : {st st' : AnalysisStack} → st'.sink.rounds ≡ st.sink.rounds → Walked [] [] st st'
unfolding all_rounds
walked_same e = record { at_places = refl; all_settle = tt; sum = omega (arith, e) }

pub walked_then : {ps qs : List ℕ} {ss ts : List Settling} {st st' st'' : AnalysisStack} → Walked ps ss st st' → Walked qs ts st' st'' → Walked (ps ++ qs) (ss ++ ts) st st''
walked_then {ss = ss} {ts = ts} h k = record {
  at_places = map-append (λ (s : Settling). s.place) ss ts ∙ ap₂ (λ (ps qs : List ℕ). ps ++ qs) h.at_places k.at_places;
  all_settle = every_both Settles ss ts h.all_settle k.all_settle;
  sum = omega (arith, h.sum, k.sum, rounds_both ss ts);
}

pub walked_still : {ps : List ℕ} {ss : List Settling} {st st' st'' : AnalysisStack} → Walked ps ss st st' → Still st' st'' → Walked ps ss st st''
walked_still h k = record { at_places = h.at_places; all_settle = h.all_settle; sum = k.same_rounds ∙ h.sum }

-- Outcomes

-- what a step has settled, then what is settled after it
pub traced : {A B : Type 0} (at : A → AnalysisStack) (to : B → AnalysisStack) {P : A → Type 0} {Q : B → Type 0} {ps qs : List ℕ} {own : List Settling} {st : AnalysisStack} {o : Outcome A}
    {f : A → Outcome B} {g : A → List Settling} → After (λ a. Walked ps own st (at a) × P a) o → ((a : A) → P a → After (λ b. Walked qs (g a) (at a) (to b) × Q b) (f a))
    → After (λ b. Walked (ps ++ qs) (own ++ behind o g) st (to b) × Q b) (o >>= f)
unfolding ◌>>=◌ behind
traced at to (fine h) k = after_weaken (k _ h.1) λ _ rest. (walked_then h.0 rest.0, rest.1)
traced at to refused k = refused

pub traced_choice : {Q : AnalysisStack → Type 0} {st : AnalysisStack} (b : Bool) (ps qs : Unit {0} → List ℕ) (ss ts : Unit {0} → List Settling) (x y : Unit {0} → Outcome AnalysisStack)
    → After (λ st'. Walked (ps tt) (ss tt) st st' × Q st') (x tt) → After (λ st'. Walked (qs tt) (ts tt) st st' × Q st') (y tt)
    → After (λ st'. Walked (choose b ps qs) (choose b ss ts) st st' × Q st') (choose b x y)
unfolding choose
traced_choice true ps qs ss ts x y h k = h
traced_choice false ps qs ss ts x y h k = k

pub after_walked : {B : Type 0} (to : B → AnalysisStack) {Q : B → Type 0} {ps qs : List ℕ} {ss ts : List Settling} {st st' : AnalysisStack} {o : Outcome B} → Walked ps ss st st'
    → After (λ b. Walked qs ts st' (to b) × Q b) o → After (λ b. Walked (ps ++ qs) (ss ++ ts) st (to b) × Q b) o
after_walked to h k = after_weaken k λ _ rest. (walked_then h rest.0, rest.1)

-- besides, these locals stay, as `Later` says
abbrev pub Goes : List LocalDefinition → List ℕ → List Settling → AnalysisStack → AnalysisStack → Type 0
Goes ls ps ss st = λ st'. Walked ps ss st st' × Later ls st'.locals

pub steps : {st : AnalysisStack} {o : Outcome AnalysisStack} → After (Still st) o → After (Goes st.locals [] [] st) o
steps h = after_weaken h λ _ s. (walked_same s.same_rounds, s.later)

pub goes_from : {ls ms : List LocalDefinition} {ps : List ℕ} {ss : List Settling} {st : AnalysisStack} {o : Outcome AnalysisStack} → Later ls ms → After (Goes ms ps ss st) o → After (Goes ls ps ss st) o
goes_from l h = after_weaken h λ _ w. (w.0, later_then l w.1)

pub after_goes : {ls : List LocalDefinition} {ps : List ℕ} {ss : List Settling} {st st' : AnalysisStack} {o : Outcome AnalysisStack} → Goes ls ps ss st st' → After (Still st') o → After (Goes ls ps ss st) o
after_goes w h = after_weaken h λ _ s. (walked_still w.0 s, later_then w.1 s.later)

pub and_also : {A : Type 0} {P Q R : A → Type 0} {o : Outcome A} → After (λ a. P a × Q a) o → After R o → After (λ a. P a × (Q a × R a)) o
and_also h k = after_weaken (after_both h k) λ _ x. (x.0.0, (x.0.1, x.1))

-- Settlings

-- what is shown of a loop over references that lie inside a frame
pub record Rests (loop : Loop) : Type 0 where
  pub rests : (first n : ℕ) (refs : List Reference) (ls : List LocalDefinition) → Every (Inside first n) refs → first + n ≤ length ls
      → (one_round loop refs (record { locals = (settled n loop refs ls).locals; changed = false })).changed ≡ false
  pub same_with_more : (first n k : ℕ) (refs : List Reference) (ls : List LocalDefinition) → Every (Inside first n) refs → first + n ≤ length ls
      → settle (suc n + k) loop refs ls ≡ settle (suc n) loop refs ls
  pub later : LaterLoop loop

pub analysis_rests : Rests propagate_analysis
analysis_rests = record { rests = analysis_settles; same_with_more = analysis_settled; later = analysis_later }

pub use_rests : Rests propagate_use
use_rests = record { rests = use_settles; same_with_more = use_settled; later = use_later }

module _ {loop : Loop} (r : Rests loop) {outer : AnalysisStack} {base kept : ℕ} (p : ℕ) (st : AnalysisStack) where
  frame_settles : Framed outer base kept st → Settles (settling loop p kept (length outer.references) st)
  unfolding settling settled_by settled
  frame_settles h =
      let refs = drop (length outer.references) st.references in
      let first = length outer.locals + base in
      let fits : first + kept ≤ length st.locals = omega (arith, h.count) in
      record {
        few_rounds = rounds_at_most kept loop refs st.locals;
        at_rest = r.rests first kept refs st.locals h.inside fits;
        nothing_cut_off = λ k. r.same_with_more first kept k refs st.locals h.inside fits;
      }

  pub settled_here : Framed outer base kept st
      → Walked (p ∷ []) (settling loop p kept (length outer.references) st ∷ []) st (settle_frame loop kept (length outer.references) st)
  unfolding settling settled_by all_rounds settle_frame with_rounds with_locals with_sink
  settled_here h = record { at_places = refl; all_settle = (frame_settles h, tt); sum = omega arith }

pub settling_keeps : {loop : Loop} → Rests loop → (kept before : ℕ) (st : AnalysisStack) → Keeps st (settle_frame loop kept before st)
unfolding settle_frame with_rounds with_locals with_sink settled first_in_frame
settling_keeps {loop = loop} r kept before st =
    record { same_first = refl; same_references = refl; later = settle_later loop r.later (suc kept) (drop before st.references) st.locals }

-- the end of a frame's names, its second loop first
pub finished : (L : Limits) (p : ℕ) {outer : AnalysisStack} {base kept : ℕ} (st : AnalysisStack) → Framed outer base kept st
    → After (Goes outer.locals (p ∷ []) (settling propagate_use p kept (length outer.references) st ∷ []) st) (finish_frame L p kept (length outer.references) st)
unfolding finish_frame with_references with_locals
finished L p {outer = outer} {base = base} {kept = kept} st h =
    after_bind _ (judging_writes L p _ (settle_frame propagate_use kept (length outer.references) st)) λ st₁ w.
    let still_framed = framed_on (framed_on h (settling_keeps use_rests kept (length outer.references) st)) (keeps_written w) in
    let walked = walked_still (settled_here use_rests p st h) (still_written w) in
    after_weaken (still_close L p _) λ _ s. (
      record { at_places = walked.at_places; all_settle = walked.all_settle; sum = s.same_rounds ∙ walked.sum },
      later_then (subst (λ (n : ℕ). Later outer.locals (take n st₁.locals)) (sym still_framed.first) still_framed.outer_later) s.later,
    )

-- a frame from the end of its specs on; what ends it may look at the state after its body
pub around_walked : (L : Limits) (p : ℕ) {outer : AnalysisStack} {base kept : ℕ} {ps : List ℕ} (st : AnalysisStack) (body : AnalysisStack → Outcome AnalysisStack) (inside : AnalysisStack → List Settling)
    (end : AnalysisStack → AnalysisStack → Outcome AnalysisStack) → Framed outer base kept st
    → ((st : AnalysisStack) → After (λ (st' : AnalysisStack). Walked ps (inside st) st st' × Keeps st st') (body st)) → ((st st' : AnalysisStack) → After (Still st') (end st st'))
    → After (Goes outer.locals (p ∷ (ps ++ p ∷ [])) (around p kept (length outer.references) body inside st) st)
    (body (settle_frame propagate_analysis kept (length outer.references) st) >>= λ st'. finish_frame L p kept (length outer.references) st' >>= λ st''. end st' st'')
unfolding around
around_walked L p {outer = outer} {kept = kept} st body inside end h walks ends =
    let here : AnalysisStack → AnalysisStack = λ st. st in
    after_walked here (settled_here analysis_rests p st h)
    (traced here here (walks _) λ st₁ k.
    after_bind _ (finished L p st₁ (framed_on h (keeps_then (settling_keeps analysis_rests kept (length outer.references) st) k))) λ st₂ w. after_goes w (ends st₁ st₂))
