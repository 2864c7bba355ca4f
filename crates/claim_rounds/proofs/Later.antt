-- What holds of a local for as long as it stays: it is the same binding, and if it is analysed and bears no note, it remains so. Assumes nothing.
use Prim.Native.Nat.{ℕ, zero, suc}
use mathlib.Core.Bool.{Bool, true, false, not, false≢true}
use mathlib.Core.List.{List, [], ◌∷◌, ◌++◌, map}
use mathlib.Core.Path.{◌≡◌, refl, sym, ap, ap₂, ◌∙◌, subst}
use lib.ListN.{length, set, take, drop}
use Rattle.rules.specs.Outcome.{choose}
use Rattle.rules.specs.Tree.{Binding}
use Rattle.rules.specs.Depths.{AnalysisResult}
use Rattle.rules.specs.Locals.{LocalDefinition, local_at, with_analysis, with_used_at_depth, with_used_by_sibling, with_scratch_referenced, use_at, keeps_reference, note_reference, without_notes}
use Rattle.rules.specs.Settling.{Reference, Round, Loop, propagate_analysis, propagate_use, one_round, Settled, settle}
use Rattle.rules.proofs.After.{chosen}

-- no reference to it is to be kept, nor will one be noted
pub record Unnoted (l : LocalDefinition) : Type 0 where
  pub analysed : l.analyzed ≡ true
  pub no_note : l.scratch_referenced ≡ false

pub record LaterLocal (l l' : LocalDefinition) : Type 0 where
  pub same_binding : l'.stands_for ≡ l.stands_for
  pub still_unnoted : Unnoted l → Unnoted l'

pub data Later : List LocalDefinition → List LocalDefinition → Type 0 where
  none : Later [] []
  both : {l l' : LocalDefinition} {ls ls' : List LocalDefinition} → LaterLocal l l' → Later ls ls' → Later (l ∷ ls) (l' ∷ ls')

-- One local

pub local_same : (l : LocalDefinition) → LaterLocal l l
local_same l = record { same_binding = refl; still_unnoted = λ u. u }

pub local_then : {a b c : LocalDefinition} → LaterLocal a b → LaterLocal b c → LaterLocal a c
local_then h k = record { same_binding = k.same_binding ∙ h.same_binding; still_unnoted = λ u. k.still_unnoted (h.still_unnoted u) }

pub local_analysed : (a : AnalysisResult) (l : LocalDefinition) → LaterLocal l (with_analysis a l)
unfolding with_analysis
local_analysed a l = record { same_binding = refl; still_unnoted = λ u. record { analysed = refl; no_note = u.no_note } }

local_used : (depth : ℕ) (l : LocalDefinition) → LaterLocal l (with_used_at_depth depth l)
unfolding with_used_at_depth
local_used depth l = record { same_binding = refl; still_unnoted = λ u. record { analysed = u.analysed; no_note = u.no_note } }

local_sibling : (l : LocalDefinition) → LaterLocal l (with_used_by_sibling l)
unfolding with_used_by_sibling
local_sibling l = record { same_binding = refl; still_unnoted = λ u. record { analysed = u.analysed; no_note = u.no_note } }

local_without_note : (l : LocalDefinition) → LaterLocal l (with_scratch_referenced false l)
unfolding with_scratch_referenced
local_without_note l = record { same_binding = refl; still_unnoted = λ u. record { analysed = u.analysed; no_note = refl } }

-- what is analysed is not noted
local_noted : (l : LocalDefinition) → LaterLocal l (note_reference l)
unfolding note_reference keeps_reference choose with_scratch_referenced
local_noted l = by l.analyzed refl
  where
    open_note : l.analyzed ≡ false → LaterLocal l (with_scratch_referenced true l)
    open_note e = record { same_binding = refl; still_unnoted = λ u. absurd (false≢true (sym e ∙ u.analysed)) }

    by : (b : Bool) → l.analyzed ≡ b → LaterLocal l (choose (not b) (λ _. with_scratch_referenced true l) (λ _. l))
    by true e = local_same l
    by false e = open_note e

pub local_touched : (depth : ℕ) (l : LocalDefinition) → LaterLocal l (note_reference (use_at depth l))
unfolding use_at
local_touched depth l = local_then (chosen (LaterLocal l) _ _ _ (λ _. local_sibling l) (λ _. local_used _ l)) (local_noted (use_at depth l))

-- Many

pub later_same : (ls : List LocalDefinition) → Later ls ls
later_same [] = none
later_same (l ∷ ls) = both (local_same l) (later_same ls)

pub later_is : (ls ls' : List LocalDefinition) → ls' ≡ ls → Later ls ls'
later_is ls ls' e = subst (Later ls) (sym e) (later_same ls)

pub later_then : {ls ms ns : List LocalDefinition} → Later ls ms → Later ms ns → Later ls ns
later_then none none = none
later_then (both h hs) (both k ks) = both (local_then h k) (later_then hs ks)

pub later_length : {ls ls' : List LocalDefinition} → Later ls ls' → length ls' ≡ length ls
later_length none = refl
later_length (both h hs) = ap suc (later_length hs)

pub later_take : {ls ls' : List LocalDefinition} (n : ℕ) → Later ls ls' → Later (take n ls) (take n ls')
later_take zero h = none
later_take (suc n) none = none
later_take (suc n) (both h hs) = both h (later_take n hs)

pub later_drop : {ls ls' : List LocalDefinition} (n : ℕ) → Later ls ls' → Later (drop n ls) (drop n ls')
later_drop zero h = h
later_drop (suc n) none = none
later_drop (suc n) (both h hs) = later_drop n hs

pub later_set : (ls : List LocalDefinition) (id : ℕ) (l : LocalDefinition) → LaterLocal (local_at ls id) l → Later ls (set ls id l)
unfolding local_at
later_set [] id l h = none
later_set (x ∷ ls) zero l h = both h (later_same ls)
later_set (x ∷ ls) (suc id) l h = both (local_same x) (later_set ls id l h)

-- those from n on
pub later_from : (n : ℕ) (ls ms : List LocalDefinition) → Later (drop n ls) ms → Later ls (take n ls ++ ms)
later_from zero ls ms h = h
later_from (suc n) [] ms h = h
later_from (suc n) (l ∷ ls) ms h = both (local_same l) (later_from n ls ms h)

pub later_without_notes : (ls : List LocalDefinition) → Later ls (without_notes ls)
unfolding without_notes
later_without_notes [] = none
later_without_notes (l ∷ ls) = both (local_without_note l) (later_without_notes ls)

-- Settling

abbrev pub LaterLoop : Loop → Type 0
LaterLoop loop = (r : Round) (ref : Reference) → Later r.locals (loop r ref).locals

pub analysis_later : LaterLoop propagate_analysis
unfolding propagate_analysis
analysis_later r ref = later_set r.locals ref.user _ (local_analysed _ _)

pub use_later : LaterLoop propagate_use
unfolding propagate_use
use_later r ref = chosen (λ (x : Round). Later r.locals x.locals) _ _ _ (λ _. later_set r.locals ref.used _ (local_used _ _)) (λ _. later_same r.locals)

module _ (loop : Loop) (later : LaterLoop loop) where
  round_later : (refs : List Reference) (r : Round) → Later r.locals (one_round loop refs r).locals
  unfolding one_round
  round_later [] r = later_same r.locals
  round_later (ref ∷ refs) r = later_then (later r ref) (round_later refs (loop r ref))

  pub settle_later : (most : ℕ) (refs : List Reference) (ls : List LocalDefinition) → Later ls (settle most loop refs ls).locals
  unfolding settle
  settle_later zero refs ls = later_same ls
  settle_later (suc most) refs ls = chosen (λ (x : Settled). Later ls x.locals) _ _ _
      (λ _. later_then (round_later refs (record { locals = ls; changed = false })) (settle_later most refs _))
      (λ _. round_later refs (record { locals = ls; changed = false }))

-- What is the same in them

-- the bindings that they stand for
unfoldable pub bindings : List LocalDefinition → List Binding
bindings ls = map (λ (l : LocalDefinition). l.stands_for) ls

pub same_bindings : {ls ls' : List LocalDefinition} → Later ls ls' → bindings ls' ≡ bindings ls
unfolding bindings
same_bindings none = refl
same_bindings (both h hs) = ap₂ (λ (b : Binding) (bs : List Binding). b ∷ bs) h.same_binding (same_bindings hs)

-- the first n of them are unnoted
abbrev pub FirstUnnoted : ℕ → List LocalDefinition → Type 0
FirstUnnoted zero ls = Unit {0}
FirstUnnoted (suc n) [] = Unit {0}
FirstUnnoted (suc n) (l ∷ ls) = Unnoted l × FirstUnnoted n ls

pub unnoted_later : (n : ℕ) {ls ls' : List LocalDefinition} → Later ls ls' → FirstUnnoted n ls → FirstUnnoted n ls'
unnoted_later zero h u = tt
unnoted_later (suc n) none u = tt
unnoted_later (suc n) (both h hs) u = (h.still_unnoted u.0, unnoted_later n hs u.1)
