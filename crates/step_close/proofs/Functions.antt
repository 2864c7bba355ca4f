-- Laws of a function's end: whether it gives its argument, and its record after the frame's end. Assumes nothing.
use Prim.Native.Nat.{ℕ, ◌+◌, ◌-◌, ◌≤◌, ◌<◌}
use mathlib.Core.Bool.{Bool, true, false, not, ◌&&◌, false≢true}
use mathlib.Core.List.{List, [], ◌∷◌}
use mathlib.Core.Path.{◌≡◌, refl, sym, ap, ◌∙◌}
use native.Mathlib.Omega.{arith}
use lib.Dec.{eqb, leb}
use lib.Pointwise.{pointwise}
use lib.ListN.{length, take, drop}
use lib.Seq.{length-take-le}
use Rattle.std.proofs.lemmas.Bool.{leb-true, leb-false}
use Rattle.std.proofs.lemmas.List.{drop_all, drop-take}
use Rattle.rules.specs.Outcome.{Outcome, ◌>>=◌, choose}
use Rattle.rules.specs.Numbers.{LS, code, same_bytes, mark_bytes, number_bytes, numbers_bytes, record_bytes}
use Rattle.rules.specs.State as rules
use Rattle.rules.specs.Scoping as scoping
use Rattle.rules.specs.Walk as walk
use Rattle.law_runs.specs.Steps.{and_place, gives_argument, finished_function}
use Rattle.state.specs.Seen.{span_of, Buffers, buffers, stack}
use Rattle.state.specs.Walks.{naming_of, Walks, Steps}
use Rattle.state.specs.declared.AnalysisStack.{AnalysisStack}
use Rattle.state.specs.declared.Limits.{Limits}
use Rattle.state.specs.declared.Naming.{Naming}
use Rattle.step_write.proofs.Laws.{limits_same}
use Rattle.step_record.specs.Answers.{FunctionNamed}
use Rattle.step_emit.proofs.Laws.{Placed}
use Rattle.step_close.proofs.Behind.{walks_on, walks_nowhere}
use Rattle.std.specs.Prelude.{Ok, Err}
use Rattle.refusal.specs.declared.Refusal.{Refusal}
use Rattle.state.specs.Seen.{Step, Walked}

-- Whether a function gives its argument

-- slices compare as the rules compare bytes
same_pointwise : (xs ys : List ℕ) → pointwise eqb xs ys ≡ same_bytes xs ys
unfolding same_bytes choose
same_pointwise [] [] = refl
same_pointwise [] (y ∷ ys) = refl
same_pointwise (x ∷ xs) [] = refl
same_pointwise (x ∷ xs) (y ∷ ys) = by (eqb x y) (same_pointwise xs ys)
  where
    by : (t : Bool) → pointwise eqb xs ys ≡ same_bytes xs ys → (t && pointwise eqb xs ys) ≡ choose t (λ _. same_bytes xs ys) (λ _. false)
    by true e = e
    by false e = refl

-- the value of `p && q` where p holds, and where it doesn't

pub and_then : {p q value : Bool} → p ≡ true → value ≡ q → value ≡ (p && q)
and_then e is = rw e is

pub and_not : {p value : Bool} (q : Bool) → p ≡ false → value ≡ p → value ≡ (p && q)
and_not q e is = rw e (is ∙ e)

module _ (defaults : Bool) (kept start to : ℕ) (out : List ℕ) where
  abbrev gives : Bool
  gives = gives_argument defaults kept (drop start (take to out))

  abbrev keeps_one : Bool
  keeps_one = eqb kept 1 && not defaults

  by_body : {t : Bool} → keeps_one ≡ t → gives ≡ (t && same_bytes (drop start (take to out)) (record_bytes LS (0 ∷ [])))
  unfolding gives_argument
  by_body e = rw e refl

  module _ {keeps starts : Bool} (keeps_is : keeps ≡ keeps_one) (starts_is : starts ≡ (keeps && leb start to)) where
    pub not_given : starts ≡ false → to ≤ length out → starts ≡ gives
    unfolding same_bytes record_bytes mark_bytes
    not_given none within = by keeps_one refl
      where
        by : (t : Bool) → keeps_one ≡ t → starts ≡ gives
        by true e =
            let past : to < start = leb-false start to (sym (rw (keeps_is ∙ e) at starts_is) ∙ none) in
            let empty : drop start (take to out) ≡ [] = drop_all start (take to out) (omega (arith, past, length-take-le to out within)) in
            none ∙ sym (by_body e ∙ rw empty refl)
        by false e = none ∙ sym (by_body e)

    pub given_by_body : starts ≡ true → {r : Bool} {bytes : List ℕ} → bytes ≡ 0x4c ∷ 0x53 ∷ 0 ∷ 0 ∷ 0 ∷ 0 ∷ [] → r ≡ pointwise eqb (take (to - start) (drop start out)) bytes → r ≡ gives
    unfolding record_bytes mark_bytes code numbers_bytes number_bytes
    given_by_body some {r} {bytes} slot tells = by keeps_one refl
      where
        by : (t : Bool) → keeps_one ≡ t → r ≡ gives
        by true e =
            let within : start ≤ to = leb-true start to (sym (rw (keeps_is ∙ e) at starts_is) ∙ some) in
            let ends : to ≡ start + (to - start) = omega arith in
            let body : drop start (take to out) ≡ take (to - start) (drop start out) = ap (λ (n : ℕ). drop start (take n out)) ends ∙ drop-take start (to - start) out in
            tells
            ∙ ap (pointwise eqb (take (to - start) (drop start out))) slot
            ∙ same_pointwise (take (to - start) (drop start out)) (0x4c ∷ 0x53 ∷ 0 ∷ 0 ∷ 0 ∷ 0 ∷ [])
            ∙ sym (by_body e ∙ ap (λ bs. same_bytes bs (record_bytes LS (0 ∷ []))) body)
        by false e = absurd (false≢true (sym (rw (keeps_is ∙ e) at starts_is) ∙ some))

-- After the frame's end

module _ {l : Limits} {out out₁ diagnostics diagnostics₁ locals locals₁ frames frames₁ captures captures₁ references references₁ : List ℕ} {st : AnalysisStack}
    (place kept before next span start body_start : ℕ) (defaults : Bool) (naming : Naming) {gives : Bool}
    (told : gives ≡ gives_argument defaults kept (drop body_start (take st.out out))) {r₁ : Step}
    (finished : Steps r₁ l (buffers out diagnostics locals frames captures references) (buffers out₁ diagnostics₁ locals₁ frames₁ captures₁ references₁) st
    (λ limits. scoping.finish_frame limits place kept before)) where
  abbrev b : Buffers
  b = buffers out diagnostics locals frames captures references

  abbrev b₁ : Buffers
  b₁ = buffers out₁ diagnostics₁ locals₁ frames₁ captures₁ references₁

  abbrev named_so : rules.Limits → rules.AnalysisStack → Outcome rules.AnalysisStack
  named_so limits = walk.finish_function limits place (span_of span) start kept (naming_of naming) gives

  -- what was told before the frame's end is what the rules ask
  as_told : {w : Walked} {b₂ : Buffers} → Walks w l b b₂ st (λ limits S. scoping.finish_frame limits place kept before S >>= λ T. and_place next (named_so limits T))
      → Walks w l b b₂ st (λ limits. finished_function limits place (span_of span) start body_start kept before defaults (naming_of naming) next)
  unfolding finished_function stack
  as_told walks = record {
    same = λ limits at.
        walks.same limits at
        ∙ ap (λ (g : Bool). scoping.finish_frame limits place kept before (stack b st) >>= λ T. and_place next (walk.finish_function limits place (span_of span) start kept (naming_of naming) g T)) told;
    fit = walks.fit;
  }

  pub function_refused : {why : Refusal} → r₁ ≡ Err why
      → Walks (Err why) l b b₁ st (λ limits. finished_function limits place (span_of span) start body_start kept before defaults (naming_of naming) next)
  function_refused is =
      as_told (walks_nowhere (λ limits. scoping.finish_frame limits place kept before) l b b₁ st finished (λ limits T. and_place next (named_so limits T)) is)

  pub function_finished : {st₁ : AnalysisStack} {out₂ diagnostics₂ : List ℕ} {r : Step} {w : Walked} → r₁ ≡ Ok st₁
      → length out₁ ≡ length out → length diagnostics₁ ≡ length diagnostics
      → FunctionNamed r out₁ out₂ diagnostics₁ diagnostics₂ st₁ place span start kept naming gives → Placed w r next
      → Walks w l b (buffers out₂ diagnostics₂ locals₁ frames₁ captures₁ references₁) st
      (λ limits. finished_function limits place (span_of span) start body_start kept before defaults (naming_of naming) next)
  function_finished {st₁} {out₂} {diagnostics₂} is size size' named placed =
      as_told (walks_on (λ limits. scoping.finish_frame limits place kept before) l b b₁ st finished named_so
      (buffers out₂ diagnostics₂ locals₁ frames₁ captures₁ references₁) next is (limits_same l out out₁ diagnostics diagnostics₁ size size')
      (named.steps l locals₁ frames₁ captures₁ references₁) placed)
