-- Laws of the state that has forgotten the names of the frame on top. Assumes nothing.
use Prim.Native.Nat.{ℕ, zero, suc, ◌-◌, ◌≤◌, ◌<◌}
use mathlib.Core.List.{List, [], ◌∷◌, ◌++◌, map}
use mathlib.Core.Path.{◌≡◌, refl, sym, ap, ◌∙◌}
use native.Mathlib.Decide.{dec_lt}
use native.Mathlib.Omega.{arith}
use lib.ListN.{take, length-append}
use lib.Seq.{take-append-le, take_all}
use Rattle.rules.specs.Locals as rules_locals
use Rattle.rules.specs.Settling.{Reference}
use Rattle.rules.specs.Frames.{top, no_frame, new_frame}
use Rattle.rules.specs.State as rules
use Rattle.rules.specs.Scoping.{first_in_frame}
use Rattle.table_rows.specs.Rows.{row, rows}
use Rattle.table_rows.proofs.Laws.{length_rows}
use Rattle.table_locals.specs.Meaning.{local_of_row, locals_of}
use Rattle.table_references.specs.Meaning.{reference_of_row, references_of}
use Rattle.table_rows.specs.Entries.{number}
use Rattle.resolver.specs.Meaning.{frame_of, frames_of}
use Rattle.resolver.proofs.Laws.{frames_top}
use Rattle.state.specs.Seen.{Buffers, buffers, stack, Fit}
use Rattle.state.specs.declared.AnalysisStack.{AnalysisStack}
use Rattle.state.specs.declared.Limits.{Limits}
use Rattle.state.proofs.Changing.{tables_to}
use Rattle.state.proofs.Fitting.{fit_names}
use Rattle.step_locals.specs.Answers.{FirstInFrame}
use Rattle.step_close.specs.Answers.{forget_names, ForgottenNames}

-- The first of a table's entries

take_map : {A B : Type 0} (f : A → B) (n : ℕ) (l : List A) → take n (map f l) ≡ map f (take n l)
take_map f zero l = refl
take_map f (suc n) [] = refl
take_map f (suc n) (x ∷ l) = ap (λ r. f x ∷ r) (take_map f n l)

take_rows : (n m : ℕ) (t : List ℕ) → n ≤ m → take n (rows m t) ≡ rows n t
unfolding rows
take_rows n zero t h = let e : n ≡ 0 = omega arith in rw e refl
take_rows n (suc m) t h = by (dec_lt n (suc m)) (take_rows n m t)
  where
    by : Dec (n < suc m) → (n ≤ m → take n (rows m t) ≡ rows n t) → take n (rows m t ++ (row m t ∷ [])) ≡ rows n t
    by (yes lt) fewer = take-append-le n (rows m t) (row m t ∷ []) (omega (arith, length_rows m t)) ∙ fewer (omega arith)
    by (no ge) fewer =
        let e : n ≡ suc m = omega arith in
        take_all n (rows m t ++ (row m t ∷ [])) (omega (arith, length-append (rows m t) (row m t ∷ []), length_rows m t)) ∙ rw e refl

take_locals : (n m : ℕ) (t : List ℕ) → n ≤ m → take n (locals_of m t) ≡ locals_of n t
unfolding locals_of
take_locals n m t h = take_map local_of_row n (rows m t) ∙ ap (map local_of_row) (take_rows n m t h)

take_references : (n m : ℕ) (t : List ℕ) → n ≤ m → take n (references_of m t) ≡ references_of n t
unfolding references_of
take_references n m t h = take_map reference_of_row n (rows m t) ∙ ap (map reference_of_row) (take_rows n m t h)

-- The first local of the frame on top

module _ (b : Buffers) (st : AnalysisStack) where
  first_of_top : 0 < st.frames → first_in_frame (stack b st) ≡ number b.frames (st.frames - 1) 1
  unfolding first_in_frame stack frame_of top
  first_of_top is_open = rw (frames_top b.frames st.captures b.captures st.frames is_open)

  first_of_none : st.frames ≡ 0 → first_in_frame (stack b st) ≡ 0
  unfolding first_in_frame stack frames_of top no_frame new_frame
  first_of_none none = rw none

  module _ (l : Limits) (f : Fit l b st) where
    first_there : first_in_frame (stack b st) ≤ st.locals
    first_there = by (dec_lt 0 st.frames)
      where
        by : Dec (0 < st.frames) → first_in_frame (stack b st) ≤ st.locals
        by (yes is_open) = omega (arith, first_of_top is_open, f.first_there (st.frames - 1) (omega arith))
        by (no none) = let e : st.frames ≡ 0 = omega arith in omega (arith, first_of_none e)

    first_above : (k : ℕ) → k < st.frames → number b.frames k 1 ≤ first_in_frame (stack b st)
    first_above k lt = by (dec_lt k (st.frames - 1))
      where
        by : Dec (k < st.frames - 1) → number b.frames k 1 ≤ first_in_frame (stack b st)
        by (yes below) = omega (arith, first_of_top (omega arith), f.first_rises k (st.frames - 1) below (omega arith))
        by (no above) =
            let e : k ≡ st.frames - 1 = omega arith in
            omega (arith, first_of_top (omega arith), ap (λ (x : ℕ). number b.frames x 1) e)

-- The state

abbrev pub names_to : (first before : ℕ) → AnalysisStack → AnalysisStack
names_to first before st = tables_to first st.frames st.captures before st

abbrev with_both : List rules_locals.LocalDefinition → List Reference → rules.AnalysisStack → rules.AnalysisStack
with_both ls rs S = rules.with_references rs (rules.with_locals ls S)

module _ (b : Buffers) (l : Limits) (st : AnalysisStack) (first before : ℕ) (f : Fit l b st) (is_first : first ≡ first_in_frame (stack b st)) (there : before ≤ st.references) where
  same_names : stack b (names_to first before st) ≡ forget_names before (stack b st)
  unfolding stack forget_names rules.with_references rules.with_locals
  same_names =
      ap (λ ls. with_both ls (references_of before b.references) (stack b st))
      (sym (take_locals first st.locals b.locals (omega (arith, first_there b st l f, is_first))) ∙ ap (λ (n : ℕ). take n (locals_of st.locals b.locals)) is_first)
      ∙ ap (λ rs. with_both (take (first_in_frame (stack b st)) (locals_of st.locals b.locals)) rs (stack b st)) (sym (take_references before st.references b.references there))

  names_fit : Fit l b (names_to first before st)
  names_fit = fit_names f refl refl (omega (arith, first_there b st l f, is_first, f.few_locals)) (omega (arith, f.few_references)) (λ k lt. omega (arith, first_above b st l f k lt, is_first))

pub names_forgotten : {first : ℕ} {frames : List ℕ} {st : AnalysisStack} (before : ℕ) → FirstInFrame first frames st
    → ForgottenNames (names_to first before st) frames st before
names_forgotten {first} {frames} {st} before is_first = record {
  becomes = λ l out ds ls cs rs f there. record {
    same = same_names (buffers out ds ls frames cs rs) l st first before f (is_first.same out ds ls cs rs) there;
    fit = names_fit (buffers out ds ls frames cs rs) l st first before f (is_first.same out ds ls cs rs) there;
  };
}
