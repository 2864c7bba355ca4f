-- For the entry: what a call runs, from what its parts answered, and that what is left then is what the call leaves. Assumes nothing.
use Prim.Native.Nat.{ℕ, ◌+◌, ◌*◌, ◌-◌, ◌≤◌, ◌<◌}
use mathlib.Core.Bool.{Bool, true, false, ◌&&◌, false≢true}
use mathlib.Core.List.{List, ◌++◌}
use mathlib.Core.Path.{◌≡◌, refl, sym, ap, ◌∙◌}
use native.Mathlib.Omega.{arith}
use borrow.Author.Tests.{leb-true}
use lib.ListN.{length, take, replicate}
use lib.Dec.{leb}
use lib.Seq.{length-take-le}
use Rattle.rules.specs.Outcome.{Outcome, ok, refuse, ◌>>=◌}
use Rattle.rules.specs.Numbers.{number_at, numbers_at}
use Rattle.rules.specs.FirstWalk.{tree_at}
use Rattle.rules.specs.State as rules
use Rattle.rules.specs.Writing.{close_frame}
use Rattle.rules.specs.Walk as walk
use Rattle.rules.specs.Call.{tables_fit, run, report_of, call, define_externals, open_root}
use Rattle.rules.specs.Call as rules_call
use Rattle.rules.proofs.Outcomes.{bind_fine}
use Rattle.law_runs.specs.Run.{run_expr}
use Rattle.state.specs.Seen.{Buffers, buffers, stack, seen, limits_of}
use Rattle.state.specs.Walks.{walked, Walks}
use Rattle.state.specs.declared.AnalysisStack.{AnalysisStack}
use Rattle.state.specs.declared.Limits.{Limits}
use Rattle.step_frame.specs.Answers.{FrameClosed}
use Rattle.law_joins.proofs.Joining.{Long, limits_kept}
use Rattle.call_root.specs.Answers.{report_meaning, ReportsState, LongTables, BegunRoot, Cleared, lent, left}
use Rattle.call_root.specs.declared.AnalysisReport.{AnalysisReport}
use Rattle.call_root.proofs.Whole.{TreeThere, root_walked, root_begun_by, whole_from, whole_not_begun, run_13, run_14, run_refused, run_accepted, left_refused, left_accepted}
use Rattle.std.specs.Prelude.{Ok, Err}
use Rattle.refusal.specs.declared.Refusal.{Refusal}
use Rattle.refusal.specs.Meaning.{number_of}
use Rattle.state.specs.Seen.{Step, Walked}

-- What is lent

pub limits_lent : (s : List ℕ) (b : Buffers) (l : Limits) → rules_call.limits_of (lent s b l) ≡ limits_of l b.out b.diagnostics
unfolding lent limits_of rules_call.limits_of
limits_lent s b l = refl

-- what `tables_fit` answers
pub fits_lent : (s : List ℕ) (b : Buffers) (l : Limits) → tables_fit (lent s b l)
    ≡ (leb (16 * l.max_locals) (length b.locals) && leb (16 * l.max_frames) (length b.frames) && leb (16 * l.max_captures) (length b.captures) && leb (16 * l.max_references) (length b.references))
unfolding tables_fit lent
fits_lent s b l = refl

four : (w x y z : Bool) → (w && x && y && z) ≡ true → (w ≡ true) × (x ≡ true) × (y ≡ true) × (z ≡ true)
four true true true z e = (refl, refl, refl, e)
four true true false z e = absurd (false≢true e)
four true false y z e = absurd (false≢true e)
four false x y z e = absurd (false≢true e)

pub long_lent : (s : List ℕ) (b : Buffers) (l : Limits) → tables_fit (lent s b l) ≡ true → LongTables l b
long_lent s b l e =
    let tests = four _ _ _ _ (sym (fits_lent s b l) ∙ e) in
    record {
      locals_long = leb-true _ _ tests.0;
      frames_long = leb-true _ _ tests.1;
      captures_long = leb-true _ _ tests.2;
      references_long = leb-true _ _ tests.3;
    }

-- What is run

module _ (s : List ℕ) (b : Buffers) (l : Limits) where
  pub entry_13 : tables_fit (lent s b l) ≡ false → run (lent s b l) ≡ refuse 13 0
  entry_13 e = run_13 (lent s b l) e

  module _ (fit : tables_fit (lent s b l) ≡ true) where
    pub entry_14 : 16777216 < length s → run (lent s b l) ≡ refuse 14 0
    unfolding lent
    entry_14 lt = run_14 (lent s b l) fit lt

    module _ (short : length s ≤ 16777216) where
      pub entry_tree_refused : {number place : ℕ} → tree_at s ≡ refuse number place → run (lent s b l) ≡ refuse number place
      unfolding lent
      entry_tree_refused e = run_refused (lent s b l) fit short e

      module _ (there : TreeThere s) where
        entry_tree : run (lent s b l) ≡ rules_call.analyze_root (limits_of l b.out b.diagnostics) there.tree
        unfolding lent limits_of rules_call.limits_of
        entry_tree = run_accepted (lent s b l) fit short there.there

        module _ {n : ℕ} (en : n ≡ number_at s 2) {r₁ : Step} {ls' fs' : List ℕ} (begun : BegunRoot r₁ s b.locals ls' b.frames fs' l n) where
          begun_by : seen r₁ (buffers b.out b.diagnostics ls' fs' b.captures b.references) ≡ root_begun_by there.whole_tree (limits_of l b.out b.diagnostics)
          begun_by =
              begun.same b.out b.diagnostics b.captures b.references (long_lent s b l fit)
              ∙ ap (λ (n : ℕ). define_externals (limits_of l b.out b.diagnostics) 0 (numbers_at s n 6) rules.empty_stack >>= λ σ. open_root (limits_of l b.out b.diagnostics) n σ) en

          pub entry_not_begun : {why : Refusal} → r₁ ≡ Err why → run (lent s b l) ≡ refuse (number_of why.reason) why.place
          entry_not_begun e = entry_tree ∙ whole_not_begun there.whole_tree _ (sym begun_by ∙ ap (λ (x : Step). seen x (buffers b.out b.diagnostics ls' fs' b.captures b.references)) e)

          module _ {st₁ : AnalysisStack} (e₁ : r₁ ≡ Ok st₁) where
            entry_begun : run (lent s b l) ≡ root_walked there.whole_tree (limits_of l b.out b.diagnostics) (stack (buffers b.out b.diagnostics ls' fs' b.captures b.references) st₁)
            entry_begun = entry_tree ∙ whole_from there.whole_tree _ (sym begun_by ∙ ap (λ (x : Step). seen x (buffers b.out b.diagnostics ls' fs' b.captures b.references)) e₁)

            -- the walk of the root
            module _ {at : ℕ} (ea : at ≡ 6 + 4 * n) {naming : walk.Naming} (unnamed : naming ≡ walk.unnamed) {h : walk.Place} (root : h ≡ walk.at_root) {w : Walked} {b₂ : Buffers}
                (walks : Walks w l (buffers b.out b.diagnostics ls' fs' b.captures b.references) b₂ st₁ (λ L σ. run_expr s L 200 at naming h σ)) where
              walk_is : walked w b₂ ≡ run_expr s (limits_of l b.out b.diagnostics) 200 (6 + 4 * number_at s 2) walk.unnamed walk.at_root (stack (buffers b.out b.diagnostics ls' fs' b.captures b.references) st₁)
              walk_is =
                  let place : at ≡ 6 + 4 * number_at s 2 = ea ∙ ap (λ (n : ℕ). 6 + 4 * n) en in
                  walks.same (limits_of l b.out b.diagnostics) refl ∙ rw (place, unnamed, root) refl

              pub entry_walk_refused : {why : Refusal} → w ≡ Err why → run (lent s b l) ≡ refuse (number_of why.reason) why.place
              unfolding ◌>>=◌
              entry_walk_refused e = entry_begun ∙ ap (λ (o : Outcome (rules.AnalysisStack × ℕ)). o >>= λ x. close_frame (limits_of l b.out b.diagnostics) 0 x.0) (sym walk_is ∙ ap (λ (x : Walked). walked x b₂) e)

              module _ {st₂ : AnalysisStack} {q : ℕ} (e₂ : w ≡ Ok (st₂, q)) (long : Long b b₂) where
                -- the root's shape
                module _ {r₃ : Step} {out' captures' : List ℕ} (closed : FrameClosed r₃ b₂.out out' b₂.frames b₂.captures captures' st₂ 0) where
                  pub entry_closes : run (lent s b l) ≡ seen r₃ (buffers out' b₂.diagnostics b₂.locals b₂.frames captures' b₂.references)
                  entry_closes =
                      entry_begun
                      ∙ bind_fine (λ x. close_frame (limits_of l b.out b.diagnostics) 0 x.0) (sym walk_is ∙ ap (λ (x : Walked). walked x b₂) e₂)
                      ∙ ap (λ (L : rules.Limits). close_frame L 0 (stack b₂ st₂)) (limits_kept l long)
                      ∙ sym (closed.same l b₂.diagnostics b₂.locals b₂.references)

                  pub entry_close_refused : {why : Refusal} → r₃ ≡ Err why → run (lent s b l) ≡ refuse (number_of why.reason) why.place
                  entry_close_refused e = entry_closes ∙ ap (λ (x : Step). seen x (buffers out' b₂.diagnostics b₂.locals b₂.frames captures' b₂.references)) e

                  pub entry_ends : {st₃ : AnalysisStack} → r₃ ≡ Ok st₃ → run (lent s b l) ≡ ok (stack (buffers out' b₂.diagnostics b₂.locals b₂.frames captures' b₂.references) st₃)
                  entry_ends e = entry_closes ∙ ap (λ (x : Step). seen x (buffers out' b₂.diagnostics b₂.locals b₂.frames captures' b₂.references)) e

-- What is left

-- the buffers are as long as those that were lent
pub record SameLengths (b b' : Buffers) : Type 0 where
  pub out : length b'.out ≡ length b.out
  pub diagnostics : length b'.diagnostics ≡ length b.diagnostics
  pub locals : length b'.locals ≡ length b.locals
  pub frames : length b'.frames ≡ length b.frames
  pub captures : length b'.captures ≡ length b.captures
  pub references : length b'.references ≡ length b.references

zeros : {n m : ℕ} {l : List ℕ} → l ≡ replicate n 0 → n ≡ m → l ≡ replicate m 0
zeros e k = e ∙ ap (λ (n : ℕ). replicate n 0) k

none_kept : (before after : List ℕ) {m : ℕ} → after ≡ take 0 before ++ replicate (length before - 0) 0 → length before ≡ m → after ≡ replicate m 0
none_kept before after {m} e k = let n : length before - 0 ≡ m = omega arith in zeros e n

some_kept : (kept : ℕ) (before after : List ℕ) {m : ℕ} → kept ≤ length before → after ≡ take kept before ++ replicate (length before - kept) 0 → length before ≡ m
    → after ≡ take kept before ++ replicate (m - length (take kept before)) 0
some_kept kept before after {m} le e k =
    let n : length before - kept ≡ m - length (take kept before) = omega (arith, length-take-le kept before le) in
    e ∙ ap (λ (n : ℕ). take kept before ++ replicate n 0) n

module _ (s : List ℕ) (l : Limits) {b b₁ b₂ : Buffers} (same : SameLengths b b₁) (r : AnalysisReport) where
  pub call_refused : {number place : ℕ} → Cleared 0 0 b₁ b₂ → run (lent s b l) ≡ refuse number place → report_meaning r ≡ report_of (refuse number place) → left r b₂ ≡ call (lent s b l)
  unfolding lent left
  call_refused z e m = left_refused (lent s b l)
      (zeros z.locals same.locals) (zeros z.frames same.frames) (zeros z.captures same.captures) (zeros z.references same.references)
      e m (none_kept b₁.out b₂.out z.out same.out) (none_kept b₁.diagnostics b₂.diagnostics z.diagnostics same.diagnostics)

  pub call_accepted : {st : AnalysisStack} → Cleared st.out st.diagnostics b₁ b₂ → st.out ≤ length b₁.out → st.diagnostics ≤ length b₁.diagnostics
      → run (lent s b l) ≡ ok (stack b₁ st) → ReportsState r st → left r b₂ ≡ call (lent s b l)
  unfolding lent left stack
  call_accepted {st} z o d e m = left_accepted (lent s b l)
      (zeros z.locals same.locals) (zeros z.frames same.frames) (zeros z.captures same.captures) (zeros z.references same.references)
      e (m.same b₁ o d) (some_kept st.out b₁.out b₂.out o z.out same.out) (some_kept st.diagnostics b₁.diagnostics b₂.diagnostics d z.diagnostics same.diagnostics)
