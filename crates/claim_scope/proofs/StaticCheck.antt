-- The static check: the analysis of a tree reports the errors that lexical scoping gives, each once and in order, and no others. Assumes nothing.
use Prim.Native.Nat.{ℕ, suc}
use mathlib.Core.Bool.{true}
use mathlib.Core.List.{List, [], ◌∷◌, ◌++◌, append-nil}
use mathlib.Core.Option.{some}
use mathlib.Core.Path.{◌≡◌, refl, ap, ◌∙◌, subst}
use lib.ListN.{length}
use Rattle.rules.specs.Outcome.{ok, given}
use Rattle.rules.specs.Numbers.{Name}
use Rattle.rules.specs.Records.{no_span}
use Rattle.rules.specs.Tree.{Tree, external}
use Rattle.rules.specs.Locals.{new_local}
use Rattle.rules.specs.State.{Limits, AnalysisStack, Sink, empty_stack, with_frames}
use Rattle.rules.specs.Walk.{at_root, unnamed}
use Rattle.rules.specs.Writing.{close_frame}
use Rattle.rules.specs.Call.{define_externals, open_root, analyze_root}
use Rattle.rules.proofs.After.{After, fine, after_weaken, after_bind, after_ok}
use Rattle.claim_scope.specs.Scope.{external_names, meaning}
use Rattle.claim_scope.specs.StaticCheck.{Found, Reports, errors_of, root_scope}
use Rattle.claim_scope.proofs.Finding.{Key, key, keys, put, named, named_append, present}
use Rattle.claim_scope.proofs.Telling.{Told, told_then, told_is}
use Rattle.claim_scope.proofs.Steps.{opens, quiet_emit}
use Rattle.claim_scope.proofs.Defining.{external_pushed}
use Rattle.claim_scope.proofs.Fitting.{Fits, fits_same}
use Rattle.claim_scope.proofs.Walking.{walked}

module _ (L : Limits) where
  -- "the later hides the earlier"
  externals_named : (k : ℕ) (names : List Name) (st : AnalysisStack)
      → After (λ (st' : AnalysisStack). (named (keys st') [] ≡ external_names k names (named (keys st) [])) × (st'.sink ≡ st.sink)) (define_externals L k names st)
  unfolding define_externals external_names key new_local named put given
  externals_named k [] st = fine (refl, refl)
  externals_named k (name ∷ names) st =
      after_bind _ (external_pushed L 0 (new_local (external k) (some name) no_span 0 true) st) λ st₁ h.
      after_weaken (externals_named (suc k) names st₁) λ _ rest. (rest.0 ∙ ap (external_names (suc k) names) (one_more st₁ h.0), rest.1 ∙ h.1)
    where
      one_more : (st₁ : AnalysisStack) → keys st₁ ≡ keys st ++ (key (new_local (external k) (some name) no_span 0 true) ∷ []) → named (keys st₁) [] ≡ (name, external k) ∷ named (keys st) []
      one_more st₁ e = ap (λ (ks : List Key). named ks []) e ∙ named_append (keys st) _ []

  root_opened : (n : ℕ) (st : AnalysisStack) → After (λ (st' : AnalysisStack). (keys st' ≡ keys st) × Told [] st.sink st'.sink) (open_root L n st)
  unfolding open_root with_frames keys
  root_opened n st = after_bind _ (opens L 0 true st) λ st₁ h. fine (h.names ∙ append-nil (keys st), h.told)

  root_closed : {fs : List Found} {s : Sink} (st : AnalysisStack) → Told fs s st.sink → After (λ (st' : AnalysisStack). Told fs s st'.sink) (close_frame L 0 st)
  unfolding close_frame with_frames
  root_closed {fs = fs} st h = after_bind _ (quiet_emit L 0 _ _ st) λ st₁ k. fine (told_is (append-nil fs) (told_then h k.told))

  root_walked : (t : Tree) → After (λ (st : AnalysisStack). Told (errors_of t) empty_stack.sink st.sink) (analyze_root L t)
  unfolding analyze_root errors_of empty_stack keys named root_scope at_root present given
  root_walked t =
      after_bind _ (externals_named 0 t.externals empty_stack) λ st₁ outside.
      after_bind _ (root_opened (length t.externals) st₁) λ st₂ opened.
      after_bind _ (walked L t.root unnamed at_root (root_scope t.externals) st₂ (fits_same opened.0 (fits_root t.externals (keys st₁) outside.0))) λ st₃ inner.
      root_closed st₃ (told_then (subst (λ (s : Sink). Told [] s st₂.sink) outside.1 opened.1) inner.told)
    where
      fits_root : (names : List Name) (ks : List Key) → named ks [] ≡ external_names 0 names (named (keys empty_stack) []) → Fits (root_scope names) at_root ks
      fits_root names ks e = record { means = λ n. ap (meaning n) e; inner = refl; outer = refl }

-- "errors 1 to 6", for every tree and every limits
pub static_check : (L : Limits) (t : Tree) (σ : AnalysisStack) → analyze_root L t ≡ ok σ → Reports t σ.sink
unfolding empty_stack
static_check L t σ e = let told = after_ok (root_walked L t) e in record { diagnostics = told.more; bytes = told.bytes; errors_are = told.among; errored = told.flag }
