-- The walk through the output of each form that defines no name. Assumes nothing.
use Prim.Native.Nat.{ℕ}
use mathlib.Core.Bool.{Bool, true, false}
use mathlib.Core.List.{List, [], ◌∷◌, ◌++◌}
use mathlib.Core.Path.{◌≡◌, refl, subst}
use lib.ListN.{length}
use Rattle.rules.specs.Outcome.{choose}
use Rattle.rules.specs.Numbers.{Name, Mark, TV, AC, AR, IM}
use Rattle.rules.specs.Records.{Span, span_numbers}
use Rattle.rules.specs.Tree.{Expr, Exprs, identity, constant, variable, constants, array, plain, import, no_exprs, ◌then◌, count_exprs, place_of}
use Rattle.rules.specs.State.{Limits, AnalysisStack, with_frames}
use Rattle.rules.specs.Frames.{new_frame}
use Rattle.rules.specs.Writing.{open_frame}
use Rattle.rules.specs.Walk.{Place, unnamed, analyze, analyze_all, analyze_assertions, use_import}
use Rattle.rules.proofs.After.{After, fine, after_weaken, after_bind, after_need}
use Rattle.claim_scope.specs.Scope.{Scope}
use Rattle.claim_reach.specs.Lexical.{read, read_all}
use Rattle.claim_reach.specs.Reach.{leaf, reach, reach_all, reach_assertions}
use Rattle.claim_reach.proofs.Decoding.{OutFits}
use Rattle.claim_reach.proofs.Promise.{Key, Step, both_back, step_none, step_then, step_by}
use Rattle.claim_reach.proofs.Frames.{using_closes}
use Rattle.claim_reach.proofs.Names.{step_errored, bad_errors, step_write, local_step, identity_step}
use Rattle.claim_reach.proofs.Walking.{Walks, unnamed_fits}

module _ (L : Limits) where
  -- the promise for expressions, for an object's assertions and for its values
  abbrev pub WalksAll : Exprs → Type 0
  WalksAll es = (ks : List Key) (h : Place) (sc : Scope) (st : AnalysisStack) → After (Step ks h sc (λ v rs. reach_all es v rs) (read_all es sc) st) (analyze_all L es h st)

  abbrev pub WalksAssertions : Exprs → Type 0
  WalksAssertions es = (ks : List Key) (h : Place) (sc : Scope) (st : AnalysisStack) → After (Step ks h sc (λ v rs. reach_assertions es v rs) (read_all es sc) st) (analyze_assertions L es h st)

  pub identity_walks : (p which : ℕ) (span : Span) → Walks L (identity p which span)
  unfolding analyze reach read
  identity_walks p which span naming named ks h sc st = identity_step L ks sc p which span h st

  pub variable_walks : (p : ℕ) (name : Name) (span : Span) → Walks L (variable p name span)
  unfolding analyze reach read
  variable_walks p name span naming named ks h sc st = local_step L ks sc p name span h st

  pub constant_walks : (p value : ℕ) → OutFits (TV, value ∷ []) → Walks L (constant p value)
  unfolding analyze reach read leaf
  constant_walks p value fits naming named ks h sc st = after_weaken (step_write L p TV (value ∷ []) st fits (step_none ks h sc st)) λ b s. step_by (λ v rs. leaf TV rs) (λ v rs. refl) refl s

  pub constants_walks : (p : ℕ) (values : List ℕ) → OutFits (AC, length values ∷ values) → Walks L (constants p values)
  unfolding analyze reach read leaf
  constants_walks p values fits naming named ks h sc st = after_weaken (step_write L p AC (length values ∷ values) st fits (step_none ks h sc st)) λ b s. step_by (λ v rs. leaf AC rs) (λ v rs. refl) refl s

  pub import_walks : (p which : ℕ) (span : Span) (literal : Bool) (path : ℕ) → OutFits (IM, which ∷ span_numbers span ++ (path ∷ [])) → Walks L (import p which span literal path)
  unfolding analyze reach read leaf use_import choose
  import_walks p which span true path fits naming named ks h sc st = after_weaken (step_write L p IM _ st fits (step_none ks h sc st)) λ b s. step_by (λ v rs. leaf IM rs) (λ v rs. refl) refl s
  import_walks p which span false path fits naming named ks h sc st = after_weaken (bad_errors L p 6 0 span 4 st) λ b e. step_errored e

  pub plain_walks : (p : ℕ) (m : Mark) (ns : List ℕ) (es : Exprs) → OutFits (m, ns) → WalksAll es → Walks L (plain p m ns es)
  unfolding analyze reach read
  plain_walks p m ns es fits all naming named ks h sc st = after_bind _ (all ks h sc st) λ b walked.
      after_weaken (step_write L p m ns b fits walked) λ c s. step_by (λ v rs. reach (plain p m ns es) v rs) (λ v rs. refl) refl s

  pub array_walks : (p : ℕ) (es : Exprs) → OutFits (AR, count_exprs es ∷ []) → WalksAll es → Walks L (array p es)
  unfolding analyze reach read open_frame
  array_walks p es fits all naming named ks h sc st =
      after_bind {P = λ (b : AnalysisStack). b ≡ with_frames (new_frame false (length st.locals) 0 ∷ st.frames) st} _ (after_need _ 7 p _ λ _. fine refl) λ a is.
      after_bind _ (all ks h sc a) λ b walked.
      after_bind _ (using_closes L p st b (subst (λ (a : AnalysisStack). Step ks h sc (λ v rs. reach_all es v rs) (read_all es sc) a b) is walked)) λ c closed.
      after_weaken (step_write L p AR (count_exprs es ∷ []) c fits closed) λ d s. step_by (λ v rs. reach (array p es) v rs) (λ v rs. refl) refl s

  pub none_walk : WalksAll no_exprs
  unfolding analyze_all reach_all read_all
  none_walk ks h sc st = fine (step_none ks h sc st)

  pub then_walk : (e : Expr) (es : Exprs) → Walks L e → WalksAll es → WalksAll (e then es)
  unfolding analyze_all reach_all read_all
  then_walk e es one all ks h sc st = after_bind _ (one unnamed unnamed_fits ks h sc st) λ b first. after_weaken (all ks h sc b) λ c second. step_then first second

  pub assertions_walk : (t : Expr) (ts : Exprs) → Walks L t → WalksAll ts → WalksAssertions (t then ts)
  unfolding analyze_assertions reach_assertions read_all open_frame
  assertions_walk t ts one all ks h sc st =
      after_bind {P = λ (b : AnalysisStack). b ≡ with_frames (new_frame false (length st.locals) 0 ∷ st.frames) st} _ (after_need _ 7 (place_of t) _ λ _. fine refl) λ a is.
      after_bind _ (one unnamed unnamed_fits ks h sc a) λ b first.
      after_bind _ (all ks h sc b) λ c second.
      using_closes L (place_of t) st c (subst (λ (a : AnalysisStack). Step ks h sc (both_back (λ v rs. reach t v rs) (λ v rs. reach_all ts v rs)) (read t sc ++ read_all ts sc) a c) is (step_then first second))
