-- The walk through a function's output. Assumes nothing.
use Prim.Native.Nat.{ℕ, ◌≤◌}
use mathlib.Core.Bool.{Bool, true, false}
use mathlib.Core.List.{List, [], ◌∷◌, ◌++◌}
use mathlib.Core.Option.{some}
use native.Mathlib.Omega.{arith}
use mathlib.Core.Path.{◌≡◌, refl, sym, ap, ap₂, ◌∙◌, subst}
use lib.ListN.{length, take, drop}
use lib.Seq.{take-append_seam}
use lib.Dec.{eqb}
use borrow.Author.Tests.{eqb-true, ne_eqb}
use Rattle.rules.specs.Outcome.{ok, choose, ◌>>=◌}
use Rattle.rules.specs.Numbers.{FN, IY, code, records_bytes}
use Rattle.rules.specs.Records.{Span, out_fields, widths, width}
use Rattle.rules.specs.Range.{Numbers, ExprFits}
use Rattle.rules.specs.FirstWalk.{level, any_expression}
use Rattle.rules.specs.Tree.{Expr, Params, function, at_record, Binding}
use Rattle.rules.specs.Settling.{propagate_analysis}
use Rattle.rules.specs.State.{Limits, AnalysisStack, with_out, with_sink, written, taken_back}
use Rattle.rules.specs.Frames.{ClosureFrame}
use Rattle.rules.specs.Writing.{warning, emit, report, open_frame}
use Rattle.rules.specs.Scoping.{settle_frame}
use Rattle.rules.specs.Walk.{Place, Naming, unnamed, as_bind, as_method, as_computed_method, naming_numbers, deeper, is_identity, finish_function, analyze}
use Rattle.rules.proofs.After.{After, fine, after_ok, after_weaken, after_bind, after_need, after_choose, after_self}
use Rattle.claim_scope.specs.Scope.{Scope, Meant, param_names, under}
use Rattle.claim_reach.specs.Lexical.{read, read_params, gives_argument}
use Rattle.claim_reach.specs.Decode.{mark_among, out_marks}
use Rattle.claim_reach.specs.Reach.{View, Trail, expect, leaf, is_iy, param_slots, reach, reach_params}
use Rattle.claim_reach.proofs.Resolving.{none≢some, Grown}
use Rattle.claim_reach.proofs.Decoding.{OutFits, AllFit, fits_fields, record_one}
use Rattle.claim_reach.proofs.Promise.{Key, Agree, Ready, Back, Step, Follows, step_follows, both_back}
use Rattle.claim_reach.proofs.Frames.{emit_is}
use Rattle.claim_reach.proofs.Keys.{same_settle, same_warning, analysis_keeps}
use Rattle.claim_reach.proofs.Relabel.{defined_frame}
use Rattle.claim_reach.proofs.Defining.{names_in, Scoped}
use Rattle.claim_reach.proofs.DefiningSteps.{Defines, param_keys, param_keys_names, param_keys_slots, defines_params}
use Rattle.claim_reach.proofs.Ending.{kept_same, finishes, finished_calm}
use Rattle.claim_reach.proofs.Framed.{agree_named, frame_opened, InsideKept, inside_kept, Framed, framed_means, framed}
use Rattle.claim_reach.proofs.FramedRecord.{record_back, framed_emitted}
use Rattle.claim_reach.proofs.GivesArgument.{says_first, body_first, argument_given}
use Rattle.claim_reach.proofs.Walking.{NamingFits, unnamed_fits, Walks}
use Rattle.claim_reach.proofs.WalkingParams.{WalksParams}
use Rattle.claim_reach.specs.Decode

named_fits : (flag name n : ℕ) → Numbers (flag ∷ name ∷ []) → n ≤ 65535 → OutFits (FN, flag ∷ name ∷ n ∷ [])
unfolding mark_among out_marks code choose out_fields widths width Numbers
named_fits flag name n named few = fits_fields FN (flag ∷ name ∷ n ∷ []) refl refl refl (named.0, (named.1.0, (omega arith, tt)))

function_fits : (naming : Naming) (n : ℕ) → NamingFits naming → n ≤ 65535 → OutFits (FN, naming_numbers naming ++ (n ∷ []))
unfolding naming_numbers
function_fits unnamed n named few = named_fits 0 0 n named few
function_fits (as_bind name span) n named few = named_fits 1 name n named few
function_fits (as_method name span) n named few = named_fits 1 name n named few
function_fits (as_computed_method span) n named few = named_fits 0 0 n named few

-- how a function's parameters and body are walked
inside_back : Params → Expr → Back
inside_back ps e = both_back (λ v rs. reach_params ps 0 v rs) (λ v rs. reach e v rs)

function_means : (p : ℕ) (span : Span) (ps : Params) (e : Expr) (sc : Scope) → gives_argument ps e ≡ false
    → read_params ps (under (param_names ps) sc) ++ read e (under (param_names ps) sc) ≡ read (function p span ps e) sc
unfolding read choose
function_means p span ps e sc gives = rw gives refl

-- after `FN` there is no identity function
function_follows : (p : ℕ) (span : Span) (ps : Params) (e : Expr) → Follows (record_back FN (param_slots ps) (inside_back ps e)) (λ v rs. reach (function p span ps e) v rs)
unfolding inside_back reach is_iy expect choose code Decode.◌>>=◌
function_follows p span ps e v [] y d = absurd (none≢some d)
function_follows p span ps e v (r ∷ rs) y d = by (eqb (code r.0) (code FN)) refl
  where
    by : (t : Bool) → eqb (code r.0) (code FN) ≡ t → reach (function p span ps e) v (r ∷ rs) ≡ some y
    by true is = rw (ne_eqb (code r.0) (code IY) λ other. omega (arith, eqb-true (code r.0) (code FN) is)) d
    by false is = absurd (none≢some (rw is at d))

identity_fits : AllFit ((IY, []) ∷ [])
unfolding AllFit mark_among out_marks code choose out_fields widths width Numbers
identity_fits = (fits_fields IY [] refl refl refl tt, tt)

identity_passes : (p : ℕ) (span : Span) (ps : Params) (e : Expr) (sc : Scope) (v : View) (rest : Trail) → gives_argument ps e ≡ true
    → reach (function p span ps e) v ((IY, []) ∷ rest) ≡ some (read (function p span ps e) sc, rest)
unfolding reach read is_iy leaf expect choose code Decode.◌>>=◌
identity_passes p span ps e sc v rest gives = rw gives refl

module _ (L : Limits) where
  -- the output is taken back, and a record that reaches nothing stands in its place
  identity_written : {h : Place} {sc : Scope} {walk : Back} {ms : List Meant} {slots : List Binding} {kept : ℕ} {new : List Key} (ks : List Key) (p : ℕ) (span own : Span) (ps : Params) (e : Expr) (a b : AnalysisStack)
      → Framed ks new h sc slots walk ms kept a b → (b.sink.errored ≡ false → Agree ks h sc → Ready ks a → gives_argument ps e ≡ true)
      → After (Step ks h sc (λ v rs. reach (function p own ps e) v rs) (read (function p own ps e) sc) a) (report L p warning 10 0 span b >>= λ st. emit L p IY [] (taken_back (written a) st))
  unfolding with_out with_sink taken_back written
  identity_written {h = h} {sc = sc} ks p span own ps e a b f gives = after_bind _ (same_warning L p 10 0 span b) λ c same.
      after_weaken (emit_is L p IY [] (taken_back (written a) c)) λ d is.
      subst (λ (d : AnalysisStack). Step ks h sc (λ v rs. reach (function p own ps e) v rs) (read (function p own ps e) sc) a d) (sym is) (record {
        calm = λ q. f.calm (sym same.same_errored ∙ q);
        kept = λ q agree r.
            (let k = kept_same b c same (f.framed_kept (sym same.same_errored ∙ q) agree r).all in
            record {
              ready = record { same_keys = k.ready.same_keys; good = k.ready.good; stacked = k.ready.stacked };
              grew = k.grew;
              written = (IY, []) ∷ [];
              out = ap₂ {C = List ℕ} ◌++◌ (ap (take (length a.sink.out)) k.out ∙ take-append_seam a.sink.out (records_bytes k.written)) (sym (record_one (IY, [])));
              fit = identity_fits;
              walked = λ v rest l. identity_passes p own ps e sc v rest (gives (sym same.same_errored ∙ q) agree r);
            });
      })

  -- in a frame that stayed calm, what was written says whether the tree gives the argument
  argument_told : {specs : Back} {ms ns : List Meant} (ks : List Key) (h : Place) (sc : Scope) (ps : Params) (e : Expr) (levels at kept : ℕ) (a b c d : AnalysisStack) → ExprFits e (level any_expression) levels at
      → analyze L e unnamed (deeper h) c ≡ ok d → d.sink.errored ≡ false → Agree ks h sc → InsideKept ks (param_keys ps) sc.names (param_slots ps) specs (λ v rs. reach e v rs) ms ns kept a b c d
      → is_identity ps kept (drop (written c) d.sink.out) ≡ gives_argument ps e
  unfolding says_first deeper
  argument_told {ns = ns} ks h sc ps e levels at kept a b c d fits walks calm agree k = argument_given ps e kept _ k.count λ q name one.
      body_first L ks name e levels at fits unnamed (deeper h) c d walks (record {
        parameter = at_record q;
        same_keys = k.specs_kept.ready.same_keys ∙ ap (λ (new : List Key). ks ++ new) one;
        outside = a.frames;
        grew = subst (λ (fs : List ClosureFrame). Grown fs c.frames) (k.held.same_frames ∙ ap (λ (new : List Key). defined_frame (length ks) (length new) ∷ a.frames) one) k.specs_kept.grew;
        this_outside = agree.this_inside;
        dollar_outside = agree.dollar_inside;
      }) calm (ks ++ param_keys ps) ns k.body_kept

  -- from the promise for its parameters and for its body; that the body stands in a tree says that it is no slot's record
  pub function_walks : (p : ℕ) (span : Span) (ps : Params) (e : Expr) (levels at : ℕ) → ExprFits e (level any_expression) levels at → WalksParams L ps → Walks L e → Walks L (function p span ps e)
  unfolding analyze open_frame frame_opened finish_function written inside_back
  function_walks p span ps e levels at fits params body naming named ks h sc st =
      after_bind {P = λ (b : AnalysisStack). b ≡ frame_opened st} _ (after_need _ 7 p _ λ _. fine refl) λ a is.
      after_bind _ (defines_params L ks st.frames sc.names ps h.depth [] a) λ b defines.
      after_bind _ (params 0 (ks ++ param_keys ps) h (under (param_names ps) sc) b) λ x specs.
      after_bind _ (after_self (analyze L e unnamed (deeper h) (settled x))) λ d walks.
      after_bind _ (finishes L p x.0 (length st.references) d) λ c finished.
      (let walked = after_ok (body unnamed unnamed_fits (ks ++ param_keys ps) (deeper h) (under (param_names ps) sc) (settled x)) walks in
      let defined = subst (λ (a : AnalysisStack). Defines ks st.frames sc.names [] (param_keys ps) a b) is defines in
      let same = same_settle propagate_analysis analysis_keeps x.0 (length st.references) x.1 in
      let frame = framed ks (param_keys ps) 0 (param_slots ps) st b x (settled x) d c inside (param_keys_slots ps) defined specs same walked finished in
      let told : c.sink.errored ≡ false → Agree ks h sc → Ready ks st → is_identity ps x.0 (drop (written x.1) d.sink.out) ≡ gives_argument ps e =
      λ q agree r. ap (λ (s : List ℕ). is_identity ps x.0 (drop (length s) d.sink.out)) (sym same.same_out)
      ∙ argument_told ks h sc ps e levels at x.0 st b (settled x) d fits walks (finished_calm finished q) agree
      (inside_kept ks (param_keys ps) 0 (param_slots ps) st b x (settled x) d inside (param_keys_slots ps) defined specs same walked (finished_calm finished q) agree r) in
      after_choose _ _ _
      (λ gives. identity_written ks p _ span ps e st c frame λ q agree r. sym (told q agree r) ∙ gives)
      (λ gives. after_weaken
      (framed_emitted L ks (param_keys ps) (param_slots ps) p FN (naming_numbers naming ++ (x.0 ∷ [])) c (param_keys_slots ps) (omega arith) (function_fits naming x.0 named)
      (framed_means (λ q agree r. function_means p span ps e sc (sym (told q agree r) ∙ gives)) frame))
      λ d step. step_follows (λ v rs. reach (function p span ps e) v rs) (function_follows p span ps e) step))
    where
      settled : ℕ × AnalysisStack → AnalysisStack
      settled x = settle_frame propagate_analysis x.0 (length st.references) x.1

      inside : Agree ks h sc → Ready ks st → Scoped (ks ++ param_keys ps) (names_in (param_keys ps) ++ sc.names) → Agree (ks ++ param_keys ps) h (under (param_names ps) sc)
      inside agree r scoped = agree_named ks (param_keys ps) (param_names ps) h sc (param_keys_names ps) agree scoped
