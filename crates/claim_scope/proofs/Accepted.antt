-- Of every accepted input: the errors read from the diagnostics' bytes are those of its tree, and there are none exactly if the judgement holds. Assumes nothing.
use Prim.Native.Nat.{ℕ, ◌+◌, ◌<◌}
use native.Mathlib.Omega.{arith}
use mathlib.Core.Bool.{Bool, true, false}
use mathlib.Core.List.{List, [], ◌∷◌, ◌++◌}
use mathlib.Core.Option.{Option, none, some}
use mathlib.Core.Path.{◌≡◌, sym, ap, ◌∙◌, subst}
use lib.Seq.{take-append_seam}
use lib.Dec.{ltb}
use borrow.Author.Tests.{ltb-true}
use Rattle.rules.specs.Outcome.{ok, choose, given}
use Rattle.rules.specs.Numbers.{Name, Mark, ID, VA, IM}
use Rattle.rules.specs.Records.{Span, span_numbers, fields, in_range, all_in_range}
use Rattle.rules.specs.Tree.{Tree, Expr, Exprs, Binds, Params, Heads, Binding, identity, constant, variable, constants, array, plain, import, local, function, object, no_exprs, ◌then◌, no_binds, bind, no_params, param, param_or, no_heads, fixed, computed}
use Rattle.rules.specs.FirstWalk.{Form, an_identity, a_variable, an_import, Child, level, holder, Groups, tree_at}
use Rattle.rules.specs.Range.{Numbers, Bytes, Stands, ExprFits, ExprsFit, BindsFit, ParamsFit, HeadsFit, TreeFits}
use Rattle.rules.specs.State.{Limits, AnalysisStack}
use Rattle.rules.specs.Walk.{is_among}
use Rattle.rules.specs.Call.{Lent, Left, limits_of, analyze_root, run, report_of, diagnostics_of, filled, left_by, call, Allows}
use Rattle.rules.proofs.After.{After, after_weaken, after_bind, after_need, after_ok, both_passed, chosen, after_self}
use Rattle.rules.proofs.Accepted.{accepted_fits}
use Rattle.claim_scope.specs.Scope as scope
use Rattle.claim_scope.specs.Scope.{Scope, meaning, identity_means, bind_names, param_names, under}
use Rattle.claim_scope.specs.StaticCheck.{Found, outside_object, not_bound, not_literal, twice_bound, twice_named, errors, errors_all, errors_binds, errors_params, errors_heads, errors_of, errors_in, any_found, root_scope}
use Rattle.claim_scope.specs.Checked.{Checked, CheckedCall}
use Rattle.claim_scope.proofs.Reading.{FoundsFit, read_back}
use Rattle.claim_scope.proofs.StaticCheck.{static_check}
use Rattle.claim_scope.proofs.Judgement.{passes, no_errors, any_none}
use Rattle.claim_scope.proofs.Letter.{no_error_passes_by_letter, passing_by_letter_has_no_error}

-- Numbers of 32 bits

none_fit : FoundsFit []
unfolding FoundsFit
none_fit = tt

both_fit : (fs gs : List Found) → FoundsFit fs → FoundsFit gs → FoundsFit (fs ++ gs)
unfolding FoundsFit
both_fit [] gs h k = k
both_fit (f ∷ fs) gs h k = (h.0, both_fit fs gs h.1 k)

-- a span's numbers, and a name before them, after a code
coded : (code : ℕ) (ns : List ℕ) → code < 4294967296 → Numbers ns → Numbers (code ∷ ns)
unfolding Numbers
coded code ns small h = (small, h)

given_fits : (o : Option Binding) (f : Found) → Numbers (f.code ∷ f.name ∷ span_numbers f.span) → FoundsFit (given o (λ _. f ∷ []) (λ _. []))
unfolding given FoundsFit
given_fits none f h = (h, tt)
given_fits (some b) f h = tt

pub stands_numbers : (c : Child) (levels : ℕ) (m : Mark) (form : Form) (ns : List ℕ) → Stands c levels m form ns → Numbers ns
unfolding Stands
stands_numbers (level a) levels m form ns h = h.1.numbers
stands_numbers (holder mark n) levels m form ns h = absurd h

stands_judged : (c : Child) (levels : ℕ) (m : Mark) (form : Form) (ns : List ℕ) → Stands c levels m form ns → all_in_range (fields m) ns ≡ true
unfolding Stands
stands_judged (level a) levels m form ns h = h.1.judged
stands_judged (holder mark n) levels m form ns h = absurd h

bound_fits : (seen : List Name) (bs : Binds) (levels p : ℕ) → BindsFit bs levels p → FoundsFit (twice_bound seen bs)
unfolding twice_bound FoundsFit ExprFits
bound_fits seen no_binds levels p h = tt
bound_fits seen (bind place name span f value bs) levels p h = chosen FoundsFit (is_among name seen) _ _
    (λ _. (coded 2 (name ∷ span_numbers span) (omega arith) h.1, bound_fits seen bs levels _ h.3))
    (λ _. bound_fits (name ∷ seen) bs levels _ h.3)

params_fit : (seen : List Name) (ps : Params) (levels p : ℕ) → ParamsFit ps levels p → FoundsFit (twice_named seen ps)
unfolding twice_named FoundsFit ExprFits
params_fit seen no_params levels p h = tt
params_fit seen (param place name span ps) levels p h = chosen FoundsFit (is_among name seen) _ _
    (λ _. (coded 2 (name ∷ span_numbers span) (omega arith) h.1, params_fit seen ps levels _ h.2))
    (λ _. params_fit (name ∷ seen) ps levels _ h.2)
params_fit seen (param_or place name span value ps) levels p h = chosen FoundsFit (is_among name seen) _ _
    (λ _. (coded 2 (name ∷ span_numbers span) (omega arith) h.1, params_fit seen ps levels _ h.3))
    (λ _. params_fit (name ∷ seen) ps levels _ h.3)

behind : (n : ℕ) (ns : List ℕ) → Numbers (n ∷ ns) → Numbers ns
unfolding Numbers
behind n ns h = h.1

-- "kind (0 self, 1 super, 2 $)"
identity_small : (which : ℕ) (span : Span) → all_in_range (fields ID) (which ∷ span_numbers span) ≡ true → which < 3
unfolding fields all_in_range in_range
identity_small which span e = ltb-true which 3 (both_passed (ltb which 3) _ e).0

literal_fits : (span : Span) (t : Bool) → Numbers (span_numbers span) → FoundsFit (not_literal span t)
unfolding not_literal choose FoundsFit
literal_fits span true h = tt
literal_fits span false h = (coded 6 (0 ∷ span_numbers span) (omega arith) (coded 0 (span_numbers span) (omega arith) h), tt)

-- the span of an import, before its other numbers
import_span : (span : Span) (ns : List ℕ) → Numbers (span_numbers span ++ ns) → Numbers (span_numbers span)
unfolding span_numbers Numbers
import_span span ns h = (h.0, tt)

mutual
  unfolding errors ExprFits outside_object not_bound

  errors_fit : (e : Expr) (sc : Scope) (c : Child) (levels p : ℕ) → ExprFits e c levels p → FoundsFit (errors e sc)
  errors_fit (identity place which span) sc c levels p h =
      let small = identity_small which span (stands_judged c levels ID an_identity _ h.1) in
      let numbers = behind which _ (stands_numbers c levels ID an_identity _ h.1) in
      given_fits (identity_means which sc) _ (coded (3 + which) (0 ∷ span_numbers span) (omega (arith, small)) (coded 0 (span_numbers span) (omega arith) numbers))
  errors_fit (constant place v) sc c levels p h = none_fit
  errors_fit (variable place name span) sc c levels p h =
      given_fits (meaning name sc.names) _ (coded 1 (name ∷ span_numbers span) (omega arith) (stands_numbers c levels VA a_variable _ h.1))
  errors_fit (constants place vs) sc c levels p h = none_fit
  errors_fit (array place es) sc c levels p h = all_fit es sc _ _ _ h.3
  errors_fit (plain place m fields es) sc c levels p h = all_fit es sc _ _ _ h.3
  errors_fit (import place which span is_literal path) sc c levels p h =
      literal_fits span is_literal (import_span span _ (behind which _ (stands_numbers c levels IM an_import _ h.1)))
  errors_fit (local place bs e) sc c levels p h =
      let within = under (bind_names bs) sc in
      both_fit _ _ (both_fit _ _ (bound_fits [] bs _ _ h.2) (binds_fit bs within _ _ h.2)) (errors_fit e within _ _ _ h.3)
  errors_fit (function place span ps e) sc c levels p h =
      let within = under (param_names ps) sc in
      both_fit _ _ (both_fit _ _ (params_fit [] ps _ _ h.2) (defaults_fit ps within _ _ h.2)) (errors_fit e within _ _ _ h.3)
  errors_fit (object place hs bs ts vs) sc c levels p h =
      let within = under (bind_names bs) (scope.in_object place sc) in
      both_fit _ _ (both_fit _ _ (both_fit _ _ (both_fit _ _ (heads_fit hs sc _ _ h.2) (bound_fits [] bs _ _ h.3)) (binds_fit bs within _ _ h.3))
      (all_fit ts within _ _ _ h.4)) (all_fit vs within _ _ _ h.5)

  all_fit : (es : Exprs) (sc : Scope) (groups : Groups) (levels p : ℕ) → ExprsFit es groups levels p → FoundsFit (errors_all es sc)
  all_fit no_exprs sc groups levels p h = none_fit
  all_fit (e then es) sc groups levels p h = both_fit _ _ (errors_fit e sc _ _ _ h.3) (all_fit es sc _ _ _ h.4)

  binds_fit : (bs : Binds) (sc : Scope) (levels p : ℕ) → BindsFit bs levels p → FoundsFit (errors_binds bs sc)
  binds_fit no_binds sc levels p h = none_fit
  binds_fit (bind place name span f e bs) sc levels p h = both_fit _ _ (errors_fit e sc _ _ _ h.2) (binds_fit bs sc _ _ h.3)

  defaults_fit : (ps : Params) (sc : Scope) (levels p : ℕ) → ParamsFit ps levels p → FoundsFit (errors_params ps sc)
  defaults_fit no_params sc levels p h = none_fit
  defaults_fit (param place name span ps) sc levels p h = defaults_fit ps sc _ _ h.2
  defaults_fit (param_or place name span e ps) sc levels p h = both_fit _ _ (errors_fit e sc _ _ _ h.2) (defaults_fit ps sc _ _ h.3)

  heads_fit : (hs : Heads) (sc : Scope) (levels p : ℕ) → HeadsFit hs levels p → FoundsFit (errors_heads hs sc)
  heads_fit no_heads sc levels p h = none_fit
  heads_fit (fixed place head hs) sc levels p h = heads_fit hs sc _ _ h.2
  heads_fit (computed place head e hs) sc levels p h = both_fit _ _ (errors_fit e sc _ _ _ h.2) (heads_fit hs sc _ _ h.3)

tree_errors_fit : (t : Tree) → TreeFits t → FoundsFit (errors_of t)
unfolding errors_of
tree_errors_fit t fits = errors_fit t.root (root_scope t.externals) _ _ _ fits.root_fits

-- the errors of the diagnostics, read from their bytes, are the tree's
pub diagnostics_say : (L : Limits) (t : Tree) (σ : AnalysisStack) → TreeFits t → analyze_root L t ≡ ok σ → errors_in σ.sink.diagnostics ≡ errors_of t
diagnostics_say L t σ fits e =
    let reports = static_check L t σ e in
    ap errors_in reports.bytes ∙ read_back reports.diagnostics (subst FoundsFit (sym reports.errors_are) (tree_errors_fit t fits)) ∙ reports.errors_are

-- of every call that is accepted
pub checked : (b : Lent) (σ : AnalysisStack) → Bytes b.tree → run b ≡ ok σ → Checked b σ
unfolding run
checked b σ bytes e = after_ok all e
  where
    all : After (Checked b) (run b)
    all = after_need _ 13 0 _ λ _. after_need _ 14 0 _ λ _. after_bind _ (after_self (tree_at b.tree)) λ t read. after_weaken (after_self (analyze_root (limits_of b) t)) λ τ analysed.
        let says = diagnostics_say (limits_of b) t τ (accepted_fits b.tree t bytes read) analysed in
        record {
          tree = t;
          read = read;
          says = says;
          errored = (static_check (limits_of b) t τ analysed).errored;
          quiet_passes = λ quiet. passes t (sym says ∙ quiet);
          passing_is_quiet = λ h. says ∙ no_errors t h;
          quiet_passes_by_letter = λ quiet. no_error_passes_by_letter t (sym says ∙ quiet);
          passing_by_letter_is_quiet = λ around h. says ∙ passing_by_letter_has_no_error t around h;
        }

-- and of what it leaves
pub call_checked : (b : Lent) (left : Left) (σ : AnalysisStack) → Bytes b.tree → run b ≡ ok σ → Allows b left → CheckedCall b left
unfolding Allows call left_by report_of diagnostics_of filled any_found
call_checked b left σ bytes e allowed = subst (CheckedCall b) (sym (allowed ∙ ap (left_by b) e)) (record {
  tree = c.tree;
  read = c.read;
  says = ap errors_in (take-append_seam σ.sink.diagnostics _) ∙ c.says;
  errored = c.errored;
  quiet_passes = λ quiet. passes c.tree (any_none (errors_of c.tree) (sym c.errored ∙ quiet));
  passing_is_quiet = λ h. c.errored ∙ ap any_found (no_errors c.tree h);
})
  where
    c : Checked b σ
    c = checked b σ bytes e
