-- The whole call from its parts: the tree that was read, what the call runs, and what it leaves. Assumes nothing.
use Prim.Native.Nat.{ℕ, zero, suc, ◌+◌, ◌*◌, ◌-◌, ◌≤◌, ◌<◌}
use mathlib.Core.Bool.{true, false}
use mathlib.Core.List.{List, [], ◌++◌}
use mathlib.Core.Path.{◌≡◌, refl, sym, ap, ap₂, subst, ◌∙◌}
use native.Mathlib.Omega.{arith}
use borrow.Author.Tests.{leb-true, le-leb, lt-leb, eqb-true}
use lib.ListN.{length, replicate}
use lib.Dec.{leb, eqb}
use Rattle.rules.specs.Outcome.{Outcome, ok, refuse, ◌>>=◌, need}
use Rattle.rules.specs.Numbers.{Name, JT, code, number_at, numbers_at}
use Rattle.rules.specs.Records.{size_of, numbers_of, widths, width, fields}
use Rattle.rules.specs.Tree.{Tree, Expr}
use Rattle.rules.specs.FirstWalk.{any_expression, Read, only, nth, record_at, expr_at, tree_at}
use Rattle.rules.specs.State as rules
use Rattle.rules.specs.Writing.{close_frame}
use Rattle.rules.specs.Walk.{unnamed, at_root, analyze}
use Rattle.rules.specs.Call.{Lent, Left, AnalysisReport, define_externals, open_root, analyze_root, tables_fit, run, filled, zeroed, report_of, out_of, diagnostics_of, left_by, call}
use Rattle.rules.specs.Call as rules_call
use Rattle.rules.proofs.After.{After, fine, after_ok, after_bind, after_need}
use Rattle.rules.proofs.Outcomes.{same_ok, no_answer, bind_fine, bind_ext, bind_got, bind_assoc, need_true}
use Rattle.refusal.specs.Meaning.{number_of}
use Rattle.refusal.specs.declared.Refusal.{Refusal}
use Rattle.std.specs.Prelude.{Result, Ok, Err}
use Rattle.tree.specs.Seen.{seen, ended}
use Rattle.bytes_skip.specs.Places.{judged_at, expected_at}
use Rattle.tree.proofs.Definition.{got, only_row, record_expected}
use Rattle.bytes_records.proofs.Laws.{mark_code}
use Rattle.law_runs.specs.Run.{Accepted, run_expr}
use Rattle.step_write.proofs.Laws.{passes, fails}

-- The tree that was read

-- its head's number, and what stands after the names
pub record Whole (s : List ℕ) (t : Tree) : Type 0 where
  pub few : number_at s 2 ≤ 65535
  pub room : 6 + 4 * number_at s 2 ≤ length s
  pub read : Accepted (expr_at s 200 any_expression (6 + 4 * number_at s 2))
  pub ends : read.what.1 ≡ length s
  pub externals_are : t.externals ≡ numbers_at s (number_at s 2) 6
  pub root_is : t.root ≡ read.what.0

module _ (s : List ℕ) where
  -- what is read after a head with this number of names
  abbrev tree_from : (n next : ℕ) → Outcome Tree
  tree_from n next = need (leb n 65535) 11 0 >>= λ _. need (leb (next + 4 * n) (length s)) 1 0 >>= λ _. expr_at s 200 any_expression (next + 4 * n) >>= λ x.
      need (eqb x.1 (length s)) 5 x.1 >>= λ _. ok (record { externals = numbers_at s n next; root = x.0 })

  head_size : After (λ q. q ≡ 6) (expected_at s (code JT) 0)
  unfolding expected_at judged_at size_of numbers_of widths width fields
  head_size = rw (mark_code JT) (after_need _ _ _ _ λ _. after_need _ _ _ _ λ _. after_need _ _ _ _ λ _. after_need _ _ _ _ λ _. fine {a = 6} refl)

  abbrev Head : Read (Unit {0}) → Type 0
  Head r = (r.next ≡ 6) × (nth r 0 ≡ number_at s 2)

  head_told : After Head (record_at s (only JT) 0)
  unfolding nth numbers_of widths width fields numbers_at
  head_told = subst (λ (o : Outcome (Read (Unit {0}))). After Head o) (sym (record_expected s (only JT) 0 JT tt (only_row JT _)))
      (after_bind {P = λ q. q ≡ 6} _ head_size λ q e. fine {a = got s JT tt 0 q} (e, refl))

  from_head : {t : Tree} → tree_at s ≡ ok t → tree_from (number_at s 2) 6 ≡ ok t
  unfolding tree_at
  from_head {t} h =
      let b = bind_got (record_at s (only JT) 0) (λ r. tree_from (nth r 0) r.next) h in
      let told = after_ok head_told b.first in
      sym (ap₂ (λ (n next : ℕ). tree_from n next) told.1 told.0) ∙ b.second

  pub whole : {t : Tree} → tree_at s ≡ ok t → Whole s t
  whole {t} h =
      let one = need_true _ 11 0 _ (from_head h) in
      let two = need_true _ 1 0 _ one.1 in
      let x = bind_got (expr_at s 200 any_expression (6 + 4 * number_at s 2)) _ two.1 in
      let end = need_true _ 5 _ _ x.second in
      let e : ◌≡◌ {A = Tree} (record { externals = numbers_at s (number_at s 2) 6; root = x.middle.0 }) t = same_ok end.1 in
      record {
        few = leb-true _ _ one.0;
        room = leb-true _ _ two.0;
        read = record { what = x.middle; there = x.first };
        ends = eqb-true _ _ end.0;
        externals_are = sym (ap (λ (t : Tree). t.externals) e);
        root_is = sym (ap (λ (t : Tree). t.root) e);
      }

  -- the first walk's answer
  pub record TreeThere : Type 0 where
    pub tree : Tree
    pub there : tree_at s ≡ ok tree
    pub whole_tree : Whole s tree

  past_tree : (o : Outcome Tree) {q : ℕ} → ok q ≡ ended (length s) o → Accepted o
  unfolding ended
  past_tree (ok t) e = record { what = t; there = refl }
  past_tree (refuse number place) e = absurd (no_answer (sym e))

  refused_tree : (o : Outcome Tree) {number place : ℕ} → refuse number place ≡ ended (length s) o → o ≡ refuse number place
  unfolding ended
  refused_tree (ok t) e = absurd (no_answer e)
  refused_tree (refuse n p) e = cc

  pub tree_there : {r : Result ℕ Refusal} → seen r ≡ ended (length s) (tree_at s) → {q : ℕ} → r ≡ Ok q → TreeThere
  tree_there h {q} e =
      let a = past_tree (tree_at s) (sym (ap seen e) ∙ h) in
      record { tree = a.what; there = a.there; whole_tree = whole a.there }

  pub tree_refused : {r : Result ℕ Refusal} → seen r ≡ ended (length s) (tree_at s) → {why : Refusal} → r ≡ Err why → tree_at s ≡ refuse (number_of why.reason) why.place
  tree_refused h e = refused_tree (tree_at s) (sym (ap seen e) ∙ h)

-- What is run over it

pub length_numbers : (s : List ℕ) (n p : ℕ) → length (numbers_at s n p) ≡ n
unfolding numbers_at
length_numbers s zero p = refl
length_numbers s (suc n) p = ap suc (length_numbers s n (p + 4))

module _ {s : List ℕ} {t : Tree} (w : Whole s t) (limits : rules.Limits) where
  -- the walk of the root from a state, and the root's shape
  abbrev pub root_walked : rules.AnalysisStack → Outcome rules.AnalysisStack
  root_walked σ = run_expr s limits 200 (6 + 4 * number_at s 2) unnamed at_root σ >>= λ x. close_frame limits 0 x.0

  abbrev pub root_begun_by : Outcome rules.AnalysisStack
  root_begun_by = define_externals limits 0 (numbers_at s (number_at s 2) 6) rules.empty_stack >>= λ σ. open_root limits (number_at s 2) σ

  run_walked : (σ : rules.AnalysisStack) → (analyze limits t.root unnamed at_root σ >>= λ σ. close_frame limits 0 σ) ≡ root_walked σ
  unfolding run_expr
  run_walked σ = sym (
      ap (λ (o : Outcome (rules.AnalysisStack × ℕ)). o >>= λ x. close_frame limits 0 x.0) (bind_fine (λ x. analyze limits x.0 unnamed at_root σ >>= λ σ. ok (σ, x.1)) w.read.there)
      ∙ bind_assoc (analyze limits w.read.what.0 unnamed at_root σ) _ _
      ∙ bind_ext (analyze limits w.read.what.0 unnamed at_root σ) _ (λ σ. close_frame limits 0 σ) (λ σ. bind_fine (λ (x : rules.AnalysisStack × ℕ). close_frame limits 0 x.0) refl)
      ∙ ap (λ (e : Expr). analyze limits e unnamed at_root σ >>= λ σ. close_frame limits 0 σ) (sym w.root_is))

  pub whole_run : analyze_root limits t
      ≡ (define_externals limits 0 (numbers_at s (number_at s 2) 6) rules.empty_stack >>= λ σ. open_root limits (number_at s 2) σ >>= λ σ.
      run_expr s limits 200 (6 + 4 * number_at s 2) unnamed at_root σ >>= λ x. close_frame limits 0 x.0)
  unfolding analyze_root
  whole_run =
      ap (λ (names : List Name). define_externals limits 0 names rules.empty_stack >>= λ σ. open_root limits (length names) σ >>= λ σ. analyze limits t.root unnamed at_root σ >>= λ σ. close_frame limits 0 σ) w.externals_are
      ∙ ap (λ (n : ℕ). define_externals limits 0 (numbers_at s (number_at s 2) 6) rules.empty_stack >>= λ σ. open_root limits n σ >>= λ σ. analyze limits t.root unnamed at_root σ >>= λ σ. close_frame limits 0 σ) (length_numbers s (number_at s 2) 6)
      ∙ bind_ext (define_externals limits 0 (numbers_at s (number_at s 2) 6) rules.empty_stack) _ _ (λ σ. bind_ext (open_root limits (number_at s 2) σ) _ _ run_walked)

  -- with the first two steps as one
  pub whole_begun : analyze_root limits t ≡ (root_begun_by >>= root_walked)
  whole_begun = whole_run ∙ sym (bind_assoc (define_externals limits 0 (numbers_at s (number_at s 2) 6) rules.empty_stack) (λ σ. open_root limits (number_at s 2) σ) root_walked)

  pub whole_from : {σ : rules.AnalysisStack} → root_begun_by ≡ ok σ → analyze_root limits t ≡ root_walked σ
  whole_from e = whole_begun ∙ bind_fine root_walked e

  pub whole_not_begun : {number place : ℕ} → root_begun_by ≡ refuse number place → analyze_root limits t ≡ refuse number place
  unfolding ◌>>=◌
  whole_not_begun e = whole_begun ∙ ap (λ (o : Outcome rules.AnalysisStack). o >>= root_walked) e

-- The call

module _ (b : Lent) where
  pub run_13 : tables_fit b ≡ false → run b ≡ refuse 13 0
  unfolding run
  run_13 e = fails (tables_fit b) 13 0 _ e

  module _ (fit : tables_fit b ≡ true) where
    pub run_14 : 16777216 < length b.tree → run b ≡ refuse 14 0
    unfolding run
    run_14 lt = passes (tables_fit b) 13 0 _ fit ∙ fails (leb (length b.tree) 16777216) 14 0 _ (lt-leb _ _ lt)

    module _ (short : length b.tree ≤ 16777216) where
      run_read : run b ≡ (tree_at b.tree >>= λ t. analyze_root (rules_call.limits_of b) t)
      unfolding run
      run_read = passes (tables_fit b) 13 0 _ fit ∙ passes (leb (length b.tree) 16777216) 14 0 _ (le-leb _ _ short)

      pub run_refused : {number place : ℕ} → tree_at b.tree ≡ refuse number place → run b ≡ refuse number place
      unfolding ◌>>=◌
      run_refused e = run_read ∙ ap (λ (o : Outcome Tree). o >>= λ t. analyze_root (rules_call.limits_of b) t) e

      pub run_accepted : {t : Tree} → tree_at b.tree ≡ ok t → run b ≡ analyze_root (rules_call.limits_of b) t
      run_accepted e = run_read ∙ bind_fine (λ t. analyze_root (rules_call.limits_of b) t) e

-- What is left

abbrev pub leaves : AnalysisReport → (out diagnostics locals frames captures references : List ℕ) → Left
leaves report out diagnostics locals frames captures references =
    record { report = report; out = out; diagnostics = diagnostics; locals = locals; frames = frames; captures = captures; references = references }

-- nothing was written
wholly : (l : List ℕ) → replicate (length l) 0 ≡ filled l []
unfolding filled
wholly l = let n : length l ≡ length l - 0 = omega arith in ap (λ (k : ℕ). replicate k 0) n

module _ (b : Lent) {report : AnalysisReport} {out diagnostics locals frames captures references : List ℕ}
    (no_locals : locals ≡ replicate (length b.locals) 0) (no_frames : frames ≡ replicate (length b.frames) 0)
    (no_captures : captures ≡ replicate (length b.captures) 0) (no_references : references ≡ replicate (length b.references) 0) where
  left_of : (o : Outcome rules.AnalysisStack) → run b ≡ o → report ≡ report_of o → out ≡ filled b.out (out_of o) → diagnostics ≡ filled b.diagnostics (diagnostics_of o)
      → leaves report out diagnostics locals frames captures references ≡ call b
  unfolding call left_by zeroed
  left_of o e r o' d = rw (r, o', d, no_locals, no_frames, no_captures, no_references, e) refl

  pub left_refused : {number place : ℕ} → run b ≡ refuse number place → report ≡ report_of (refuse number place)
      → out ≡ replicate (length b.out) 0 → diagnostics ≡ replicate (length b.diagnostics) 0
      → leaves report out diagnostics locals frames captures references ≡ call b
  unfolding out_of diagnostics_of
  left_refused {number} {place} e r o d = left_of (refuse number place) e r (o ∙ wholly b.out) (d ∙ wholly b.diagnostics)

  pub left_accepted : {σ : rules.AnalysisStack} → run b ≡ ok σ → report ≡ report_of (ok σ)
      → out ≡ σ.sink.out ++ replicate (length b.out - length σ.sink.out) 0
      → diagnostics ≡ σ.sink.diagnostics ++ replicate (length b.diagnostics - length σ.sink.diagnostics) 0
      → leaves report out diagnostics locals frames captures references ≡ call b
  unfolding filled out_of diagnostics_of
  left_accepted {σ} e r o d = left_of (ok σ) e r o d
