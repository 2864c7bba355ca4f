-- Every refusal that the first walk or the analysis gives has one of document 01's numbers, by induction over both. Assumes nothing.
use Prim.Native.Nat.{ℕ, zero, suc, ◌+◌}
use lib.ListN.{length}
use mathlib.Core.Bool.{Bool, true, false}
use mathlib.Core.List.{List, [], ◌∷◌}
use mathlib.Core.Option.{Option, none, some}
use mathlib.Core.Path.{◌≡◌, refl}
use Rattle.rules.specs.Outcome.{Outcome, ok, refuse, is_refusal_number, ◌>>=◌, need, choose, given}
use Rattle.rules.specs.Numbers.{Name, Mark}
use Rattle.rules.specs.Records.{Span}
use Rattle.rules.specs.Depths.{AnalysisResult}
use Rattle.rules.specs.Tree.{Expr, Exprs, Binds, Params, Heads, Tree, identity, constant, variable, constants, array, plain, import, local, function, object, no_exprs, ◌then◌, no_binds, bind, no_params, param, param_or, no_heads, fixed, computed}
use Rattle.rules.specs.FirstWalk.{Allowed, any_expression, Child, level, holder, Groups, Read, allowed, many, none_left, Form, an_identity, a_constant, a_variable, an_array, an_import, a_local, a_function, an_object, parts, record_at, expr_item, holder_at, child_at, groups_at, bind_item, param_item, head_item, below, expr_at, tree_at}
use Rattle.rules.specs.Locals.{LocalDefinition}
use Rattle.rules.specs.Frames.{ClosureFrame, resolve_at, resolve_to_slot}
use Rattle.rules.specs.State.{Limits, AnalysisStack}
use Rattle.rules.specs.Writing.{Level, emit, report, bad_place, open_frame, close_frame}
use Rattle.rules.specs.Scoping.{push_local, push_in_frame, define_local, define_this, emit_slot, keep_references, record_spec_init, judge, judge_all, finish_frame}
use Rattle.rules.specs.Walk.{Place, Naming, use_identity, use_local, use_import, define_binds, define_params, finish_function, analyze, analyze_all, analyze_assertions, analyze_values, analyze_binds, analyze_params, analyze_heads}
use Rattle.rules.specs.Call.{define_externals, open_root, analyze_root}
use Rattle.rules.proofs.After.{chosen}

-- an answer, or a refusal with one of those numbers
pub data Numbered {A : Type 0} : Outcome A → Type 0 where
  answers : {a : A} → Numbered (ok a)
  refuses : {number place : ℕ} → is_refusal_number number ≡ true → Numbered (refuse number place)

pub numbered_bind : {A B : Type 0} {o : Outcome A} (f : A → Outcome B) → Numbered o → ((a : A) → Numbered (f a)) → Numbered (o >>= f)
unfolding ◌>>=◌
numbered_bind f answers k = k _
numbered_bind f (refuses h) k = refuses h

pub numbered_need : {B : Type 0} (b : Bool) (number place : ℕ) (f : Unit {0} → Outcome B) → is_refusal_number number ≡ true → Numbered (f tt) → Numbered (need b number place >>= f)
unfolding ◌>>=◌ need
numbered_need true number place f h k = k
numbered_need false number place f h k = refuses h

numbered_choose : {A : Type 0} (b : Bool) (x y : Unit {0} → Outcome A) → Numbered (x tt) → Numbered (y tt) → Numbered (choose b x y)
numbered_choose b x y h k = chosen Numbered b x y (λ _. h) (λ _. k)

numbered_given : {A B : Type 0} (o : Option B) (x : Unit {0} → Outcome A) (f : B → Outcome A) → Numbered (x tt) → ((b : B) → Numbered (f b)) → Numbered (given o x f)
unfolding given
numbered_given none x f h k = h
numbered_given (some b) x f h k = k b

-- The first walk

numbered_many : {A : Type 0} (item : ℕ → Outcome ((A → A) × ℕ)) (rest : ℕ → Outcome (A × ℕ)) → ((p : ℕ) → Numbered (item p)) → ((p : ℕ) → Numbered (rest p)) → (n p : ℕ) → Numbered (many item rest n p)
unfolding many
numbered_many item rest h k zero p = k p
numbered_many item rest h k (suc n) p = numbered_bind _ (h p) λ i. numbered_bind _ (numbered_many item rest h k n i.1) λ _. answers

numbered_none_left : {A : Type 0} (nil : A) (p : ℕ) → Numbered (none_left nil p)
unfolding none_left
numbered_none_left nil p = answers

numbered_allowed : {A : Type 0} (row : Option (Mark × A)) (p : ℕ) → Numbered (allowed row p)
unfolding allowed
numbered_allowed none p = refuses refl
numbered_allowed (some row) p = answers

module _ (s : List ℕ) where
  numbered_record : {A : Type 0} (table : List (Mark × A)) (p : ℕ) → Numbered (record_at s table p)
  unfolding record_at
  numbered_record table p = numbered_need _ _ _ _ refl (numbered_bind _ (numbered_allowed _ p) λ _. numbered_need _ _ _ _ refl (numbered_need _ _ _ _ refl answers))

  -- what stands below a record, with a reader one level deeper
  module _ (sub : Allowed → ℕ → Outcome (Expr × ℕ)) (numbered_sub : (a : Allowed) (p : ℕ) → Numbered (sub a p)) where
    numbered_item : (read : ℕ → Outcome (Expr × ℕ)) → ((p : ℕ) → Numbered (read p)) → (p : ℕ) → Numbered (expr_item s sub read p)
    unfolding expr_item
    numbered_item read h p = numbered_bind _ (h p) λ _. answers

    numbered_child : (c : Child) (p : ℕ) → Numbered (child_at s sub c p)
    unfolding child_at holder_at
    numbered_child (level a) p = numbered_sub a p
    numbered_child (holder m n) p = numbered_bind _ (numbered_record _ p) λ _.
        numbered_bind _ (numbered_many _ _ (numbered_item _ (numbered_sub any_expression)) (numbered_none_left no_exprs) _ _) λ _. answers

    numbered_groups : (gs : Groups) (p : ℕ) → Numbered (groups_at s sub gs p)
    unfolding groups_at
    numbered_groups [] p = numbered_none_left no_exprs p
    numbered_groups (g ∷ gs) p = numbered_many _ _ (numbered_item _ (numbered_child g.1)) (numbered_groups gs) g.0 p

    numbered_bind_item : (p : ℕ) → Numbered (bind_item s sub p)
    unfolding bind_item
    numbered_bind_item p = numbered_bind _ (numbered_record _ p) λ _. numbered_bind _ (numbered_sub _ _) λ _. answers

    numbered_param_item : (p : ℕ) → Numbered (param_item s sub p)
    unfolding param_item
    numbered_param_item p = numbered_bind _ (numbered_record _ p) λ _. numbered_choose _ _ _ (numbered_bind _ (numbered_sub _ _) λ _. answers) answers

    numbered_head_item : (p : ℕ) → Numbered (head_item s sub p)
    unfolding head_item
    numbered_head_item p = numbered_bind _ (numbered_record _ p) λ _. numbered_choose _ _ _ (numbered_bind _ (numbered_sub _ _) λ _. answers) answers

    numbered_below : (f : Form) (r : Read Form) (p : ℕ) → Numbered (below s sub f r p)
    unfolding below
    numbered_below an_identity r p = answers
    numbered_below a_constant r p = answers
    numbered_below a_variable r p = answers
    numbered_below an_array r p = numbered_given _ _ _ (numbered_bind _ (numbered_groups _ _) λ _. answers) λ _. answers
    numbered_below an_import r p = answers
    numbered_below a_local r p = numbered_bind _ (numbered_many _ _ numbered_bind_item (numbered_none_left no_binds) _ _) λ _. numbered_bind _ (numbered_sub _ _) λ _. answers
    numbered_below a_function r p = numbered_bind _ (numbered_many _ _ numbered_param_item (numbered_none_left no_params) _ _) λ _. numbered_bind _ (numbered_sub _ _) λ _. answers
    numbered_below an_object r p =
        numbered_bind _ (numbered_many _ _ numbered_head_item (numbered_none_left no_heads) _ _) λ _.
        numbered_bind _ (numbered_many _ _ numbered_bind_item (numbered_none_left no_binds) _ _) λ _.
        numbered_bind _ (numbered_groups _ _) λ _. numbered_bind _ (numbered_groups _ _) λ _. answers
    numbered_below (parts groups) r p = numbered_bind _ (numbered_groups _ _) λ _. answers

  numbered_expr : (levels : ℕ) (a : Allowed) (p : ℕ) → Numbered (expr_at s levels a p)
  unfolding expr_at
  numbered_expr zero a p = numbered_bind _ (numbered_record _ p) λ _. refuses refl
  numbered_expr (suc levels) a p = numbered_bind _ (numbered_record _ p) λ r. numbered_below (expr_at s levels) (numbered_expr levels) r.row r p

  pub numbered_tree : Numbered (tree_at s)
  unfolding tree_at
  numbered_tree = numbered_bind _ (numbered_record _ 0) λ _. numbered_need _ _ _ _ refl (numbered_need _ _ _ _ refl
      (numbered_bind _ (numbered_expr 200 any_expression _) λ _. numbered_need _ _ _ _ refl answers))

-- The analysis

numbered_resolve : (most p above id : ℕ) (fs : List ClosureFrame) → Numbered (resolve_at most p above id fs)
unfolding resolve_at
numbered_resolve most p above id [] = answers
numbered_resolve most p above id (f ∷ fs) = numbered_choose _ _ _ answers (numbered_given _ _ _
    (numbered_bind _ (numbered_resolve most p (above + length f.captures) id fs) λ _. numbered_need _ _ _ _ refl (numbered_need _ _ _ _ refl answers)) λ _. answers)

module _ (L : Limits) where
  numbered_emit : (p : ℕ) (m : Mark) (ns : List ℕ) (st : AnalysisStack) → Numbered (emit L p m ns st)
  unfolding emit
  numbered_emit p m ns st = numbered_need _ _ _ _ refl answers

  numbered_report : (p : ℕ) (severity : Level) (code : ℕ) (name : Name) (span : Span) (st : AnalysisStack) → Numbered (report L p severity code name span st)
  unfolding report
  numbered_report p severity code name span st = numbered_need _ _ _ _ refl answers

  numbered_bad_place : (p code : ℕ) (name : Name) (span : Span) (bad : ℕ) (st : AnalysisStack) → Numbered (bad_place L p code name span bad st)
  unfolding bad_place
  numbered_bad_place p code name span bad st = numbered_bind _ (numbered_report _ _ _ _ _ _) λ _. numbered_emit _ _ _ _

  numbered_open : (p : ℕ) (is_defining : Bool) (st : AnalysisStack) → Numbered (open_frame L p is_defining st)
  unfolding open_frame
  numbered_open p is_defining st = numbered_need _ _ _ _ refl answers

  numbered_close : (p : ℕ) (st : AnalysisStack) → Numbered (close_frame L p st)
  unfolding close_frame
  numbered_close p st = numbered_bind _ (numbered_emit _ _ _ _) λ _. answers

  numbered_push : (p : ℕ) (l : LocalDefinition) (st : AnalysisStack) → Numbered (push_local L p l st)
  unfolding push_local
  numbered_push p l st = numbered_need _ _ _ _ refl answers

  numbered_push_in_frame : (p : ℕ) (l : LocalDefinition) (st : AnalysisStack) → Numbered (push_in_frame L p l st)
  unfolding push_in_frame
  numbered_push_in_frame p l st = numbered_bind _ (numbered_push _ _ _) λ _. answers

  numbered_define : (p : ℕ) (name : Name) (span : Span) (depth : ℕ) (st : AnalysisStack) → Numbered (define_local L p name span depth st)
  unfolding define_local
  numbered_define p name span depth st = numbered_choose _ _ _ (numbered_report _ _ _ _ _ _) (numbered_need _ _ _ _ refl (numbered_push_in_frame _ _ _))

  numbered_this : (p depth : ℕ) (st : AnalysisStack) → Numbered (define_this L p depth st)
  unfolding define_this
  numbered_this p depth st = numbered_push_in_frame _ _ _

  numbered_slot : (p id : ℕ) (st : AnalysisStack) → Numbered (emit_slot L p id st)
  unfolding emit_slot resolve_to_slot
  numbered_slot p id st = numbered_bind _ (numbered_resolve _ _ _ _ _) λ _. numbered_emit _ _ _ _

  numbered_references : (p id : ℕ) (st : AnalysisStack) → Numbered (keep_references L p id st)
  unfolding keep_references
  numbered_references p id st = numbered_need _ _ _ _ refl answers

  numbered_spec : (p base kept start : ℕ) (outer : AnalysisResult) (m : Mark) (numbers : ℕ → List ℕ) (st : AnalysisStack) → Numbered (record_spec_init L p base kept start outer m numbers st)
  unfolding record_spec_init
  numbered_spec p base kept start outer m numbers st =
      numbered_choose _ _ _ (numbered_bind _ (numbered_references _ _ _) λ _. numbered_bind _ (numbered_emit _ _ _ _) λ _. answers) answers

  numbered_judge : (p : ℕ) (name : Name) (l : LocalDefinition) (st : AnalysisStack) → Numbered (judge L p name l st)
  unfolding judge
  numbered_judge p name l st = numbered_choose _ _ _
      (numbered_choose _ _ _ (numbered_report _ _ _ _ _ _) (numbered_report _ _ _ _ _ _)) (numbered_choose _ _ _ (numbered_report _ _ _ _ _ _) answers)

  numbered_judge_all : (p : ℕ) (ls : List LocalDefinition) (st : AnalysisStack) → Numbered (judge_all L p ls st)
  unfolding judge_all
  numbered_judge_all p [] st = answers
  numbered_judge_all p (l ∷ ls) st = numbered_bind _ (numbered_given _ _ _ answers λ _. numbered_judge _ _ _ _) λ _. numbered_judge_all p ls _

  numbered_finish : (p kept before : ℕ) (st : AnalysisStack) → Numbered (finish_frame L p kept before st)
  unfolding finish_frame
  numbered_finish p kept before st = numbered_bind _ (numbered_judge_all _ _ _) λ _. numbered_close _ _

  numbered_identity : (p which : ℕ) (span : Span) (h : Place) (st : AnalysisStack) → Numbered (use_identity L p which span h st)
  unfolding use_identity
  numbered_identity p which span h st = numbered_given _ _ _ (numbered_bad_place _ _ _ _ _ _) λ _. numbered_choose _ _ _ (numbered_emit _ _ _ _) (numbered_slot _ _ _)

  numbered_local : (p : ℕ) (name : Name) (span : Span) (h : Place) (st : AnalysisStack) → Numbered (use_local L p name span h st)
  unfolding use_local
  numbered_local p name span h st = numbered_given _ _ _ (numbered_bad_place _ _ _ _ _ _) λ _. numbered_slot _ _ _

  numbered_import : (p which : ℕ) (span : Span) (is_literal : Bool) (path : ℕ) (st : AnalysisStack) → Numbered (use_import L p which span is_literal path st)
  unfolding use_import
  numbered_import p which span is_literal path st = numbered_choose _ _ _ (numbered_emit _ _ _ _) (numbered_bad_place _ _ _ _ _ _)

  numbered_define_binds : (bs : Binds) (depth : ℕ) (st : AnalysisStack) → Numbered (define_binds L bs depth st)
  unfolding define_binds
  numbered_define_binds no_binds depth st = answers
  numbered_define_binds (bind p name span is_function value bs) depth st = numbered_bind _ (numbered_define _ _ _ _ _) λ _. numbered_define_binds bs _ _

  numbered_define_params : (ps : Params) (depth : ℕ) (st : AnalysisStack) → Numbered (define_params L ps depth st)
  unfolding define_params
  numbered_define_params no_params depth st = answers
  numbered_define_params (param p name span ps) depth st = numbered_bind _ (numbered_define _ _ _ _ _) λ _. numbered_define_params ps _ _
  numbered_define_params (param_or p name span default ps) depth st = numbered_bind _ (numbered_define _ _ _ _ _) λ _. numbered_define_params ps _ _

  numbered_finish_function : (p : ℕ) (span : Span) (start kept : ℕ) (naming : Naming) (gives_argument : Bool) (st : AnalysisStack)
      → Numbered (finish_function L p span start kept naming gives_argument st)
  unfolding finish_function
  numbered_finish_function p span start kept naming gives_argument st =
      numbered_choose _ _ _ (numbered_bind _ (numbered_report _ _ _ _ _ _) λ _. numbered_emit _ _ _ _) (numbered_emit _ _ _ _)

  mutual
    unfolding analyze

    numbered : (e : Expr) (naming : Naming) (h : Place) (st : AnalysisStack) → Numbered (analyze L e naming h st)
    numbered (identity p which span) naming h st = numbered_identity _ _ _ _ _
    numbered (constant p value) naming h st = numbered_emit _ _ _ _
    numbered (variable p name span) naming h st = numbered_local _ _ _ _ _
    numbered (constants p values) naming h st = numbered_emit _ _ _ _
    numbered (array p items) naming h st =
        numbered_bind _ (numbered_open _ _ _) λ _. numbered_bind _ (numbered_all items _ _) λ _. numbered_bind _ (numbered_close _ _) λ _. numbered_emit _ _ _ _
    numbered (plain p mark numbers children) naming h st = numbered_bind _ (numbered_all children _ _) λ _. numbered_emit _ _ _ _
    numbered (import p which span is_literal path) naming h st = numbered_import _ _ _ _ _ _
    numbered (local p binds body) naming h st = numbered_choose _ _ _ (numbered body _ _ _) (
        numbered_bind _ (numbered_open _ _ _) λ _. numbered_bind _ (numbered_define_binds binds _ _) λ _. numbered_bind _ (numbered_binds binds _ _ _ _) λ _.
        numbered_bind _ (numbered body _ _ _) λ _. numbered_bind _ (numbered_finish _ _ _ _) λ _. numbered_emit _ _ _ _)
    numbered (function p span params body) naming h st =
        numbered_bind _ (numbered_open _ _ _) λ _. numbered_bind _ (numbered_define_params params _ _) λ _. numbered_bind _ (numbered_params params _ _ _) λ _.
        numbered_bind _ (numbered body _ _ _) λ _. numbered_bind _ (numbered_finish _ _ _ _) λ _. numbered_finish_function _ _ _ _ _ _ _
    numbered (object p heads locals assertions values) naming h st =
        numbered_bind _ (numbered_heads heads _ _) λ _. numbered_bind _ (numbered_open _ _ _) λ _. numbered_bind _ (numbered_this _ _ _) λ _.
        numbered_bind _ (numbered_define_binds locals _ _) λ _. numbered_bind _ (numbered_binds locals _ _ _ _) λ _.
        numbered_bind _ (numbered_assertions assertions _ _) λ _. numbered_bind _ (numbered_values values _ _ _) λ _.
        numbered_bind _ (numbered_finish _ _ _ _) λ _. numbered_emit _ _ _ _

    numbered_all : (es : Exprs) (h : Place) (st : AnalysisStack) → Numbered (analyze_all L es h st)
    numbered_all no_exprs h st = answers
    numbered_all (e then es) h st = numbered_bind _ (numbered e _ _ _) λ _. numbered_all es _ _

    numbered_assertions : (es : Exprs) (h : Place) (st : AnalysisStack) → Numbered (analyze_assertions L es h st)
    numbered_assertions no_exprs h st = answers
    numbered_assertions (t then ts) h st =
        numbered_bind _ (numbered_open _ _ _) λ _. numbered_bind _ (numbered t _ _ _) λ _. numbered_bind _ (numbered_all ts _ _) λ _. numbered_close _ _

    numbered_values : (es : Exprs) (namings : List Naming) (h : Place) (st : AnalysisStack) → Numbered (analyze_values L es namings h st)
    numbered_values no_exprs namings h st = answers
    numbered_values (e then es) namings h st =
        numbered_bind _ (numbered_open _ _ _) λ _. numbered_bind _ (numbered e _ _ _) λ _. numbered_bind _ (numbered_close _ _) λ _.
        numbered_bind _ (numbered_emit _ _ _ _) λ _. numbered_values es _ _ _

    numbered_binds : (bs : Binds) (base kept : ℕ) (h : Place) (st : AnalysisStack) → Numbered (analyze_binds L bs base kept h st)
    numbered_binds no_binds base kept h st = answers
    numbered_binds (bind p name span is_function value bs) base kept h st =
        numbered_bind _ (numbered_open _ _ _) λ _. numbered_bind _ (numbered value _ _ _) λ _. numbered_bind _ (numbered_close _ _) λ _.
        numbered_bind _ (numbered_spec _ _ _ _ _ _ _ _) λ _. numbered_binds bs _ _ _ _

    numbered_params : (ps : Params) (kept : ℕ) (h : Place) (st : AnalysisStack) → Numbered (analyze_params L ps kept h st)
    numbered_params no_params kept h st = answers
    numbered_params (param p name span ps) kept h st = numbered_bind _ (numbered_spec _ _ _ _ _ _ _ _) λ _. numbered_params ps _ _ _
    numbered_params (param_or p name span default ps) kept h st =
        numbered_bind _ (numbered_open _ _ _) λ _. numbered_bind _ (numbered default _ _ _) λ _. numbered_bind _ (numbered_close _ _) λ _.
        numbered_bind _ (numbered_spec _ _ _ _ _ _ _ _) λ _. numbered_params ps _ _ _

    numbered_heads : (hs : Heads) (h : Place) (st : AnalysisStack) → Numbered (analyze_heads L hs h st)
    numbered_heads no_heads h st = answers
    numbered_heads (fixed p head hs) h st = numbered_bind _ (numbered_emit _ _ _ _) λ _. numbered_heads hs _ _
    numbered_heads (computed p head name hs) h st = numbered_bind _ (numbered name _ _ _) λ _. numbered_bind _ (numbered_emit _ _ _ _) λ _. numbered_heads hs _ _

  numbered_externals : (k : ℕ) (names : List Name) (st : AnalysisStack) → Numbered (define_externals L k names st)
  unfolding define_externals
  numbered_externals k [] st = answers
  numbered_externals k (name ∷ names) st = numbered_bind _ (numbered_push _ _ _) λ _. numbered_externals _ names _

  pub numbered_root : (t : Tree) → Numbered (analyze_root L t)
  unfolding analyze_root open_root
  numbered_root t = numbered_bind _ (numbered_externals _ _ _) λ _. numbered_bind _ (numbered_bind _ (numbered_open _ _ _) λ _. answers) λ _.
      numbered_bind _ (numbered t.root _ _ _) λ _. numbered_close _ _
