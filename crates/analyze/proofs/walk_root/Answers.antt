-- `walk_root` is the rules' run of a tree that the first walk accepted. Assumes nothing.
use Rattle.std.proofs.Common.{arith, refl, subst, sym, ℕ, ◌*◌, ◌+◌}
use Rattle.std.proofs.lemmas.Result.{err_from_is_err_and}
use Rattle.rules.specs.FirstWalk.{any_expression, expr_at}
use Rattle.law_runs.specs.Run.{Accepted}
use Rattle.state.specs.Seen.{contents}
use Rattle.state.specs.Walks.{naming_of}
use Rattle.law_joins.proofs.Joining.{went_fit}
use Rattle.call_root.proofs.Beginning.{root_ready}
use Rattle.call_root.proofs.Whole.{whole}
use Rattle.call_root.proofs.Entry.{long_lent, entry_not_begun, entry_closes, entry_walk_refused}
use Rattle.analyze.proofs.Laws.{ran_refused}
use Rattle.analyze.proofs.walk_root.Goals as goal

pub begin_root-requires : goal.begin_root-requires
begin_root-requires c =
    let w = whole c.args.tree.now c.requires.there in
    let t = long_lent c.args.tree.now (contents c.args.lent.now) c.args.limits c.requires.tables_fit in
    (omega (arith, w.room, c.number_at-n.ensures), omega (arith, w.few, c.number_at-n.ensures), t.locals_long, t.frames_long)

pub returns-in_err-st-clause-ran : goal.returns-in_err-st-clause-ran
returns-in_err-st-clause-ran c =
    let b = contents c.args.lent.now in
    let q = err_from_is_err_and c.from_residual.result c.from_residual.ensures.1 in
    rw (q.1, q.2) (ran_refused c.args.tree.now b _ c.args.limits (entry_not_begun c.args.tree.now b c.args.limits c.requires.tables_fit c.requires.short (record { tree = c.requires.root; there = c.requires.there; whole_tree = whole c.args.tree.now c.requires.there }) c.number_at-n.ensures c.begin_root.ensures c.in_err-st.was))

pub analyze-requires-clause-ready : goal.analyze-requires-clause-ready
analyze-requires-clause-ready c =
    root_ready c.begin_root.ensures c.in_ok-st.was _ _ _ _ (long_lent c.args.tree.now (contents c.args.lent.now) c.args.limits c.requires.tables_fit) _ _ c.at_root.ensures.1 c.at_root.ensures.2 c.requires.short

pub analyze-requires-clause-accepted : goal.analyze-requires-clause-accepted
analyze-requires-clause-accepted c =
    subst (λ (k : ℕ). Accepted (expr_at c.args.tree.now 200 any_expression (6 + 4 * k))) (sym c.number_at-n.ensures) (whole c.args.tree.now c.requires.there).read

pub close_frame-requires : goal.close_frame-requires
close_frame-requires c = (went_fit c.analyze.ensures.walks c.in_ok-after.was).frames_kept

pub returns-clause-ran : goal.returns-clause-ran
unfolding naming_of
returns-clause-ran c =
    record {
      same = sym (entry_closes c.args.tree.now (contents c.args.lent.now) c.args.limits c.requires.tables_fit c.requires.short (record { tree = c.requires.root; there = c.requires.there; whole_tree = whole c.args.tree.now c.requires.there }) c.number_at-n.ensures c.begin_root.ensures c.in_ok-st.was refl refl c.at_root.ensures.0 c.analyze.ensures.walks c.in_ok-after.was (record { out = c.analyze.ensures.same_buffers.1; diagnostics = c.analyze.ensures.same_buffers.3 }) c.close_frame.ensures);
      fit = c.close_frame.ensures.fit c.args.limits _ _ _ (went_fit c.analyze.ensures.walks c.in_ok-after.was);
    }

pub returns-in_err-after-clause-ran : goal.returns-in_err-after-clause-ran
unfolding naming_of
returns-in_err-after-clause-ran c =
    let b = contents c.args.lent.now in
    let q = err_from_is_err_and c.from_residual-in_err-after.result c.from_residual-in_err-after.ensures.1 in
    rw (q.1, q.2) (ran_refused c.args.tree.now b _ c.args.limits (entry_walk_refused c.args.tree.now b c.args.limits c.requires.tables_fit c.requires.short (record { tree = c.requires.root; there = c.requires.there; whole_tree = whole c.args.tree.now c.requires.there }) c.number_at-n.ensures c.begin_root.ensures c.in_ok-st.was refl refl c.at_root.ensures.0 c.analyze.ensures.walks c.in_err-after.was))
