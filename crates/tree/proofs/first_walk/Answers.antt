-- `tree::first_walk` meets its contract. Assumes nothing.
use Rattle.std.proofs.Common.{arith, refl}
use Rattle.rules.specs.Outcome.{choose}
use Rattle.rules.specs.Numbers.{code}
use Rattle.rules.specs.Records.{size_of, numbers_of, widths, width, fields}
use Rattle.bytes_records.specs.Marks.{mark_of, find_mark, marks}
use Rattle.tree.proofs.Binding.{handed}
use Rattle.tree.proofs.Whole.{tree_refused, many_names, names_missing, root_refused, bytes_follow, all_read}
use Rattle.tree.proofs.first_walk.Goals as goal

pub returns-in_err-names : goal.returns-in_err-names
returns-in_err-names c =
    rw (handed c.from_residual.ensures.1 c.in_err-names.was) (tree_refused c.args.tree.now c.expect.ensures.same c.in_err-names.was)

pub returns-then-n-gt65535 : goal.returns-then-n-gt65535
returns-then-n-gt65535 c =
    rw c.at.ensures (many_names c.args.tree.now c.expect.ensures.same c.in_ok-names.was c.number_at-n.ensures c.if-n-gt65535.true)

pub overflow_add-root : goal.overflow_add-root
unfolding mark_of find_mark marks choose code size_of numbers_of widths width fields
overflow_add-root c =
    let k = c.expect.ensures.within _ c.in_ok-names.was in omega (arith, k.size, c.if-n-gt65535.false)

pub returns-then-tree-root : goal.returns-then-tree-root
returns-then-tree-root c =
    rw c.at-then-tree-root.ensures (names_missing c.args.tree.now c.expect.ensures.same c.in_ok-names.was c.number_at-n.ensures c.if-n-gt65535.false refl c.if-tree-root.true)

pub returns-in_err-end : goal.returns-in_err-end
returns-in_err-end c =
    rw (handed c.from_residual-in_err-end.ensures.1 c.in_err-end.was) (root_refused c.args.tree.now c.expect.ensures.same c.in_ok-names.was c.number_at-n.ensures c.if-n-gt65535.false refl c.if-tree-root.false c.walk_expr.ensures c.in_err-end.was)

pub returns-then-end-tree : goal.returns-then-end-tree
returns-then-end-tree c =
    rw c.at-then-end-tree.ensures (bytes_follow c.args.tree.now c.expect.ensures.same c.in_ok-names.was c.number_at-n.ensures c.if-n-gt65535.false refl c.if-tree-root.false c.walk_expr.ensures c.in_ok-end.was c.if-end-tree.true)

pub returns : goal.returns
returns c =
    all_read c.args.tree.now c.expect.ensures.same c.in_ok-names.was c.number_at-n.ensures c.if-n-gt65535.false refl c.if-tree-root.false c.walk_expr.ensures c.in_ok-end.was c.if-end-tree.false
