-- `begin_root` defines the externals from the empty state and opens the root's frame. Assumes nothing.
use Rattle.std.proofs.Common.{rules}
use Rattle.std.proofs.lemmas.Result.{err_from_is_err_and}
use Rattle.call_root.proofs.Beginning.{no_frames, begin_opened, begin_stopped}
use Rattle.call_root.proofs.begin_root.Goals as goal

pub open_root-requires : goal.open_root-requires
open_root-requires c = (search rules, no_frames c.empty_stack-st.ensures c.define_externals.ensures c.in_ok-after.was, search rules)

pub returns : goal.returns
returns c = begin_opened c.empty_stack-st.ensures c.define_externals.ensures c.in_ok-after.was c.open_root.ensures

pub returns-in_err-after : goal.returns-in_err-after
returns-in_err-after c =
    let q = err_from_is_err_and c.from_residual.result c.from_residual.ensures.1 in
    rw (q.1, q.2) (begin_stopped c.empty_stack-st.ensures c.define_externals.ensures c.in_err-after.was)
