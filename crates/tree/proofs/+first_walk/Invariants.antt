-- What falls with each call: the level of nesting, and at one level the member's rank. A loop's invariant: what is left of the turns, from here, gives
-- what all of them give. Assumes nothing.
use Rattle.std.proofs.Common.{◌*◌, ◌+◌}
use Rattle.bytes_skip.specs.Places.{over, expr_past, held_past}
use Rattle.tree.specs.Places.{bind_past, values_past}
use Rattle.tree.proofs.Turns.{Turn}
use Rattle.rules.specs.FirstWalk.{any_expression}
use Rattle.tree.proofs.Walks.{ValuesTurn}
use Rattle.tree.proofs.+first_walk.Given as goal

abbrev pub invariant-walk_binds-loop : goal.invariant-walk_binds-loop
invariant-walk_binds-loop l = Turn (bind_past l.tree l.nest) (over l.n (bind_past l.tree l.nest) l.at) l.n l.counter l.p

abbrev pub invariant-walk_exprs-loop : goal.invariant-walk_exprs-loop
invariant-walk_exprs-loop l = Turn (expr_past l.tree l.nest any_expression) (over l.n (expr_past l.tree l.nest any_expression) l.at) l.n l.counter l.p

abbrev pub invariant-walk_many-loop : goal.invariant-walk_many-loop
invariant-walk_many-loop l = Turn (held_past l.tree l.nest l.mark) (over l.n (held_past l.tree l.nest l.mark) l.at) l.n l.counter l.p

abbrev pub decreases-walk_array : goal.decreases-walk_array
decreases-walk_array l = 6 * l.nest

abbrev pub decreases-walk_bind : goal.decreases-walk_bind
decreases-walk_bind l = 6 * l.nest + 4

abbrev pub decreases-walk_binds : goal.decreases-walk_binds
decreases-walk_binds l = 6 * l.nest + 5

abbrev pub decreases-walk_call : goal.decreases-walk_call
decreases-walk_call l = 6 * l.nest

abbrev pub decreases-walk_expr : goal.decreases-walk_expr
decreases-walk_expr l = 6 * l.nest + 1

abbrev pub decreases-walk_exprs : goal.decreases-walk_exprs
decreases-walk_exprs l = 6 * l.nest + 2

abbrev pub decreases-walk_extended : goal.decreases-walk_extended
decreases-walk_extended l = 6 * l.nest

abbrev pub decreases-walk_function : goal.decreases-walk_function
decreases-walk_function l = 6 * l.nest

abbrev pub decreases-walk_held : goal.decreases-walk_held
decreases-walk_held l = 6 * l.nest + 3

abbrev pub decreases-walk_index : goal.decreases-walk_index
decreases-walk_index l = 6 * l.nest

abbrev pub decreases-walk_local : goal.decreases-walk_local
decreases-walk_local l = 6 * l.nest

abbrev pub decreases-walk_many : goal.decreases-walk_many
decreases-walk_many l = 6 * l.nest + 4

abbrev pub decreases-walk_object : goal.decreases-walk_object
decreases-walk_object l = 6 * l.nest

abbrev pub decreases-walk_only : goal.decreases-walk_only
decreases-walk_only l = 6 * l.nest + 2

abbrev pub decreases-walk_plain : goal.decreases-walk_plain
decreases-walk_plain l = 6 * l.nest

abbrev pub decreases-walk_value : goal.decreases-walk_value
decreases-walk_value l = 6 * l.nest + 3

abbrev pub decreases-walk_values : goal.decreases-walk_values
decreases-walk_values l = 6 * l.nest + 4

abbrev pub invariant-walk_values-loop : goal.invariant-walk_values-loop
invariant-walk_values-loop l = ValuesTurn l.tree l.nest (values_past l.tree l.nest l.n l.heads l.at) l.n l.counter l.head l.p
