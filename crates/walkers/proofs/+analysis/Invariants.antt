-- The one proof of the cycle: the measures, and what each member's module shows. Assumes nothing.
use Rattle.std.proofs.Common.{◌*◌, ◌+◌}
use Rattle.state.specs.Walks.{place_of}
use Rattle.step_leaf.specs.Leaves.{items_rank}
use Rattle.law_runs.specs.Run.{Accepted, items_at, binds_at, run_binds, heads_at, run_heads, run_items, params_at, run_params}
use Rattle.state.specs.Seen.{contents, SameBuffers}
use Rattle.law_joins.proofs.Turns.{TurnSpecs, Turn, TurnValues}
use Rattle.walkers.proofs.+analysis.Given as goal

abbrev pub decreases-analyze : goal.decreases-analyze
decreases-analyze l = 16 * l.nest + 3

abbrev pub decreases-on_array : goal.decreases-on_array
decreases-on_array l = 16 * l.nest

abbrev pub decreases-on_assertions : goal.decreases-on_assertions
decreases-on_assertions l = 16 * l.nest + 7

abbrev pub decreases-on_bind : goal.decreases-on_bind
decreases-on_bind l = 16 * l.nest + 4

abbrev pub decreases-on_binds : goal.decreases-on_binds
decreases-on_binds l = 16 * l.nest + 5

abbrev pub decreases-on_fields : goal.decreases-on_fields
decreases-on_fields l = 16 * l.nest + 8

abbrev pub decreases-on_function : goal.decreases-on_function
decreases-on_function l = 16 * l.nest

abbrev pub decreases-on_head : goal.decreases-on_head
decreases-on_head l = 16 * l.nest + 4

abbrev pub decreases-on_heads : goal.decreases-on_heads
decreases-on_heads l = 16 * l.nest + 5

abbrev pub decreases-on_held : goal.decreases-on_held
decreases-on_held l = 16 * l.nest + 4

abbrev pub decreases-on_item : goal.decreases-on_item
decreases-on_item l = 16 * l.nest + 5

abbrev pub decreases-on_items : goal.decreases-on_items
decreases-on_items l = 16 * l.nest + items_rank l.tree.now l.at l.n

abbrev pub decreases-on_local : goal.decreases-on_local
decreases-on_local l = 16 * l.nest

abbrev pub decreases-on_members : goal.decreases-on_members
decreases-on_members l = 16 * l.nest + 1

abbrev pub decreases-on_object : goal.decreases-on_object
decreases-on_object l = 16 * l.nest + 2

abbrev pub decreases-on_param : goal.decreases-on_param
decreases-on_param l = 16 * l.nest + 4

abbrev pub decreases-on_params : goal.decreases-on_params
decreases-on_params l = 16 * l.nest + 5

abbrev pub decreases-on_plain : goal.decreases-on_plain
decreases-on_plain l = 16 * l.nest

abbrev pub decreases-on_value : goal.decreases-on_value
decreases-on_value l = 16 * l.nest + 4

abbrev pub decreases-on_values : goal.decreases-on_values
decreases-on_values l = 16 * l.nest + 5

abbrev pub invariant-on_binds-loop : goal.invariant-on_binds-loop
invariant-on_binds-loop l = (TurnSpecs (λ n p. Accepted (binds_at l.tree l.nest n p)) (λ n p kept L σ. run_binds l.tree L l.nest n p l.base kept (place_of l.here) σ) l.limits l.tree l.nest l.here (contents l.fn.lent) l.fn.st l.at l.n (contents l.lent) l.state l.p l.kept l.counter) × SameBuffers l.fn.lent l.lent

abbrev pub invariant-on_heads-loop : goal.invariant-on_heads-loop
invariant-on_heads-loop l = (Turn (λ n p. Accepted (heads_at l.tree l.nest n p)) (λ n p L σ. run_heads l.tree L l.nest n p (place_of l.here) σ) l.limits l.tree l.nest l.here (contents l.fn.lent) l.fn.st l.at l.n (contents l.lent) l.state l.p l.counter) × SameBuffers l.fn.lent l.lent

abbrev pub invariant-on_items-loop : goal.invariant-on_items-loop
invariant-on_items-loop l = (Turn (λ n p. Accepted (items_at l.tree l.nest n p)) (λ n p L σ. run_items l.tree L l.nest n p (place_of l.here) σ) l.limits l.tree l.nest l.here (contents l.fn.lent) l.fn.st l.at l.n (contents l.lent) l.state l.p l.counter) × SameBuffers l.fn.lent l.lent

abbrev pub invariant-on_params-loop : goal.invariant-on_params-loop
invariant-on_params-loop l = (TurnSpecs (λ n p. Accepted (params_at l.tree l.nest n p)) (λ n p kept L σ. run_params l.tree L l.nest n p kept (place_of l.here) σ) l.limits l.tree l.nest l.here (contents l.fn.lent) l.fn.st l.at l.n (contents l.lent) l.state l.p l.kept l.counter) × SameBuffers l.fn.lent l.lent

abbrev pub invariant-on_values-loop : goal.invariant-on_values-loop
invariant-on_values-loop l = (TurnValues l.limits l.tree l.nest l.here (contents l.fn.lent) l.fn.st l.heads l.at l.n (contents l.lent) l.state l.head l.p l.counter) × SameBuffers l.fn.lent l.lent
