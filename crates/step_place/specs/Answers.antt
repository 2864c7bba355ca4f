-- The place of a body, and inside an object. Assumes nothing.
use Rattle.std.specs.Prelude.{ℕ, ◌+◌, true, ◌≡◌}
use Rattle.rules.specs.Outcome.{choose}
use Rattle.rules.specs.Walk as walk
use Rattle.state.specs.Walks.{place_of}
use Rattle.state.specs.declared.Place.{Place}

pub record Deeper (r here : Place) : Type 0 where
  pub same : place_of r ≡ walk.deeper (place_of here)
  pub depth : r.depth ≡ here.depth + 1
  pub in_object : r.in_object ≡ here.in_object
  pub this_local : r.this_local ≡ here.this_local
  pub dollar_alias : r.dollar_alias ≡ here.dollar_alias

pub record InObject (r here : Place) (id : ℕ) : Type 0 where
  pub same : place_of r ≡ walk.in_object id (place_of here)
  pub depth : r.depth ≡ here.depth
  pub in_object : r.in_object ≡ true
  pub this_local : r.this_local.0 ≡ id
  pub dollar_alias : r.dollar_alias.0 ≡ choose here.in_object (λ _. here.dollar_alias.0) (λ _. id)
