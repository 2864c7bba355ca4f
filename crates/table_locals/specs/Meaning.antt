-- What a table's entries mean: the rules' locals. Assumes nothing.
use Rattle.std.specs.Prelude.{ℕ, Bool, true, false, List, [], ◌∷◌, map, get_or, is_some, unwrap_or}
use Rattle.std.proofs.Math.Option.{Option, none, some}
use Rattle.rules.specs.Numbers.{Name, bit, is_set}
use Rattle.rules.specs.Tree as tree
use Rattle.rules.specs.Locals as rules
use Rattle.table_rows.specs.Rows.{rows}
use Rattle.value_local.specs.declared.Binding.{Binding}
use Rattle.value_local.specs.declared.Binding.TheVariants as binding_is
use Rattle.value_local.specs.declared.LocalDefinition.{LocalDefinition}

-- a local with what a use changes as another has it
unfoldable pub with_use : (used l : rules.LocalDefinition) → rules.LocalDefinition
with_use used l = record {
  stands_for = l.stands_for;
  name = l.name;
  span = l.span;
  defined_at_depth = l.defined_at_depth;
  used_at_depth = used.used_at_depth;
  used_by_sibling = used.used_by_sibling;
  analysis = l.analysis;
  analyzed = l.analyzed;
  scratch_referenced = used.scratch_referenced;
}

-- a flag and a number of an entry: a record of the tree by its place, or an external by its position
unfoldable pub binding : (is_record : Bool) → (place : ℕ) → tree.Binding
binding true place = tree.at_record place
binding false place = tree.external place

-- and a name, where there is one
unfoldable pub named : (has_name : Bool) → Name → Option Name
named true name = some name
named false name = none

unfoldable pub is_record : Binding → Bool
is_record (binding_is.Record place) = true
is_record (binding_is.External position) = false

unfoldable pub place_of : Binding → ℕ
place_of (binding_is.Record place) = place
place_of (binding_is.External position) = position

-- a local's numbers in an entry, in the order of the struct's fields; the last three of the sixteen are unused
unfoldable pub numbers : LocalDefinition → List ℕ
numbers l =
    l.defined_at_depth
    ∷ l.used_at_depth
    ∷ bit l.used_by_sibling
    ∷ l.analysis.object_dependent_depth
    ∷ l.analysis.local_dependent_depth
    ∷ l.analysis.local_dependent_depth_max
    ∷ bit l.analyzed
    ∷ bit l.scratch_referenced
    ∷ l.span
    ∷ bit (is_some l.name)
    ∷ unwrap_or l.name 0
    ∷ bit (is_record l.stands_for)
    ∷ place_of l.stands_for
    ∷ []

-- the local of an entry's numbers
unfoldable pub local_of_row : List ℕ → rules.LocalDefinition
local_of_row r = record {
  stands_for = binding (is_set (get_or r 11 0)) (get_or r 12 0);
  name = named (is_set (get_or r 9 0)) (get_or r 10 0);
  span = record { number = get_or r 8 0 };
  defined_at_depth = get_or r 0 0;
  used_at_depth = get_or r 1 0;
  used_by_sibling = is_set (get_or r 2 0);
  analysis = record {
    object_dependent_depth = get_or r 3 0;
    local_dependent_depth = get_or r 4 0;
    local_dependent_depth_max = get_or r 5 0;
  };
  analyzed = is_set (get_or r 6 0);
  scratch_referenced = is_set (get_or r 7 0);
}

-- the locals of the first n entries, the oldest first
unfoldable pub locals_of : ℕ → List ℕ → List rules.LocalDefinition
locals_of n t = map local_of_row (rows n t)
