-- What the struct means: the rules' local. Assumes nothing.
use Rattle.std.specs.Prelude.{ℕ, Option, Some, None}
use Rattle.std.proofs.Math.Option as math
use Rattle.rules.specs.Numbers.{Name}
use Rattle.rules.specs.Tree.{Binding, at_record, external}
use Rattle.rules.specs.Locals as rules
use Rattle.value_depths.specs.Meaning.{result_of}
use Rattle.value_local.specs.declared.Binding as declared
use Rattle.value_local.specs.declared.Binding.TheVariants as binding_is
use Rattle.value_local.specs.declared.LocalDefinition.{LocalDefinition}

-- a record of the tree by its place, or an external by its position
unfoldable pub binding_of : declared.Binding → Binding
binding_of (binding_is.Record place) = at_record place
binding_of (binding_is.External position) = external position

-- a name, where there is one
unfoldable pub name_of : Option ℕ → math.Option Name
name_of (Some name) = math.some name
name_of None = math.none

unfoldable pub local : LocalDefinition → rules.LocalDefinition
local l = record {
  stands_for = binding_of l.stands_for;
  name = name_of l.name;
  span = record { number = l.span };
  defined_at_depth = l.defined_at_depth;
  used_at_depth = l.used_at_depth;
  used_by_sibling = l.used_by_sibling;
  analysis = result_of l.analysis;
  analyzed = l.analyzed;
  scratch_referenced = l.scratch_referenced;
}
