-- Locals and their uses (`LocalDefinition`). Assumes nothing.
use Rattle.std.specs.Prelude.{ℕ, zero, suc, ◌+◌, min, Bool, true, false, not, List, [], ◌∷◌, map, get_or, eqb}
use Rattle.std.proofs.Math.Option.{Option, none, some}
use Rattle.rules.specs.Outcome.{choose, given}
use Rattle.rules.specs.Numbers.{Name, never, same_name}
use Rattle.rules.specs.Records.{Span, no_span}
use Rattle.rules.specs.Depths.{AnalysisResult, no_dependence}
use Rattle.rules.specs.Tree.{Binding, external}

-- `stands_for` is the record or external that it is. An object's `this` has no name, so "no name finds it".
-- `scratch_referenced`: the spec being analysed has referred to it, and the reference is to be kept
pub record LocalDefinition : Type 0 where
  pub stands_for : Binding
  pub name : Option Name
  pub span : Span
  pub defined_at_depth : ℕ
  pub used_at_depth : ℕ
  pub used_by_sibling : Bool
  pub analysis : AnalysisResult
  pub analyzed : Bool
  pub scratch_referenced : Bool

-- what a local is when it is defined; `analyzed` holds from the start for externals and `this`
unfoldable pub new_local : Binding → Option Name → Span → (depth : ℕ) → (analyzed : Bool) → LocalDefinition
new_local b name span depth analyzed = record {
  stands_for = b;
  name = name;
  span = span;
  defined_at_depth = depth;
  used_at_depth = never;
  used_by_sibling = false;
  analysis = no_dependence;
  analyzed = analyzed;
  scratch_referenced = false;
}

-- what stands outside the list, so that looking an id up is total
unfoldable pub no_local : LocalDefinition
no_local = new_local (external 0) none no_span 0 true

-- locals stand oldest first: an id is a position
unfoldable pub local_at : List LocalDefinition → ℕ → LocalDefinition
local_at ls id = get_or ls id no_local

-- Finding a name

unfoldable pub has_name : Name → LocalDefinition → Bool
has_name n l = given l.name (λ _. false) (λ m. same_name n m)

-- "A name means the newest live local with it": the newest of the n locals from `first` on that has the name
unfoldable pub newest : Name → List LocalDefinition → (first n : ℕ) → Option ℕ
newest name ls first zero = none
newest name ls first (suc n) = choose (has_name name (local_at ls (first + n))) (λ _. some (first + n)) (λ _. newest name ls first n)

-- The same local but for one part

unfoldable pub with_used_at_depth : ℕ → LocalDefinition → LocalDefinition
with_used_at_depth depth l = record {
  stands_for = l.stands_for;
  name = l.name;
  span = l.span;
  defined_at_depth = l.defined_at_depth;
  used_at_depth = depth;
  used_by_sibling = l.used_by_sibling;
  analysis = l.analysis;
  analyzed = l.analyzed;
  scratch_referenced = l.scratch_referenced;
}

unfoldable pub with_used_by_sibling : LocalDefinition → LocalDefinition
with_used_by_sibling l = record {
  stands_for = l.stands_for;
  name = l.name;
  span = l.span;
  defined_at_depth = l.defined_at_depth;
  used_at_depth = l.used_at_depth;
  used_by_sibling = true;
  analysis = l.analysis;
  analyzed = l.analyzed;
  scratch_referenced = l.scratch_referenced;
}

unfoldable pub with_analysis : AnalysisResult → LocalDefinition → LocalDefinition
with_analysis a l = record {
  stands_for = l.stands_for;
  name = l.name;
  span = l.span;
  defined_at_depth = l.defined_at_depth;
  used_at_depth = l.used_at_depth;
  used_by_sibling = l.used_by_sibling;
  analysis = a;
  analyzed = true;
  scratch_referenced = l.scratch_referenced;
}

unfoldable pub with_scratch_referenced : Bool → LocalDefinition → LocalDefinition
with_scratch_referenced b l = record {
  stands_for = l.stands_for;
  name = l.name;
  span = l.span;
  defined_at_depth = l.defined_at_depth;
  used_at_depth = l.used_at_depth;
  used_by_sibling = l.used_by_sibling;
  analysis = l.analysis;
  analyzed = l.analyzed;
  scratch_referenced = b;
}

-- Uses

-- "Use at the definition depth sets only `used_by_sibling`; any other use lowers `used_at_depth`"
unfoldable pub use_at : ℕ → LocalDefinition → LocalDefinition
use_at depth l = choose (eqb depth l.defined_at_depth) (λ _. with_used_by_sibling l) (λ _. with_used_at_depth (min l.used_at_depth depth) l)

-- "A reference to a sibling not yet analysed is kept for its spec; to one already analysed it only taints"
unfoldable pub keeps_reference : LocalDefinition → Bool
keeps_reference l = not l.analyzed

unfoldable pub note_reference : LocalDefinition → LocalDefinition
note_reference l = choose (keeps_reference l) (λ _. with_scratch_referenced true l) (λ _. l)

-- the ids from k on that a spec has noted: "each sibling once"
unfoldable pub noted : ℕ → List LocalDefinition → List ℕ
noted k [] = []
noted k (l ∷ ls) = choose l.scratch_referenced (λ _. k ∷ noted (suc k) ls) (λ _. noted (suc k) ls)

unfoldable pub without_notes : List LocalDefinition → List LocalDefinition
without_notes ls = map (with_scratch_referenced false) ls

-- "What a dropped spec kept passes to the next kept spec of its frame": its notes stay where they are
unfoldable pub passed_on : List LocalDefinition → List LocalDefinition
passed_on ls = ls
