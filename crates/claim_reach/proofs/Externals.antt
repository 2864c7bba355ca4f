-- The externals, as locals, mean what the root's scope says: of two of one name the later. Assumes nothing.
use Prim.Native.Nat.{ℕ, suc}
use mathlib.Core.List.{List, [], ◌∷◌, ◌++◌, append_assoc, append-nil}
use mathlib.Core.Option.{Option, some}
use mathlib.Core.Path.{◌≡◌, refl, sym, ap, ◌∙◌, subst}
use Rattle.rules.specs.Outcome.{choose}
use Rattle.rules.specs.Numbers.{Name, same_name}
use Rattle.rules.specs.Tree.{Binding, external}
use Rattle.claim_scope.specs.Scope.{meaning, external_names}
use Rattle.claim_reach.specs.Reach.{external_slots}
use Rattle.claim_reach.proofs.Promise.{Key, labels, named}
use Rattle.claim_reach.proofs.Defining.{Names, Scoped, newest_more}

unfoldable pub external_keys : ℕ → List Name → List Key
external_keys k [] = []
external_keys k (n ∷ ns) = (external k, some n) ∷ external_keys (suc k) ns

pub external_keys_slots : (k : ℕ) (ns : List Name) → labels (external_keys k ns) ≡ external_slots k ns
unfolding external_keys external_slots
external_keys_slots k [] = refl
external_keys_slots k (n ∷ ns) = ap (λ (bs : List Binding). external k ∷ bs) (external_keys_slots (suc k) ns)

one_external : (ks : List Key) (names : Names) (n : Name) (b : Binding) → Scoped ks names → Scoped (ks ++ ((b, some n) ∷ [])) ((n, b) ∷ names)
unfolding Scoped named meaning
one_external ks names n b s name = newest_more name ks (b, some n) ∙ ap (λ (o : Option Binding). choose (same_name name n) (λ _. some b) (λ _. o)) (s name)

pub externals_scoped : (ks : List Key) (names : Names) (k : ℕ) (ns : List Name) → Scoped ks names → Scoped (ks ++ external_keys k ns) (external_names k ns names)
unfolding external_keys external_names
externals_scoped ks names k [] s = subst (λ (ks : List Key). Scoped ks names) (sym (append-nil ks)) s
externals_scoped ks names k (n ∷ ns) s =
    subst (λ (all : List Key). Scoped all (external_names (suc k) ns ((n, external k) ∷ names))) (append_assoc ks ((external k, some n) ∷ []) (external_keys (suc k) ns))
    (externals_scoped (ks ++ ((external k, some n) ∷ [])) ((n, external k) ∷ names) (suc k) ns (one_external ks names n (external k) s))
