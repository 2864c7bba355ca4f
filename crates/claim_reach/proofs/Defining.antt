-- Defining a frame's names, none of which is defined twice: the locals mean what the scope says. Assumes nothing.
use Prim.Native.Nat.{ℕ, zero, suc, ◌≤◌}
use mathlib.Core.Bool.{Bool, true, false}
use mathlib.Core.List.{List, [], ◌∷◌, ◌++◌, append_assoc, append-nil}
use mathlib.Core.Option.{Option, none, some}
use native.Mathlib.Omega.{arith}
use mathlib.Core.Path.{◌≡◌, refl, sym, ap, ap₂, ◌∙◌}
use lib.ListN.{length, get_or, length-append, get_or-append}
use borrow.Author.Tests.{eqb-true}
use Rattle.rules.specs.Outcome.{choose, given}
use Rattle.rules.specs.Numbers.{Name, same_name}
use Rattle.rules.specs.Tree.{Binding, external}
use Rattle.claim_scope.specs.Scope.{meaning}
use Rattle.claim_reach.proofs.Promise.{Key, labels, named, newest_key, labelled, Inside, label_count}
use Rattle.claim_reach.proofs.Names.{newest_inside}
use Rattle.claim_reach.proofs.Relabel.{labels_append}

abbrev pub Names : Type 0
Names = List (Name × Binding)

-- the names that locals bind, oldest first
unfoldable pub names_in : List Key → Names
names_in [] = []
names_in (k ∷ ks) = given k.1 (λ _. names_in ks) (λ n. (n, k.0) ∷ names_in ks)

-- the newest local of a name is what the name means
unfoldable pub Scoped : List Key → Names → Type 0
Scoped ks names = (name : Name) → labelled ks (newest_key name ks (length ks)) ≡ meaning name names

-- Meaning

meaning_append : (name : Name) (xs ys : Names) → meaning name (xs ++ ys) ≡ given (meaning name xs) (λ _. meaning name ys) (λ b. some b)
unfolding meaning given choose
meaning_append name [] ys = refl
meaning_append name (x ∷ xs) ys = by (same_name name x.0) (meaning_append name xs ys)
  where
    by : (b : Bool) → meaning name (xs ++ ys) ≡ given (meaning name xs) (λ _. meaning name ys) (λ b. some b)
        → choose b (λ _. some x.1) (λ _. meaning name (xs ++ ys)) ≡ given (choose b (λ _. some x.1) (λ _. meaning name xs)) (λ _. meaning name ys) (λ b. some b)
    by true h = refl
    by false h = h

names_append : (ks ls : List Key) → names_in (ks ++ ls) ≡ names_in ks ++ names_in ls
unfolding names_in given
names_append [] ls = refl
names_append (k ∷ ks) ls = by k.1 (names_append ks ls)
  where
    by : (o : Option Name) → names_in (ks ++ ls) ≡ names_in ks ++ names_in ls
        → given o (λ _. names_in (ks ++ ls)) (λ n. (n, k.0) ∷ names_in (ks ++ ls)) ≡ given o (λ _. names_in ks) (λ n. (n, k.0) ∷ names_in ks) ++ names_in ls
    by none h = h
    by (some n) h = ap (λ (ns : Names). (n, k.0) ∷ ns) h

-- The newest, with one more

getD_last : {A : Type 0} (xs : List A) (x d : A) → get_or (xs ++ (x ∷ [])) (length xs) d ≡ x
getD_last [] x d = refl
getD_last (y ∷ xs) x d = getD_last xs x d

newest_front : (name : Name) (ks : List Key) (k : Key) (n : ℕ) → n ≤ length ks → newest_key name (ks ++ (k ∷ [])) n ≡ newest_key name ks n
unfolding newest_key
newest_front name ks k zero le = refl
newest_front name ks k (suc n) le = rw (get_or-append ks (k ∷ []) (external 0, none) n (omega arith), newest_front name ks k n (omega arith)) refl

labelled_front : (ks : List Key) (k : Key) (o : Option ℕ) → Inside (length ks) o → labelled (ks ++ (k ∷ [])) o ≡ labelled ks o
unfolding labelled Inside
labelled_front ks k none h = refl
labelled_front ks k (some id) h =
    ap {B = Option Binding} some (ap (λ (bs : List Binding). get_or bs id (external 0)) (labels_append ks (k ∷ [])) ∙ get_or-append (labels ks) (k.0 ∷ []) (external 0) id (omega (arith, label_count ks)))

labelled_last : (ks : List Key) (k : Key) → labelled (ks ++ (k ∷ [])) (some (length ks)) ≡ some k.0
unfolding labelled
labelled_last ks k =
    ap {B = Option Binding} some (ap₂ (λ (bs : List Binding) (i : ℕ). get_or bs i (external 0)) (labels_append ks (k ∷ [])) (sym (label_count ks)) ∙ getD_last (labels ks) k.0 (external 0))

pub one_longer : {A : Type 0} (xs : List A) (x : A) → length (xs ++ (x ∷ [])) ≡ suc (length xs)
one_longer xs x = omega (arith, length-append xs (x ∷ []))

pub newest_more : (name : Name) (ks : List Key) (k : Key)
    → labelled (ks ++ (k ∷ [])) (newest_key name (ks ++ (k ∷ [])) (length (ks ++ (k ∷ [])))) ≡ choose (named name k.1) (λ _. some k.0) (λ _. labelled ks (newest_key name ks (length ks)))
unfolding newest_key choose
newest_more name ks k = rw (one_longer ks k, getD_last ks k (external 0, none), newest_front name ks k (length ks) (omega arith)) (by (named name k.1))
  where
    by : (b : Bool) → labelled (ks ++ (k ∷ [])) (choose b (λ _. some (length ks)) (λ _. newest_key name ks (length ks))) ≡ choose b (λ _. some k.0) (λ _. labelled ks (newest_key name ks (length ks)))
    by true = labelled_last ks k
    by false = labelled_front ks k (newest_key name ks (length ks)) (newest_inside name ks (length ks))

settled_by : (ks seg : List Key) (names : Names) (n : Name) (b : Binding) → Scoped (ks ++ seg) (names_in seg ++ names) → meaning n (names_in seg) ≡ none → (name : Name) (t : Bool) → same_name name n ≡ t
    → choose t (λ _. some b) (λ _. labelled (ks ++ seg) (newest_key name (ks ++ seg) (length (ks ++ seg)))) ≡ given (meaning name (names_in seg)) (λ _. meaning name (names_in ((b, some n) ∷ []) ++ names)) (λ b. some b)
unfolding Scoped choose meaning names_in given same_name
settled_by ks seg names n b scoped new name true e =
    let same : name ≡ n = eqb-true name n e in
    rw (ap (λ (m : Name). meaning m (names_in seg)) same ∙ new, e) refl
settled_by ks seg names n b scoped new name false e = scoped name ∙ meaning_append name (names_in seg) names ∙ rw e refl

-- a name that the frame doesn't have yet
pub scoped_name : (ks seg : List Key) (names : Names) (n : Name) (b : Binding) → Scoped (ks ++ seg) (names_in seg ++ names) → meaning n (names_in seg) ≡ none
    → Scoped ((ks ++ seg) ++ ((b, some n) ∷ [])) (names_in (seg ++ ((b, some n) ∷ [])) ++ names)
unfolding Scoped named same_name
scoped_name ks seg names n b scoped new name =
    newest_more name (ks ++ seg) (b, some n) ∙ settled_by ks seg names n b scoped new name (same_name name n) refl
    ∙ sym (ap (meaning name) (ap (λ (ns : Names). ns ++ names) (names_append seg ((b, some n) ∷ [])) ∙ append_assoc (names_in seg) (names_in ((b, some n) ∷ [])) names) ∙ meaning_append name (names_in seg) (names_in ((b, some n) ∷ []) ++ names))

-- `this`, which no name finds
pub scoped_this : (ks seg : List Key) (names : Names) (b : Binding) → Scoped (ks ++ seg) (names_in seg ++ names) → Scoped ((ks ++ seg) ++ ((b, none) ∷ [])) (names_in (seg ++ ((b, none) ∷ [])) ++ names)
unfolding Scoped named choose names_in given
scoped_this ks seg names b scoped name =
    newest_more name (ks ++ seg) (b, none) ∙ scoped name ∙ ap (λ (ns : Names). meaning name (ns ++ names)) (sym (names_append seg ((b, none) ∷ []) ∙ append-nil (names_in seg)))
