-- The newest local of a name is the one that the name means, and looking for it asks nothing of the locals but their names. Assumes nothing.
use Prim.Native.Nat.{ℕ, zero, suc, ◌+◌, ◌-◌, ◌≤◌}
use native.Mathlib.Omega.{arith}
use mathlib.Core.Bool.{Bool, true, false}
use mathlib.Core.List.{List, [], ◌∷◌, ◌++◌, map, append_assoc}
use mathlib.Core.Option.{Option, none, some}
use mathlib.Core.Path.{◌≡◌, refl, sym, ap, ◌∙◌}
use lib.ListN.{length, get_or, take, drop, length-map, length-drop, length-append, get_or-map}
use lib.Seq.{take-suc, take_all, get_or-drop, drop_at}
use Rattle.rules.specs.Numbers.{Name, same_name}
use Rattle.rules.specs.Outcome.{choose, given}
use Rattle.rules.specs.Tree.{Binding}
use Rattle.rules.specs.Locals.{LocalDefinition, local_at, no_local, has_name, newest}
use Rattle.rules.specs.State.{AnalysisStack}
use Rattle.rules.specs.Scoping.{first_in_frame, is_taken}
use Rattle.claim_scope.specs.Scope.{meaning}

-- what finding a local asks of it
abbrev pub Key : Type 0
Key = Option Name × Binding

unfoldable pub key : LocalDefinition → Key
key l = (l.name, l.stands_for)

unfoldable pub keys : AnalysisStack → List Key
keys st = map key st.locals

-- those that have a name, the newest first, before others
unfoldable pub put : Key → List (Name × Binding) → List (Name × Binding)
put k bs = given k.0 (λ _. bs) (λ n. (n, k.1) ∷ bs)

unfoldable pub named : List Key → List (Name × Binding) → List (Name × Binding)
named [] bs = bs
named (k ∷ ks) bs = named ks (put k bs)

pub named_append : (ks ms : List Key) (bs : List (Name × Binding)) → named (ks ++ ms) bs ≡ named ms (named ks bs)
unfolding named
named_append [] ms bs = refl
named_append (k ∷ ks) ms bs = named_append ks ms (put k bs)

put_before : (k : Key) (bs : List (Name × Binding)) → put k bs ≡ put k [] ++ bs
unfolding put given
put_before (none, b) bs = refl
put_before (some n, b) bs = refl

pub named_before : (ks : List Key) (bs : List (Name × Binding)) → named ks bs ≡ named ks [] ++ bs
unfolding named
named_before [] bs = refl
named_before (k ∷ ks) bs =
    named_before ks (put k bs) ∙ ap (λ (cs : List (Name × Binding)). named ks [] ++ cs) (put_before k bs)
    ∙ sym (append_assoc (named ks []) (put k []) bs) ∙ ap (λ (cs : List (Name × Binding)). cs ++ bs) (sym (named_before ks (put k [])))

-- the first if it is there, else the second
unfoldable pub first_of : {A : Type 0} → Option A → Option A → Option A
first_of none y = y
first_of (some x) y = some x

pub first_or_none : {A : Type 0} (x : Option A) → first_of x none ≡ x
unfolding first_of
first_or_none none = refl
first_or_none (some x) = refl

unfoldable pub present : {A : Type 0} → Option A → Bool
present o = given o (λ _. false) (λ _. true)

pub meaning_append : (n : Name) (bs cs : List (Name × Binding)) → meaning n (bs ++ cs) ≡ first_of (meaning n bs) (meaning n cs)
unfolding meaning first_of choose
meaning_append n [] cs = refl
meaning_append n (b ∷ bs) cs = by (same_name n b.0) (meaning_append n bs cs)
  where
    by : (t : Bool) → meaning n (bs ++ cs) ≡ first_of (meaning n bs) (meaning n cs)
        → choose t (λ _. some b.1) (λ _. meaning n (bs ++ cs)) ≡ first_of (choose t (λ _. some b.1) (λ _. meaning n bs)) (meaning n cs)
    by true others = refl
    by false others = others

-- names defined after others hide them
pub meaning_behind : (n : Name) (ks own : List Key) → meaning n (named (ks ++ own) []) ≡ first_of (meaning n (named own [])) (meaning n (named ks []))
meaning_behind n ks own =
    ap (meaning n) (named_append ks own []) ∙ ap (meaning n) (named_before own (named ks [])) ∙ meaning_append n (named own []) (named ks [])

meaning_put : (n : Name) (l : LocalDefinition) (bs : List (Name × Binding))
    → meaning n (put (key l) bs) ≡ choose (has_name n l) (λ _. some l.stands_for) (λ _. meaning n bs)
unfolding put key has_name given choose meaning
meaning_put n l bs = by l.name
  where
    by : (o : Option Name) → meaning n (given o (λ _. bs) (λ m. (m, l.stands_for) ∷ bs))
        ≡ choose (given o (λ _. false) (λ m. same_name n m)) (λ _. some l.stands_for) (λ _. meaning n bs)
    by none = refl
    by (some m) = refl

-- what the local of an id stands for
unfoldable pub standing : List LocalDefinition → Option ℕ → Option Binding
standing ls o = given o (λ _. none) (λ id. some (local_at ls id).stands_for)

present_standing : (ls : List LocalDefinition) (o : Option ℕ) → present (standing ls o) ≡ present o
unfolding standing present given
present_standing ls none = refl
present_standing ls (some id) = refl

-- "A name means the newest live local with it"
pub newest_means : (n : Name) (ls : List LocalDefinition) (first count : ℕ) → first + count ≤ length ls
    → standing ls (newest n ls first count) ≡ meaning n (named (take count (drop first (map key ls))) [])
unfolding newest standing given meaning named local_at choose
newest_means n ls first zero le = none_there
  where
    none_there : standing ls none ≡ meaning n (named [] [])
    none_there = refl
newest_means n ls first (suc count) le =
    by (has_name n l) (newest_means n ls first count (omega arith)) ∙ sym (ap (meaning n) (ap (λ (ks : List Key). named ks []) more ∙ named_append (take count xs) (key l ∷ []) [] ∙ one) ∙ meaning_put n l (named (take count xs) []))
  where
    l : LocalDefinition
    l = local_at ls (first + count)

    xs : List Key
    xs = drop first (map key ls)

    here : get_or xs count (key no_local) ≡ key l
    here = get_or-drop first (map key ls) count (key no_local) ∙ get_or-map key ls (first + count) no_local

    more : take (suc count) xs ≡ take count xs ++ (key l ∷ [])
    more = take-suc xs count (key no_local) (omega (arith, length-drop first (map key ls), length-map ls key)) ∙ ap (λ (k : Key). take count xs ++ (k ∷ [])) here

    one : named (key l ∷ []) (named (take count xs) []) ≡ put (key l) (named (take count xs) [])
    one = refl

    by : (t : Bool) → standing ls (newest n ls first count) ≡ meaning n (named (take count xs) [])
        → standing ls (choose t (λ _. some (first + count)) (λ _. newest n ls first count))
        ≡ choose t (λ _. some l.stands_for) (λ _. meaning n (named (take count xs) []))
    by true others = refl
    by false others = others

-- every live local
pub newest_of_all : (n : Name) (st : AnalysisStack) → standing st.locals (newest n st.locals 0 (length st.locals)) ≡ meaning n (named (keys st) [])
unfolding keys
newest_of_all n st = newest_means n st.locals 0 (length st.locals) (omega arith)
    ∙ ap (λ (ks : List Key). meaning n (named ks [])) (take_all (length st.locals) (map key st.locals) (omega (arith, length-map st.locals key)))

pub newest_present : (n : Name) (st : AnalysisStack) → present (newest n st.locals 0 (length st.locals)) ≡ present (meaning n (named (keys st) []))
newest_present n st = sym (present_standing st.locals _) ∙ ap present (newest_of_all n st)

-- "A name already defined in the same frame": it is among the frame's own
pub taken_means : (n : Name) (st : AnalysisStack) (before own : List Key) → keys st ≡ before ++ own → first_in_frame st ≡ length before
    → is_taken n st ≡ present (meaning n (named own []))
unfolding is_taken present keys
taken_means n st before own e at =
    sym (present_standing st.locals _) ∙ ap present (newest_means n st.locals first (length st.locals - first) fits ∙ ap (λ (ks : List Key). meaning n (named ks [])) rest)
  where
    first : ℕ
    first = first_in_frame st

    count : length st.locals ≡ length before + length own
    count = sym (length-map st.locals key) ∙ ap length e ∙ length-append before own

    fits : first + (length st.locals - first) ≤ length st.locals
    fits = omega (arith, at, count)

    dropped : drop first (map key st.locals) ≡ own
    dropped = ap (drop first) e ∙ drop_at before own first (sym at)

    rest : take (length st.locals - first) (drop first (map key st.locals)) ≡ own
    rest = ap (take (length st.locals - first)) dropped ∙ take_all (length st.locals - first) own (omega (arith, at, count))
