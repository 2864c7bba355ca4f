-- What a reader looks for: the inner of two binders, $ in a nested object, slots and sources inside their frame. Assumes nothing.
use Prim.Native.Nat.{ℕ, zero, suc, ◌<◌}
use mathlib.Core.Bool.{Bool, true, false}
use mathlib.Core.List.{List, [], ◌∷◌, ◌++◌}
use mathlib.Core.Option.{Option, none, some, some-injective}
use native.Mathlib.Omega.{arith}
use mathlib.Core.Path.{◌≡◌, refl, ap, ◌∙◌}
use lib.ListN.{length, get_or, get_elem?, drop}
use lib.Dec.{eqb}
use borrow.Author.Tests.{eq-eqb, eqb-true}
use Rattle.rules.specs.Outcome.{choose, given}
use Rattle.rules.specs.Numbers.{Name, same_name, SH}
use Rattle.rules.specs.Records.{Span}
use Rattle.rules.specs.Tree.{Expr, Binding, at_record, variable, local, no_binds, bind}
use Rattle.claim_scope.specs.Scope.{Scope, meaning, identity_means, bind_names, under, in_object}
use Rattle.claim_reach.specs.Lexical.{read}
use Rattle.claim_reach.specs.Decode.{◌>>=◌}
use Rattle.claim_reach.specs.Reach.{View, Trail, source, sources, expect, check, open_defining}
use Rattle.claim_reach.proofs.Resolving.{none≢some}

-- Of two binders the inner

-- `local n = .. ; n`, in whatever scope: what n means outside is nothing to it
pub inner_binder_is_meant : (n : Name) (inner : Binding) (outer : List (Name × Binding)) → meaning n ((n, inner) ∷ outer) ≡ some inner
unfolding meaning same_name choose
inner_binder_is_meant n inner outer = rw (eq-eqb n n refl) refl

pub inner_local_is_read : (p q r : ℕ) (n : Name) (s t : Span) (f : Bool) (value : Expr) (sc : Scope)
    → read (local p (bind q n s f value no_binds) (variable r n t)) sc ≡ (read value (under ((n, at_record q) ∷ []) sc) ++ []) ++ ((r, some (at_record q)) ∷ [])
unfolding read under bind_names
inner_local_is_read p q r n s t f value sc = ap (λ (m : Option Binding). (read value (under ((n, at_record q) ∷ []) sc) ++ []) ++ ((r, m) ∷ [])) (inner_binder_is_meant n (at_record q) sc.names)

-- $ in an object in an object

pub outermost_is_meant : (p q : ℕ) (sc : Scope) → identity_means 2 (in_object p (in_object q sc)) ≡ identity_means 2 (in_object q sc)
unfolding identity_means in_object given
outermost_is_meant p q sc = by sc.outer
  where
    by : (o : Option Binding) → given (given o (λ _. some (at_record q)) (λ b. some b)) (λ _. some (at_record p)) (λ b. some b) ≡ given o (λ _. some (at_record q)) (λ b. some b)
    by none = refl
    by (some b) = refl

-- but self is the innermost
pub innermost_is_meant : (p : ℕ) (sc : Scope) → identity_means 0 (in_object p sc) ≡ some (at_record p)
unfolding identity_means in_object
innermost_is_meant p sc = refl

-- Slots inside their frame

inside : {A : Type 0} (xs : List A) (n : ℕ) (a : A) → get_elem? xs n ≡ some a → n < length xs
inside [] n a e = absurd (none≢some e)
inside (x ∷ xs) zero a e = omega arith
inside (x ∷ xs) (suc n) a e = omega (arith, inside xs n a e)

pub slot_is_below : (v : View) (n : ℕ) (b : Binding) → source v 0 n ≡ some b → n < length v.slots
unfolding source
slot_is_below v n b e = inside v.slots n b e

pub capture_is_below : (v : View) (n : ℕ) (b : Binding) → source v 1 n ≡ some b → n < length v.taken
unfolding source
capture_is_below v n b e = inside v.taken n b e

-- a source: which (0 a local, 1 a capture) and a number of the frame beneath
unfoldable pub SourceInside : View → (which n : ℕ) → Type 0
SourceInside v zero n = n < length v.slots
SourceInside v (suc zero) n = n < length v.taken
SourceInside v (suc (suc k)) n = ⊥

unfoldable pub SourcesInside : View → List ℕ → Type 0
SourcesInside v [] = Unit {0}
SourcesInside v (which ∷ []) = ⊥
SourcesInside v (which ∷ n ∷ ns) = SourceInside v which n × SourcesInside v ns

source_inside : (v : View) (which n : ℕ) (b : Binding) → source v which n ≡ some b → SourceInside v which n
unfolding source SourceInside
source_inside v zero n b e = inside v.slots n b e
source_inside v (suc zero) n b e = inside v.taken n b e
source_inside v (suc (suc k)) n b e = absurd (none≢some e)

pub sources_are_inside : (v : View) (ns : List ℕ) (bs : List Binding) → sources v ns ≡ some bs → SourcesInside v ns
unfolding sources SourcesInside ◌>>=◌
sources_are_inside v [] bs e = tt
sources_are_inside v (which ∷ []) bs e = absurd (none≢some e)
sources_are_inside v (which ∷ n ∷ ns) bs e = by (source v which n) (sources v ns) refl (sources_are_inside v ns) e
  where
    by : (o : Option Binding) (os : Option (List Binding)) → source v which n ≡ o → ((bs : List Binding) → os ≡ some bs → SourcesInside v ns) → (o >>= λ b. os >>= λ bs. some (b ∷ bs)) ≡ some bs → SourceInside v which n × SourcesInside v ns
    by none os e₁ rest e = absurd (none≢some e)
    by (some b) none e₁ rest e = absurd (none≢some e)
    by (some b) (some more) e₁ rest e = (source_inside v which n b e₁, rest more refl)

abbrev framed_with : List Binding → Trail → List Binding → Option (View × Trail)
framed_with new more bs = some (record { slots = new; taken = bs }, more)

-- a frame that is opened has as many slots as its shape says n_locals, and each of its captures has its source in the frame beneath
pub record OpenedAsShaped (v w : View) (rs rest : Trail) : Type 0 where
  pub numbers : List ℕ
  pub n_locals : get_or numbers 0 0 ≡ length w.slots
  pub sources_inside : SourcesInside v (drop 2 numbers)
  pub captured : sources v (drop 2 numbers) ≡ some w.taken

pub opened_as_shaped : (new : List Binding) (v w : View) (rs rest : Trail) → open_defining new v rs ≡ some (w, rest) → OpenedAsShaped v w rs rest
unfolding open_defining check ◌>>=◌
opened_as_shaped new v w rs rest e = by (expect SH rs) e
  where
    opened : (ns : List ℕ) (more : Trail) (t : Bool) (o : Option (List Binding)) → eqb (get_or ns 0 0) (length new) ≡ t → sources v (drop 2 ns) ≡ o
        → (check t >>= λ _. o >>= framed_with new more) ≡ some (w, rest) → OpenedAsShaped v w rs rest
    opened ns more false o e₁ e₂ e = absurd (none≢some e)
    opened ns more true none e₁ e₂ e = absurd (none≢some e)
    opened ns more true (some bs) e₁ e₂ e =
        let same : record { slots = new; taken = bs } ≡ w = ap (λ (x : View × Trail). x.0) (some-injective _ _ e) in
        record {
          numbers = ns;
          n_locals = eqb-true _ _ e₁ ∙ ap (λ (w : View). length w.slots) same;
          sources_inside = sources_are_inside v (drop 2 ns) bs e₂;
          captured = e₂ ∙ ap (λ (w : View). some w.taken) same;
        }

    by : (o : Option (List ℕ × Trail)) → (o >>= λ x. check (eqb (get_or x.0 0 0) (length new)) >>= λ _. sources v (drop 2 x.0) >>= framed_with new x.1) ≡ some (w, rest) → OpenedAsShaped v w rs rest
    by none e = absurd (none≢some e)
    by (some x) e = opened x.0 x.1 _ _ refl refl e
