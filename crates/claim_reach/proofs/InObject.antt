-- The scope inside an object: self is its own `this`, $ that of the outermost. Assumes nothing.
use Prim.Native.Nat.{ℕ, ◌+◌}
use mathlib.Core.List.{List, ◌∷◌, ◌++◌}
use mathlib.Core.Option.{Option, none, some}
use native.Mathlib.Omega.{arith}
use mathlib.Core.Path.{◌≡◌, sym, ap, ap₂, ◌∙◌}
use lib.ListN.{length, get_or, length-append}
use lib.Seq.{get_or-drop, drop-append_seam}
use Rattle.rules.specs.Outcome.{given}
use Rattle.rules.specs.Tree.{Binding, at_record, external}
use Rattle.rules.specs.Walk.{Place}
use Rattle.claim_scope.specs.Scope.{Scope, under}
use Rattle.claim_reach.proofs.Resolving.{none≢some}
use Rattle.claim_reach.proofs.Promise.{Key, labels, labelled, Inside, Agree, label_count}
use Rattle.claim_reach.proofs.Relabel.{labels_append}
use Rattle.claim_reach.proofs.Defining.{Names, Scoped}
use Rattle.claim_reach.proofs.Framed.{labelled_more, inside_more}
use Rattle.rules.specs.Walk
use Rattle.claim_scope.specs.Scope

this_label : (ks : List Key) (k : Key) (new : List Key) (id : ℕ) → id ≡ length ks → labelled (ks ++ (k ∷ new)) (some id) ≡ some k.0
unfolding labelled
this_label ks k new id e =
    let here : id ≡ length (labels ks) + 0 = omega (arith, e, label_count ks) in
    ap {B = Option Binding} some
    (ap₂ (λ (bs : List Binding) (i : ℕ). get_or bs i (external 0)) (labels_append ks (k ∷ new)) here
    ∙ sym (get_or-drop (length (labels ks)) (labels ks ++ labels (k ∷ new)) 0 (external 0))
    ∙ ap (λ (bs : List Binding). get_or bs 0 (external 0)) (drop-append_seam (labels ks) (labels (k ∷ new))))

this_inside_more : (ks : List Key) (k : Key) (new : List Key) (id : ℕ) → id ≡ length ks → Inside (length (ks ++ (k ∷ new))) (some id)
unfolding Inside
this_inside_more ks k new id e = omega (arith, e, length-append ks (k ∷ new))

outermost_is : (ks : List Key) (k : Key) (new : List Key) (id p : ℕ) (o : Option ℕ) (m : Option Binding) → labelled (ks ++ (k ∷ new)) (some id) ≡ some (at_record p) → labelled ks o ≡ m → Inside (length ks) o
    → labelled (ks ++ (k ∷ new)) (given o (λ _. some id) (λ outermost. some outermost)) ≡ given m (λ _. some (at_record p)) (λ o. some o)
unfolding given labelled
outermost_is ks k new id p none none here e i = here
outermost_is ks k new id p none (some b) here e i = absurd (none≢some e)
outermost_is ks k new id p (some n) none here e i = absurd (none≢some (sym e))
outermost_is ks k new id p (some n) (some b) here e i = labelled_more ks (k ∷ new) (some n) i ∙ e

outermost_in : (ks : List Key) (k : Key) (new : List Key) (id : ℕ) → id ≡ length ks → (o : Option ℕ) → Inside (length ks) o → Inside (length (ks ++ (k ∷ new))) (given o (λ _. some id) (λ outermost. some outermost))
unfolding given
outermost_in ks k new id first none i = this_inside_more ks k new id first
outermost_in ks k new id first (some n) i = inside_more ks (k ∷ new) (some n) i

pub agree_in_object : (ks : List Key) (k : Key) (new : List Key) (names : Names) (p id : ℕ) (h : Place) (sc : Scope) → k.0 ≡ at_record p → id ≡ length ks → Agree ks h sc
    → Scoped (ks ++ (k ∷ new)) (names ++ sc.names) → Agree (ks ++ (k ∷ new)) (Walk.in_object id h) (under names (Scope.in_object p sc))
unfolding under Scoped Walk.in_object Scope.in_object
agree_in_object ks k new names p id h sc stands first a s = record {
  names = s;
  this = here;
  dollar = dollar_is h.dollar_alias sc.outer a.dollar a.dollar_inside;
  this_inside = this_inside_more ks k new id first;
  dollar_inside = dollar_in h.dollar_alias a.dollar_inside;
}
  where
    here : labelled (ks ++ (k ∷ new)) (some id) ≡ some (at_record p)
    here = this_label ks k new id first ∙ ap {B = Option Binding} some stands

    dollar_is : (o : Option ℕ) (m : Option Binding) → labelled ks o ≡ m → Inside (length ks) o
        → labelled (ks ++ (k ∷ new)) (given o (λ _. some id) (λ outermost. some outermost)) ≡ given m (λ _. some (at_record p)) (λ o. some o)
    dollar_is o m e i = outermost_is ks k new id p o m here e i

    dollar_in : (o : Option ℕ) → Inside (length ks) o → Inside (length (ks ++ (k ∷ new))) (given o (λ _. some id) (λ outermost. some outermost))
    dollar_in o i = outermost_in ks k new id first o i
