-- Frames are as good whether or not there are newer locals, and a defining frame that closes opens again with its names. Assumes nothing.
use Prim.Native.Nat.{ℕ, zero, suc, ◌+◌, ◌<◌, ◌≤◌}
use mathlib.Core.Bool.{Bool, true}
use mathlib.Core.List.{List, [], ◌∷◌, ◌++◌, reverse, append-nil}
use mathlib.Core.Option.{Option, some}
use native.Mathlib.Omega.{arith}
use mathlib.Core.Path.{◌≡◌, refl, sym, ap, ap₂, ◌∙◌, subst}
use lib.ListN.{length, take, drop, get_or-append}
use lib.Seq.{take-append_seam}
use Rattle.rules.specs.Outcome.{choose}
use Rattle.rules.specs.Numbers.{SH, records_bytes}
use Rattle.rules.specs.Tree.{Binding, external}
use Rattle.rules.specs.Locals.{LocalDefinition}
use Rattle.rules.specs.Frames.{Capture, ClosureFrame, new_frame, no_frame, top, beneath, defining}
use Rattle.rules.specs.State.{AnalysisStack, with_frames, with_locals, with_out, with_sink}
use Rattle.rules.specs.Writing.{shape_numbers}
use Rattle.claim_scope.specs.Scope.{Meant}
use Rattle.claim_reach.specs.Decode.{◌>>=◌}
use Rattle.claim_reach.specs.Reach.{View, open_defining}
use Rattle.claim_reach.proofs.Resolving.{Grown, Stacked, bottom, on_top, Later, Sourced, no_more, also, Good, none_open, one_more, view_of, slots_of, taken_of, label_at, home_within}
use Rattle.claim_reach.proofs.Closing.{Shut, shuts}
use Rattle.claim_reach.proofs.Promise.{Key, key, keys, labels, Ready, Back, Kept, back, label_count}
use Rattle.claim_reach.proofs.Frames.{out_more, fit_more, defining_opens, closed_state}

-- these lists of labels are the same for the first n locals
pub record Alike (n : ℕ) (A B : List Binding) : Type 0 where
  pub same_label : (id : ℕ) → id < n → label_at A id ≡ label_at B id
  pub same_slots : (f : ClosureFrame) → f.first_local + f.n_locals ≤ n → slots_of A f ≡ slots_of B f

pub alike_back : {n : ℕ} {A B : List Binding} → Alike n A B → Alike n B A
alike_back h = record { same_label = λ id lt. sym (h.same_label id lt); same_slots = λ f le. sym (h.same_slots f le) }

alike_fewer : {n m : ℕ} {A B : List Binding} → m ≤ n → Alike n A B → Alike m A B
alike_fewer le h = record { same_label = λ id lt. h.same_label id (omega arith); same_slots = λ f few. h.same_slots f (omega arith) }

take_front : {A : Type 0} (m : ℕ) (xs ys : List A) → m ≤ length xs → take m (xs ++ ys) ≡ take m xs
take_front zero xs ys h = refl
take_front (suc m) [] ys h = absurd (omega arith)
take_front (suc m) (x ∷ xs) ys h = ap (λ (r : List _). x ∷ r) (take_front m xs ys (omega arith))

slots_front : {A : Type 0} (a m : ℕ) (xs ys : List A) → a + m ≤ length xs → take m (drop a (xs ++ ys)) ≡ take m (drop a xs)
slots_front zero m xs ys h = take_front m xs ys (omega arith)
slots_front (suc a) zero [] ys h = absurd (omega arith)
slots_front (suc a) (suc m) [] ys h = absurd (omega arith)
slots_front (suc a) m (x ∷ xs) ys h = slots_front a m xs ys (omega arith)

pub alike_more : (n : ℕ) (A new : List Binding) → n ≤ length A → Alike n A (A ++ new)
alike_more n A new le = record {
  same_label = λ id lt. sym (get_or-append A new (external 0) id (omega arith));
  same_slots = λ f few. sym (slots_front f.first_local f.n_locals A new (omega arith));
}

module _ {A B : List Binding} where
  taken_alike : {n m : ℕ} {v : View} {cs : List Capture} → m ≤ n → Alike n A B → Sourced A m v cs → taken_of A cs ≡ taken_of B cs
  taken_alike le h no_more = refl
  taken_alike le h (also {c = c} e small lt r) = ap₂ {C = List Binding} ◌∷◌ (h.same_label c.target (omega arith)) (taken_alike le h r)

  sourced_alike : {n m : ℕ} {v : View} {cs : List Capture} → m ≤ n → Alike n A B → Sourced A m v cs → Sourced B m v cs
  sourced_alike le h no_more = no_more
  sourced_alike le h (also {c = c} e small lt r) = also (e ∙ ap {B = Option Binding} some (h.same_label c.target (omega arith))) small lt (sourced_alike le h r)

  top_taken : {n : ℕ} {fs : List ClosureFrame} → Alike n A B → Stacked n fs → Good A fs → taken_of A (top fs).captures ≡ taken_of B (top fs).captures
  unfolding top no_frame new_frame
  top_taken h bottom none_open = refl
  top_taken h (on_top s first empty few caps) (one_more sourced g) = taken_alike (omega (arith, first)) h sourced

  pub view_alike : {n : ℕ} {fs : List ClosureFrame} → Alike n A B → Stacked n fs → Good A fs → view_of A fs ≡ view_of B fs
  view_alike {fs = fs} h s g = λ i. record { slots = h.same_slots (defining fs) (home_within A s).0 i; taken = top_taken h s g i }

  pub good_alike : {n : ℕ} {fs : List ClosureFrame} → Alike n A B → Stacked n fs → Good A fs → Good B fs
  good_alike h bottom none_open = none_open
  good_alike h (on_top {f = f} {fs = fs} s first empty few caps) (one_more sourced g) =
      one_more (subst (λ (v : View). Sourced B f.first_local v f.captures) (view_alike (alike_fewer (omega arith) h) s g) (sourced_alike (omega (arith, first)) h sourced)) (good_alike (alike_fewer (omega arith) h) s g)

-- A defining frame

pub labels_append : (ks new : List Key) → labels (ks ++ new) ≡ labels ks ++ labels new
labels_append [] new = refl
labels_append (k ∷ ks) new = ap (λ (bs : List Binding). k.0 ∷ bs) (labels_append ks new)

own_slots : {A : Type 0} (xs ys : List A) → take (length ys) (drop (length xs) (xs ++ ys)) ≡ ys
own_slots [] [] = refl
own_slots [] (y ∷ ys) = ap (λ (r : List _). y ∷ r) (own_slots [] ys)
own_slots (x ∷ xs) ys = own_slots xs ys

pub alike_keys : (ks new : List Key) → Alike (length ks) (labels (ks ++ new)) (labels ks)
alike_keys ks new = subst (λ (bs : List Binding). Alike (length ks) bs (labels ks)) (sym (labels_append ks new)) (alike_back (alike_more (length ks) (labels ks) (labels new) (omega (arith, label_count ks))))

home_top : (gs : List ClosureFrame) → (top gs).is_defining ≡ true → defining gs ≡ top gs
unfolding defining top choose no_frame
home_top [] e = refl
home_top (f ∷ fs) e = ap (λ (b : Bool). choose b (λ _. f) (λ _. defining fs)) e

keys_take : (n : ℕ) (ls : List LocalDefinition) → keys (take n ls) ≡ take n (keys ls)
keys_take zero ls = refl
keys_take (suc n) [] = refl
keys_take (suc n) (l ∷ ls) = ap (λ (ks : List Key). key l ∷ ks) (keys_take n ls)

-- the frame of n names above `first` others, when all are defined
unfoldable pub defined_frame : (first n : ℕ) → ClosureFrame
defined_frame first n = record { is_defining = true; first_local = first; n_locals = n; captures = [] }

unfoldable pub left_state : ℕ → AnalysisStack → AnalysisStack
left_state n b = closed_state (with_locals (take n b.locals) b)

pub defining_kept : (ks new : List Key) {walk : Back} {ms : List Meant} (a a₁ b : AnalysisStack) → Ready ks a
    → a₁.frames ≡ defined_frame (length ks) (length new) ∷ a.frames → a₁.sink.out ≡ a.sink.out → Kept (ks ++ new) walk ms a₁ b
    → Kept ks (λ v rs. open_defining (labels new) v rs >>= λ x. walk x.0 x.1) ms a (left_state (length ks) b)
unfolding left_state closed_state with_frames with_locals with_out with_sink ◌>>=◌ defined_frame shape_numbers
defining_kept ks new {walk = walk} {ms = ms} a a₁ b r same_frames same_out k =
    let all = labels (ks ++ new) in
    let ns = shape_numbers (top b.frames) in
    let grew : Grown (defined_frame (length ks) (length new) ∷ a.frames) b.frames = subst (λ (fs : List ClosureFrame). Grown fs b.frames) same_frames k.grew in
    let s : Shut all (defined_frame (length ks) (length new)) a.frames b.frames = shuts all _ a.frames b.frames grew k.ready.good k.ready.stacked in
    let stacked : Stacked (length ks) (beneath b.frames) = s.stacked in
    let alike : Alike (length ks) all (labels ks) = alike_keys ks new in
    let view : view_of all (beneath b.frames) ≡ view_of (labels ks) (beneath b.frames) = view_alike alike stacked s.good in
    let taken = taken_of all (top b.frames).captures in
    let slots : labels new ≡ slots_of all (defining b.frames) =
    sym (ap (λ (f : ClosureFrame). slots_of all f) (home_top b.frames s.same_kind)
    ∙ ap₂ (λ (n i : ℕ). take n (drop i all)) (s.counts ∙ sym (label_count new)) (s.same_first ∙ sym (label_count ks))
    ∙ ap (λ (bs : List Binding). take (length (labels new)) (drop (length (labels ks)) bs)) (labels_append ks new)
    ∙ own_slots (labels ks) (labels new)) in
    record {
      ready = record {
        same_keys = keys_take (length ks) b.locals ∙ ap (take (length ks)) k.ready.same_keys ∙ take-append_seam ks new;
        good = good_alike alike stacked s.good;
        stacked = stacked;
      };
      grew = s.grew;
      written = k.written ++ ((SH, ns) ∷ []);
      out = out_more b.sink.out a.sink.out k.written SH ns (k.out ∙ ap (λ (o : List ℕ). o ++ records_bytes k.written) same_out);
      fit = fit_more k.written SH ns k.fit s.fits;
      walked = λ v rest l.
          rw (back k.written ((SH, ns) ∷ []) rest, defining_opens (labels new) v ns (reverse k.written ++ rest) taken (s.counts ∙ sym (label_count new)) (s.opens v (subst (λ (u : View). Later u v) (sym view) l)))
          (k.walked (record { slots = labels new; taken = taken }) rest (record { same_slots = slots; more = []; taken_then = sym (append-nil _) }));
    }
