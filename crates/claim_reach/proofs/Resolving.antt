-- What resolving answers reaches the local's label, captures only grow, and the shape of a frame that closes opens what it captured. Assumes nothing.
use Prim.Native.Nat.{ℕ, zero, suc, ◌+◌, ◌-◌, ◌<◌, ◌≤◌}
use mathlib.Core.Bool.{Bool, true, false, ◌&&◌, false≢true}
use mathlib.Core.List.{List, [], ◌∷◌, ◌++◌, map, append-nil}
use mathlib.Core.Option.{Option, none, some, some-injective}
use native.Mathlib.Omega.{arith}
use mathlib.Core.Path.{◌≡◌, refl, sym, ap, ap₂, ◌∙◌, subst}
use lib.ListN.{length, get_elem?, get_or, take, drop, length-drop, length-append}
use lib.Dec.{eqb, leb, ltb, T, leb→le, ltb→lt, eqb→eq}
use lib.Seq.{get_or-drop}
use borrow.Author.Tests.{ltb-true, leb-false, lt-ltb}
use Rattle.rules.specs.Outcome.{choose}
use Rattle.rules.specs.Tree.{Binding, external}
use Rattle.rules.specs.Frames.{LSlot, local_slot, capture_slot, Capture, ClosureFrame, new_frame, no_frame, top, defining, holds, slot_in, capture_of, with_capture, Resolved, resolve_at}
use Rattle.rules.specs.Writing.{slot_number, pair_of, pairs_of}
use Rattle.rules.proofs.After.{After, fine, after_bind, after_need, after_choose, after_given}
use Rattle.claim_reach.specs.Reach.{View, source, sources}
use Rattle.claim_reach.specs.Decode

pub both : (a b : Bool) → (a && b) ≡ true → T a × T b
both true true e = (tt, tt)
both true false e = absurd (false≢true e)
both false b e = absurd (false≢true e)

IsNone : {A : Type 0} → Option A → Type 0
IsNone none = Unit {0}
IsNone (some a) = ⊥

pub none≢some : {A : Type 0} {a : A} → ◌≡◌ {A = Option A} none (some a) → ⊥
unfolding IsNone
none≢some e = subst IsNone e tt

-- captures were only appended
pub data Grown : List ClosureFrame → List ClosureFrame → Type 0 where
  all_grown : Grown [] []
  grown : {f : ClosureFrame} {fs gs : List ClosureFrame} (more : List Capture) → Grown fs gs
      → Grown (f ∷ fs) (record { is_defining = f.is_defining; first_local = f.first_local; n_locals = f.n_locals; captures = f.captures ++ more } ∷ gs)

pub grown_refl : (fs : List ClosureFrame) → Grown fs fs
grown_refl [] = all_grown
grown_refl (f ∷ fs) =
    subst (λ (cs : List Capture). Grown (f ∷ fs) (record { is_defining = f.is_defining; first_local = f.first_local; n_locals = f.n_locals; captures = cs } ∷ fs)) (append-nil f.captures) (grown [] (grown_refl fs))

-- the frames stand on one another: n locals are theirs together, each frame's after those beneath it, and a using frame has none
pub data Stacked : ℕ → List ClosureFrame → Type 0 where
  bottom : Stacked 0 []
  on_top : {n : ℕ} {f : ClosureFrame} {fs : List ClosureFrame} → Stacked n fs → f.first_local ≡ n → (f.is_defining ≡ false → f.n_locals ≡ 0) → f.n_locals ≤ 65535
      → length f.captures ≤ 65536 → Stacked (n + f.n_locals) (f ∷ fs)

nth_append : {A : Type 0} (xs ys : List A) (n : ℕ) (a : A) → get_elem? xs n ≡ some a → get_elem? (xs ++ ys) n ≡ some a
nth_append [] ys n a e = absurd (none≢some e)
nth_append (x ∷ xs) ys zero a e = e
nth_append (x ∷ xs) ys (suc n) a e = nth_append xs ys n a e

-- what a slot reads in a view
abbrev pub seen : View → LSlot → Option Binding
seen v (local_slot n) = get_elem? v.slots n
seen v (capture_slot n) = get_elem? v.taken n

-- later a frame may have captured more
pub record Later (v w : View) : Type 0 where
  pub same_slots : w.slots ≡ v.slots
  pub more : List Binding
  pub taken_then : w.taken ≡ v.taken ++ more

pub seen_later : (v w : View) (s : LSlot) (b : Binding) → Later v w → seen v s ≡ some b → seen w s ≡ some b
seen_later v w (local_slot n) b l e = rw l.same_slots e
seen_later v w (capture_slot n) b l e = rw l.taken_then (nth_append v.taken l.more n b e)

-- `labels` are the locals' bindings, oldest first
module _ (labels : List Binding) where
  abbrev pub label_at : ℕ → Binding
  label_at id = get_or labels id (external 0)

  abbrev pub slots_of : ClosureFrame → List Binding
  slots_of f = take f.n_locals (drop f.first_local labels)

  abbrev pub taken_of : List Capture → List Binding
  taken_of cs = map (λ (c : Capture). label_at c.target) cs

  abbrev pub view_of : List ClosureFrame → View
  view_of fs = record { slots = slots_of (defining fs); taken = taken_of (top fs).captures }

  -- each capture's source reaches, in the frame beneath, what the capture is of, which is one of the first n locals
  pub data Sourced (n : ℕ) (v : View) : List Capture → Type 0 where
    no_more : Sourced n v []
    also : {c : Capture} {cs : List Capture} → seen v c.source ≡ some (label_at c.target) → slot_number c.source < 65536 → c.target < n → Sourced n v cs → Sourced n v (c ∷ cs)

  pub data Good : List ClosureFrame → Type 0 where
    none_open : Good []
    one_more : {f : ClosureFrame} {fs : List ClosureFrame} → Sourced f.first_local (view_of fs) f.captures → Good fs → Good (f ∷ fs)

  taken_append : (cs ds : List Capture) → taken_of (cs ++ ds) ≡ taken_of cs ++ taken_of ds
  taken_append [] ds = refl
  taken_append (c ∷ cs) ds = ap {B = List Binding} (λ r. label_at c.target ∷ r) (taken_append cs ds)

  choose_slots : (b : Bool) (f g x y : ClosureFrame) → slots_of f ≡ slots_of g → slots_of x ≡ slots_of y → slots_of (choose b (λ _. f) (λ _. x)) ≡ slots_of (choose b (λ _. g) (λ _. y))
  unfolding choose
  choose_slots true f g x y e d = e
  choose_slots false f g x y e d = d

  home_slots : {fs gs : List ClosureFrame} → Grown fs gs → slots_of (defining gs) ≡ slots_of (defining fs)
  unfolding defining
  home_slots all_grown = refl
  home_slots (grown {f = f} {fs = fs} {gs = gs} more g) = choose_slots f.is_defining _ f (defining gs) (defining fs) refl (home_slots g)

  -- frames that grew are later views
  pub grown_later : {fs gs : List ClosureFrame} → Grown fs gs → Later (view_of fs) (view_of gs)
  unfolding top
  grown_later all_grown = record { same_slots = refl; more = []; taken_then = sym (append-nil _) }
  grown_later (grown {f = f} {fs = fs} {gs = gs} more g) = record { same_slots = home_slots {fs = f ∷ fs} (grown more g); more = taken_of more; taken_then = taken_append f.captures more }

  pub sourced_later : {n : ℕ} {v w : View} {cs : List Capture} → Later v w → Sourced n v cs → Sourced n w cs
  sourced_later l no_more = no_more
  sourced_later {v = v} {w = w} l (also {c = c} e small lt r) = also (seen_later v w c.source _ l e) small lt (sourced_later l r)

  sourced_snoc : {n : ℕ} {v : View} (cs : List Capture) (c : Capture) → Sourced n v cs → seen v c.source ≡ some (label_at c.target) → slot_number c.source < 65536 → c.target < n → Sourced n v (cs ++ (c ∷ []))
  sourced_snoc [] c no_more e small lt = also e small lt no_more
  sourced_snoc (d ∷ cs) c (also e₁ small₁ lt₁ r) e small lt = also e₁ small₁ lt₁ (sourced_snoc cs c r e small lt)

  -- a recorded capture is found at its number
  captured_read : (id k n : ℕ) (cs : List Capture) → capture_of id k cs ≡ some n → (j : ℕ) × (n ≡ k + j) × (j < length cs) × (get_elem? (taken_of cs) j ≡ some (label_at id))
  unfolding capture_of choose
  captured_read id k n [] e = absurd (none≢some e)
  captured_read id k n (c ∷ cs) e = go (eqb id c.target) refl (captured_read id (suc k) n cs)
    where
      go : (b : Bool) → eqb id c.target ≡ b → (capture_of id (suc k) cs ≡ some n → (j : ℕ) × (n ≡ suc k + j) × (j < length cs) × (get_elem? (taken_of cs) j ≡ some (label_at id)))
          → (j : ℕ) × (n ≡ k + j) × (j < length (c ∷ cs)) × (get_elem? (taken_of (c ∷ cs)) j ≡ some (label_at id))
      go true d ih = (0, omega (arith, sym (some-injective k n (rw (d, capture_of) at e))), omega arith, ap {B = Option Binding} (λ x. some (label_at x)) (sym (eqb→eq id c.target (rw d tt))))
      go false d ih = let r = ih (rw (d, capture_of) at e) in (suc r.0, omega (arith, r.1), omega (arith, r.2), r.3)

  old_read : (cs : List Capture) (id k : ℕ) → capture_of id 0 cs ≡ some k → (k < length cs) × (get_elem? (taken_of cs) k ≡ some (label_at id))
  old_read cs id k e =
      let r = captured_read id 0 k cs e in
      let same : k ≡ r.0 = omega (arith, r.1) in
      (omega (arith, r.2), rw same r.3)

  new_read : (cs : List Capture) (c : Capture) → get_elem? (taken_of (cs ++ (c ∷ []))) (length cs) ≡ some (label_at c.target)
  new_read [] c = refl
  new_read (d ∷ cs) c = new_read cs c

  -- a local that a frame holds is found at its slot
  nth_take : (m i : ℕ) (xs : List Binding) → i < m → i < length xs → get_elem? (take m xs) i ≡ some (get_or xs i (external 0))
  nth_take zero i xs h k = absurd (omega arith)
  nth_take (suc m) i [] h k = absurd (omega arith)
  nth_take (suc m) zero (x ∷ xs) h k = refl
  nth_take (suc m) (suc i) (x ∷ xs) h k = nth_take m i xs (omega arith) (omega arith)

  held_read : (f : ClosureFrame) (id : ℕ) → holds f id ≡ true → f.first_local + f.n_locals ≤ length labels → (id - f.first_local < f.n_locals) × (get_elem? (slots_of f) (id - f.first_local) ≡ some (label_at id))
  unfolding holds
  held_read f id e fits =
      let b = both (leb f.first_local id) (ltb id (f.first_local + f.n_locals)) e in
      let h₁ : f.first_local ≤ id = leb→le _ _ b.0 in
      let h₂ : id < f.first_local + f.n_locals = ltb→lt _ _ b.1 in
      let back : f.first_local + (id - f.first_local) ≡ id = omega arith in
      let there : get_or (drop f.first_local labels) (id - f.first_local) (external 0) ≡ label_at id = get_or-drop f.first_local labels (id - f.first_local) (external 0) ∙ ap label_at back in
      (omega arith, nth_take f.n_locals (id - f.first_local) (drop f.first_local labels) (omega arith) (rw length-drop (omega arith)) ∙ ap {B = Option Binding} some there)

  -- the nearest defining frame lies within the locals, and has few
  pub home_within : {n : ℕ} {fs : List ClosureFrame} → Stacked n fs → ((defining fs).first_local + (defining fs).n_locals ≤ n) × ((defining fs).n_locals ≤ 65535)
  unfolding defining no_frame new_frame choose
  home_within bottom = (omega arith, omega arith)
  home_within (on_top {n = n} {f = f} {fs = fs} s e empty few caps) = pick f.is_defining f (defining fs) (omega (arith, e)) few (home_within s)
    where
      pick : (b : Bool) (f g : ClosureFrame) → f.first_local + f.n_locals ≤ n + f.n_locals → f.n_locals ≤ 65535
          → (g.first_local + g.n_locals ≤ n) × (g.n_locals ≤ 65535)
          → ((choose b (λ _. f) (λ _. g)).first_local + (choose b (λ _. f) (λ _. g)).n_locals ≤ n + f.n_locals) × ((choose b (λ _. f) (λ _. g)).n_locals ≤ 65535)
      pick true f g h few k = (h, few)
      pick false f g h few k = (omega (arith, k.0), k.1)

  -- The crux: the frames stay good, they only grow, and the slot reads the local's label
  pub record Right (n id : ℕ) (fs : List ClosureFrame) (r : Resolved) : Type 0 where
    pub good : Good r.frames
    pub stacked : Stacked n r.frames
    pub grew : Grown fs r.frames
    pub reads : seen (view_of r.frames) r.slot ≡ some (label_at id)
    pub small : slot_number r.slot < 65536

  pub missed : (f : ClosureFrame) (id : ℕ) → holds f id ≡ false → id < f.first_local + f.n_locals → id < f.first_local
  unfolding holds
  missed f id e h = by (leb f.first_local id) refl (ltb id (f.first_local + f.n_locals)) refl
    where
      by : (a : Bool) → leb f.first_local id ≡ a → (b : Bool) → ltb id (f.first_local + f.n_locals) ≡ b → id < f.first_local
      by false d b d₁ = leb-false _ _ d
      by true d true d₁ = absurd (false≢true (sym e ∙ ap₂ ◌&&◌ d d₁))
      by true d false d₁ = absurd (false≢true (sym d₁ ∙ lt-ltb _ _ h))

  -- a local that the nearest defining frame doesn't hold is one of those beneath
  below_home : (n id : ℕ) (f : ClosureFrame) (fs : List ClosureFrame) → f.first_local ≡ n → (f.is_defining ≡ false → f.n_locals ≡ 0)
      → holds (defining (f ∷ fs)) id ≡ false → id < n + f.n_locals → id < n
  unfolding defining choose holds
  below_home n id f fs first empty e h = by f.is_defining refl
    where
      by : (b : Bool) → f.is_defining ≡ b → id < n
      by true d = let le : id < f.first_local + f.n_locals = omega (arith, first, h) in omega (arith, missed f id (rw (d, defining, choose) at e) le, first)
      by false d = omega (arith, empty d, h)

  pub resolve_right : (most p above id n : ℕ) (fs : List ClosureFrame) → Good fs → Stacked n fs → n ≤ length labels → id < n → After (Right n id fs) (resolve_at most p above id fs)
  unfolding resolve_at with_capture top slot_number slot_in
  resolve_right most p above id n [] g bottom le h = absurd (omega arith)
  resolve_right most p above id _ (f ∷ fs) (one_more sourced g) (on_top {n = n} s first empty few caps) le h =
      after_choose _ _ _
      (λ e. (let r = held_read (defining (f ∷ fs)) id e (omega (arith, (home_within (on_top {f = f} s first empty few caps)).0)) in
      fine (record {
        good = one_more sourced g;
        stacked = on_top {f = f} s first empty few caps;
        grew = grown_refl (f ∷ fs);
        reads = r.1;
        small = omega (arith, r.0, (home_within (on_top {f = f} s first empty few caps)).1);
      })))
      λ e. after_given _ _ _
      (λ _. after_bind _ (resolve_right most p (above + length f.captures) id n fs g s (omega arith) (below_home n id f fs first empty e h)) λ r q.
      after_need _ 12 p _ λ few_enough. after_need _ 8 p _ λ _. fine (record {
        good = one_more (sourced_snoc f.captures (record { target = id; source = r.slot }) (sourced_later (grown_later q.grew) sourced) q.reads q.small (omega (arith, first, below_home n id f fs first empty e h))) q.good;
        stacked = on_top {f = with_capture id r.slot f} q.stacked first empty few (omega (arith, length-append f.captures (record { target = id; source = r.slot } ∷ []), ltb-true (length f.captures) 65536 few_enough));
        grew = grown (record { target = id; source = r.slot } ∷ []) q.grew;
        reads = new_read f.captures (record { target = id; source = r.slot });
        small = ltb-true (length f.captures) 65536 few_enough;
      }))
      (λ k e₁. (let r = old_read f.captures id k e₁ in fine (record {
        good = one_more sourced g;
        stacked = on_top {f = f} s first empty few caps;
        grew = grown_refl (f ∷ fs);
        reads = r.1;
        small = omega (arith, r.0, caps);
      })))

  -- the shape that is written when a frame closes opens, over the frame beneath, just what was captured
  pub shape_opens : {n : ℕ} {v : View} {cs : List Capture} → Sourced n v cs → sources v (pairs_of cs) ≡ some (taken_of cs)
  unfolding sources pairs_of pair_of source Decode.◌>>=◌
  shape_opens no_more = refl
  shape_opens {v = v} (also {c = c} {cs = cs} e small lt r) = by c.source e (shape_opens r)
    where
      by : (s : LSlot) → seen v s ≡ some (label_at c.target) → sources v (pairs_of cs) ≡ some (taken_of cs) → sources v (pair_of s ++ pairs_of cs) ≡ some (label_at c.target ∷ taken_of cs)
      by (local_slot n) e h = rw (e, h)
      by (capture_slot n) e h = rw (e, h)
