-- Laws of a table as rows of sixteen numbers, and of one in which an entry was stored. Assumes nothing.
use mathlib.Core.Path.{◌≡◌, refl, sym, ap, ◌∙◌}
use mathlib.Core.List.{List, [], ◌∷◌, ◌++◌, map, map-append}
use Prim.Native.Nat.{ℕ, zero, suc, ◌+◌, ◌*◌, ◌≤◌, ◌<◌}
use mathlib.Core.Logic.{◌⊎◌, inl, inr}
use native.Mathlib.Omega.{arith}
use native.Mathlib.Decide.{dec_lt, ℕ_discrete}
use native.Mathlib.Numerals.{add-one}
use lib.ListN.{length, take, drop, get_or, set, length-append, length-drop, length-map, length-set, get_or-append, get_or-map}
use lib.Seq.{take-set-lt, drop-set-add, length-take-le, get_or-take, get_or-drop, get_or_at, get_or-set_same, get_or-set_other, ext_get_or}
use borrow.Rule.Slice.PartMut.{put_mid}
use Rattle.std.proofs.lemmas.List.{same_lists, places, map-set, get_or_default}
use Rattle.table_rows.specs.Rows.{row, rows, Put}

pub length_rows : (n : ℕ) (t : List ℕ) → length (rows n t) ≡ n
unfolding rows
length_rows zero t = refl
length_rows (suc n) t = length-append (rows n t) (row n t ∷ []) ∙ omega (arith, length_rows n t)

rows_at : (n k : ℕ) (t : List ℕ) → k < n → get_or (rows n t) k [] ≡ row k t
unfolding rows
rows_at zero k t h = absurd (omega arith)
rows_at (suc n) k t h = by (dec_lt k n) (rows_at n k t)
  where
    by : Dec (k < n) → (k < n → get_or (rows n t) k [] ≡ row k t) → get_or (rows n t ++ (row n t ∷ [])) k [] ≡ row k t
    by (yes lt) ih = let l : k < length (rows n t) = omega (arith, length_rows n t) in get_or-append (rows n t) (row n t ∷ []) [] k l ∙ ih lt
    by (no ge) ih = let e : k ≡ n = omega arith in rw e (get_or_at (rows n t) (row n t) [] [] n (length_rows n t))

-- a number of an entry
pub row_at : (k j : ℕ) (t : List ℕ) → j < 16 → get_or (row k t) j 0 ≡ get_or t (16 * k + j) 0
unfolding row
row_at k j t h = get_or-take 16 (drop (16 * k) t) j 0 h ∙ get_or-drop (16 * k) t j 0

-- a store into an entry is one into its row
pub row_set : (k j v : ℕ) (t : List ℕ) → j < 16 → row k (set t (16 * k + j) v) ≡ set (row k t) j v
unfolding row
row_set k j v t h = ap (λ (l : List ℕ). take 16 l) (drop-set-add (16 * k) t j v) ∙ take-set-lt 16 (drop (16 * k) t) j v h

-- rows are the same where their numbers are
same_rows : (k w : ℕ) (t u : List ℕ) → length u ≡ length t → ((j d : ℕ) → j < w → get_or u (16 * k + j) d ≡ get_or t (16 * k + j) d) → take w (drop (16 * k) u) ≡ take w (drop (16 * k) t)
same_rows k w t u size same = same_lists _ _ (grind (arith, places)) (λ j d h. grind (arith, places, same))

-- and leaves every other row
pub row_beside : (i k j v : ℕ) (t : List ℕ) → j < 16 → (i ≡ k → ⊥) → row i (set t (16 * k + j) v) ≡ row i t
unfolding row
row_beside i k j v t h differs = same_rows i 16 t _ (length-set t (16 * k + j) v) (λ m d below. get_or-set_other t (16 * k + j) (16 * i + m) v d (λ e. omega arith))

pub length_row : (k : ℕ) (t : List ℕ) → 16 * k + 16 ≤ length t → length (row k t) ≡ 16
unfolding row
length_row k t inside = length-take-le 16 (drop (16 * k) t) (omega (arith, length-drop (16 * k) t))

-- Other numbers in the place of an entry's first n

module _ (i n : ℕ) (t a : List ℕ) (few : n ≤ 16) (inside : 16 * i + n ≤ length t) (size : length a ≡ n) where
  pub length_after : length (put_mid (16 * i) n t a) ≡ length t
  length_after = grind (arith, places)

  pub here_after : (j : ℕ) → j < n → get_or (put_mid (16 * i) n t a) (16 * i + j) 0 ≡ get_or a j 0
  here_after j h = grind (arith, places)

  number_beside : (m d : ℕ) → (m < 16 * i) ⊎ (16 * i + n ≤ m) → get_or (put_mid (16 * i) n t a) m d ≡ get_or t m d
  number_beside m d (inl h) = grind (arith, places)
  number_beside m d (inr h) = grind (arith, places)

  pub others_after : (k : ℕ) → (k ≡ i → ⊥) → row k (put_mid (16 * i) n t a) ≡ row k t
  unfolding row
  others_after k differs = same_rows k 16 t _ length_after (λ j d h. number_beside (16 * k + j) d (apart j h (dec_lt k i)))
    where
      apart : (j : ℕ) → j < 16 → Dec (k < i) → (16 * k + j < 16 * i) ⊎ (16 * i + n ≤ 16 * k + j)
      apart j h (yes before) = inl (omega arith)
      apart j h (no behind) = inr (omega arith)

-- What rows mean

-- the first n entries are as they were where each of them is
rows_kept : (n : ℕ) (t u : List ℕ) → ((i : ℕ) → i < n → row i u ≡ row i t) → rows n u ≡ rows n t
unfolding rows
rows_kept zero t u same = refl
rows_kept (suc n) t u same =
    let fewer : rows n u ≡ rows n t = rows_kept n t u (λ i h. same i (omega arith)) in
    let last : row n u ≡ row n t = same n (omega arith) in
    rw (fewer, last)

module _ {A : Type 0} (entry : List ℕ → A) where
  pub length_entries : (n : ℕ) (t : List ℕ) → length (map entry (rows n t)) ≡ n
  length_entries n t = length-map (rows n t) entry ∙ length_rows n t

  pub entries_at : (n k : ℕ) (t : List ℕ) (default : A) → k < n → get_or (map entry (rows n t)) k default ≡ entry (row k t)
  entries_at n k t default h =
      let inside : k < length (map entry (rows n t)) = omega (arith, length_entries n t) in
      get_or_default (map entry (rows n t)) k default (entry []) inside ∙ get_or-map entry (rows n t) k [] ∙ ap entry (rows_at n k t h)

  pub one_more_entry : (n : ℕ) (t : List ℕ) → map entry (rows (suc n) t) ≡ map entry (rows n t) ++ (entry (row n t) ∷ [])
  unfolding rows
  one_more_entry n t = map-append entry (rows n t) (row n t ∷ [])

  -- A table in which one entry was stored

  module _ (entries : ℕ → List ℕ → List A) (mean : (n : ℕ) (t : List ℕ) → entries n t ≡ map entry (rows n t)) (k : ℕ) (t u : List ℕ) where
    module _ (others : (i : ℕ) → (i ≡ k → ⊥) → row i u ≡ row i t) where
      rows_stored : (n : ℕ) → k < n → rows n u ≡ set (rows n t) k (row k u)
      rows_stored n h = ext_get_or [] (rows n u) (set (rows n t) k (row k u)) (simp (length-set, length_rows)) (λ i below. by i (omega (arith, length_rows n u)) (ℕ_discrete i k))
        where
          by : (i : ℕ) → i < n → Dec (i ≡ k) → get_or (rows n u) i [] ≡ get_or (set (rows n t) k (row k u)) i []
          by i below (yes e) =
              let inside : k < length (rows n t) = omega (arith, length_rows n t) in
              rw e (rows_at n k u h ∙ sym (get_or-set_same (rows n t) k (row k u) [] inside))
          by i below (no differs) = rows_at n i u below ∙ others i differs ∙ sym (rows_at n i t below) ∙ sym (get_or-set_other (rows n t) k i (row k u) [] differs)

      pub put_stored : (a : A) → length u ≡ length t → entry (row k u) ≡ a → Put entries t u k a
      put_stored a size here = record {
        size = size;
        held = λ n h. mean n u ∙ ap (map entry) (rows_stored n h) ∙ map-set entry (rows n t) k (row k u) ∙ rw (here, mean n t);
        below = λ n h. mean n u ∙ ap (map entry) (rows_kept n t u (λ i lt. others i (λ e. omega arith))) ∙ sym (mean n t);
        others = others;
      }

    module _ (a : A) (put : Put entries t u k a) where
      pub put_here : entry (row k u) ≡ a
      put_here =
          let inside : k < length (entries (suc k) t) = omega (arith, ap length (mean (suc k) t), length_entries (suc k) t) in
          sym (entries_at (suc k) k u a (omega arith))
          ∙ ap (λ (l : List A). get_or l k a) (sym (mean (suc k) u) ∙ put.held (suc k) (omega arith))
          ∙ get_or-set_same (entries (suc k) t) k a a inside

      -- stored after the first k
      pub put_behind : entries (k + 1) u ≡ entries k t ++ (a ∷ [])
      put_behind = rw (add-one k, mean (suc k) u, one_more_entry k u, put_here, sym (mean k u), put.below k (omega arith))
