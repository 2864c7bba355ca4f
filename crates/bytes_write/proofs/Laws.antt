-- Laws of runs of bytes and of other items written. Assumes nothing.
use Prim.Native.Nat.{ℕ, suc, ◌+◌, ◌*◌, ◌-◌, ◌≤◌, ◌<◌}
use mathlib.Core.List.{List, [], ◌∷◌, ◌++◌, append-nil, append_assoc}
use mathlib.Core.Path.{◌≡◌, refl, sym, ap, ◌∙◌}
use native.Mathlib.Nat.{add-zero}
use native.Mathlib.Numerals.{add-one, towards_suc}
use native.Mathlib.Omega.{arith}
use lib.ListN.{length, get_or, take, set, replicate}
use lib.Seq.{take-suc, length-take-le, sets, sets-eq, paste}
use Rattle.std.proofs.lemmas.List.Edits.{fill_from_more}
use Rattle.bytes_write.specs.Put.{put}
use Rattle.rules.specs.Numbers.{number_bytes, numbers_bytes}

-- Stores one after another

pub sets_append : (l : List ℕ) (i : ℕ) (vs ws : List ℕ) → sets (sets l i vs) (i + length vs) ws ≡ sets l i (vs ++ ws)
sets_append l i [] ws = ap (λ k. sets l k ws) (add-zero i)
sets_append l i (v ∷ vs) ws =
    let e : i + suc (length vs) ≡ suc i + length vs = omega arith in
    ap (λ k. sets (sets (set l i v) (suc i) vs) k ws) e ∙ sets_append (set l i v) (suc i) vs ws

-- Numbers in bytes

pub length_numbers_bytes : (ns : List ℕ) → length (numbers_bytes ns) ≡ 4 * length ns
unfolding numbers_bytes number_bytes
length_numbers_bytes [] = refl
length_numbers_bytes (n ∷ ns) = omega (arith, length_numbers_bytes ns)

pub numbers_bytes_snoc : (ns : List ℕ) (n : ℕ) → numbers_bytes (ns ++ (n ∷ [])) ≡ numbers_bytes ns ++ number_bytes n
unfolding numbers_bytes
numbers_bytes_snoc [] n = append-nil (number_bytes n)
numbers_bytes_snoc (m ∷ ns) n = ap (λ l. number_bytes m ++ l) (numbers_bytes_snoc ns n) ∙ sym (append_assoc (number_bytes m) (numbers_bytes ns) (number_bytes n))

-- one number more is stored
pub numbers_more : (l : List ℕ) (at : ℕ) (ns : List ℕ) (i : ℕ) → i < length ns
    → sets (sets l at (numbers_bytes (take i ns))) (at + 4 * i) (number_bytes (get_or ns i 0)) ≡ sets l at (numbers_bytes (take (i + 1) ns))
numbers_more l at ns i h =
    let le : i ≤ length ns = omega arith in
    let e : at + 4 * i ≡ at + length (numbers_bytes (take i ns)) = omega (arith, length_numbers_bytes (take i ns), length-take-le i ns le) in
    ap (λ k. sets (sets l at (numbers_bytes (take i ns))) k (number_bytes (get_or ns i 0))) e
    ∙ sets_append l at (numbers_bytes (take i ns)) (number_bytes (get_or ns i 0))
    ∙ ap (λ bs. sets l at bs) (sym (numbers_bytes_snoc (take i ns) (get_or ns i 0)) ∙ ap numbers_bytes (sym (take-suc ns i 0 h) ∙ ap (λ k. take k ns) (sym (add-one i))))

-- A value from a place on

-- one place more holds it
pub filled_more : {X : Type 0} (l : List X) (from i : ℕ) (y : X) → from ≤ i → i < length l
    → set (paste l from (replicate (i - from) y) (i - from)) i y ≡ paste l from (replicate (i + 1 - from) y) (i + 1 - from)
filled_more l from i y le lt =
    let here : i ≡ from + (i - from) = omega arith in
    let more : i - from + 1 ≡ i + 1 - from = omega arith in
    ap (λ k. set (paste l from (replicate (i - from) y) (i - from)) k y) here
    ∙ fill_from_more l from (i - from) y (omega arith)
    ∙ ap (λ n. paste l from (replicate n y) n) more

-- Records

-- a mark's two bytes and then the numbers' are put after what was used
pub put_stored : (l : List ℕ) (used a b : ℕ) (ns : List ℕ) → used + length (a ∷ b ∷ numbers_bytes ns) ≤ length l
    → sets (set (set l used a) (used + 1) b) (used + 2) (numbers_bytes ns) ≡ put l used (a ∷ b ∷ numbers_bytes ns)
unfolding put
put_stored l used a b ns h = simp towards_suc (sets-eq (a ∷ b ∷ numbers_bytes ns) l used h)
