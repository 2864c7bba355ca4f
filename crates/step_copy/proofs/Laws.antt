-- Bytes of the tree copied after what was written: a record's are its own spelling, and a constant's value that of its number. Assumes nothing.
use Prim.Native.Nat.{ℕ, zero, suc, ◌+◌, ◌*◌, ◌-◌, ◌≤◌, ◌<◌}
use mathlib.Core.Bool.{true, false}
use mathlib.Core.List.{List, [], ◌∷◌, ◌++◌, append_assoc}
use mathlib.Core.Path.{◌≡◌, refl, sym, ap, ◌∙◌}
use native.Mathlib.Numerals.{add-one}
use native.Mathlib.Omega.{arith}
use borrow.Author.Tests.{leb-true, leb-false}
use lib.ListN.{length, get_or, take, drop, length-append, length-drop}
use lib.Seq.{drop-drop, take-add, take_at, length-take-le, sets, sets-eq, length-sets}
use lib.Dec.{leb}
use borrow.Rule.Slice.PartMut.{put_mid}
use Rattle.std.specs.List.{between}
use Rattle.std.proofs.lemmas.Slice.{put_mid-paste}
use Rattle.std.proofs.lemmas.List.Edits.{paste_all}
use Rattle.rules.specs.Outcome.{◌>>=◌}
use Rattle.rules.specs.Numbers.{Mark, AC, code, code_at, mark_bytes, number_at, numbers_at, number_bytes, numbers_bytes, record_bytes}
use Rattle.rules.specs.Records.{numbers_of, size_of}
use Rattle.rules.specs.Range.{Bytes}
use Rattle.rules.specs.State as rules
use Rattle.rules.specs.Writing as writing
use Rattle.rules.proofs.Lists.{Piece, piece_then}
use Rattle.rules.proofs.Spelling.{numbers_spelled, mark_spelled}
use Rattle.bytes_write.specs.Put.{put, Put}
use Rattle.std.specs.Prelude.{Option, Some, None}
use Rattle.bytes_write.proofs.Laws.{sets_append, length_numbers_bytes, numbers_bytes_snoc}
use Rattle.bytes_records.specs.Marks.{mark_of}
use Rattle.law_runs.specs.Steps.{and_place, values_from, copied, constants_steps}
use Rattle.state.specs.Seen.{buffers, stack, Fit}
use Rattle.state.specs.Walks.{Walks}
use Rattle.state.specs.declared.AnalysisStack.{AnalysisStack}
use Rattle.state.specs.declared.Limits.{Limits}
use Rattle.state.proofs.Changing.{out_to}
use Rattle.state.proofs.Fitting.{fit_beside}
use Rattle.step_write.specs.Answers.{Behind}
use Rattle.step_write.proofs.Laws.{put_behind, emit_wrote, emit_full, behind_more}
use Rattle.step_copy.specs.Answers.{RecordCopied, ConstantsEmitted}
use Rattle.std.specs.Prelude.{Ok, Err}
use Rattle.refusal.specs.Meaning.{refuses}
use Rattle.refusal.specs.declared.Reason.TheVariants as reason

-- a part of one list that was copied from another
pub part_copied : (l s part : List ℕ) (to from n : ℕ) → part ≡ between from (from + n) s → to + n ≤ length l → from + n ≤ length s
    → put_mid to (to + n - to) l part ≡ sets l to (take n (drop from s))
part_copied l s part to from n is room there =
    let bytes = take n (drop from s) in
    let long : length bytes ≡ n = length-take-le n (drop from s) (omega (arith, length-drop from s)) in
    let same : part ≡ bytes = is ∙ ap (λ (k : ℕ). take k (drop from s)) (omega arith) in
    put_mid-paste to (to + n - to) l part bytes (length bytes) same (omega (arith, long)) refl
    ∙ paste_all l to bytes (length bytes) refl
    ∙ sym (sets-eq bytes l to (omega (arith, long)) ∙ append_assoc (take to l) bytes (drop (to + length bytes) l))

-- so many bytes more are copied
pub bytes_more : (l : List ℕ) (used : ℕ) (s : List ℕ) (at i n : ℕ) → at + i ≤ length s
    → sets (sets l used (take i (drop at s))) (used + i) (take n (drop (at + i) s)) ≡ sets l used (take (i + n) (drop at s))
bytes_more l used s at i n within =
    let long : length (take i (drop at s)) ≡ i = length-take-le i (drop at s) (omega (arith, length-drop at s)) in
    let behind : used + i ≡ used + length (take i (drop at s)) = omega (arith, long) in
    ap (λ (k : ℕ). sets (sets l used (take i (drop at s))) k (take n (drop (at + i) s))) behind
    ∙ sets_append l used (take i (drop at s)) (take n (drop (at + i) s))
    ∙ ap (λ (bs : List ℕ). sets l used bs) (ap (λ (rest : List ℕ). take i (drop at s) ++ take n rest) (sym (drop-drop i at s)) ∙ sym (take-add i n (drop at s)))

-- a number more is copied
pub number_more : (l : List ℕ) (used : ℕ) (s : List ℕ) (at i : ℕ) → at + (2 + 4 * i) ≤ length s
    → sets (sets l used (take (2 + 4 * i) (drop at s))) (used + (2 + 4 * i)) (take 4 (drop (at + (2 + 4 * i)) s)) ≡ sets l used (take (2 + 4 * (i + 1)) (drop at s))
number_more l used s at i within =
    let e : 2 + 4 * i + 4 ≡ 2 + 4 * (i + 1) = omega arith in
    bytes_more l used s at (2 + 4 * i) 4 within ∙ ap (λ (k : ℕ). sets l used (take k (drop at s))) e

-- What they spell

-- a list of bytes, by what is known of each
bytes_all : (s : List ℕ) → ((i : ℕ) → get_or s i 0 < 256) → Bytes s
unfolding Bytes
bytes_all [] h = tt
bytes_all (b ∷ bs) h = (h 0, bytes_all bs (λ i. h (suc i)))

piece_taken : {s : List ℕ} {p q : ℕ} (n : ℕ) (xs : List ℕ) → Piece s p xs q → length xs ≡ n → take n (drop p s) ≡ xs
piece_taken {s = s} {q = q} n xs piece long = ap (take n) piece.split ∙ take_at xs (drop q s) n long

module _ (s : List ℕ) (small : (i : ℕ) → get_or s i 0 < 256) where
  -- a record of the tree is its mark and its numbers
  record_there : (m : Mark) (p : ℕ) → p + size_of m ≤ length s → code_at s p ≡ code m → take (size_of m) (drop p s) ≡ record_bytes m (numbers_at s (numbers_of m) (p + 2))
  unfolding record_bytes size_of
  record_there m p within marked =
      let q = p + 2 + 4 * numbers_of m in
      let piece = piece_then (mark_spelled s (bytes_all s small) p m (omega arith) marked) (numbers_spelled s (bytes_all s small) (numbers_of m) (p + 2) q refl (omega arith)) in
      piece_taken (2 + 4 * numbers_of m) (mark_bytes m ++ numbers_bytes (numbers_at s (numbers_of m) (p + 2))) piece (omega (arith, piece.ends))

  -- four bytes are their number's
  number_there : (p : ℕ) → p + 4 ≤ length s → take 4 (drop p s) ≡ number_bytes (number_at s p)
  unfolding numbers_bytes numbers_at number_bytes
  number_there p within =
      let piece = numbers_spelled s (bytes_all s small) 1 p (p + 4) refl within in
      piece_taken 4 (number_bytes (number_at s p)) piece refl

-- The values of constants

length_values : (s : List ℕ) (n p : ℕ) → length (values_from s n p) ≡ n
unfolding values_from
length_values s zero p = refl
length_values s (suc n) p = ap suc (length_values s n (p + 6))

values_snoc : (s : List ℕ) (i p : ℕ) → values_from s (suc i) p ≡ values_from s i p ++ (number_at s (p + 6 * i + 2) ∷ [])
unfolding values_from
values_snoc s zero p = let e : p + 2 ≡ p + 6 * 0 + 2 = omega arith in ap (λ (k : ℕ). number_at s k ∷ []) e
values_snoc s (suc i) p =
    let e : p + 6 + 6 * i + 2 ≡ p + 6 * suc i + 2 = omega arith in
    ap (λ (ns : List ℕ). number_at s (p + 2) ∷ ns) (values_snoc s i (p + 6) ∙ ap (λ (k : ℕ). values_from s i (p + 6) ++ (number_at s k ∷ [])) e)

-- one value more is copied
pub value_more : (l : List ℕ) (used : ℕ) (s : List ℕ) → ((i : ℕ) → get_or s i 0 < 256) → (at i n : ℕ) → i < n → at + 6 * n ≤ length s
    → sets (sets l used (numbers_bytes (values_from s i at))) (used + 4 * i) (take 4 (drop (at + 6 * i + 2) s)) ≡ sets l used (numbers_bytes (values_from s (i + 1) at))
value_more l used s small at i n more within =
    let vs = numbers_bytes (values_from s i at) in
    let e : used + 4 * i ≡ used + length vs = omega (arith, length_numbers_bytes (values_from s i at), length_values s i at) in
    ap (λ (bs : List ℕ). sets (sets l used vs) (used + 4 * i) bs) (number_there s small (at + 6 * i + 2) (omega arith))
    ∙ ap (λ (k : ℕ). sets (sets l used vs) k (number_bytes (number_at s (at + 6 * i + 2)))) e
    ∙ sets_append l used vs (number_bytes (number_at s (at + 6 * i + 2)))
    ∙ ap (λ (bs : List ℕ). sets l used bs) (sym (numbers_bytes_snoc (values_from s i at) (number_at s (at + 6 * i + 2))))
    ∙ ap (λ (ns : List ℕ). sets l used (numbers_bytes ns)) (sym (values_snoc s i at) ∙ ap (λ (k : ℕ). values_from s k at) (sym (add-one i)))

-- Bytes that stand after what was written

stored_behind : (before after : List ℕ) (used next : ℕ) (bytes : List ℕ) → after ≡ sets before used bytes → next ≡ used + length bytes → next ≤ length before
    → Behind (Some next) before after used bytes
unfolding put
stored_behind before after used next bytes stored is within =
    put_behind (Some next) before after used bytes (is, within, stored ∙ sets-eq bytes before used (omega arith))

-- and as a walk to the place after the record
module _ (out : List ℕ) (st : AnalysisStack) (place behind : ℕ) (bytes ns : List ℕ) (m : Mark) (spelt : bytes ≡ record_bytes m ns)
    (l : Limits) (ds ls fs cs rs : List ℕ) (fit : Fit l (buffers out ds ls fs cs rs) st) where
  wrote_walks : (out' : List ℕ) (next : ℕ) → length out' ≡ length out → Behind (Some next) out out' st.out bytes
      → Walks (Ok ((out_to next st), behind)) l (buffers out ds ls fs cs rs) (buffers out' ds ls fs cs rs) st (λ limits s. and_place behind (writing.emit limits place m ns s))
  unfolding and_place ◌>>=◌
  wrote_walks out' next long wrote = record {
    same = λ limits is.
        ap (and_place behind) (emit_wrote out out' st place bytes ns m spelt l ds ls fs cs rs next wrote
        ∙ ap (λ (L : rules.Limits). writing.emit L place m ns (stack (buffers out ds ls fs cs rs) st)) (sym is));
    fit = fit_beside fit (omega (arith, wrote.1)) fit.diagnostics_long;
  }

  full_walks : length out < st.out + length bytes
      → Walks (Err (refuses reason.OutputFull place)) l (buffers out ds ls fs cs rs) (buffers out ds ls fs cs rs) st (λ limits s. and_place behind (writing.emit limits place m ns s))
  unfolding and_place ◌>>=◌
  full_walks full = record {
    same = λ limits is.
        ap (and_place behind) (emit_full out out st place bytes ns m spelt l ds ls fs cs rs full
        ∙ ap (λ (L : rules.Limits). writing.emit L place m ns (stack (buffers out ds ls fs cs rs) st)) (sym is));
    fit = tt;
  }

-- A record of the tree

module _ (tree out : List ℕ) (st : AnalysisStack) (at next mark size : ℕ) (small : (i : ℕ) → get_or tree i 0 < 256)
    (sized : size ≡ size_of (mark_of mark)) (within : at + size_of (mark_of mark) ≤ length tree) (marked : code_at tree at ≡ code (mark_of mark)) where
  abbrev m : Mark
  m = mark_of mark

  abbrev bytes : List ℕ
  bytes = take size (drop at tree)

  spelt : bytes ≡ record_bytes m (numbers_at tree (numbers_of m) (at + 2))
  spelt = ap (λ (k : ℕ). take k (drop at tree)) sized ∙ record_there tree small m at within marked

  long_bytes : length bytes ≡ size
  long_bytes = length-take-le size (drop at tree) (omega (arith, length-drop at tree))

  pub record_copied : (out' : List ℕ) → out' ≡ sets out st.out bytes → leb (st.out + size) (length out) ≡ true
      → RecordCopied (Ok ((out_to (st.out + size) st), next)) tree out out' st at next mark
  unfolding copied
  record_copied out' stored room = record {
    walks = λ l ds ls fs cs rs fit.
        wrote_walks out st at next bytes (numbers_at tree (numbers_of m) (at + 2)) m spelt l ds ls fs cs rs fit out' (st.out + size)
        (ap length stored ∙ length-sets out st.out bytes)
        (stored_behind out out' st.out (st.out + size) bytes stored (omega (arith, long_bytes)) (leb-true _ _ room));
  }

  pub record_refused : leb (st.out + size) (length out) ≡ false → RecordCopied (Err (refuses reason.OutputFull at)) tree out out st at next mark
  unfolding copied
  record_refused none = record {
    walks = λ l ds ls fs cs rs fit.
        full_walks out st at next bytes (numbers_at tree (numbers_of m) (at + 2)) m spelt l ds ls fs cs rs fit
        (omega (arith, long_bytes, leb-false (st.out + size) (length out) none));
  }

-- An array of constants

-- where there is room, it is put
put_there : (r : Option ℕ) (before after : List ℕ) (used : ℕ) (bytes : List ℕ) → Put r before after used bytes → used + length bytes ≤ length before → after ≡ put before used bytes
put_there (Some next) before after used bytes p room = p.2
put_there None before after used bytes p room = absurd (omega (arith, p.0))

module _ (tree out : List ℕ) (st : AnalysisStack) (at n size : ℕ) (sized : size ≡ 6 + 4 * n) where
  abbrev values : List ℕ
  values = values_from tree n (at + 6)

  abbrev head : List ℕ
  head = 0x41 ∷ 0x43 ∷ numbers_bytes (n ∷ [])

  whole_spelt : head ++ numbers_bytes values ≡ record_bytes AC (n ∷ values)
  unfolding record_bytes mark_bytes code numbers_bytes number_bytes
  whole_spelt = refl

  long_head : length head ≡ 6
  unfolding numbers_bytes number_bytes
  long_head = refl

  long_values : length (numbers_bytes values) ≡ 4 * n
  long_values = omega (arith, length_numbers_bytes values, length_values tree n (at + 6))

  pub constants_emitted : (r : Option ℕ) (middle out' : List ℕ) → Put r out middle st.out head → length middle ≡ length out → length out' ≡ length middle
      → out' ≡ sets middle (st.out + 6) (numbers_bytes values) → leb (st.out + size) (length out) ≡ true
      → ConstantsEmitted (Ok ((out_to (st.out + size) st), (at + 6 + 6 * n))) tree out out' st at n
  unfolding constants_steps
  constants_emitted r middle out' was_put long long' stored room =
      let within : st.out + size ≤ length out = leb-true _ _ room in
      let put_head = put_there r out middle st.out head was_put (omega (arith, long_head)) in
      let first = put_behind (Some (st.out + 6)) out middle st.out head (omega (arith, long_head), omega arith, put_head) in
      let rest = stored_behind middle out' (st.out + 6) (st.out + size) (numbers_bytes values) stored (omega (arith, long_values)) (omega arith) in
      record {
        walks = λ l ds ls fs cs rs fit.
            wrote_walks out st at (at + 6 + 6 * n) (head ++ numbers_bytes values) (n ∷ values) AC whole_spelt l ds ls fs cs rs fit out' (st.out + size) (long' ∙ long)
            (behind_more (Some (st.out + size)) out middle out' st.out (st.out + 6) head (numbers_bytes values) long first rest);
      }

  pub constants_refused : leb (st.out + size) (length out) ≡ false → ConstantsEmitted (Err (refuses reason.OutputFull at)) tree out out st at n
  unfolding constants_steps
  constants_refused none = record {
    walks = λ l ds ls fs cs rs fit.
        full_walks out st at (at + 6 + 6 * n) (head ++ numbers_bytes values) (n ∷ values) AC whole_spelt l ds ls fs cs rs fit
        (omega (arith, length-append head (numbers_bytes values), long_head, long_values, leb-false (st.out + size) (length out) none));
  }
