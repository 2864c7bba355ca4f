-- The first of several heads that were read: what it says, and that the others were read after it. Assumes nothing.
use Prim.Native.Nat.{ℕ, suc, ◌+◌, ◌≤◌}
use mathlib.Core.Bool.{true, false}
use mathlib.Core.List.{List, ◌∷◌}
use mathlib.Core.Path.{◌≡◌, refl, sym, ap, ◌∙◌}
use native.Mathlib.Omega.{arith}
use lib.ListN.{length, get_or}
use Rattle.rules.specs.Outcome.{ok, choose}
use Rattle.rules.specs.Numbers.{Mark, FH, numbers_at, number_at}
use Rattle.rules.specs.Records.{size_of, numbers_of, fields, widths, width}
use Rattle.rules.specs.Tree.{Heads, no_heads}
use Rattle.rules.specs.FirstWalk.{any_expression, only, Read, nth, many, none_left, head_item, head_of, expr_at}
use Rattle.rules.specs.Walk.{is_static, is_among}
use Rattle.rules.proofs.After.{After, fine, after_ok, after_bind, after_choose, after_self}
use Rattle.rules.proofs.Outcomes.{same_ok}
use Rattle.bytes_skip.proofs.Reading.{Was, record_was, only_mark}
use Rattle.law_runs.specs.Run.{heads_at}
use Rattle.law_runs.proofs.Binding.{many_split}
use Rattle.rules.proofs.Flags.{zero_of, not_zero_of}

module _ (s : List ℕ) (levels : ℕ) where
  record HeadRead (p : ℕ) (i : (Heads → Heads) × ℕ) : Type 0 where
    fits : p + 26 ≤ length s
    stops : (number_at s (p + 2) ≡ 0 → ⊥) → (seen : List ℕ) (hs : Heads) → is_static seen (i.0 hs) ≡ false
    next : number_at s (p + 2) ≡ 0 → i.1 ≡ p + 26
    goes : number_at s (p + 2) ≡ 0 → (seen : List ℕ) (hs : Heads)
        → is_static seen (i.0 hs) ≡ choose (is_among (number_at s (p + 6)) seen) (λ _. false) (λ _. is_static (number_at s (p + 6) ∷ seen) hs)

  record HeadSays (p : ℕ) (r : Read (Unit {0})) : Type 0 where
    fits : p + 26 ≤ length s
    next : r.next ≡ p + 26
    kind : nth r 0 ≡ number_at s (p + 2)
    name : (head_of r).name ≡ number_at s (p + 6)

  head_says : (p : ℕ) (r : Read (Unit {0})) → Was s (only FH) p r → HeadSays p r
  unfolding size_of numbers_of widths width fields numbers_at nth head_of
  head_says p r was =
      let m = only_mark s FH was in
      let e = was.numbers ∙ ap (λ (m : Mark). numbers_at s (numbers_of m) (p + 2)) m in
      let six : p + 2 + 4 ≡ p + 6 = omega arith in
      record {
        fits = (rw m at was.fits);
        next = was.next ∙ ap (λ (m : Mark). p + size_of m) m;
        kind = ap (λ (ns : List ℕ). get_or ns 0 0) e;
        name = ap (λ (ns : List ℕ). get_or ns 1 0) e ∙ ap (λ (k : ℕ). number_at s k) six;
      }

  head_read : (p : ℕ) → After (HeadRead p) (head_item s (expr_at s levels) p)
  unfolding head_item is_static
  head_read p = after_bind _ (record_was s (only FH) p) λ r was.
      let says = head_says p r was in
      after_choose _ _ _
      (λ t. after_bind _ (after_self (expr_at s levels any_expression r.next)) λ a e.
      fine (record {
        fits = says.fits;
        stops = λ nz seen hs. refl;
        next = λ z. absurd (not_zero_of _ t (says.kind ∙ z));
        goes = λ z seen hs. absurd (not_zero_of _ t (says.kind ∙ z));
      }))
      (λ t. fine (record {
        fits = says.fits;
        stops = λ nz seen hs. absurd (nz (sym says.kind ∙ zero_of _ t));
        next = λ z. says.next;
        goes = λ z seen hs. rw says.name;
      }))

  -- the first of several heads
  pub record FirstHead (n p : ℕ) (hs : Heads) (q : ℕ) : Type 0 where
    pub others : Heads
    pub fits : p + 26 ≤ length s
    pub stops : (number_at s (p + 2) ≡ 0 → ⊥) → (seen : List ℕ) → is_static seen hs ≡ false
    pub read : number_at s (p + 2) ≡ 0 → heads_at s levels n (p + 26) ≡ ok (others, q)
    pub goes : number_at s (p + 2) ≡ 0 → (seen : List ℕ)
        → is_static seen hs ≡ choose (is_among (number_at s (p + 6)) seen) (λ _. false) (λ _. is_static (number_at s (p + 6) ∷ seen) others)

  pub first_head : (n p : ℕ) (hs : Heads) (q : ℕ) → heads_at s levels (suc n) p ≡ ok (hs, q) → FirstHead n p hs q
  unfolding heads_at
  first_head n p hs q e =
      let t = many_split (head_item s (expr_at s levels)) no_heads n p e in
      let b = after_ok (head_read p) t.here in
      record {
        others = t.others;
        fits = b.fits;
        stops = λ nz seen. ap (λ (x : Heads). is_static seen x) t.same ∙ b.stops nz seen t.others;
        read = λ z.
            ap (λ (k : ℕ). many (head_item s (expr_at s levels)) (none_left no_heads) n k) (sym (b.next z)) ∙ t.later;
        goes = λ z seen. ap (λ (x : Heads). is_static seen x) t.same ∙ b.goes z seen t.others;
      }

  pub no_head : (p : ℕ) (hs : Heads) (q : ℕ) → heads_at s levels 0 p ≡ ok (hs, q) → (seen : List ℕ) → is_static seen hs ≡ true
  unfolding heads_at many none_left is_static
  no_head p hs q e seen = ap (λ (x : Heads). is_static seen x) (sym (ap (λ (x : Heads × ℕ). x.0) (same_ok e)))
