-- Where a record that was read ends, and the way past a field's head. Assumes nothing.
use Prim.Native.Nat.{ℕ, ◌+◌, ◌≤◌}
use mathlib.Core.List.{List}
use mathlib.Core.Path.{◌≡◌, refl, sym, ap, ◌∙◌}
use lib.ListN.{length}
use borrow.Author.Tests.{leb-true}
use Rattle.rules.specs.Outcome.{ok, choose}
use Rattle.rules.specs.Numbers.{code, number_at, numbers_at, is_set, bit}
use Rattle.rules.specs.Records.{size_of, numbers_of, fields, widths, width}
use Rattle.rules.specs.FirstWalk.{any_expression, expr_at}
use Rattle.rules.proofs.After.{After, fine, after_ok, after_need}
use Rattle.rules.proofs.Flags.{set_of}
use Rattle.rules.proofs.Outcomes.{same_ok, bind_got}
use Rattle.bytes_records.specs.Marks.{mark_of, find_mark, marks, children}
use Rattle.bytes_skip.specs.Places.{Within, judged_at, over, expected_at, expr_past, exprs_past, below_past, held_past}
use Rattle.bytes_skip.specs.Behind.{Skipped}
use Rattle.bytes_skip.proofs.Binding.{over_one, past_ok}

module _ (s : List ℕ) where
  pub judged_within : (c p : ℕ) → After (λ q. Within s c p q) (judged_at s (mark_of c) p)
  unfolding judged_at
  judged_within c p = after_need _ 1 p _ λ h. after_need _ 3 p _ λ _. fine (record { size = refl; fits = leb-true _ _ h })

  expected_within : (c p : ℕ) → After (λ q. Within s c p q) (expected_at s c p)
  unfolding expected_at
  expected_within c p = after_need _ 1 p _ λ _. after_need _ 2 p _ λ _. judged_within c p

  module _ (nest p : ℕ) {q : ℕ} (h : held_past s nest 0x4648 p ≡ ok q) where
    -- what stands below it begins 26 bytes after it
    below_head : (p + 26 ≤ length s) × (exprs_past s nest (bit (is_set (number_at s (p + 2)))) (p + 26) ≡ ok q)
    unfolding held_past below_past mark_of find_mark marks choose code size_of numbers_of widths width fields children numbers_at
    below_head =
        let b = bind_got (expected_at s 0x4648 p) (below_past s nest 0x4648 p) h in
        let w = after_ok (expected_within 0x4648 p) b.first in
        let e : b.middle ≡ p + 26 = w.size in
        (rw e at w.fits, (rw e at b.second))

    pub head_fits : p + 26 ≤ length s
    head_fits = below_head.0

    pub head_fixed : number_at s (p + 2) ≡ 0 → p + 26 ≡ q
    unfolding exprs_past over is_set
    head_fixed z = same_ok (rw z at below_head.1)

    pub head_computed : (number_at s (p + 2) ≡ 0 → ⊥) → {r : ℕ} → Skipped s (p + 26) r → r ≡ q
    unfolding exprs_past expr_past
    head_computed nz skips =
        let set : 1 ≡ bit (is_set (number_at s (p + 2))) = ap bit (sym (set_of nz)) in
        let one : exprs_past s nest 1 (p + 26) ≡ ok q = (rw (← set) at below_head.1) in
        let e = past_ok (expr_at s nest any_expression (p + 26)) (sym (over_one (expr_past s nest any_expression) (p + 26)) ∙ one) in
        skips nest any_expression e.what q e.there
