-- A read in place: what it gave stands behind what was read before.
use Rattle.std.proofs.Common.{◌≡◌, ℕ, ◌+◌, ◌≤◌, List, ◌++◌, rules, length, take, sym, ap, ◌∙◌, subst, length-take-le}
use Rattle.std.proofs.Math.Seq.{take-append-add, take-append-le}
use Rattle.std.proofs.KnownBytes.{Consumes-trans}
use Rattle.std.specs.Io.KnownBytes.{Consumes}
use borrow.Rule.Slice.PartMut.{put_mid, post_of}
use Rattle.gate_input.proofs.read_full.Goals as goal

-- bytes put behind the first a, of which n count
joined : (a k n : ℕ) (xs ys : List ℕ) → a ≤ length xs → n ≤ length ys → take a xs ++ take n ys ≡ take (a + n) (put_mid a k xs ys)
joined a k n xs ys within fits =
    let rest = ys ++ post_of a k xs in
    sym (ap (λ m. take (m + n) (take a xs ++ rest)) (sym (length-take-le a xs within)) ∙ take-append-add (take a xs) rest n ∙ ap (λ l. take a xs ++ l) (take-append-le n ys (post_of a k xs) fits))

pub loop-done-preserved : goal.loop-done-preserved
loop-done-preserved g c =
    (search rules, search rules, subst (Consumes _ _) (joined _ _ _ _ _ c.loop-done.invariant.1 c.in_ok-n.ensures.bound.0) (Consumes-trans _ _ _ _ _ c.loop-done.invariant.2 c.in_ok-n.ensures.bytes.0))
