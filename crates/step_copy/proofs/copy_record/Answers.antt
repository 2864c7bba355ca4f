-- `copy_record` copies the record's bytes, or refuses. Assumes nothing.
use Rattle.std.proofs.Common.{ap, arith, drop, sym, take, ℕ, ◌*◌, ◌+◌, ◌-◌, ◌/◌, ◌∙◌, ◌≡◌}
use lib.Seq.{sets}
use Rattle.rules.specs.Records.{size_of}
use Rattle.step_copy.proofs.Laws.{record_copied, record_refused}
use Rattle.step_copy.proofs.copy_record.Goals as goal

pub returns-then-has_room : goal.returns-then-has_room
unfolding size_of
returns-then-has_room c =
    let room = sym c.has_room.ensures ∙ c.if-has_room.true in
    let whole : 2 + 4 * ((c.size_of-size.result - 2) / 4) ≡ c.size_of-size.result = omega (arith, c.size_of-size.ensures.0) in
    let stored = c.copy_bytes.ensures ∙ ap (λ (k : ℕ). sets c.args.out.now c.args.st.out (take k (drop c.args.at c.args.tree.now))) whole in
    record_copied _ _ _ _ _ _ _ (λ (k : ℕ). omega (arith, c.type_inv.tree k)) c.size_of-size.ensures.0 c.requires.0 c.requires.1 _ stored room

pub returns : goal.returns
returns c =
    rw c.at.ensures (record_refused _ _ _ _ _ _ _ (λ (k : ℕ). omega (arith, c.type_inv.tree k)) c.size_of-size.ensures.0 c.requires.0 c.requires.1 (sym c.has_room.ensures ∙ c.if-has_room.false))
