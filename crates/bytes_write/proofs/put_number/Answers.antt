-- `put_number` stores the four bytes of a number. Assumes nothing.
use Rattle.std.proofs.Common.{◌+◌, ◌-◌, refl, sym, ◌∙◌, arith}
use Rattle.std.proofs.lemmas.List.Edits.{sets-eq}
use Rattle.std.proofs.lemmas.Slice.{put_mid-paste}
use Rattle.rules.specs.Numbers.{number_bytes}
use Rattle.bytes_write.proofs.put_number.Goals as goal

pub returns : goal.returns
unfolding number_bytes
returns c =
    put_mid-paste c.args.at (c.args.at + 4 - c.args.at) c.args.out.now c.copy_from_slice.new.self (number_bytes c.args.n) 4
    (c.copy_from_slice.ensures.after ∙ c.to_le_bytes.ensures) (omega arith) refl
    ∙ sym (sets-eq (number_bytes c.args.n) c.args.out.now c.args.at c.requires)
