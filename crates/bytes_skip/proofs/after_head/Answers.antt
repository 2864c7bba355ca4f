-- A fixed name ends with the head; after a computed one `skip` goes where reading went. Assumes nothing.
use Rattle.std.proofs.Common.{sym, ◌∙◌}
use Rattle.bytes_skip.proofs.Heads.{head_fixed, head_computed}
use Rattle.bytes_skip.proofs.after_head.Goals as goal

pub returns-then-number_at-eq0 : goal.returns-then-number_at-eq0
returns-then-number_at-eq0 c =
    λ nest q h. head_fixed c.args.tree.now nest c.args.at h (sym c.number_at.ensures ∙ c.if-number_at-eq0.true)

pub returns : goal.returns
returns c =
    λ nest q h. head_computed c.args.tree.now nest c.args.at h (λ e. c.if-number_at-eq0.false (c.number_at.ensures ∙ e)) c.skip.ensures
