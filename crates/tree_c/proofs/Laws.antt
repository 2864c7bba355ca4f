-- The number of what a walk's answer means. Assumes nothing.
use Prim.Native.Nat.{ℕ}
use mathlib.Core.Path.{◌≡◌, sym, ap, ◌∙◌}
use Rattle.rules.specs.Outcome.{Outcome}
use Rattle.tree.specs.Seen.{seen}
use Rattle.refusal.specs.Meaning as reason
use Rattle.refusal.specs.declared.Refusal.{Refusal}
use Rattle.std.specs.Prelude.{Result, Ok, Err}
use Rattle.tree_c.specs.Answer.{number_of}

pub accepted_number : (r : Result ℕ Refusal) (o : Outcome ℕ) {place : ℕ} → seen r ≡ o → r ≡ Ok place → 0 ≡ number_of o
unfolding number_of
accepted_number r o e h = sym (ap number_of (sym e ∙ ap seen h))

pub refused_number : (r : Result ℕ Refusal) (o : Outcome ℕ) {why : Refusal} → seen r ≡ o → r ≡ Err why → reason.number_of why.reason ≡ number_of o
unfolding number_of
refused_number r o e h = sym (ap number_of (sym e ∙ ap seen h))
