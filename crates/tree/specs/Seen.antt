-- What the first walk's answers mean: the place after, or the refusal. Assumes nothing.
use Rattle.std.specs.Prelude.{ℕ, Result, Ok, Err}
use Rattle.rules.specs.Outcome.{Outcome, ok, refuse}
use Rattle.rules.specs.Tree.{Tree}
use Rattle.refusal.specs.Meaning.{number_of}
use Rattle.refusal.specs.declared.Refusal.{Refusal}

abbrev pub seen : Result ℕ Refusal → Outcome ℕ
seen (Ok next) = ok next
seen (Err e) = refuse (number_of e.reason) e.place

-- a whole tree ends where its bytes end
unfoldable pub ended : ℕ → Outcome Tree → Outcome ℕ
ended size (ok tree) = ok size
ended size (refuse number place) = refuse number place
