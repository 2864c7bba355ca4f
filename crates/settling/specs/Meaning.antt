-- What one reference, one round and a whole loop do to a lent table: what the rules' do to its locals. Assumes nothing.
use Rattle.std.specs.Prelude.{ℕ, ◌+◌, ◌*◌, ◌≤◌, ◌<◌, Bool, false, List, [], ◌∷◌, ◌≡◌, length, drop}
use Rattle.rules.specs.Locals.{LocalDefinition}
use Rattle.rules.specs.Settling.{Reference, Round, Loop, one_round, Settled, settled}
use Rattle.table_locals.specs.Meaning.{locals_of}
use Rattle.table_references.specs.Meaning.{reference, references_of}

-- the references of the entries from `from` up to `to`
unfoldable pub references_between : (from to : ℕ) → List ℕ → List Reference
references_between from to references = drop from (references_of to references)

-- each refers to two of the first n locals
unfoldable pub Below : (n : ℕ) → List Reference → Type 0
Below n [] = Unit {0}
Below n (ref ∷ refs) = (ref.user < n) × (ref.used < n) × Below n refs

-- the table of references has them, and the table of locals each that they refer to
pub record Inside (locals references : List ℕ) (from to : ℕ) : Type 0 where
  pub references_long : 16 * to ≤ length references
  pub entries : ℕ
  pub locals_long : 16 * entries ≤ length locals
  pub below : Below entries (references_between from to references)

abbrev pub round : List LocalDefinition → (changed : Bool) → Round
round ls changed = record { locals = ls; changed = changed }

-- the table and the answer are what one reference gives in a round that has changed nothing
pub record Propagates (loop : Loop) (before after : List ℕ) (user used : ℕ) (changed : Bool) : Type 0 where
  pub same : (n : ℕ) → user < n → used < n → round (locals_of n after) changed ≡ loop (round (locals_of n before) false) (reference user used)

-- they are what one round gives
pub record OneRound (loop : Loop) (refs : List Reference) (before after : List ℕ) (changed : Bool) : Type 0 where
  pub same : (n : ℕ) → Below n refs → round (locals_of n after) changed ≡ one_round loop refs (round (locals_of n before) false)

abbrev pub after_rounds : List LocalDefinition → (rounds : ℕ) → Settled
after_rounds ls rounds = record { locals = ls; rounds = rounds }

-- they are what the whole loop gives
pub record Settles (loop : Loop) (refs : List Reference) (before after : List ℕ) (kept rounds : ℕ) : Type 0 where
  pub few : rounds ≤ kept + 1
  pub same : (n : ℕ) → Below n refs → after_rounds (locals_of n after) rounds ≡ settled kept loop refs (locals_of n before)
