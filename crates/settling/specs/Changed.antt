-- What a round has changed already: both loops take it on alike. Assumes nothing.
use Rattle.std.specs.Prelude.{Bool, true, false, ◌||◌, List, ◌≡◌, refl, set, ltb}
use Rattle.rules.specs.Outcome.{choose}
use Rattle.rules.specs.Locals.{LocalDefinition, local_at, with_used_at_depth}
use Rattle.rules.specs.Settling.{Reference, Loop, propagate_analysis, propagate_use}
use Rattle.settling.specs.Meaning.{round}

-- a reference does the same to the locals whatever the round has changed before, and a round that has changed something stays so
abbrev pub Ors : Loop → Type 0
Ors loop = (ls : List LocalDefinition) (changed : Bool) (ref : Reference) → loop (round ls changed) ref ≡ round (loop (round ls false) ref).locals (changed || (loop (round ls false) ref).changed)

pub analysis_ors : Ors propagate_analysis
unfolding propagate_analysis
analysis_ors ls changed ref = refl

chosen_ors : (lowers : Bool) (ls ls' : List LocalDefinition) (changed : Bool)
    → choose lowers (λ _. round ls' true) (λ _. round ls changed) ≡ round (choose lowers (λ _. round ls' true) (λ _. round ls false)).locals (changed || (choose lowers (λ _. round ls' true) (λ _. round ls false)).changed)
unfolding choose
chosen_ors true ls ls' true = refl
chosen_ors true ls ls' false = refl
chosen_ors false ls ls' true = refl
chosen_ors false ls ls' false = refl

pub use_ors : Ors propagate_use
unfolding propagate_use
use_ors ls changed ref =
    let at = (local_at ls ref.user).used_at_depth in
    let used = local_at ls ref.used in
    chosen_ors (ltb at used.used_at_depth) ls (set ls ref.used (with_used_at_depth at used)) changed
