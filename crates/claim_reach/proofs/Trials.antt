-- Demand 3's statement computed on the worked cases; and of two of them what is reached, so that it is seen that something is. Assumes nothing.
use mathlib.Core.Bool.{true}
use mathlib.Core.List.{[], ◌∷◌}
use mathlib.Core.Option.{some}
use mathlib.Core.Path.{◌≡◌, refl}
use Rattle.rules.specs.Tree.{at_record}
use Rattle.rules.specs.Cases.{starred, three}
use Rattle.rules.specs.OwnCases.{own_names, own_functions, own_objects, own_records}
use Rattle.rules.proofs.Computing.{everything}
use Rattle.claim_reach.specs.Trials.{reached, all_agree}
use Rattle.claim_scope.specs.Scope
use Rattle.claim_reach.specs.Lexical
use Rattle.claim_reach.specs.Decode
use Rattle.claim_reach.specs.Reach
use Rattle.claim_reach.specs.Trials

-- one name that opens every definition of this crate
unfoldable pub all_here : Unit {0}
unfolding everything Scope.meaning Scope.identity_means Scope.bind_names Scope.param_names Scope.external_names Scope.under Scope.in_object Scope.meant Scope.lexical Lexical.is_name Lexical.is_last Lexical.gives_argument Lexical.identity_read Lexical.read Lexical.root_scope Lexical.lexical_read Decode.◌>>=◌ Decode.out_marks Decode.mark_among Decode.tail_count Decode.out_count Decode.is_end Decode.decoded Decode.out_records Reach.source Reach.sources Reach.expect Reach.check Reach.open_defining Reach.open_using Reach.slot_read Reach.bind_slots Reach.param_slots Reach.external_slots Reach.is_iy Reach.leaf Reach.reach_identity Reach.reach Reach.no_view Reach.reach_records Reach.reaches Trials.reached_in Trials.reached Trials.same_binding Trials.same_meants Trials.is_same Trials.agrees_in Trials.agrees Trials.all_agree
all_here = tt

-- local x = 1; function(y) x + y
pub three_reached : reached three ≡ some ((58, some (at_record 12)) ∷ (68, some (at_record 38)) ∷ [])
unfolding all_here
three_reached = refl

pub starred_agree : all_agree starred ≡ true
unfolding all_here
starred_agree = refl

pub names_agree : all_agree own_names ≡ true
unfolding all_here
names_agree = refl

pub functions_agree : all_agree own_functions ≡ true
unfolding all_here
functions_agree = refl

pub objects_agree : all_agree own_objects ≡ true
unfolding all_here
objects_agree = refl

pub records_agree : all_agree own_records ≡ true
unfolding all_here
records_agree = refl
