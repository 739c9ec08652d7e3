use Rattle.elaboration_laws.proofs.Distinct.{pairs_distinct}
use Rattle.elaboration_laws.proofs.Places.{places_joined, places_agree, joined_whole, places_taken}
use Rattle.elaboration_laws.proofs.sound_states.joins_whole.Goals as goal

pub returns : goal.returns
returns u = record {
  joined = λ ds ks more whole below once. places_joined ds ks whole more below (pairs_distinct more once);
  agree = λ ds ks more whole. places_agree ds ks more whole;
  whole = λ ds ks more a b. joined_whole ds ks more a b;
  first = λ ds n ks below. places_taken ds n ks below;
}
