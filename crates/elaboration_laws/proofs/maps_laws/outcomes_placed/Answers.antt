use Rattle.elaboration_laws.proofs.PlacedOutcomes.{outcome_placed}
use Rattle.elaboration_laws.proofs.maps_laws.outcomes_placed.Goals as goal

pub returns : goal.returns
returns k = λ c d o n h. outcome_placed c n d o h
