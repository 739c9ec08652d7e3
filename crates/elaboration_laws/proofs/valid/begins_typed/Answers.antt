use Rattle.elaboration_laws.proofs.Begin.{begins}
use Rattle.elaboration_laws.proofs.valid.begins_typed.Goals as goal

pub returns : goal.returns
returns k = λ v c may q z p r. begins v may c q z p r
