use Rattle.elaboration_laws.proofs.TaskOutcomes.{begins}
use Rattle.elaboration_laws.proofs.valid_goals.begins_built.Goals as goal

pub returns : goal.returns
returns k = begins
