use Rattle.elaboration_laws.proofs.TaskOutcomes.{elaborated_kept}
use Rattle.elaboration_laws.proofs.valid_goals.keeps_built.Goals as goal

pub returns : goal.returns
returns k = λ c d g s h names made q e b. elaborated_kept c d g s h names made q e b
