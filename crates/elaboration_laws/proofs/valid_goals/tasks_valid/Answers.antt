use Rattle.elaboration_laws.proofs.TaskSound.{task_valid}
use Rattle.elaboration_laws.proofs.valid_goals.tasks_valid.Goals as goal

pub returns : goal.returns
returns k = λ all t g sound goal ints. task_valid all t g sound goal ints
