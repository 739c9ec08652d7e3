use Rattle.theories.proofs.declaring.proposed.variables_of.Goals as goal
use Rattle.tasks.proofs.outside.Passed.{no_value}

pub returns-in_err-enter_variables : goal.returns-in_err-enter_variables
returns-in_err-enter_variables c = no_value _ _ c.from_residual.result c.from_residual.ensures.1
