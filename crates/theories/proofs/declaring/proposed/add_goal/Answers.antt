use Rattle.theories.proofs.declaring.proposed.add_goal.Goals as goal
use Rattle.tasks.proofs.outside.Passed.{no_ok}

pub returns-in_err-push : goal.returns-in_err-push
returns-in_err-push c = no_ok _ _ c.from_residual.result c.from_residual.ensures.1
