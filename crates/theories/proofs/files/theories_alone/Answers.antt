use Rattle.theories.proofs.files.theories_alone.Goals as goal
use Rattle.tasks.proofs.outside.Passed.{no_value}

pub returns-in_err-push : goal.returns-in_err-push
returns-in_err-push c = no_value _ _ c.from_residual.result c.from_residual.ensures.1
