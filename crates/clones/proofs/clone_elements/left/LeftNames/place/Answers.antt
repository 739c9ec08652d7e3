use Rattle.clones.proofs.clone_elements.left.LeftNames.place.Goals as goal
use Rattle.tasks.proofs.outside.Passed.{no_value}

pub returns-in_err-bytes : goal.returns-in_err-bytes
returns-in_err-bytes c = no_value _ _ c.from_residual.result c.from_residual.ensures.1
