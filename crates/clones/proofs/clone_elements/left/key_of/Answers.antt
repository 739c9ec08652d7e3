use Rattle.clones.proofs.clone_elements.left.key_of.Goals as goal
use Rattle.tasks.proofs.outside.Passed.{no_value}

pub returns-in_err-bytes-in-Some : goal.returns-in_err-bytes-in-Some
returns-in_err-bytes-in-Some c = no_value _ _ c.from_residual.result c.from_residual.ensures.1
