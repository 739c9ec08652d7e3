use Rattle.clones.proofs.clone_elements.left.LeftNames.new.Goals as goal
use Rattle.tasks.proofs.outside.Passed.{no_value}

pub returns-in_err-enter : goal.returns-in_err-enter
returns-in_err-enter c = no_value _ _ c.from_residual.result c.from_residual.ensures.1
