use Rattle.clones.proofs.clone_elements.left.key.Goals as goal
use Rattle.tasks.proofs.outside.Passed.{no_value}

pub returns-in_err-push : goal.returns-in_err-push
returns-in_err-push c = no_value _ _ c.from_residual.result c.from_residual.ensures.1

pub returns-in_err-extend_from_slice : goal.returns-in_err-extend_from_slice
returns-in_err-extend_from_slice c = no_value _ _ c.from_residual-in_err-extend_from_slice.result c.from_residual-in_err-extend_from_slice.ensures.1
