use Rattle.clones.proofs.clone_elements.replacements.push_kept.Goals as goal
use Rattle.tasks.proofs.outside.Passed.{no_ok}

pub returns-in_err-made : goal.returns-in_err-made
returns-in_err-made c = no_ok _ _ c.from_residual.result c.from_residual.ensures.1
