use Rattle.clones.proofs.clone_elements.elements.push_symbol.Goals as goal
use Rattle.tasks.proofs.outside.Passed.{no_ok}

pub returns-in_err-push-in-Symbol : goal.returns-in_err-push-in-Symbol
returns-in_err-push-in-Symbol c = no_ok _ _ c.from_residual.result c.from_residual.ensures.1
