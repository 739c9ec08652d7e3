use Rattle.printed_problems.proofs.making.push_if.Goals as goal
use Rattle.tasks.proofs.outside.Passed.{no_ok}

pub returns-in_err-from_slice : goal.returns-in_err-from_slice
returns-in_err-from_slice c = no_ok _ _ c.from_residual.result c.from_residual.ensures.1

pub returns-in_err-push : goal.returns-in_err-push
returns-in_err-push c = no_ok _ _ c.from_residual-in_err-push.result c.from_residual-in_err-push.ensures.1
