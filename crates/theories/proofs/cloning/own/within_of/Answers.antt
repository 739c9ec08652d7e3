use Rattle.theories.proofs.cloning.own.within_of.Goals as goal
use Rattle.tasks.proofs.outside.Passed.{no_value}

pub returns-in_err-bytes : goal.returns-in_err-bytes
returns-in_err-bytes c = no_value _ _ c.from_residual.result c.from_residual.ensures.1

pub returns-in_err-extend_from_slice-in-Import : goal.returns-in_err-extend_from_slice-in-Import
returns-in_err-extend_from_slice-in-Import c = no_value _ _ c.from_residual-in_err-extend_from_slice-in-Import.result c.from_residual-in_err-extend_from_slice-in-Import.ensures.1

pub returns-in_err-push-in-Import : goal.returns-in_err-push-in-Import
returns-in_err-push-in-Import c = no_value _ _ c.from_residual-in_err-push-in-Import.result c.from_residual-in_err-push-in-Import.ensures.1
