use Rattle.clones.proofs.clone_elements.left.key_called.Goals as goal
use Rattle.tasks.proofs.outside.Passed.{no_value}

pub returns-in_err-own : goal.returns-in_err-own
returns-in_err-own c = no_value _ _ c.from_residual.result c.from_residual.ensures.1

pub returns-in_err-bytes : goal.returns-in_err-bytes
returns-in_err-bytes c = no_value _ _ c.from_residual-in_err-bytes.result c.from_residual-in_err-bytes.ensures.1

pub returns-in_err-push_dotted : goal.returns-in_err-push_dotted
returns-in_err-push_dotted c = no_value _ _ c.from_residual-in_err-push_dotted.result c.from_residual-in_err-push_dotted.ensures.1
