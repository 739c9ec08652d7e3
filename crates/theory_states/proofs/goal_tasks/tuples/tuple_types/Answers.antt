use Rattle.theory_states.proofs.goal_tasks.tuples.tuple_types.Goals as goal
use Rattle.tasks.proofs.outside.Passed.{no_value}

pub returns-in_err-con-clause-tree : goal.returns-in_err-con-clause-tree
returns-in_err-con-clause-tree c = no_value _ _ c.from_residual.result c.from_residual.ensures.1

pub returns-in_err-con-clause-held : goal.returns-in_err-con-clause-held
returns-in_err-con-clause-held c = no_value _ _ c.from_residual.result c.from_residual.ensures.1

pub returns-in_err-push-clause-tree : goal.returns-in_err-push-clause-tree
returns-in_err-push-clause-tree c = no_value _ _ c.from_residual-in_err-push.result c.from_residual-in_err-push.ensures.1

pub returns-in_err-push-clause-held : goal.returns-in_err-push-clause-held
returns-in_err-push-clause-held c = no_value _ _ c.from_residual-in_err-push.result c.from_residual-in_err-push.ensures.1

pub returns-in_err-push-2-clause-tree : goal.returns-in_err-push-2-clause-tree
returns-in_err-push-2-clause-tree c = no_value _ _ c.from_residual-in_err-push-2.result c.from_residual-in_err-push-2.ensures.1

pub returns-in_err-push-2-clause-held : goal.returns-in_err-push-2-clause-held
returns-in_err-push-2-clause-held c = no_value _ _ c.from_residual-in_err-push-2.result c.from_residual-in_err-push-2.ensures.1
