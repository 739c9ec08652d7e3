use Rattle.theory_states.proofs.goal_tasks.Steps.{gains_from_none}
use Rattle.theory_states.proofs.goal_tasks.declarations.named_in.Goals as goal
use Rattle.tasks.proofs.outside.Passed.{no_value}

pub returns-in_err-gather_named : goal.returns-in_err-gather_named
returns-in_err-gather_named c = no_value _ _ c.from_residual.result c.from_residual.ensures.1

pub returns : goal.returns
returns c = gains_from_none _ _ _ c.new-found.ensures.empty c.in_ok-gather_named.ensures
