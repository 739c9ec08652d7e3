use Rattle.evidence.proofs.task_parts.One.{one_tree, one_held}
use Rattle.tr_introduce.proofs.introducing.introduced_tasks.Goals as goal
use Rattle.outside.proofs.Passed.{no_value}

pub introduced_task-requires : goal.introduced_task-requires
introduced_task-requires c = c.requires

pub returns-in_err-made : goal.returns-in_err-made
returns-in_err-made c = record {
  held = no_value _ _ c.from_residual.result c.from_residual.ensures.1;
  tasks = no_value _ _ c.from_residual.result c.from_residual.ensures.1;
  grows = c.introduced_task.ensures.grows;
}

pub returns-in_err-tasks : goal.returns-in_err-tasks
returns-in_err-tasks c = record {
  held = no_value _ _ c.from_residual-in_err-tasks.result c.from_residual-in_err-tasks.ensures.1;
  tasks = no_value _ _ c.from_residual-in_err-tasks.result c.from_residual-in_err-tasks.ensures.1;
  grows = c.in_ok-made.ensures.grows;
}

pub returns : goal.returns
returns c = record {
  held = one_held _ _ _ c.in_ok-tasks.ensures c.in_ok-made.ensures.held;
  tasks = one_tree _ _ _ _ c.in_ok-tasks.ensures c.in_ok-made.ensures.task;
  grows = c.in_ok-made.ensures.grows;
}
