use Rattle.theories.specs.theory_states.goal_tasks.Meaning.{theories_at}
use Rattle.program.specs.source_goals.Order.{TaskOf}
use Rattle.program.specs.source_goals.Values.{task_in}
use Rattle.statuses.proofs.fault_order.Meeting.{answers_then}
use Rattle.statuses.proofs.fault_order.Stages.{answers_stage}
use Rattle.program.proofs.source_goals.Naming.{naming}
use Rattle.program.proofs.source_goals.goal.find_task.Goals as goal

pub returns-clause-answers : goal.returns-clause-answers
returns-clause-answers g c =
    let s = c.fetch_theories.new.store in
    answers_then (naming c.args.theory.now c.args.goal.now) c.in_ok-all.ensures.answers
    (answers_stage (TaskOf c.args.theory.now c.args.goal.now (theories_at s c.in_ok-all.all)) 1 _ (task_in s c.task_in.result) c.task_in.ensures.answers)
