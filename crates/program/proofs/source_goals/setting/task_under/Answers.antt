use Rattle.std.proofs.Common.{rules}
use Rattle.tasks.specs.Meaning.{task_at}
use Rattle.theories.specs.theory_states.goal_tasks.Meaning.{theories_at}
use Rattle.program.proofs.source_goals.Settings.{under_ok, under_err}
use Rattle.program.proofs.source_goals.setting.task_under.Goals as goal

pub returns-clause-answers : goal.returns-clause-answers
returns-clause-answers c =
    let s = c.args.store.now in
    under_ok c.args.theory.now c.args.goal.now (theories_at s c.args.all.now) c.args.driver (task_at s c.in_ok-task.task) c.in_ok-task.ensures.answers

pub returns-in_err-task-clause-answers : goal.returns-in_err-task-clause-answers
returns-in_err-task-clause-answers c =
    let s = c.args.store.now in
    let due = under_err c.args.theory.now c.args.goal.now (theories_at s c.args.all.now) c.args.driver c.in_err-task.field-0.0 c.in_err-task.ensures.answers in
    search rules
