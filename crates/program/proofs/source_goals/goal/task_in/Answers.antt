use Rattle.tasks.specs.Meaning.{task_at}
use Rattle.theories.specs.theory_states.goal_tasks.Meaning.{theories_at}
use Rattle.theories.specs.theory_states.declared.goal_tasks.making.TaskFault.TheVariants.{NoTheory, NoGoal}
use Rattle.program.proofs.source_goals.Naming.{named-ok, named-no_theory, named-no_goal, same_fault}
use Rattle.program.proofs.source_goals.goal.task_in.Goals as goal

pub returns-in-Ok-clause-answers : goal.returns-in-Ok-clause-answers
returns-in-Ok-clause-answers c =
    let s = c.args.store.now in
    named-ok (theories_at s c.args.all.now) c.args.theory.now c.args.goal.now (task_at s c.in-Ok.task) c.in-Ok.ensures.task

pub returns-in-Ok-clause-source : goal.returns-in-Ok-clause-source
returns-in-Ok-clause-source c = record {
  all = theories_at c.args.store.now c.args.all.now;
  theories = c.requires.source;
  theory = c.args.theory.now;
  goal = c.args.goal.now;
  is = c.in-Ok.ensures.task;
}

pub returns-in-Err-NoTheory-clause-answers : goal.returns-in-Err-NoTheory-clause-answers
returns-in-Err-NoTheory-clause-answers c =
    let none = c.in-Err-NoTheory.ensures.no_theory.0 (same_fault c.in-Err-NoTheory.field-0 NoTheory c.in-Err-NoTheory.field-0-is) in
    named-no_theory (theories_at c.args.store.now c.args.all.now) c.args.theory.now c.args.goal.now none

pub returns-in-Err-NoGoal-clause-answers : goal.returns-in-Err-NoGoal-clause-answers
returns-in-Err-NoGoal-clause-answers c =
    let none = c.in-Err-NoGoal.ensures.no_goal.0 (same_fault c.in-Err-NoGoal.field-0 NoGoal c.in-Err-NoGoal.field-0-is) in
    named-no_goal (theories_at c.args.store.now c.args.all.now) c.args.theory.now c.args.goal.now none
