use Rattle.std.proofs.Common.{◌∙◌, List, map, Err, sym, subst}
use Rattle.tasks.specs.Meaning.{task_at, tasks_at}
use Rattle.stages.specs.declared.transformations.transformation.Transformation.{Transformation}
use Rattle.stages.specs.transformations.Transformations.{equation_of}
use Rattle.stages.specs.Carried.{carried_task}
use Rattle.stages.specs.Faults.{IsCarryFault}
use Rattle.stages.specs.Levels.{IsCarried}
use Rattle.stages.specs.Steps.{AreTasksOf}
use Rattle.statuses.specs.fault_order.Answers.{IsStageAnswer}
use Rattle.statuses.specs.declared.fault_order.faults.RunFault.{RunFault}
use Rattle.program.specs.Order.{Carried}
use Rattle.program.specs.Values.{setting_at}
use Rattle.program.proofs.PartAnswers.{carried_ok, carried_err}
use Rattle.program.proofs.parts.carry_task.Goals as goal

pub returns-in-Ok-clause-carried : goal.returns-in-Ok-clause-carried
returns-in-Ok-clause-carried c =
    let x = setting_at c.args.store.now c.args.setting.now in
    let tasks = c.in-Ok.carried.tasks.items in
    let listed = c.deref.ensures.value ∙ c.in_ok-stages.ensures c.args.store.now in
    let carried = subst (λ (l : List Transformation). AreTasksOf (carried_task (map equation_of l) x.task) c.carry.new.store tasks) listed c.in-Ok.ensures.tasks in
    carried_ok x (tasks_at c.carry.new.store tasks) carried.is

pub returns-in-Err-clause-carried : goal.returns-in-Err-clause-carried
returns-in-Err-clause-carried c =
    let x = setting_at c.args.store.now c.args.setting.now in
    let listed = c.deref.ensures.value ∙ c.in_ok-stages.ensures c.args.store.now in
    let refused = subst (λ (l : List Transformation). IsCarryFault (carried_task (map equation_of l) x.task) c.in-Err.fault) listed c.in-Err.ensures.fault in
    subst (λ (e : RunFault). IsStageAnswer (Carried x) (Err e)) (sym c.carry_fault.ensures) (carried_err x c.in-Err.fault refused)

pub returns-in-Ok-clause-staged : goal.returns-in-Ok-clause-staged
returns-in-Ok-clause-staged c =
    let t = task_at c.args.store.now c.args.setting.now.task in
    let carried = c.in-Ok.carried in
    subst (λ (l : List Transformation). IsCarried (map equation_of l) c.carry.new.store t carried.levels.items carried.tasks.items) c.deref.ensures.value c.in-Ok.ensures.carried
