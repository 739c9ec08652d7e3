use Rattle.std.proofs.Common.{sym, subst}
use Rattle.std.proofs.lemmas.Result.{IfOk-weaker}
use Rattle.tasks.specs.Meaning.{task_at}
use Rattle.program.specs.declared.parts.StagedTask.{StagedTask}
use Rattle.program.specs.Lifted.{IsStaged}
use Rattle.program.proofs.parts.find_parts.Goals as goal

pub with_problems-requires : goal.with_problems-requires
with_problems-requires c = record { held = c.in_ok-staged.ensures.staged.are.held }

pub returns-clause-staged : goal.returns-clause-staged
returns-clause-staged c =
    IfOk-weaker c.with_problems.result _ _ (λ p same. subst (λ (z : StagedTask). IsStaged c.carry_task.new.store (task_at c.args.store.now c.args.setting.now.task) z) (sym same) c.in_ok-staged.ensures.staged) c.with_problems.ensures.staged
