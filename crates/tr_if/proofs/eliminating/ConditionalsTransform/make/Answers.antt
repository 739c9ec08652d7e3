use Rattle.std.proofs.Common.{IfErr, sym, subst, ◌∙◌}
use Rattle.std.proofs.lemmas.Result.{IfOk-weaker}
use Rattle.tasks.specs.Meaning.{task_at}
use Rattle.evidence.specs.Stages.{IsStageFault, stage_answer}
use Rattle.tr_if.specs.Kept.{if_refuses, if_takes}
use Rattle.tr_if.proofs.eliminating.ConditionalsTransform.make.Goals as goal

pub returns-in-Some-clause-fault : goal.returns-in-Some-clause-fault
returns-in-Some-clause-fault c = if_refuses (task_at c.args.store.now c.args.task.now) c.in-Some.decl (sym c.in-Some.ensures)

pub scoped_tasks-requires : goal.scoped_tasks-requires
scoped_tasks-requires c = record { can = record { held = c.requires.held; valid = c.requires.valid; is_ready = tt } }

pub returns-in-None-clause-tasks : goal.returns-in-None-clause-tasks
returns-in-None-clause-tasks c = IfOk-weaker c.scoped_tasks.result _ _ (λ ts q. if_takes (task_at c.args.store.now c.args.task.now) (sym c.in-None.ensures) ∙ q) c.scoped_tasks.ensures.tasks

pub returns-in-None-clause-fault : goal.returns-in-None-clause-fault
returns-in-None-clause-fault c = subst (λ z. IfErr c.scoped_tasks.result (IsStageFault (stage_answer z))) (sym (if_takes (task_at c.args.store.now c.args.task.now) (sym c.in-None.ensures))) c.scoped_tasks.ensures.fault
