use Rattle.std.proofs.Common.{List, ap, sym, subst, ◌∙◌}
use Rattle.std.specs.Prelude.{Result, IfErr}
use Rattle.std.proofs.lemmas.Result.{IfOk-weaker}
use Rattle.tasks.specs.Task.{TaskTree}
use Rattle.evidence.specs.Stages.{Refusal, stage_answer, IsStageFault}
use Rattle.evidence.proofs.stage.Transform.apply.Goals as goal

pub returns-in-Ok-clause-tasks : goal.returns-in-Ok-clause-tasks
returns-in-Ok-clause-tasks g c = IfOk-weaker c.limited_tasks.result _ _ (λ ts q. ap stage_answer c.in-Ok.ensures.tasks ∙ q) c.limited_tasks.ensures.tasks

pub returns-in-Ok-clause-fault : goal.returns-in-Ok-clause-fault
returns-in-Ok-clause-fault g c = subst (λ (z : Result (List TaskTree) Refusal). IfErr c.limited_tasks.result (IsStageFault z)) (sym (ap stage_answer c.in-Ok.ensures.tasks)) c.limited_tasks.ensures.fault
