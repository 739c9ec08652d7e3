use Rattle.program.specs.source_goals.Order.{Driven}
use Rattle.statuses.proofs.fault_order.Meeting.{answers_then}
use Rattle.program.proofs.source_goals.setting.find_setting.Goals as goal

pub returns-clause-answers : goal.returns-clause-answers
returns-clause-answers g c = answers_then (λ all. Driven c.args.drv.now c.args.theory.now c.args.goal.now all) c.in_ok-all.ensures.answers c.task_driven.ensures.answers
