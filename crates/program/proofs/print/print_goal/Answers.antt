use Rattle.std.proofs.Common.{rules, Err, None}
use Rattle.tasks.specs.Meaning.{task_at}
use Rattle.statuses.specs.fault_order.Answers.{result_bytes}
use Rattle.program.specs.source_goals.Order.{setting_of}
use Rattle.program.specs.Order.{ProblemTexts, PrintText}
use Rattle.statuses.proofs.fault_order.Meeting.{answers_then, answers_stop, ends}
use Rattle.statuses.proofs.fault_order.Stages.{answers_stage}
use Rattle.program.proofs.source_goals.Determined.{determined}
use Rattle.program.specs.Only.{IsOnlyAnswer}
use Rattle.program.proofs.One.{only, one_print}
use Rattle.program.proofs.print.print_goal.Goals as goal

pub returns-clause-answers : goal.returns-clause-answers
returns-clause-answers g c =
    let f = c.in_ok-found.found in
    let x = setting_of f.driver (task_at c.valid_setting.new.store f.task) in
    ends (answers_then (λ g files limit. ProblemTexts g) c.in_ok-found.ensures.answers (answers_stage (ProblemTexts x) f.driver.next_file _ (result_bytes c.print_task.result) c.print_task.ensures))

pub returns-clause-only : goal.returns-clause-only
returns-clause-only g c =
    let f = c.in_ok-found.found in
    let x = setting_of f.driver (task_at c.valid_setting.new.store f.task) in
    only (λ files. one_print determined c.args.src.now c.args.drv.now c.args.theory.now c.args.goal.now files None)
    (ends (answers_then (λ g files limit. ProblemTexts g) c.in_ok-found.ensures.answers (answers_stage (ProblemTexts x) f.driver.next_file _ (result_bytes c.print_task.result) c.print_task.ensures)))

pub returns-in_err-found-clause-only : goal.returns-in_err-found-clause-only
returns-in_err-found-clause-only g c =
    let whole : IsOnlyAnswer (PrintText c.args.src.now c.args.drv.now c.args.theory.now c.args.goal.now) (g.L.Library.state c.args.lib.now) (Err c.in_err-found.field-0.0) =
    only (λ files. one_print determined c.args.src.now c.args.drv.now c.args.theory.now c.args.goal.now files None)
    (ends (answers_stop (λ g files limit. ProblemTexts g) (λ _. 0) c.in_err-found.ensures.answers)) in
    search rules
