use Rattle.std.proofs.Common.{rules, List, ℕ, subst}
use Rattle.tasks.specs.Meaning.{task_at}
use Rattle.statuses.specs.fault_order.Answers.{IsStageAnswer, result_bytes}
use Rattle.statuses.proofs.fault_order.Meeting.{answers_then, answers_stop}
use Rattle.statuses.proofs.fault_order.Stages.{answers_stage}
use Rattle.program.specs.Order.{Checks}
use Rattle.program.proofs.check.check_file.Goals as goal

pub returns : goal.returns
returns g c =
    let t = task_at c.args.store c.args.task.now in
    let r = result_bytes c.check_steps.result in
    let checked = subst (λ (bytes : List ℕ). IsStageAnswer (Checks t bytes) r) c.deref.ensures.value c.check_steps.ensures in
    answers_then (λ bytes files limit. Checks t bytes) c.in_ok-bytes.ensures (answers_stage (Checks t c.in_ok-bytes.bytes.items) 2 _ r checked)

pub returns-in_err-bytes : goal.returns-in_err-bytes
returns-in_err-bytes g c =
    let t = task_at c.args.store c.args.task.now in
    let whole = answers_stop (λ bytes files limit. Checks t bytes) (λ _. 2) c.in_err-bytes.ensures in
    search rules
