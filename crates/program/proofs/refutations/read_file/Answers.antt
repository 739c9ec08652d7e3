use Rattle.std.proofs.Common.{◌+◌, List, ℕ, Some, subst}
use Rattle.tasks.specs.Meaning.{task_at}
use Rattle.statuses.specs.fault_order.Answers.{IsStageAnswer}
use Rattle.step_writing.specs.name_tables.declared.name_entries.names.NameEntry.{NameEntry}
use Rattle.program.specs.Order.{AreSteps, RefutesPart}
use Rattle.program.specs.Values.{steps_in}
use Rattle.statuses.proofs.fault_order.Meeting.{answers_then}
use Rattle.statuses.proofs.fault_order.Stages.{answers_stage}
use Rattle.program.proofs.refutations.read_file.Goals as goal

pub returns-clause-answers : goal.returns-clause-answers
returns-clause-answers g c =
    let d = c.args.driver.now in
    let t = task_at c.args.store.now c.args.part.now in
    let k = c.args.place + 1 in
    let r = steps_in c.read_steps.new.store c.read_steps.result in
    let bytes = c.in_ok-bytes.bytes.items in
    let named = subst (λ (names : List NameEntry). IsStageAnswer (AreSteps t names (Some 2000) k c.deref.result.now) r) c.requires.names c.read_steps.ensures.steps in
    let read = subst (λ (b : List ℕ). IsStageAnswer (RefutesPart d k t b) r) c.deref.ensures.value named in
    answers_then (λ b files limit. RefutesPart d k t b) c.in_ok-bytes.ensures (answers_stage (RefutesPart d k t bytes) (c.args.place + d.next_file + 1) _ r read)
