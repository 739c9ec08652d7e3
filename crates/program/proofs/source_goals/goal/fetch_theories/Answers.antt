use Rattle.std.proofs.Common.{ℕ, List, subst}
use Rattle.statuses.specs.fault_order.Answers.{IsStageAnswer}
use Rattle.program.specs.source_goals.Order.{SourceTheories}
use Rattle.program.specs.source_goals.Values.{theories_in}
use Rattle.statuses.proofs.fault_order.Meeting.{answers_then}
use Rattle.statuses.proofs.fault_order.Stages.{answers_stage}
use Rattle.program.proofs.source_goals.goal.fetch_theories.Goals as goal

pub returns-clause-answers : goal.returns-clause-answers
returns-clause-answers g c =
    let bytes = c.in_ok-text.text.items in
    let r = theories_in c.read_source.new.store c.read_source.result in
    let read = subst (λ (b : List ℕ). IsStageAnswer (SourceTheories b) r) c.deref.ensures.value c.read_source.ensures.theories in
    answers_then (λ b files limit. SourceTheories b) c.in_ok-text.ensures (answers_stage (SourceTheories bytes) 1 _ r read)
