use Rattle.std.proofs.Common.{rules, Err, None, map, string_bytes}
use Rattle.program.specs.Order.{Lifting, LiftText}
use Rattle.statuses.proofs.fault_order.Meeting.{answers_then, answers_stop, ends}
use Rattle.program.proofs.source_goals.Determined.{determined}
use Rattle.program.specs.Only.{IsOnlyStop}
use Rattle.program.proofs.One.{only_stop, stop_lift}
use Rattle.program.proofs.lift.lift_goal.Goals as goal

pub returns-clause-answers : goal.returns-clause-answers
returns-clause-answers g c = ends (answers_then (Lifting (map string_bytes c.args.refs.now)) c.in_ok-found.ensures.answers c.lift_task.ensures)

pub returns-clause-only : goal.returns-clause-only
returns-clause-only g c =
    only_stop (λ files. stop_lift determined c.args.src.now c.args.drv.now c.args.theory.now c.args.goal.now (map string_bytes c.args.refs.now) files None)
    (ends (answers_then (Lifting (map string_bytes c.args.refs.now)) c.in_ok-found.ensures.answers c.lift_task.ensures))

pub returns-in_err-found-clause-only : goal.returns-in_err-found-clause-only
returns-in_err-found-clause-only g c =
    let whole : IsOnlyStop (LiftText c.args.src.now c.args.drv.now c.args.theory.now c.args.goal.now (map string_bytes c.args.refs.now)) (g.L.Library.state c.args.lib.now) (Err c.in_err-found.field-0.0) =
    only_stop (λ files. stop_lift determined c.args.src.now c.args.drv.now c.args.theory.now c.args.goal.now (map string_bytes c.args.refs.now) files None)
    (ends (answers_stop (Lifting (map string_bytes c.args.refs.now)) (λ _. 0) c.in_err-found.ensures.answers)) in
    search rules
