use Rattle.std.proofs.Common.{rules, Err, None}
use Rattle.program.proofs.source_goals.Determined.{determined}
use Rattle.statuses.proofs.fault_order.Meeting.{answers_then, answers_stop, ends}
use Rattle.program.specs.Order.{Derivation, CheckText}
use Rattle.program.specs.Only.{IsOnlyAnswer}
use Rattle.program.proofs.One.{only, one_check}
use Rattle.program.proofs.check.check_goal.Goals as goal

pub returns-clause-answers : goal.returns-clause-answers
returns-clause-answers g c = ends (answers_then (Derivation c.args.der.now) c.in_ok-task.ensures.answers c.check_file.ensures)

pub returns-clause-only : goal.returns-clause-only
returns-clause-only g c =
    only (λ files. one_check determined c.args.src.now c.args.theory.now c.args.goal.now c.args.der.now files None)
    (ends (answers_then (Derivation c.args.der.now) c.in_ok-task.ensures.answers c.check_file.ensures))

pub returns-in_err-task-clause-only : goal.returns-in_err-task-clause-only
returns-in_err-task-clause-only g c =
    let whole : IsOnlyAnswer (CheckText c.args.src.now c.args.theory.now c.args.goal.now c.args.der.now) (g.L.Library.state c.args.lib.now) (Err c.in_err-task.field-0.0) =
    only (λ files. one_check determined c.args.src.now c.args.theory.now c.args.goal.now c.args.der.now files None)
    (ends (answers_stop (Derivation c.args.der.now) (λ _. 0) c.in_err-task.ensures.answers)) in
    search rules
