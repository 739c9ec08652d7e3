use Rattle.std.proofs.Common.{rules}
use Rattle.theories.specs.theory_states.goal_tasks.Meaning.{theories_at}
use Rattle.statuses.proofs.fault_order.Meeting.{answers_then, answers_stop}
use Rattle.program.specs.source_goals.Values.{next_in, setting_in}
use Rattle.program.proofs.source_goals.Settings.{under, under_answers}
use Rattle.program.proofs.source_goals.setting.task_driven.Goals as goal

pub returns-clause-answers : goal.returns-clause-answers
returns-clause-answers g c =
    let s = c.args.store.now in
    let all = theories_at s c.args.all.now in
    answers_then (λ d. under c.args.theory.now c.args.goal.now all d) (c.in_ok-driver.ensures s)
    (under_answers c.args.theory.now c.args.goal.now all c.in_ok-driver.driver _ (setting_in s c.task_under.result) c.task_under.ensures.answers)

pub returns-in_err-driver-clause-answers : goal.returns-in_err-driver-clause-answers
returns-in_err-driver-clause-answers g c =
    let s = c.args.store.now in
    let all = theories_at s c.args.all.now in
    let whole = answers_stop (λ d. under c.args.theory.now c.args.goal.now all d) next_in (c.in_err-driver.ensures s) in
    search rules
