use Rattle.std.proofs.Common.{sym}
use Rattle.printed_problems.specs.declared.fault.PrintFault.TheVariants.{Memory}
use Rattle.printed_problems.proofs.First.{meets_same, meets_fault}
use Rattle.printed_problems.proofs.making.problem_of_things.Goals as goal
use Rattle.tasks.proofs.outside.Passed.{no_value, no_ok}
use Rattle.tasks.proofs.plain_laws.Results.{ok_any}

pub returns-in_err-bare : goal.returns-in_err-bare
returns-in_err-bare c =
    let r = c.from_residual in
    record { checked = no_ok _ _ r.result r.ensures.1; problem = no_value _ _ r.result r.ensures.1; held = no_value _ _ r.result r.ensures.1; due = meets_fault r.result _ Memory r.ensures.1 tt }

pub returns-in_err-check_task : goal.returns-in_err-check_task
returns-in_err-check_task c =
    let r = c.from_residual-in_err-check_task in
    record { checked = no_ok _ _ r.result r.ensures.1; problem = no_value _ _ r.result r.ensures.1; held = no_value _ _ r.result r.ensures.1; due = meets_fault r.result _ _ r.ensures.1 c.in_err-check_task.ensures.due }

pub returns : goal.returns
returns c = record { checked = ok_any c.problem_by.result c.in_ok-check_task.ensures.checked; problem = c.problem_by.ensures.problem; held = c.problem_by.ensures.held; due = meets_same c.problem_by.result _ _ (sym c.in_ok-check_task.ensures.due) c.problem_by.ensures.memory }
