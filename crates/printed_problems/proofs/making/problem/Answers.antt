use Rattle.drivers.specs.driver_items.Syntaxes.{syntax_of}
use Rattle.printed_problems.proofs.Faultless.{empty_checked}
use Rattle.printed_problems.proofs.making.problem.Goals as goal

pub problem_of_things-requires-clause-checked : goal.problem_of_things-requires-clause-checked
problem_of_things-requires-clause-checked c = empty_checked c.new-checked.result c.new-checked.ensures (syntax_of c.args.driver.now.printer) c.args.store.now

pub returns-in-Ok : goal.returns-in-Ok
returns-in-Ok c = record { problem = c.problem_of_things.ensures.problem; held = c.problem_of_things.ensures.held; due = c.problem_of_things.ensures.due }

pub returns-in-Err : goal.returns-in-Err
returns-in-Err c = record { problem = tt; held = tt; due = tt }
