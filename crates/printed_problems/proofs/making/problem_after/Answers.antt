use Rattle.printed_problems.proofs.making.problem_after.Goals as goal
use Rattle.std.proofs.lemmas.Result.{on_ok_weaker}

pub returns-in-Ok : goal.returns-in-Ok
returns-in-Ok c = record {
  problem = c.problem_of_things.ensures.problem;
  held = c.problem_of_things.ensures.held;
  due = c.problem_of_things.ensures.due;
  shared = on_ok_weaker c.problem_of_things.result (λ k. record { noted = c.in-Ok.ensures.noted; checked = k }) c.problem_of_things.ensures.checked;
}

pub returns-in-Err : goal.returns-in-Err
returns-in-Err c = record { problem = tt; held = tt; due = tt; shared = tt }
