use Rattle.std.proofs.Common.{◌≡◌, ◌+◌, drop, take, map, All}
use Rattle.tasks.specs.Meaning.{tasks_at}
use Rattle.printed_problems.specs.Problems.{problem_of}
use Rattle.drivers.specs.driver_items.Syntaxes.{syntax_of}
use Rattle.printed_problems.specs.Made.{ProblemHeld, problem_at}
use Rattle.printed_problems.specs.Shared.{IsShared}
use Rattle.part_texts.specs.Problems.{first_fault}
use Rattle.part_texts.proofs.making.problems_after.Given as goal

abbrev pub invariant-loop-place : goal.invariant-loop-place
invariant-loop-place l = record {
  held : All (ProblemHeld l.store) l.made.items;
  are : map (problem_at l.store) l.made.items ≡ map (problem_of l.driver) (tasks_at l.store (take l.place l.tasks));
  shared : IsShared (syntax_of l.driver.printer) l.store l.shared;
  none : first_fault l.driver (l.place + 1) (tasks_at l.store (drop l.place l.tasks)) ≡ first_fault l.driver 1 (tasks_at l.store l.tasks);
}
