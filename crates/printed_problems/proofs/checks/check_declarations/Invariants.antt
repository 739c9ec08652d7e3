use Rattle.std.proofs.Common.{◌≡◌, drop}
use Rattle.printed_problems.specs.Checks.{the_task}
use Rattle.printed_problems.specs.Checked.{AreChecked}
use Rattle.printed_problems.proofs.First.{declarations_from}
use Rattle.printed_problems.proofs.checks.check_declarations.Given as goal

abbrev pub invariant-loop-number : goal.invariant-loop-number
invariant-loop-number l =
    (declarations_from l.c.driver.now (the_task l.c) l.c.store.now l.number (drop l.number l.decls) ≡ declarations_from l.c.driver.now (the_task l.c) l.c.store.now 0 l.decls)
    × AreChecked l.c l.checked
