use Rattle.std.proofs.Common.{◌≡◌, drop}
use Rattle.printed_problems.specs.Faults.{formula_fault}
use Rattle.printed_problems.specs.Checks.{the_task}
use Rattle.printed_problems.specs.Checked.{AreChecked}
use Rattle.printed_problems.proofs.First.{faults_from}
use Rattle.printed_problems.proofs.checks.check_formulas.Given as goal

abbrev pub invariant-loop-formula : goal.invariant-loop-formula
invariant-loop-formula l =
    (faults_from (formula_fault l.c.driver.now (the_task l.c) l.number) l.c.store.now (drop l.formula-index l.formulas) ≡ faults_from (formula_fault l.c.driver.now (the_task l.c) l.number) l.c.store.now l.formulas)
    × AreChecked l.c l.checked
