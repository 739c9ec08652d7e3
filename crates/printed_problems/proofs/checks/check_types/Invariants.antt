use Rattle.std.proofs.Common.{◌≡◌, drop}
use Rattle.printed_problems.specs.Faults.{printed_type_fault}
use Rattle.printed_problems.specs.Checks.{the_task}
use Rattle.printed_problems.proofs.First.{faults_from}
use Rattle.printed_problems.proofs.checks.check_types.Given as goal

abbrev pub invariant-loop-ty : goal.invariant-loop-ty
invariant-loop-ty l = faults_from (printed_type_fault l.c.driver.now (the_task l.c)) l.c.store.now (drop l.ty-index l.types) ≡ faults_from (printed_type_fault l.c.driver.now (the_task l.c)) l.c.store.now l.types
