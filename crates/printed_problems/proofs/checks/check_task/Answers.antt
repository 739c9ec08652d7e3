use Rattle.std.proofs.lemmas.Result.{on_ok_weaker}
use Rattle.printed_problems.specs.declared.fault.PrintFault.TheVariants.{Memory}
use Rattle.drivers.specs.driver_items.Syntaxes.{syntax_of}
use Rattle.printed_problems.proofs.Finding.{bare_within}
use Rattle.printed_problems.proofs.First.{meets_fault}
use Rattle.printed_problems.proofs.checks.check_task.Goals as goal
use Rattle.tasks.proofs.outside.Passed.{no_ok}

pub turn_to-requires : goal.turn_to-requires
turn_to-requires c = bare_within c.args.c.now c.requires.can

pub returns-in_err-turn_to : goal.returns-in_err-turn_to
returns-in_err-turn_to c =
    let r = c.from_residual in
    record { due = meets_fault r.result _ Memory r.ensures.1 tt; checked = no_ok _ _ r.result r.ensures.1 }

pub check_parts-requires-clause-checked : goal.check_parts-requires-clause-checked
check_parts-requires-clause-checked c =
    record {
      is = c.in_ok-turn_to.ensures.stays (syntax_of c.args.c.now.driver.now.printer) c.args.c.now.store.now c.requires.checked;
      bare = c.in_ok-turn_to.ensures.bare;
    }

pub returns : goal.returns
returns c = record { due = c.check_parts.ensures.due; checked = on_ok_weaker c.check_parts.result (λ k. k.is) c.check_parts.ensures.checked }
