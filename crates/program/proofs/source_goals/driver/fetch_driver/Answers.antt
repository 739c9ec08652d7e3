use Rattle.std.proofs.Common.{Ok, Err, Result, sym, subst}
use Rattle.drivers.specs.declared.driver_parts.driver.Driver.{Driver}
use Rattle.statuses.specs.fault_order.Answers.{Answers}
use Rattle.program.specs.source_goals.Order.{DriverOf}
use Rattle.program.specs.source_goals.Values.{next_after_driver}
use Rattle.statuses.specs.declared.fault_order.faults.RunFault.{RunFault}
use Rattle.program.proofs.source_goals.Driving.{driver_answers}
use Rattle.program.proofs.source_goals.driver.fetch_driver.Goals as goal

pub returns-in-Ok : goal.returns-in-Ok
returns-in-Ok g c = λ known k.
    driver_answers known c.args.sig.now.symbols c.args.theories.now c.args.drv.now k (g.L.Library.state c.args.lib.now) (g.L.Library.state c.read_driver.new.lib) (Ok c.in-Ok.driver) c.in-Ok.ensures

pub returns-in-Err : goal.returns-in-Err
returns-in-Err g c = λ known k.
    let due = driver_answers known c.args.sig.now.symbols c.args.theories.now c.args.drv.now k (g.L.Library.state c.args.lib.now) (g.L.Library.state c.read_driver.new.lib) (Err c.in-Err.fault) c.in-Err.ensures in
    let r : RunFault → Result Driver RunFault = λ e. Err e in
    subst (λ (e : RunFault). Answers (DriverOf known c.args.drv.now) 1 next_after_driver (g.L.Library.state c.args.lib.now) (g.L.Library.state c.read_driver.new.lib) (r e)) (sym c.driver_fault.ensures) due
