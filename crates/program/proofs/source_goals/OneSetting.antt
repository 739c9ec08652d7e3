-- A goal has one setting, or one stop, where the theories of each file are determined.
use Rattle.std.proofs.Common.{◌≡◌, ◌∙◌, ℕ, List, Option, Result, Ok, Err, ap, sym}
use Rattle.statuses.specs.outside.State.{Files}
use Rattle.drivers.specs.declared.driver_parts.driver.Driver.{Driver}
use Rattle.theories.specs.theory_states.goal_tasks.Theories.{TheoriesTree}
use Rattle.drivers.specs.declared.driver_parts.fault.DriverFault.TheVariants as of_driver
use Rattle.drivers.specs.driver_files.Reading.{DriverStop, driver_named}
use Rattle.drivers.specs.driver_files.Reading as driver
use Rattle.statuses.specs.declared.fault_order.faults.Fault.TheVariants as fault
use Rattle.statuses.specs.fault_order.Order.{RunStop, refused, absent, unread, misused, Answer, HasOneAnswer}
use Rattle.statuses.proofs.fault_order.OneStage.{one_answer, one_after}
use Rattle.program.specs.source_goals.Known.{KnownByDriver, known_of}
use Rattle.program.specs.source_goals.Order.{AreDetermined, SourceTheoriesOf, TaskOf, DriverOf, IsDriverOr, setting_of, TaskUnder, Driven, GoalUnder}
use Rattle.program.proofs.source_goals.OneSource.{one_source}
use Rattle.program.proofs.source_goals.SameDrivers.{tell_same, driver_same}

-- what the reading of a driver's files gives, as an answer of a run
abbrev driver_stop : DriverStop → RunStop
driver_stop (driver.file_absent file) = absent file
driver_stop (driver.file_unread file name) = unread file name
driver_stop (driver.file_refused (of_driver.TooLong file)) = refused (fault.TooLong file)
driver_stop (driver.file_refused (of_driver.DriverSyntax file byte)) = refused (fault.DriverSyntax file byte)
driver_stop (driver.file_refused (of_driver.UnknownTransformation file byte)) = refused (fault.UnknownTransformation file byte)
driver_stop (driver.file_refused (of_driver.BadTemplate file byte)) = refused (fault.BadTemplate file byte)
driver_stop (driver.file_refused (of_driver.UnknownSymbol file byte)) = refused (fault.UnknownSymbol file byte)
driver_stop (driver.file_refused (of_driver.ImportCycle file byte)) = refused (fault.ImportCycle file byte)
driver_stop (driver.file_refused (of_driver.UnknownPrinter file byte)) = refused (fault.UnknownPrinter file byte)
driver_stop (driver.file_refused _) = misused

abbrev or_stop : Result Driver DriverStop → Result Driver RunStop
or_stop (Ok d) = Ok d
or_stop (Err stop) = Err (driver_stop stop)

as_found : (found : Result Driver DriverStop) (r : Result Driver RunStop) → IsDriverOr found r → r ≡ or_stop found
as_found found (Ok d) h = sym (ap or_stop h)
as_found found (Err (absent file)) h = sym (ap or_stop h)
as_found found (Err (unread file name)) h = sym (ap or_stop h)
as_found found (Err (refused (fault.TooLong file))) h = sym (ap or_stop h)
as_found found (Err (refused (fault.DriverSyntax file byte))) h = sym (ap or_stop h)
as_found found (Err (refused (fault.UnknownTransformation file byte))) h = sym (ap or_stop h)
as_found found (Err (refused (fault.BadTemplate file byte))) h = sym (ap or_stop h)
as_found found (Err (refused (fault.UnknownSymbol file byte))) h = sym (ap or_stop h)
as_found found (Err (refused (fault.ImportCycle file byte))) h = sym (ap or_stop h)
as_found found (Err (refused (fault.UnknownPrinter file byte))) h = sym (ap or_stop h)
as_found found (Err _) h = absurd h

one_driver : (known : KnownByDriver) (drv : List ℕ) (files : Files) (limit : Option ℕ) → HasOneAnswer (DriverOf known drv files limit)
one_driver known drv files limit r q x y =
    let same = driver_same x.0 y.0 x.1 y.1 (tell_same known x.0 y.0 x.1 y.1 x.2 y.2) drv files limit in
    as_found (driver_named x.0 x.1 drv files limit) r x.3 ∙ ap or_stop same ∙ sym (as_found (driver_named y.0 y.1 drv files limit) q y.3)

one_under : (theory goal : List ℕ) (all : TheoriesTree) (d : Driver) → HasOneAnswer (TaskUnder theory goal all d)
one_under theory goal all d = one_after (TaskOf theory goal all) (λ t. Answer (Ok (setting_of d t))) (one_answer _) (λ t. one_answer _)

one_driven : (drv theory goal : List ℕ) (all : TheoriesTree) (files : Files) (limit : Option ℕ) → HasOneAnswer (Driven drv theory goal all files limit)
one_driven drv theory goal all files limit =
    one_after (DriverOf (known_of all) drv files limit) (TaskUnder theory goal all) (one_driver (known_of all) drv files limit) (one_under theory goal all)

pub one_setting : (determined : AreDetermined) (src drv theory goal : List ℕ) (files : Files) (limit : Option ℕ) → HasOneAnswer (GoalUnder src drv theory goal files limit)
one_setting determined src drv theory goal files limit =
    one_after (SourceTheoriesOf src files limit) (λ all. Driven drv theory goal all files limit) (one_source determined src files limit) (λ all. one_driven drv theory goal all files limit)
