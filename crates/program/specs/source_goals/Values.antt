-- What the results of the parts stand for over a store, and the faults of a run that the parts'
-- faults are.
use Rattle.std.specs.Prelude.{ℕ, List, Result, Ok, Err, Vec}
use Rattle.std.specs.declared.alloc.Global.{Global}
use Rattle.tasks.specs.trees.Tree.{Tree}
use Rattle.tasks.specs.declared.task.Task.{Task}
use Rattle.tasks.specs.Task.{TaskTree}
use Rattle.tasks.specs.Meaning.{task_at}
use Rattle.surface.specs.tokens_why.declared.token.Token.{Token}
use Rattle.surface.specs.declared.declarations.File.{File}
use Rattle.surface.specs.Declarations.{SyntaxTheory as Surface}
use Rattle.surface.specs.SurfaceDeclarations.{file_of}
use Rattle.drivers.specs.declared.driver_parts.driver.Driver.{Driver}
use Rattle.drivers.specs.declared.driver_parts.fault.DriverFault.{DriverFault}
use Rattle.drivers.specs.declared.driver_parts.fault.DriverFault.TheVariants as of_driver
use Rattle.theories.specs.theory_states.declared.goal_tasks.theories.Theories.{Theories}
use Rattle.theories.specs.theory_states.goal_tasks.Theories.{TheoriesTree}
use Rattle.theories.specs.theory_states.goal_tasks.Meaning.{theories_at}
use Rattle.theories.specs.theory_states.declared.fault.SourceFault.{SourceFault}
use Rattle.theories.specs.theory_states.declared.fault.SourceFault.TheVariants as of_source
use Rattle.statuses.specs.declared.fault_order.faults.Fault.TheVariants as fault
use Rattle.statuses.specs.declared.fault_order.faults.RunFault.{RunFault}
use Rattle.statuses.specs.declared.fault_order.faults.RunFault.TheVariants as run_fault
use Rattle.program.specs.declared.source_goals.setting.GoalSetting.{GoalSetting}
use Rattle.program.specs.source_goals.Order.{GoalSettingTree, setting_of}

abbrev pub tokens_in : {E : Type 0} → Result (Vec Token Global) E → Result (List Token) E
tokens_in (Ok tokens) = Ok tokens.items
tokens_in (Err e) = Err e

abbrev pub file_in : {E : Type 0} → Result File E → Result (List Surface) E
file_in (Ok file) = Ok (file_of file)
file_in (Err e) = Err e

abbrev pub theories_in : {E : Type 0} → List Tree → Result Theories E → Result TheoriesTree E
theories_in s (Ok all) = Ok (theories_at s all)
theories_in s (Err e) = Err e

abbrev pub task_in : {E : Type 0} → List Tree → Result Task E → Result TaskTree E
task_in s (Ok t) = Ok (task_at s t)
task_in s (Err e) = Err e

abbrev pub setting_in : {E : Type 0} → List Tree → Result GoalSetting E → Result GoalSettingTree E
setting_in s (Ok g) = Ok (setting_of g.driver (task_at s g.task))
setting_in s (Err e) = Err e

-- the number of the first file after those of a driver
abbrev pub next_after_driver : Driver → ℕ
next_after_driver d = d.next_file

abbrev pub next_in : GoalSettingTree → ℕ
next_in g = g.driver.next_file

-- where a source has no theories
abbrev pub source_fault : SourceFault → RunFault
source_fault of_source.Memory = run_fault.Memory
source_fault (of_source.Unknown decl token) = run_fault.Refused (fault.Unknown decl token)
source_fault (of_source.Duplicate decl token) = run_fault.Refused (fault.Duplicate decl token)
source_fault (of_source.WrongKind decl token) = run_fault.Refused (fault.WrongKind decl token)
source_fault (of_source.Arity decl token) = run_fault.Refused (fault.Arity decl token)
source_fault (of_source.Clash decl k) = run_fault.Refused (fault.Clash decl k)
source_fault (of_source.Undetermined decl token) = run_fault.Refused (fault.Undetermined decl token)
source_fault (of_source.NotExhaustive decl token) =
    run_fault.Refused (fault.NotExhaustive decl token)
source_fault (of_source.BadClause decl clause) = run_fault.Refused (fault.BadClause decl clause)
source_fault (of_source.NotPositive decl clause) = run_fault.Refused (fault.NotPositive decl clause)
source_fault (of_source.NotStructural decl) = run_fault.Refused (fault.NotStructural decl)
source_fault (of_source.GroupTooWide decl) = run_fault.Refused (fault.GroupTooWide decl)
source_fault (of_source.Uninhabited decl) = run_fault.Refused (fault.Uninhabited decl)
source_fault (of_source.BadSubstitution decl token) =
    run_fault.Refused (fault.BadSubstitution decl token)

-- where no driver is read
abbrev pub driver_fault : DriverFault → RunFault
driver_fault of_driver.Memory = run_fault.Memory
driver_fault (of_driver.Absent file) = run_fault.Absent file
driver_fault (of_driver.ReadFault file) = run_fault.ReadFault file
driver_fault (of_driver.TooLong file) = run_fault.Refused (fault.TooLong file)
driver_fault (of_driver.DriverSyntax file byte) = run_fault.Refused (fault.DriverSyntax file byte)
driver_fault (of_driver.UnknownTransformation file byte) =
    run_fault.Refused (fault.UnknownTransformation file byte)
driver_fault (of_driver.BadTemplate file byte) = run_fault.Refused (fault.BadTemplate file byte)
driver_fault (of_driver.UnknownSymbol file byte) = run_fault.Refused (fault.UnknownSymbol file byte)
driver_fault (of_driver.ImportCycle file byte) = run_fault.Refused (fault.ImportCycle file byte)
driver_fault (of_driver.UnknownPrinter file byte) =
    run_fault.Refused (fault.UnknownPrinter file byte)
