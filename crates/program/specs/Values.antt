-- What the results of a run's parts stand for over a store.
use Rattle.std.specs.Prelude.{List, Result, Ok, Err, Vec}
use Rattle.std.specs.declared.alloc.Global.{Global}
use Rattle.tasks.specs.trees.Tree.{Tree}
use Rattle.tasks.specs.Task.{TaskTree}
use Rattle.tasks.specs.Meaning.{task_at, tasks_at}
use Rattle.rules.specs.declared.rule.Step.{Step}
use Rattle.rules.specs.Trees.{StepTree}
use Rattle.rules.specs.Meaning.{steps_at}
use Rattle.stages.specs.evidence.Stages.{parts_at}
use Rattle.stages.specs.declared.fault.CarryFault.{CarryFault}
use Rattle.stages.specs.declared.fault.CarryFault.TheVariants as of_carry
use Rattle.part_texts.specs.declared.fault.PartFault.{PartFault}
use Rattle.part_texts.specs.declared.fault.PartFault.TheVariants as of_part
use Rattle.statuses.specs.declared.fault_order.faults.Fault.TheVariants as fault
use Rattle.statuses.specs.declared.fault_order.faults.RunFault.{RunFault}
use Rattle.statuses.specs.declared.fault_order.faults.RunFault.TheVariants as run_fault
use Rattle.program.specs.source_goals.Order.{GoalSettingTree, setting_of}
use Rattle.program.specs.declared.source_goals.setting.GoalSetting.{GoalSetting}
use Rattle.program.specs.declared.parts.PartProblems.{PartProblems}
use Rattle.program.specs.declared.parts.StagedTask.{StagedTask}
use Rattle.program.specs.declared.derivation.RefutedTask.{RefutedTask}

abbrev pub steps_in : {E : Type 0} → List Tree → Result (Vec Step Global) E
    → Result (List StepTree) E
steps_in s (Ok steps) = Ok (steps_at s steps.items)
steps_in s (Err e) = Err e

abbrev pub handed_in : {E : Type 0} → List Tree → Result (Vec (List Step) Global) E
    → Result (List (List StepTree)) E
handed_in s (Ok handed) = Ok (parts_at s handed.items)
handed_in s (Err e) = Err e

abbrev pub tasks_in : {E : Type 0} → List Tree → Result StagedTask E → Result (List TaskTree) E
tasks_in s (Ok p) = Ok (tasks_at s p.carried.tasks.items)
tasks_in s (Err e) = Err e

abbrev pub refuted_in : {E : Type 0} → List Tree → Result RefutedTask E
    → Result (List (List StepTree)) E
refuted_in s (Ok r) = Ok (parts_at s r.handed.items)
refuted_in s (Err e) = Err e

-- a goal's task with its driver
abbrev pub setting_at : List Tree → GoalSetting → GoalSettingTree
setting_at s g = setting_of g.driver (task_at s g.task)

abbrev pub parts_in : {E : Type 0} → List Tree → Result PartProblems E → Result (List TaskTree) E
parts_in s (Ok p) = Ok (tasks_at s p.staged.carried.tasks.items)
parts_in s (Err e) = Err e

-- why there is no text, where a task isn't carried through
abbrev pub carry_fault : CarryFault → RunFault
carry_fault of_carry.Memory = run_fault.Memory
carry_fault (of_carry.Misplaced stage decl) = run_fault.Refused (fault.Misplaced stage decl)
carry_fault (of_carry.TooLarge stage) = run_fault.Refused (fault.TooLarge stage)

-- and where a part can't be printed
abbrev pub part_fault : PartFault → RunFault
part_fault of_part.Memory = run_fault.Memory
part_fault (of_part.Polymorphic part decl) = run_fault.Refused (fault.Polymorphic part decl)
part_fault (of_part.Unprintable part decl) = run_fault.Refused (fault.Unprintable part decl)
part_fault (of_part.NoSyntax part symbol) = run_fault.Refused (fault.NoSyntax part symbol)
