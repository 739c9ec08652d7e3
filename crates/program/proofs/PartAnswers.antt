-- The parts of a task, as steps of a run.
use Rattle.std.proofs.Common.{◌≡◌, ℕ, List, None, Result, Ok, Err, refl, ap, sym, map}
use Rattle.tasks.specs.Task.{TaskTree}
use Rattle.part_texts.specs.drivers.declared.driver_parts.driver.Driver.{Driver}
use Rattle.stages.specs.declared.fault.CarryFault.{CarryFault}
use Rattle.stages.specs.declared.fault.CarryFault.TheVariants as of_carry
use Rattle.stages.specs.transformations.Transformations.{equation_of}
use Rattle.stages.specs.Carried.{StageRefusal, carried_task}
use Rattle.stages.specs.Faults.{IsCarryFault}
use Rattle.stages.specs.Listing.{stages_of}
use Rattle.part_texts.specs.declared.fault.PartFault.{PartFault}
use Rattle.part_texts.specs.declared.fault.PartFault.TheVariants as of_part
use Rattle.part_texts.specs.Problems.{IsPartFault, first_fault}
use Rattle.statuses.specs.fault_order.Answers.{IsStageAnswer}
use Rattle.statuses.specs.fault_order.Order.{Answer}
use Rattle.program.specs.source_goals.Order.{GoalSettingTree}
use Rattle.program.specs.Order.{or_stage_refused, Carried, Printable}
use Rattle.program.specs.Values.{carry_fault, part_fault}

carry_stopped : (said : Result (List TaskTree) StageRefusal) (e : CarryFault) → IsCarryFault said e → IsStageAnswer (Answer (or_stage_refused said)) (Err (carry_fault e))
carry_stopped said of_carry.Memory h = tt
carry_stopped said (of_carry.Misplaced stage decl) h = sym (ap or_stage_refused h)
carry_stopped said (of_carry.TooLarge stage) h = sym (ap or_stage_refused h)

module _ (g : GoalSettingTree) where
  pub carried_ok : (ts : List TaskTree) → carried_task (map equation_of (stages_of g.driver g.task)) g.task ≡ Ok ts → IsStageAnswer (Carried g) (Ok ts)
  carried_ok ts e = sym (ap or_stage_refused e)

  pub carried_err : (e : CarryFault) → IsCarryFault (carried_task (map equation_of (stages_of g.driver g.task)) g.task) e → IsStageAnswer (Carried g) (Err (carry_fault e))
  carried_err e h = carry_stopped (carried_task (map equation_of (stages_of g.driver g.task)) g.task) e h

module _ (d : Driver) (ts : List TaskTree) where
  pub printable_ok : first_fault d 1 ts ≡ None → IsStageAnswer (Printable d ts) (Ok ts)
  printable_ok e = (e, refl)

  pub printable_err : (e : PartFault) → IsPartFault (first_fault d 1 ts) e → IsStageAnswer (Printable d ts) (Err (part_fault e))
  printable_err of_part.Memory h = tt
  printable_err (of_part.Polymorphic part decl) h = h
  printable_err (of_part.Unprintable part decl) h = h
  printable_err (of_part.NoSyntax part symbol) h = h
