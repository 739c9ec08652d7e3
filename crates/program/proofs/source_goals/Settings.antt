-- A goal's task with its driver, as a part of a run.
use Rattle.std.proofs.Common.{◌≡◌, ℕ, List, Result, Ok, Err, inl, inr, refl, ap, sym, arith}
use Rattle.statuses.specs.outside.State.{LibraryState}
use Rattle.tasks.specs.Task.{TaskTree}
use Rattle.drivers.specs.declared.driver_parts.driver.Driver.{Driver}
use Rattle.theories.specs.theory_states.goal_tasks.Theories.{TheoriesTree}
use Rattle.statuses.specs.fault_order.Answers.{Answers, IsStageAnswer}
use Rattle.statuses.specs.fault_order.Order.{Stage, StageMeaning, Answer}
use Rattle.statuses.specs.declared.fault_order.faults.RunFault.{RunFault}
use Rattle.statuses.specs.declared.fault_order.faults.RunFault.TheVariants as run_fault
use Rattle.statuses.proofs.fault_order.Meeting.{answers_value, answers_refused, answers_memory}
use Rattle.statuses.proofs.fault_order.Stages.{gives_then, gives_stop}
use Rattle.program.specs.source_goals.Order.{TaskOf, GoalSettingTree, setting_of, TaskUnder}
use Rattle.program.specs.source_goals.Values.{next_after_driver, next_in}

abbrev pub with_driver : Driver → TaskTree → Stage GoalSettingTree
with_driver d t = Answer (Ok (setting_of d t))

module _ (theory goal : List ℕ) (all : TheoriesTree) (d : Driver) where
  pub under_ok : (t : TaskTree) → TaskOf theory goal all (Ok t) → IsStageAnswer (TaskUnder theory goal all d) (Ok (setting_of d t))
  under_ok t h = gives_then (TaskOf theory goal all) (with_driver d) t (Ok (setting_of d t)) h refl

  pub under_err : (e : RunFault) → IsStageAnswer (TaskOf theory goal all) (Err e) → IsStageAnswer (TaskUnder theory goal all d) (Err e)
  under_err e h = gives_stop (TaskOf theory goal all) (with_driver d) e h

  own : (g : GoalSettingTree) → TaskUnder theory goal all d (Ok g) → g.driver ≡ d
  own g (inl x) = absurd (cc)
  own g (inr x) = let e : g ≡ setting_of d x.0 = cc in ap (λ (z : GoalSettingTree). z.driver) e

  abbrev pub under : StageMeaning GoalSettingTree
  under files limit = TaskUnder theory goal all d

  -- no file is fetched after those of the driver
  pub under_answers : (s : LibraryState) (r : Result GoalSettingTree RunFault) → IsStageAnswer (TaskUnder theory goal all d) r → Answers under (next_after_driver d) next_in s s r
  under_answers s (Ok g) h =
      let e : g.driver ≡ d = own g h in
      let n : next_after_driver d ≡ next_in g = ap next_after_driver (sym e) in
      answers_value {meaning = under} {start = next_after_driver d} {next = next_in} {s = s} {a = g} (omega (arith, n)) (λ files limit. h)
  under_answers s (Err run_fault.Memory) h = answers_memory
  under_answers s (Err (run_fault.Refused fault)) h = answers_refused (λ files. h)
  under_answers s (Err (run_fault.Absent file)) h = absurd h
  under_answers s (Err (run_fault.ReadFault file)) h = absurd h
