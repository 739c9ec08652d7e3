use Rattle.std.proofs.Common.{◌≡◌, drop}
use Rattle.std.specs.List.{list_all}
use Rattle.tasks.specs.Meaning.{tasks_at}
use Rattle.evidence.specs.stage_limits.Limits.{is_small}
use Rattle.evidence.proofs.stage_limits.limits.each_is_small.Given as goal

abbrev pub invariant-loop-task : goal.invariant-loop-task
invariant-loop-task l = list_all is_small (tasks_at l.store (drop l.task-index l.tasks)) ≡ list_all is_small (tasks_at l.store l.tasks)
