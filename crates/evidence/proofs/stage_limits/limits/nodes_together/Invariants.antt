use Rattle.std.proofs.Common.{◌≡◌, ◌≤◌, ◌+◌, min, drop, sum_by}
use Rattle.tasks.specs.Meaning.{tasks_at}
use Rattle.tasks.specs.Task.{nodes}
use Rattle.evidence.proofs.stage_limits.limits.nodes_together.Given as goal

abbrev pub invariant-loop-task : goal.invariant-loop-task
invariant-loop-task l =
    (l.all ≤ 18446744073709551615)
    × (min (l.all + sum_by nodes (tasks_at l.store (drop l.task-index l.tasks))) 18446744073709551615
    ≡ min (sum_by nodes (tasks_at l.store l.tasks)) 18446744073709551615)
