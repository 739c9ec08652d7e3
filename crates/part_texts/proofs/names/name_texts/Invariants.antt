use Rattle.std.proofs.Common.{◌≡◌, ◌+◌, ◌++◌, drop, length}
use Rattle.tasks.specs.Meaning.{tasks_at}
use Rattle.part_texts.specs.Names.{names_from}
use Rattle.part_texts.proofs.names.name_texts.Given as goal

abbrev pub invariant-loop-place : goal.invariant-loop-place
invariant-loop-place l = l.out.items ++ names_from l.driver (l.place + 1) (length l.tasks) (tasks_at l.store (drop l.place l.tasks)) ≡ names_from l.driver 1 (length l.tasks) (tasks_at l.store l.tasks)
