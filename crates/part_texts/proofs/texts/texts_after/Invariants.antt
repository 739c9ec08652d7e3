use Rattle.std.proofs.Common.{◌≡◌, ◌+◌, ◌++◌, drop, length}
use Rattle.tasks.specs.Meaning.{tasks_at}
use Rattle.name_tables.specs.Fronts.{IsFrontNoted}
use Rattle.part_texts.specs.Texts.{texts_from}
use Rattle.part_texts.proofs.texts.texts_after.Given as goal

abbrev pub invariant-loop-place : goal.invariant-loop-place
invariant-loop-place l =
    (l.out.items ++ texts_from l.driver (l.place + 1) (length l.tasks) (tasks_at l.store (drop l.place l.tasks)) ≡ texts_from l.driver 1 (length l.tasks) (tasks_at l.store l.tasks)) × IsFrontNoted l.store l.noted
