use Rattle.std.proofs.Common.{◌≡◌, [], ◌++◌, drop}
use Rattle.tasks.specs.Meaning.{task_at}
use Rattle.name_tables.specs.Seen.{seen_occurrences}
use Rattle.name_tables.proofs.Entries.{WithEntries}
use Rattle.name_tables.proofs.table.names_of.Given as goal

abbrev pub invariant-loop-key : goal.invariant-loop-key
invariant-loop-key l =
    WithEntries (task_at l.store l.task) (seen_occurrences l.store l.things) l.store l.names.items (drop l.key-index l.key-items) ≡ WithEntries (task_at l.store l.task) (seen_occurrences l.store l.things) l.store [] l.key-items
