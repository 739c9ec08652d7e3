use Rattle.std.proofs.Common.{◌≡◌, ◌++◌, List, drop}
use Rattle.trees.specs.Tree.{Tree}
use Rattle.tasks.specs.Meaning.{task_at}
use Rattle.name_tables.specs.Seen.{seen_occurrences}
use Rattle.printed_problems.specs.Problems.{places_from}
use Rattle.printed_problems.specs.Tests.{asks}
use Rattle.printed_problems.proofs.places.places_of.Given as goal

abbrev pub invariant-loop-place : goal.invariant-loop-place
invariant-loop-place l =
    (s : List Tree) → l.places.items ++ places_from (asks l.question l.driver (task_at s l.task)) l.place (seen_occurrences s (drop l.place l.keys)) ≡ places_from (asks l.question l.driver (task_at s l.task)) 0 (seen_occurrences s l.keys)
