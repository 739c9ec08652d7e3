use Rattle.std.proofs.Common.{take}
use Rattle.tasks.specs.Meaning.{trees_at}
use Rattle.theory_states.specs.goal_tasks.Named.{all_named}
use Rattle.theory_states.specs.goal_tasks.Gathered.{Walks}
use Rattle.theory_states.proofs.goal_tasks.declarations.note_trees.Given as goal

abbrev pub invariant-loop-tree : goal.invariant-loop-tree
invariant-loop-tree l = Walks l.store l.initial.found.keys l.found.keys l.done.keys (all_named (trees_at l.store (take l.tree-index l.trees)))
