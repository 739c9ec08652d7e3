use Rattle.std.proofs.Common.{All}
use Rattle.tasks.specs.trees.Node.{tree_at, Holds}
use Rattle.tasks.specs.Typing.{members}
use Rattle.step_writing.specs.tree_writing.Referring.{HasLine}
use Rattle.step_writing.proofs.tree_writing.Partly.{ReferSoFar}
use Rattle.step_writing.proofs.tree_writing.referring.list_numbers.Given as goal

abbrev pub invariant-loop-first : goal.invariant-loop-first
invariant-loop-first l = record {
  held : Holds l.store l.rest;
  lines : All (HasLine l.store l.lines) (members (tree_at l.store l.rest));
  refer : ReferSoFar l.store l.lines (tree_at l.store l.fn.list) (tree_at l.store l.rest) l.all.items;
}

abbrev pub decreases-loop-first : goal.decreases-loop-first
decreases-loop-first l = l.rest.0
