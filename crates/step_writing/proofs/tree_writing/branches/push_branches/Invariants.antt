use Rattle.tasks.specs.trees.Node.{tree_at, Holds}
use Rattle.step_writing.specs.tree_writing.Referring.{words_of}
use Rattle.step_writing.specs.tree_writing.Branches.{BranchLines}
use Rattle.step_writing.proofs.tree_writing.BranchesBack.{BranchesSoFar}
use Rattle.step_writing.proofs.tree_writing.branches.push_branches.Given as goal

abbrev pub invariant-loop-pattern : goal.invariant-loop-pattern
invariant-loop-pattern l = record {
  held : Holds l.x.store.now l.rest;
  lines : BranchLines l.x.store.now l.x.lines.now (tree_at l.x.store.now l.rest);
  pushed : BranchesSoFar l.x.store.now l.x.lines.now (tree_at l.x.store.now l.fn.list) (tree_at l.x.store.now l.rest) (words_of l.fn.words.items) (words_of l.words.items);
}

abbrev pub decreases-loop-pattern : goal.decreases-loop-pattern
decreases-loop-pattern l = l.rest.0
