use Rattle.step_writing.proofs.tree_writing.MarkedParts.{FirstMarked}
use Rattle.step_writing.proofs.tree_writing.marking.root_marks.Given as goal

abbrev pub invariant-loop-root : goal.invariant-loop-root
invariant-loop-root l = FirstMarked l.store l.roots l.marks.items l.root-index
