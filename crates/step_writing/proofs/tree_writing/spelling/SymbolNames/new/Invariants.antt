use Rattle.std.proofs.Common.{◌≡◌}
use Rattle.tasks.specs.trees.Tree.{Leaf, HEnd}
use Rattle.tasks.specs.trees.Node.{tree_at, Holds, Grows}
use Rattle.step_writing.specs.tree_writing.Spelt.{AreNoted}
use Rattle.step_writing.proofs.tree_writing.spelling.SymbolNames.new.Given as goal

abbrev pub invariant-loop-place : goal.invariant-loop-place
invariant-loop-place l = record {
  grows : Grows l.fn.store l.store;
  noted : AreNoted l.store l.table l.places l.place;
  held : Holds l.store l.end;
  none : tree_at l.store l.end ≡ Leaf HEnd;
}
