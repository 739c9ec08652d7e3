use Rattle.std.proofs.Common.{map, take}
use Rattle.trees.specs.Tree.{Two}
use Rattle.trees.specs.Node.{tree_at, head_of_node, Grows}
use Rattle.tasks.specs.Meaning.{trees_at}
use Rattle.tr_split.specs.parts.Parts.{GainsFormulas}
use Rattle.tr_split.proofs.parts.parts.add_wrapped.Given as goal

abbrev pub invariant-loop-formula : goal.invariant-loop-formula
invariant-loop-formula l = record {
  grows : Grows l.initial.store l.store;
  gains : GainsFormulas l.initial.store l.store l.initial.parts.items l.parts.items (map (Two (head_of_node l.node) (tree_at l.initial.store l.first)) (trees_at l.initial.store (take l.formula-index l.formulas)));
}
