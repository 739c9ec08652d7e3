-- What the code has of a formula in the sum, and of a sequent.
use Rattle.std.specs.Prelude.{List, map, All}
use Rattle.trees.specs.declared.TermId.{TermId}
use Rattle.trees.specs.Tree.{Tree}
use Rattle.trees.specs.Node.{tree_at, Holds}
use Rattle.linear_leaf.specs.Linear.{Bounded}
use Rattle.step_reading.specs.declared.shared_sums.uses.Bound.{Bound}
use Rattle.step_reading.specs.declared.shared_sums.uses.Leaf as declared

abbrev pub bounded_of : List Tree → Bound → Bounded
bounded_of s d = record {
  left = tree_at s d.left;
  right = tree_at s d.right;
  strict =
      d.strict;
  equation = d.equation;
}

abbrev pub IsBoundHeld : List Tree → Bound → Type 0
IsBoundHeld s d = Holds s d.left × Holds s d.right

abbrev pub sequent_of_leaf : declared.Leaf → List Tree
sequent_of_leaf x = map (tree_at x.store.now) x.sequent.now

abbrev pub IsSequentHeld : declared.Leaf → Type 0
IsSequentHeld x = All (Holds x.store.now) x.sequent.now

abbrev pub pair_trees : List Tree → TermId × TermId → Tree × Tree
pair_trees s p = (tree_at s p.0, tree_at s p.1)
