-- The conjunction of a list of formulas: nested to the right, and `true` of the empty list.
use Rattle.std.specs.Prelude.{List, [], ◌∷◌}
use Rattle.trees.specs.Tree.{Tree, Leaf, Two, HTrue, HJoin}
use Rattle.trees.specs.declared.Op.TheVariants.{And}

abbrev pub conjunction : List Tree → Tree
conjunction [] = Leaf HTrue
conjunction (a ∷ []) = a
conjunction (a ∷ more) = Two (HJoin And) a (conjunction more)
