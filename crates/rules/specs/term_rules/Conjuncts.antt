-- A conjunction as the code goes through it: what is left of it after the formulas of a list.
use Rattle.std.specs.Prelude.{List, [], ◌∷◌, Option, Some, None}
use Rattle.trees.specs.Tree.{Tree, Two, HJoin}
use Rattle.trees.specs.declared.Op.TheVariants.{And}

-- a formula, and what comes after it, if anything does
abbrev pub conjunction_with : Tree → Option Tree → Option Tree
conjunction_with a None = Some a
conjunction_with a (Some b) = Some (Two (HJoin And) a b)

-- the formulas of a list, and what comes after them, if anything does
abbrev pub conjunction_before : List Tree → Option Tree → Option Tree
conjunction_before [] left = left
conjunction_before (a ∷ more) left = conjunction_with a (conjunction_before more left)
