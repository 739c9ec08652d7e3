-- What types in code stand for.
use Rattle.std.specs.Prelude.{List, All, Option}
use Rattle.std.specs.Option.{option_map}
use Rattle.trees.specs.declared.TermId.{TermId}
use Rattle.trees.specs.Tree.{Tree}
use Rattle.trees.specs.Node.{tree_at, Holds}
use Rattle.tasks.specs.declared.typed_trees.types.Types.{Types}
use Rattle.tasks.specs.declared.typed_trees.types.Types.TheVariants.{Listed, Given}
use Rattle.tasks.specs.Meaning.{trees_at}
use Rattle.tasks.specs.Typing.{members}

-- the type of a term or pattern, if it has one
abbrev pub optional_type_at : List Tree → Option TermId → Option Tree
optional_type_at s ty = option_map (tree_at s) ty

-- types in order
abbrev pub listed_types_at : List Tree → Types → List Tree
listed_types_at s (Listed a) = members (tree_at s a)
listed_types_at s (Given as') = trees_at s as'.now

abbrev pub TypesHeld : List Tree → Types → Type 0
TypesHeld s (Listed a) = Holds s a
TypesHeld s (Given as') = All (Holds s) as'.now
