-- Applications of symbols to lists of arguments.
use Rattle.std.specs.Prelude.{◌≡◌, List}
use Rattle.trees.specs.declared.Sort.TheVariants.{Kind}
use Rattle.trees.specs.Tree.{Tree, Two, Three, HFun, HPred}
use Rattle.trees.specs.Node.{tree_at, Holds}
use Rattle.trees.specs.Sorts.{sort_of, IsList}
use Rattle.congruence.specs.declared.applications.SymbolAt.{SymbolAt}
use Rattle.congruence.specs.declared.applications.SymbolAt.TheVariants as symbol

-- a symbol at types, on a list of arguments
abbrev pub applied : List Tree → SymbolAt → Tree → Tree
applied s (symbol.Function f types ty) args = Three (HFun f) (tree_at s types) args (tree_at s ty)
applied s (symbol.Predicate p types) args = Two (HPred p) (tree_at s types) args

-- its numbers are of a list of types, and of a type
abbrev pub IsSymbolHeld : List Tree → SymbolAt → Type 0
IsSymbolHeld s (symbol.Function f types ty) =
    (Holds s types × IsList Kind (tree_at s types)) × (Holds s ty × (sort_of (tree_at s ty) ≡ Kind))
IsSymbolHeld s (symbol.Predicate p types) = Holds s types × IsList Kind (tree_at s types)
