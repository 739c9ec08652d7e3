-- What a closed term stands for that the store need not hold.
use Rattle.std.specs.Prelude.{◌≡◌, List}
use Rattle.trees.specs.Tree.{Tree, loose}
use Rattle.trees.specs.Node.{tree_at, Holds}
use Rattle.trees.specs.Binding.{Param as parameter}
use Rattle.rules.specs.declared.term.Term.{Term}
use Rattle.rules.specs.declared.term.Term.TheVariants.{Held, Param}

abbrev pub term_at : List Tree → Term → Tree
term_at s (Held a) = tree_at s a
term_at s (Param n ty) = parameter n (tree_at s ty)

-- the numbers in it are held, and it is closed
abbrev pub TermHeld : List Tree → Term → Type 0
TermHeld s (Held a) = Holds s a × (loose (tree_at s a) ≡ 0)
TermHeld s (Param n ty) = Holds s ty × (loose (tree_at s ty) ≡ 0)
