-- Recursive groups of definitions: a body of one of them uses a member.
use Rattle.std.specs.Prelude.{◌≡◌, ℕ, ◌==◌, Bool, false, ◌||◌, List}
use Rattle.std.specs.List.{list_any}
use Rattle.trees.specs.Tree.{Tree, Leaf, One, Two, Three, HPred, HFun}
use Rattle.tasks.specs.Task.{DefinitionTree}
use Rattle.checks.specs.decl_checks.Structure.{defining_body, defined}

-- whether one of the symbols is used at the top of a tree
abbrev pub top_uses : List ℕ → Tree → Bool
top_uses group (Two (HPred p) a b) = list_any (λ j. j == p) group
top_uses group (Three (HFun f) a b c) = list_any (λ j. j == f) group
top_uses group _ = false

-- none of them is used there
abbrev pub TopLacks : List ℕ → Tree → Type 0
TopLacks group e = top_uses group e ≡ false

-- whether one of them is used in it
abbrev pub uses : List ℕ → Tree → Bool
uses group (Leaf h) = false
uses group (One h a) = uses group a
uses group (Two h a b) = top_uses group (Two h a b) || (uses group a || uses group b)
uses group (Three h a b c) =
    top_uses group (Three h a b c) || (uses group a || (uses group b || uses group c))

-- whether the body of one of these definitions uses one of the symbols
abbrev pub some_uses : List ℕ → List DefinitionTree → Bool
some_uses group ds = list_any (λ (d : DefinitionTree). uses group (defining_body d.equation)) ds

-- whether a body of a group uses a member; then the whole group is recursive
abbrev pub is_recursive : List DefinitionTree → Bool
is_recursive ds = some_uses (defined ds) ds
