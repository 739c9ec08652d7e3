-- Lists of definitions in a store.
use Rattle.std.specs.Prelude.{◌≡◌, List, ◌++◌, All}
use Rattle.trees.specs.Tree.{Tree}
use Rattle.trees.specs.Node.{Holds}
use Rattle.tasks.specs.declared.declaration.Def.{Def}
use Rattle.tasks.specs.Task.{DefinitionTree}
use Rattle.tasks.specs.Meaning.{definitions_at}

-- the number of each equation is held
abbrev pub AreDefsHeld : List Tree → List Def → Type 0
AreDefsHeld s ds = All (λ (d : Def). Holds s d.equation) ds

-- these definitions more, after those of an older list
pub record AreAppended (s : List Tree) (more : List DefinitionTree)
    (old new : List Def) : Type 0 where
  pub held : AreDefsHeld s new
  pub are : definitions_at s new ≡ definitions_at s old ++ more
