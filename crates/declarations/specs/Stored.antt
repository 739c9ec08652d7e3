-- Declarations in a store.
use Rattle.std.specs.Prelude.{◌≡◌, List, All}
use Rattle.trees.specs.Tree.{Tree}
use Rattle.tasks.specs.declared.declaration.Decl.{Decl}
use Rattle.tasks.specs.declared.signature.SymbolInfo.{SymbolInfo}
use Rattle.tasks.specs.Vocabulary.{Vocabulary}
use Rattle.tasks.specs.Valid.{IsValidDecl}
use Rattle.tasks.specs.Meaning.{symbols_at, declaration_at, SymbolHeld, DeclHeld}

-- a declaration that is valid over the entries of a signature, with all numbers held
pub record IsValidIn (s : List Tree) (infos : List SymbolInfo) (decl : Decl) : Type 0 where
  pub symbols : All (SymbolHeld s) infos
  pub held : DeclHeld s decl
  pub vocabulary : Vocabulary
  pub same : vocabulary.symbols ≡ symbols_at s infos
  pub valid : IsValidDecl vocabulary (declaration_at s decl)
