-- What names mean where a declaration stands.
use Rattle.std.specs.Prelude.{ℕ, suc, cond, List, [], ◌∷◌, Option, Some, None}
use Rattle.std.specs.Str.{bytes_eq}
use Rattle.std.specs.Option.{option_map}
use Rattle.tasks.specs.trees.Tree.{Tree}
use Rattle.scopes.specs.Names.{NamesOf}
use Rattle.scopes.specs.declared.Referent.{Referent}
use Rattle.surface.specs.Lexeme.{Word}
use Rattle.tasks.specs.Task.{SymbolTree}

-- what the name of a type stands for: an entry, or a type with so many type variables
abbrev pub MeaningTree : Type 0
MeaningTree = Referent Tree

-- the names of scopes in definitions, where an alias stands for a tree
abbrev pub NamesTree : Type 0
NamesTree = NamesOf Tree

-- the signature's entries; what the name of a type and of another symbol means after its scopes;
-- the constructor of the tuples of each width; and the declaration's type variables
pub record Where : Type 0 where
  pub symbols : List SymbolTree
  pub types : List Word → Word → Option MeaningTree
  pub names : List Word → Word → Option ℕ
  pub tuples : ℕ → Option ℕ
  pub vars : List Word

-- the place of a word
abbrev pub place_of : Word → List Word → Option ℕ
place_of w [] = None
place_of w (v ∷ vs) = cond (bytes_eq v w) (Some 0) (option_map suc (place_of w vs))
