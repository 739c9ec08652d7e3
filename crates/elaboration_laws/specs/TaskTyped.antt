-- What is typed over a signature of which each entry that has a theory may be named.
use Rattle.std.specs.Prelude.{ℕ, List, All}
use Rattle.elab_groups.specs.trees.Tree.{Tree}
use Rattle.elab_groups.specs.tasks.Task.{SymbolTree}
use Rattle.elab_groups.specs.tasks.Vocabulary.{of_signature}
use Rattle.checks.specs.match_cover.Shapes.{IsPattern, HaveOneType}
use Rattle.elab_groups.specs.name_resolution.Where.{NamesTree}
use Rattle.elaboration_laws.specs.Scopes.{IsTypedSignature, AreTypedScopes}

-- a match, by its token: its patterns are well typed, and of one type
pub record IsFitMatch (symbols : List SymbolTree) (m : ℕ × List Tree) : Type 0 where
  pub patterns : All (IsPattern symbols) m.1
  pub one_type : HaveOneType m.1

-- the signature and scopes are typed
pub record IsTypedOver (symbols : List SymbolTree) (names : NamesTree) : Type 0 where
  pub signature : IsTypedSignature (of_signature symbols) symbols
  pub scopes : AreTypedScopes (of_signature symbols) names
