-- Declarations joined to others, each theory's once (Why3 manual, "use").
use Rattle.std.specs.Prelude.{ℕ, not, Bool, List, [], ◌++◌, All, IsTrue}
use Rattle.std.specs.List.{list_any, filter, Contains}
use Rattle.std.specs.Str.{bytes_eq}
use Rattle.elab_groups.specs.tasks.Task.{SymbolTree, DeclarationTree}
use Rattle.elaboration_laws.specs.Scopes.{IsSubvocabulary, IsTypedSignature}
use Rattle.elaboration_laws.specs.Lists.{after}
use Rattle.elaboration_laws.specs.Tasks.{AreSound}

-- whether a declaration of a theory is among these
abbrev pub has_theory : List DeclarationTree → List ℕ → Bool
has_theory ds theory = list_any (λ (d : DeclarationTree). bytes_eq d.theory theory) ds

-- those of theories of which none is there yet
abbrev pub fresh : List DeclarationTree → List DeclarationTree → List DeclarationTree
fresh ds es = filter (λ (e : DeclarationTree). not (has_theory ds e.theory)) es

-- of each theory that both have, the second have no declaration that the first haven't
abbrev pub Agree : List DeclarationTree → List DeclarationTree → Type 0
Agree ds es = All (λ (e : DeclarationTree). IsTrue (has_theory ds e.theory) → Contains ds e) es

-- a theory's declarations over a signature are joined to others over a later one
pub record AreJoined (earlier symbols : List SymbolTree)
    (ds es : List DeclarationTree) : Type 0 where
  pub sound : AreSound symbols (ds ++ fresh ds es)
  pub first : IsSubvocabulary (after symbols [] ds) (after symbols [] (ds ++ fresh ds es))
  pub second : IsSubvocabulary (after earlier [] es) (after symbols [] (ds ++ fresh ds es))
  pub typed : IsTypedSignature (after symbols [] ds) symbols
      → IsTypedSignature (after earlier [] es) earlier
      → IsTypedSignature (after symbols [] (ds ++ fresh ds es)) symbols
