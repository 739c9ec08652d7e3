-- A group spelled out after other declarations, over a store that grew as what it says was made.
use Rattle.std.proofs.Common.{◌≡◌, List, ◌++◌, All, Option, ap, ◌∙◌}
use Rattle.std.proofs.lemmas.List.Elements.{All-weaker}
use Rattle.tasks.specs.trees.Tree.{Tree}
use Rattle.tasks.specs.trees.Node.{Grows}
use Rattle.tasks.specs.declared.signature.SymbolInfo.{SymbolInfo}
use Rattle.tasks.specs.declared.declaration.Decl.{Decl}
use Rattle.tasks.specs.Task.{SymbolTree, DeclarationTree}
use Rattle.tasks.specs.Facts.{FactTree}
use Rattle.tasks.specs.Meaning.{symbols_at, body_at, declaration_at, declarations_at, SymbolHeld, DeclHeld}
use Rattle.tasks.proofs.Growth.{symbols_later, declaration_later, declarations_later, decl_held_later}
use Rattle.declarations.specs.spelled_groups.Spelled.{GroupFacts, in_place, spelling_rule}

module _ (s s1 : List Tree) (g : Grows s s1) where
  pub all_held : (ds : List Decl) → All (DeclHeld s) ds → All (DeclHeld s1) ds
  all_held ds a = All-weaker (DeclHeld s) (DeclHeld s1) (decl_held_later s s1 g) ds a

  pub placed : (f : GroupFacts) (is : List SymbolInfo) → All (SymbolHeld s) is → (d : Decl) → DeclHeld s d → (old : List Decl) → All (DeclHeld s) old → (o : Option (List FactTree)) → o ≡ f (symbols_at s is) (body_at s d.body)
      → declarations_at s1 old ++ in_place (symbols_at s1 is) (declaration_at s1 d) o ≡ declarations_at s old ++ spelling_rule f (symbols_at s is) (declaration_at s d)
  placed f is symbols d held old a o e =
      ap (λ (z : List DeclarationTree). z ++ in_place (symbols_at s1 is) (declaration_at s1 d) o) (declarations_later s s1 g old a)
      ∙ ap (λ (z : List SymbolTree). declarations_at s old ++ in_place z (declaration_at s1 d) o) (symbols_later s s1 g is symbols)
      ∙ ap (λ (z : DeclarationTree). declarations_at s old ++ in_place (symbols_at s is) z o) (declaration_later s s1 g d held)
      ∙ ap (λ (z : Option (List FactTree)). declarations_at s old ++ in_place (symbols_at s is) (declaration_at s d) z) e
