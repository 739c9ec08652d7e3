-- A law that is looked for in a group of algebraic types, and in the declarations after it.
use Rattle.std.proofs.Common.{◌≡◌, ℕ, ◌+◌, List, ◌∷◌, length, map, slice_get, Some, sym, ap, ◌∙◌, arith}
use Rattle.tasks.specs.trees.Tree.{Tree}
use Rattle.tasks.specs.declared.declaration.Alg.{Alg}
use Rattle.tasks.specs.declared.declaration.Body.{Body}
use Rattle.tasks.specs.declared.declaration.Body.TheVariants.{Algebraics}
use Rattle.tasks.specs.declared.declaration.Decl.{Decl}
use Rattle.tasks.specs.Task.{SymbolTree, DeclarationTree}
use Rattle.tasks.specs.Facts.{said_in}
use Rattle.tasks.specs.Meaning.{algebraics_at, body_at, declaration_at}
use Rattle.tr_algebraic.specs.declared.algebraic_forms.origins.LawKind.{LawKind}
use Rattle.tr_algebraic.specs.algebraic_forms.Groups.{LawTree, group_laws}
use Rattle.tr_algebraic.specs.algebraic_forms.Search.{kinds_of_laws}
use Rattle.tr_algebraic.specs.declared.algebraic_tasks.origins.PropositionOrigin.{PropositionOrigin}
use Rattle.tr_algebraic.specs.declared.algebraic_tasks.origins.PropositionOrigin.TheVariants.{Law}
use Rattle.tr_algebraic.specs.algebraic_tasks.Origins.{placed_law, placed_by, placed_from, origins}
use Rattle.tr_algebraic.proofs.algebraic_tasks.Placed.{law_here, laws_before, origin_here, origin_after}

module _ (symbols : List SymbolTree) (n : ℕ) (s : List Tree) (d : Decl) (ds : List DeclarationTree) (types items : List Alg) (q : d.body ≡ Algebraics types) (e : items ≡ types) (k : ℕ) where
  abbrev laws : List LawTree
  laws = group_laws symbols (algebraics_at s items)

  own_laws : origins (placed_by symbols n (declaration_at s d) (body_at s d.body)) ≡ origins (map placed_law laws)
  own_laws =
      ap (λ (b : Body). origins (placed_by symbols n (declaration_at s d) (body_at s b))) q ∙ ap (λ (z : List Alg). origins (map placed_law (group_laws symbols (algebraics_at s z)))) (sym e)

  pub law_found : (kind : LawKind) → slice_get (kinds_of_laws laws) k ≡ Some kind → Some (Law kind) ≡ slice_get (origins (placed_from symbols n (declaration_at s d ∷ ds))) k
  law_found kind h = origin_here symbols n (declaration_at s d) ds k (Law kind) (ap (λ (z : List PropositionOrigin). slice_get z k) own_laws ∙ law_here laws k kind h)

  pub law_passed : (left : ℕ) → length (kinds_of_laws laws) + left ≡ k → slice_get (origins (placed_from symbols n ds)) left ≡ slice_get (origins (placed_from symbols n (declaration_at s d ∷ ds))) k
  law_passed left h =
      let none : said_in (body_at s d.body) ≡ 0 = ap (λ (b : Body). said_in (body_at s b)) q in
      origin_after symbols n (declaration_at s d) ds k left n (omega (arith, ap length own_laws, laws_before laws k left h)) (omega (arith, none))
