-- What is told of elements, said of equal things.
use Rattle.std.proofs.Common.{◌≡◌, ℕ, List, Option, ap, subst}
use Rattle.tasks.specs.trees.Tree.{Tree}
use Rattle.tasks.specs.trees.Node.{Grows}
use Rattle.tasks.specs.Task.{SymbolTree, DeclarationTree}
use Rattle.tasks.specs.Meaning.{DeclHeld}
use Rattle.tasks.proofs.Growth.{declarations_later}
use Rattle.std.proofs.Common.{All}
use Rattle.clones.specs.Mapped.{Map}
use Rattle.clones.specs.declared.clone_elements.left.ClonedTheory.{ClonedTheory}
use Rattle.clones.specs.clone_elements.Left.{Origin}
use Rattle.clones.specs.clone_elements.Replacements.{SideTree, PlacedEffects}
use Rattle.clones.specs.clone_elements.Elements.{SidesTold}
use Rattle.clones.specs.clone_elements.Origins.{origin_at}

pub told_moved : (a b : List SymbolTree) (o p : Origin) (m n : Map) (f g : PlacedEffects) (xs ys : List SideTree) (it : Option ℕ) → a ≡ b → o ≡ p → m ≡ n → f ≡ g → xs ≡ ys → SidesTold a o m f xs it → SidesTold b p n g ys it
told_moved a b o p m n f g xs ys it qa qo qm qf qx h =
    let h1 : SidesTold b o m f xs it = subst (λ (z : List SymbolTree). SidesTold z o m f xs it) qa h in
    let h2 : SidesTold b p m f xs it = subst (λ (z : Origin). SidesTold b z m f xs it) qo h1 in
    let h3 : SidesTold b p n f xs it = subst (λ (z : Map). SidesTold b p z f xs it) qm h2 in
    let h4 : SidesTold b p n g xs it = subst (λ (z : PlacedEffects). SidesTold b p n z xs it) qf h3 in
    subst (λ (z : List SideTree). SidesTold b p n g z it) qx h4

pub origin_stays : (s t : List Tree) → Grows s t → (x : ClonedTheory) → All (DeclHeld s) x.decls.now → origin_at t x ≡ origin_at s x
origin_stays s t w x h = ap (λ (ds : List DeclarationTree). let it : Origin = record { decls = ds; own = x.own.now; axioms = (origin_at s x).axioms } in it) (declarations_later s t w x.decls.now h)
