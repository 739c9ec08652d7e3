-- What the sides of elements and parts of a replacement in code stand for.
use Rattle.std.specs.Prelude.{◌≡◌, ℕ, nat_eq, List, map, All, Some}
use Rattle.indexmap.specs.IndexMap.{IndexMap, get}
use Rattle.tasks.specs.trees.Tree.{Tree}
use Rattle.tasks.specs.trees.Node.{tree_at}
use Rattle.surface.specs.SurfaceDeclarations.{element_of}
use Rattle.open_types.specs.Drafts.{HoldsType}
use Rattle.clones.specs.declared.clone_elements.rights.Right.{Right}
use Rattle.clones.specs.declared.clone_elements.rights.Right.TheVariants as right
use Rattle.clones.specs.declared.clone_elements.replacements.Side.{Side as CodeSide}
use Rattle.clones.specs.declared.clone_elements.replacements.TypeFor.{TypeFor}
use Rattle.clones.specs.declared.clone_elements.replacements.SymbolFor.{SymbolFor}
use Rattle.clones.specs.declared.clone_elements.replacements.Effect.{Effect}
use Rattle.clones.specs.clone_elements.Rights.{RightTree, type_right, symbol_right, no_right, IsWithin}
use Rattle.clones.specs.declared.clone_elements.elements.Replacement.{Replacement}
use Rattle.clones.specs.declared.clone_elements.elements.Trial.{Trial}
use Rattle.clones.specs.declared.clone_elements.elements.ElementFault.{ElementFault}
use Rattle.clones.specs.declared.clone_elements.elements.ElementFault.TheVariants as fault
use Rattle.tasks.specs.Task.{SymbolTree}
use Rattle.tasks.specs.Meaning.{DeclHeld}
use Rattle.clones.specs.Mapped.{Map}
use Rattle.clones.specs.Meaning.{MapHeld}
use Rattle.elab_groups.specs.parts.Entries.{IsSignature}
use Rattle.clones.specs.clone_elements.Left.{Origin}
use Rattle.clones.specs.clone_elements.Elements.{SidesTold}
use Rattle.clones.specs.clone_elements.Replacements.{SideTree, PlacedEffects, no_effects, types_replaced, symbols_replaced, effects_of, has_all}

abbrev pub right_at : List Tree → Right → RightTree
right_at s (right.Type ty) = type_right (tree_at s ty)
right_at s (right.Symbol k) = symbol_right k
right_at s right.Nothing = no_right

abbrev pub RightHeld : List Tree → Right → Type 0
RightHeld s (right.Type ty) = HoldsType s ty
RightHeld s (right.Symbol k) = Unit {0}
RightHeld s right.Nothing = Unit {0}

abbrev pub side_at : List Tree → CodeSide → SideTree
side_at s x =
    record { element = element_of x.element.now; left = x.left; right = right_at s x.right }

abbrev pub sides_at : List Tree → List CodeSide → List SideTree
sides_at s xs = map (side_at s) xs

pub record SideHeld (s : List Tree) (x : CodeSide) : Type 0 where
  pub right : RightHeld s x.right
  pub within : IsWithin (element_of x.element.now) (right_at s x.right)

abbrev pub type_pair : List Tree → TypeFor → ℕ × Tree
type_pair s p = (p.symbol, tree_at s p.ty)

abbrev pub type_pairs_at : List Tree → List TypeFor → List (ℕ × Tree)
type_pairs_at s ps = map (type_pair s) ps

abbrev pub symbol_pair : SymbolFor → ℕ × ℕ
symbol_pair p = (p.symbol, p.new)

abbrev pub symbol_pairs : List SymbolFor → List (ℕ × ℕ)
symbol_pairs ps = map symbol_pair ps

abbrev pub TypeForHeld : List Tree → TypeFor → Type 0
TypeForHeld s p = HoldsType s p.ty

-- the effects in a map
abbrev pub effects_at : {S : Type 0} → IndexMap ℕ Effect S → PlacedEffects
effects_at m = get nat_eq m

-- ---- elements that are compared, and replacements
pub record TrialHeld (s : List Tree) (x : Trial) : Type 0 where
  pub signature : IsSignature s x.sig.now.symbols
  pub decls : All (DeclHeld s) x.source.now.decls.now
  pub morphism : MapHeld s x.morphism.now

abbrev pub IsElementRefused : List SymbolTree → Origin → Map → List SideTree → ElementFault → Type 0
IsElementRefused symbols t m xs fault.Memory = Unit {0}
IsElementRefused symbols t m xs (fault.BadSubstitution token) =
    SidesTold symbols t m no_effects xs (Some token)

-- what elements replace
pub record IsReplacement (s : List Tree) (entries : List SymbolTree) (t : Origin)
    (xs : List SideTree)
    (p : Replacement) : Type 0 where
  pub types : type_pairs_at s p.types.items ≡ types_replaced entries t xs
  pub held : All (TypeForHeld s) p.types.items
  pub symbols : symbol_pairs p.symbols.items ≡ symbols_replaced t xs
  pub effects : effects_at p.effects ≡ effects_of xs
  pub all : p.all_axioms ≡ has_all xs
