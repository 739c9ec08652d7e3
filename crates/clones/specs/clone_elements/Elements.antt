-- The first element of a clone that is wrong, by the token at which it is refused: at its left name
-- where the theory has no such abstract declaration, where an element before named it, or for
-- another number of type variables; at its right name for another kind or signature (Why3 manual,
-- "theory cloning").
use Rattle.std.specs.Prelude.{◌≡◌, ◌⊎◌, ℕ, ◌==◌, ◌||◌, not, Bool, true, false, List, [], ◌∷◌, map, length, Option, Some, None}
use Rattle.std.specs.Option.{is_some, option_map}
use Rattle.tasks.specs.declared.signature.SymbolKind.{SymbolKind}
use Rattle.tasks.specs.declared.signature.SymbolKind.TheVariants as symbol
use Rattle.tasks.specs.Task.{SymbolTree, symbol_or}
use Rattle.surface.specs.declared.declarations.SymbolWord.{SymbolWord}
use Rattle.surface.specs.declared.declarations.SymbolWord.TheVariants as word
use Rattle.surface.specs.Declarations.{Element, type_element, symbol_element, prop_element, all_axioms}
use Rattle.clones.specs.Mapped.{Map, mapped}
use Rattle.clones.specs.clone_elements.Left.{Origin, symbol_at_place}
use Rattle.clones.specs.clone_elements.Rights.{RightTree, symbol_right}
use Rattle.clones.specs.clone_elements.Replacements.{SideTree, PlacedEffects, with_side}

abbrev pub left_token : Element → ℕ
left_token (type_element i c vs f) = c.at
left_token (symbol_element i w c d) = c.at
left_token (prop_element i k c) = c.at
left_token (all_axioms i) = i

abbrev pub right_token : Element → ℕ
right_token (type_element i c vs f) = c.at
right_token (symbol_element i w c d) = d.at
right_token (prop_element i k c) = c.at
right_token (all_axioms i) = i

-- ---- left
-- whether the right side has the number of type variables of a symbol
abbrev pub has_vars : List SymbolTree → ℕ → Element → RightTree → Bool
has_vars symbols k (type_element i c vs f) r = (symbol_or symbols k).vars == length vs
has_vars symbols k (symbol_element i w c d) (symbol_right j) =
    (symbol_or symbols k).vars == (symbol_or symbols j).vars
has_vars symbols k e r = true

abbrev pub is_wrong_at : List SymbolTree → Origin → PlacedEffects → Element → RightTree
    → Option ℕ → Bool
is_wrong_at symbols t effects e r None = true
is_wrong_at symbols t effects e r (Some place) =
    is_some (effects place) || not (has_vars symbols (symbol_at_place t.decls place) e r)

abbrev pub is_wrong : List SymbolTree → Origin → PlacedEffects → Element → RightTree
    → Option ℕ → Bool
is_wrong symbols t effects (all_axioms i) r left = false
is_wrong symbols t effects (type_element i c vs f) r left =
    is_wrong_at symbols t effects (type_element i c vs f) r left
is_wrong symbols t effects (symbol_element i w c d) r left =
    is_wrong_at symbols t effects (symbol_element i w c d) r left
is_wrong symbols t effects (prop_element i k c) r left =
    is_wrong_at symbols t effects (prop_element i k c) r left

-- ---- right
-- whether a symbol's kind is that of a word; constructors and projections are functions
abbrev pub is_kind_of_word : SymbolKind → SymbolWord → Bool
is_kind_of_word symbol.Kind w = false
is_kind_of_word symbol.Predicate word.Predicate = true
is_kind_of_word symbol.Predicate word.Function = false
is_kind_of_word symbol.Predicate word.Constant = false
is_kind_of_word symbol.Function word.Predicate = false
is_kind_of_word symbol.Function word.Function = true
is_kind_of_word symbol.Function word.Constant = true
is_kind_of_word symbol.Constructor word.Predicate = false
is_kind_of_word symbol.Constructor word.Function = true
is_kind_of_word symbol.Constructor word.Constant = true
is_kind_of_word symbol.Projection word.Predicate = false
is_kind_of_word symbol.Projection word.Function = true
is_kind_of_word symbol.Projection word.Constant = true

-- the types of a symbol, mapped, are those of another
pub record IsSameSignature (m : Map) (e f : SymbolTree) : Type 0 where
  pub args : map (mapped m) e.args ≡ f.args
  pub result : option_map (mapped m) e.result ≡ f.result

pub record Replaces (symbols : List SymbolTree) (m : Map) (w : SymbolWord) (k j : ℕ) : Type 0 where
  pub kind : is_kind_of_word (symbol_or symbols j).kind w ≡ true
  pub signature : IsSameSignature m (symbol_or symbols k) (symbol_or symbols j)

abbrev pub IsRightSide : List SymbolTree → Origin → Map → Element → Option ℕ → RightTree → Type 0
IsRightSide symbols t m (symbol_element i w c d) (Some place) (symbol_right j) =
    Replaces symbols m w (symbol_at_place t.decls place) j
IsRightSide symbols t m e left r = Unit {0}

-- ---- both
abbrev pub IsRefusedAt : Bool → ℕ → ℕ → ℕ → Type 0 → Type 0
IsRefusedAt true token left right Right = token ≡ left
IsRefusedAt false token left right Right = (token ≡ right) × (Right → ⊥)

-- an element is right, or is refused at a token
abbrev pub SideTold : List SymbolTree → Origin → Map → PlacedEffects → SideTree → Option ℕ → Type 0
SideTold symbols t m effects x None =
    (is_wrong symbols t effects x.element x.right x.left ≡ false)
    × IsRightSide symbols t m x.element x.left x.right
SideTold symbols t m effects x (Some token) =
    IsRefusedAt (is_wrong symbols t effects x.element x.right x.left) token (left_token x.element)
    (right_token x.element) (IsRightSide symbols t m x.element x.left x.right)

-- the first that is refused, or none
abbrev pub SidesTold : List SymbolTree → Origin → Map → PlacedEffects → List SideTree
    → Option ℕ → Type 0
SidesTold symbols t m effects [] o = o ≡ None
SidesTold symbols t m effects (x ∷ xs) o =
    SideTold symbols t m effects x None × SidesTold symbols t m (with_side x effects) xs o
    ⊎ (token : ℕ) × (o ≡ Some token) × SideTold symbols t m effects x (Some token)
