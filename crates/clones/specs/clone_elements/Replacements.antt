-- What the elements of a clone replace, and what axioms become (Why3 manual, "theory cloning").
use Rattle.std.specs.Prelude.{ℕ, ◌+◌, ◌==◌, ◌&&◌, if◌then◌else◌, Bool, true, false, List, [], ◌∷◌, ◌++◌, length, Option, Some, None}
use Rattle.std.specs.List.{list_any}
use Rattle.std.specs.Option.{is_none}
use Rattle.tasks.specs.trees.Tree.{Tree}
use Rattle.tasks.specs.Task.{SymbolTree, symbol_or, made_by}
use Rattle.surface.specs.declared.declarations.PropKind.{PropKind}
use Rattle.surface.specs.declared.declarations.PropKind.TheVariants as kind
use Rattle.surface.specs.Declarations.{Element, type_element, symbol_element, prop_element, all_axioms}
use Rattle.name_resolution.specs.Where.{NamesTree}
use Rattle.surface.specs.Lexeme.{Word}
use Rattle.clones.specs.Mapped.{Map}
use Rattle.clones.specs.clone_elements.Left.{Origin, decl_or, symbol_at_place, element_key, place_by}
use Rattle.clones.specs.clone_elements.Rights.{RightTree, type_right, symbol_right, right_made, right_tuples}
use Rattle.clones.specs.declared.clone_elements.replacements.Effect.{Effect}
use Rattle.clones.specs.declared.clone_elements.replacements.Effect.TheVariants.{Replaced, Becomes}

-- an element, the place of the declaration that its left side names, and what is on its right
pub record SideTree : Type 0 where
  pub element : Element
  pub left : Option ℕ
  pub right : RightTree

-- the sides of elements: the left ones by the places of a table, the right ones over the signature
-- with the tuples of those before
abbrev pub sides_made : (Word → Option ℕ) → List SymbolTree → NamesTree → List Element
    → List SideTree
sides_made places symbols names [] = []
sides_made places symbols names (e ∷ es) =
    record {
      element = e;
      left = place_by places (element_key e);
      right =
          right_made symbols names e;
    }
    ∷ sides_made places (symbols ++ right_tuples symbols e) names es

-- ---- effects on declarations
-- an element replaces a type or a symbol, or says what an axiom becomes
abbrev pub element_effect : Element → Option Effect
element_effect (type_element i c vs f) = Some Replaced
element_effect (symbol_element i w c d) = Some Replaced
element_effect (prop_element i k c) = Some (Becomes k)
element_effect (all_axioms i) = None

abbrev pub PlacedEffects : Type 0
PlacedEffects = ℕ → Option Effect

abbrev pub no_effects : PlacedEffects
no_effects q = None

abbrev pub with_effect : Option ℕ → Option Effect → PlacedEffects → PlacedEffects
with_effect (Some place) (Some f) effects = λ q. if place == q then Some f else effects q
with_effect (Some place) None effects = effects
with_effect None f effects = effects

abbrev pub with_side : SideTree → PlacedEffects → PlacedEffects
with_side x effects = with_effect x.left (element_effect x.element) effects

abbrev pub with_sides : List SideTree → PlacedEffects → PlacedEffects
with_sides [] effects = effects
with_sides (x ∷ xs) effects = with_sides xs (with_side x effects)

-- the declarations that are named, with what becomes of each
abbrev pub effects_of : List SideTree → PlacedEffects
effects_of xs = with_sides xs no_effects

abbrev pub is_replaced : Option Effect → Bool
is_replaced (Some Replaced) = true
is_replaced (Some (Becomes k)) = false
is_replaced None = false

-- whether all axioms that aren't named stay axioms
abbrev pub is_all : Element → Bool
is_all (type_element i c vs f) = false
is_all (symbol_element i w c d) = false
is_all (prop_element i k c) = false
is_all (all_axioms i) = true

abbrev pub has_all : List SideTree → Bool
has_all xs = list_any (λ (x : SideTree). is_all x.element) xs

-- ---- types and symbols
-- the type for the type symbol at a place, where so many type variables belong to it and no element
-- before named it
abbrev pub type_with : List SymbolTree → Origin → PlacedEffects → ℕ → ℕ → Tree → List (ℕ × Tree)
type_with symbols t effects place n ty =
    if is_none (effects place) && ((symbol_or symbols (symbol_at_place t.decls place)).vars == n)
    then (symbol_at_place t.decls place, ty) ∷ [] else []

abbrev pub type_for : List SymbolTree → Origin → PlacedEffects → Element → Option ℕ → RightTree
    → List (ℕ × Tree)
type_for symbols t effects (type_element i c vs f) (Some place) (type_right ty) =
    type_with symbols t effects place (length vs) ty
type_for symbols t effects e left r = []

abbrev pub replaced_types : List SymbolTree → Origin → PlacedEffects → List SideTree
    → List (ℕ × Tree)
replaced_types symbols t effects [] = []
replaced_types symbols t effects (x ∷ xs) =
    type_for symbols t effects x.element x.left x.right
    ++ replaced_types symbols t (with_side x effects) xs

abbrev pub types_replaced : List SymbolTree → Origin → List SideTree → List (ℕ × Tree)
types_replaced symbols t xs = replaced_types symbols t no_effects xs

abbrev pub symbol_for : Origin → Option ℕ → RightTree → List (ℕ × ℕ)
symbol_for t (Some place) (symbol_right k) = (symbol_at_place t.decls place, k) ∷ []
symbol_for t left r = []

abbrev pub symbols_replaced : Origin → List SideTree → List (ℕ × ℕ)
symbols_replaced t [] = []
symbols_replaced t (x ∷ xs) = symbol_for t x.left x.right ++ symbols_replaced t xs

-- ---- the map
-- under which all stay
abbrev pub same_map : Map
same_map = record { symbols = λ k. k; types = λ k. None }

abbrev pub with_symbol : ℕ → ℕ → Map → Map
with_symbol k new m = record { symbols = λ q. if k == q then new else m.symbols q; types = m.types }

abbrev pub with_type : ℕ → Tree → Map → Map
with_type k ty m =
    record { symbols = m.symbols; types = λ q. if k == q then Some ty else m.types q }

-- each of these becomes the next number; of equal ones the last counts, here and below
abbrev pub with_numbers : ℕ → List ℕ → Map → Map
with_numbers n [] m = m
with_numbers n (k ∷ ks) m = with_numbers (n + 1) ks (with_symbol k n m)

abbrev pub with_symbols : List (ℕ × ℕ) → Map → Map
with_symbols [] m = m
with_symbols (p ∷ ps) m = with_symbols ps (with_symbol p.0 p.1 m)

abbrev pub with_mapped_types : List (ℕ × Tree) → Map → Map
with_mapped_types [] m = m
with_mapped_types (p ∷ ps) m = with_mapped_types ps (with_type p.0 p.1 m)

-- type symbols become types, symbols others, and further ones new numbers
abbrev pub map_of : List (ℕ × Tree) → List (ℕ × ℕ) → ℕ → List ℕ → Map
map_of types symbols first others =
    with_mapped_types types (with_symbols symbols (with_numbers first others same_map))

-- the symbols of own declarations that aren't replaced, in order
abbrev pub kept_at : Origin → PlacedEffects → ℕ → List ℕ
kept_at t effects k = if is_replaced (effects k) then [] else made_by (decl_or t.decls k).body

abbrev pub kept_of : Origin → PlacedEffects → List ℕ → List ℕ
kept_of t effects [] = []
kept_of t effects (k ∷ ks) = kept_at t effects k ++ kept_of t effects ks

abbrev pub kept : Origin → PlacedEffects → List ℕ
kept t effects = kept_of t effects t.own

-- the map of a clone: the copies' symbols are the next ones of the signature
abbrev pub clone_map : List SymbolTree → Origin → List SideTree → Map
clone_map symbols t xs = map_of (types_replaced symbols t xs) (symbols_replaced t xs)
    (length symbols) (kept t (effects_of xs))

-- the map by which signatures are compared: types that aren't replaced count as their copies
abbrev pub tried_map : List SymbolTree → Origin → List SideTree → Map
tried_map symbols t xs =
    map_of (types_replaced symbols t xs) [] (length symbols) (kept t no_effects)

-- ---- axioms
-- an axiom becomes what an element says; else a lemma, or an axiom where all stay so
abbrev pub kind_or : Option Effect → Bool → PropKind
kind_or (Some (Becomes k)) all = k
kind_or (Some Replaced) all = if all then kind.Axiom else kind.Lemma
kind_or None all = if all then kind.Axiom else kind.Lemma
