-- Shapes of values, the patterns that meet them, and which lists of patterns are exhaustive (Why3
-- manual, "pattern matching"; Maranget, "Warnings for pattern matching"). They are over a
-- signature, whose entries say how the values of a type are built.
use Rattle.std.specs.Prelude.{◌≡◌, ℕ, List, [], ◌∷◌, map, slice_get, All, Any, Some, IsSomeAnd}
use Rattle.trees.specs.declared.Sort.TheVariants.{Pattern}
use Rattle.trees.specs.Tree.{Tree, One, Three, HTyApp, HPatAny, HPatVar, HPatCon, HPatAlias}
use Rattle.trees.specs.Sorts.{sort_of, type_of}
use Rattle.trees.specs.Binding.{inst_types}
use Rattle.tasks.specs.declared.signature.SymbolKind.TheVariants.{Constructor}
use Rattle.tasks.specs.Task.{SymbolTree, symbol_or}
use Rattle.tasks.specs.Valid.{own_type}
use Rattle.tasks.specs.Vocabulary.{of_signature}
use Rattle.tasks.specs.Typing.{members, TypedUnder}

-- how far a value is known: not at all, or its constructor with a shape for each field
mutual
  pub data ShapeTree : Type 0 where
    unspecified : ShapeTree
    built : ℕ → Shapes → ShapeTree

  pub data Shapes : Type 0 where
    no_shapes : Shapes
    more_shapes : ShapeTree → Shapes → Shapes

-- an entry is a constructor of this type symbol: its result is the symbol at the constructor's own
-- type variables
abbrev pub IsConstructorEntryOf : List SymbolTree → ℕ → ℕ → Type 0
IsConstructorEntryOf symbols t k =
    IsSomeAnd (slice_get symbols k)
    (λ e. (e.kind ≡ Constructor) × (e.result ≡ Some (own_type t e.vars)))

-- it builds values of this type
abbrev pub Builds : List SymbolTree → Tree → ℕ → Type 0
Builds symbols (One (HTyApp t) arguments) k = IsConstructorEntryOf symbols t k
Builds symbols _ k = ⊥

-- the arguments of a type
abbrev pub type_arguments : Tree → List Tree
type_arguments (One (HTyApp t) a) = members a
type_arguments _ = []

-- the types of a constructor's fields, at the arguments of the type that it builds
abbrev pub field_types : List SymbolTree → Tree → ℕ → List Tree
field_types symbols type k =
    map (λ a. inst_types a (type_arguments type)) (symbol_or symbols k).args

-- a shape of a type, and shapes of as many types
abbrev mutual
  pub IsShape : List SymbolTree → ShapeTree → Tree → Type 0
  IsShape symbols unspecified type = Unit {0}
  IsShape symbols (built k ss) type =
      Builds symbols type k × AreShapes symbols ss (field_types symbols type k)

  pub AreShapes : List SymbolTree → Shapes → List Tree → Type 0
  AreShapes symbols no_shapes [] = Unit {0}
  AreShapes symbols (more_shapes s ss) (t ∷ ts) = IsShape symbols s t × AreShapes symbols ss ts
  AreShapes symbols _ _ = ⊥

-- a pattern without the names that it gives to what it takes
abbrev pub without_aliases : Tree → Tree
without_aliases (One HPatAlias p) = without_aliases p
without_aliases p = p

-- a bare pattern meets a constructor on shapes that its parts are to meet; a wildcard or a variable
-- meets every shape
abbrev pub MeetsBuilt : ℕ → (List Tree → Type 0) → Tree → Type 0
MeetsBuilt k meet (Three (HPatCon c) types parts type) = (c ≡ k) × meet (members parts)
MeetsBuilt k meet (One HPatAny a) = Unit {0}
MeetsBuilt k meet (One HPatVar a) = Unit {0}
MeetsBuilt k meet _ = ⊥

-- a pattern meets a shape, as each pattern meets the unspecified one; patterns meet as many shapes,
-- each its own
abbrev mutual
  pub Meets : ShapeTree → Tree → Type 0
  Meets unspecified p = Unit {0}
  Meets (built k ss) p = MeetsBuilt k (AreMet ss) (without_aliases p)

  pub AreMet : Shapes → List Tree → Type 0
  AreMet no_shapes [] = Unit {0}
  AreMet (more_shapes s ss) (p ∷ ps) = Meets s p × AreMet ss ps
  AreMet _ _ = ⊥

-- a well-typed pattern
pub record IsPattern (symbols : List SymbolTree) (p : Tree) : Type 0 where
  pub sort : sort_of p ≡ Pattern
  pub typed : TypedUnder (of_signature symbols) [] p

-- patterns for values of this type
abbrev pub HaveType : List Tree → Tree → Type 0
HaveType patterns type = All (λ p. type_of p ≡ Some type) patterns

-- patterns for values of one type
pub record HaveOneType (patterns : List Tree) : Type 0 where
  pub type : Tree
  pub have : HaveType patterns type

-- each shape of their type is met by one of them
abbrev pub AreExhaustive : List SymbolTree → List Tree → Type 0
AreExhaustive symbols patterns = (type : Tree) → HaveType patterns type → (s : ShapeTree)
    → IsShape symbols s type → Any (Meets s) patterns

-- a shape of their type that none of them meets
pub record Escapes (symbols : List SymbolTree) (patterns : List Tree) (s : ShapeTree) : Type 0 where
  pub type : Tree
  pub have : HaveType patterns type
  pub is : IsShape symbols s type
  pub unmet : All (λ p. Meets s p → ⊥) patterns
