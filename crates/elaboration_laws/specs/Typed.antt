-- What is elaborated is well typed over the signature (rank-1 polymorphism).
use Rattle.std.specs.Prelude.{◌≡◌, ℕ, false, List, [], map, All, Option, Some, None, IfSome}
use Rattle.std.specs.Option.{is_none}
use Rattle.elab_groups.specs.trees.declared.Sort.{Sort}
use Rattle.elab_groups.specs.trees.declared.Sort.TheVariants.{Kind, Term, Formula, Pattern}
use Rattle.elab_groups.specs.trees.Tree.{Tree}
use Rattle.elab_groups.specs.trees.Sorts.{sort_of, type_of}
use Rattle.elab_groups.specs.tasks.Vocabulary.{Vocabulary}
use Rattle.elab_groups.specs.tasks.Typing.{TypedUnder}
use Rattle.elab_groups.specs.tasks.Valid.{VariablesBelow, ParametersOf, IsTypeIn}
use Rattle.elab_groups.specs.open_types.unify_types.Assigned.{assign}
use Rattle.elab_groups.specs.name_resolution.Abstract.{Expression}
use Rattle.elab_groups.specs.name_resolution.Faults.{fault}
use Rattle.elab_groups.specs.name_resolution.Where.{Where}
use Rattle.elab_groups.specs.open_types.Patterns.{LocalTree}
use Rattle.elab_groups.specs.open_types.Pieces.{names}
use Rattle.elaboration_laws.specs.Signature.{IsWellFormed, HasTuples}

-- a formula is due, or a term of a type
abbrev pub due_sort : Option Tree → Sort
due_sort None = Formula
due_sort (Some t) = Term

-- a type over the signature, at whatever type variables
pub record IsTypeOf (v : Vocabulary) (t : Tree) : Type 0 where
  pub sort : sort_of t ≡ Kind
  pub typed : TypedUnder v [] t

-- a term of this type, or a formula, under variables of these types
pub record IsTypedAs (v : Vocabulary) (types : List Tree) (t : Option Tree)
    (e : Tree) : Type 0 where
  pub typed : TypedUnder v types e
  pub sort : sort_of e ≡ due_sort t
  pub type : type_of e ≡ t
  pub parameters : ParametersOf [] e

-- an expression whose names are there, under these variables, where a term of a type or a formula
-- is due
pub record IsNamedExpression (base : Vocabulary) (w : Where) (ls : List LocalTree) (t : Option Tree)
    (e : Expression) : Type 0 where
  pub signature : IsWellFormed base w
  pub tuples : HasTuples base w e
  pub named : fault w false (names ls) (is_none t) e ≡ None

-- the types of variables
abbrev pub local_types : List LocalTree → List Tree
local_types ls = map (λ (l : LocalTree). l.type) ls

-- at assigned unknowns
abbrev pub assigned_types : ℕ → (ℕ → Tree) → List LocalTree → List Tree
assigned_types rigid f ls = map (λ (l : LocalTree). assign rigid f l.type) ls

-- variables and a wanted type of types over the signature
pub record AreTypedLocals (v : Vocabulary) (ls : List LocalTree) (t : Option Tree) : Type 0 where
  pub variables : All (λ (l : LocalTree). IsTypeOf v l.type) ls
  pub wanted : IfSome t (IsTypeOf v)

-- at the declaration's own type variables, of which there are so many
pub record AreTypesIn (v : Vocabulary) (vars : ℕ) (ls : List LocalTree)
    (t : Option Tree) : Type 0 where
  pub variables : All (λ (l : LocalTree). IsTypeIn v vars l.type) ls
  pub wanted : IfSome t (IsTypeIn v vars)

-- well typed, with the declaration's own type variables alone
pub record IsTypedIn (v : Vocabulary) (vars : ℕ) (types : List Tree) (t : Option Tree)
    (e : Tree) : Type 0 where
  pub typed : IsTypedAs v types t e
  pub variables : VariablesBelow vars e

-- a pattern of a type over the signature
pub record IsPatternOf (v : Vocabulary) (t e : Tree) : Type 0 where
  pub typed : TypedUnder v [] e
  pub sort : sort_of e ≡ Pattern
  pub type : type_of e ≡ Some t
  pub parameters : ParametersOf [] e

-- patterns of one type over the signature, as those of a match
pub record ArePatterns (v : Vocabulary) (es : List Tree) : Type 0 where
  pub type : Tree
  pub over : IsTypeOf v type
  pub patterns : All (IsPatternOf v type) es
