-- Open terms that are put into an open tree.
use Rattle.std.specs.Prelude.{◌≡◌, ℕ, ◌+◌, ◌≤◌, List, length, get_or, slice_get, Some}
use Rattle.trees.specs.declared.Sort.TheVariants.{Term}
use Rattle.trees.specs.Tree.{Tree, above_params}
use Rattle.trees.specs.Sorts.{WellSorted, sort_of, type_of}
use Rattle.tasks.specs.Vocabulary.{Vocabulary}
use Rattle.tasks.specs.Typing.{TypedUnder}
use Rattle.tasks.specs.Valid.{VariablesBelow, ParametersOf}

-- one for each of the innermost variables, the last one for the variable 0
pub record AreOpenFor (v : Vocabulary) (types tys ts : List Tree) : Type 0 where
  pub as_many : length ts ≡ length tys
  pub each : (i k : ℕ) (ty e : Tree) → slice_get tys i ≡ Some ty → i + k + 1 ≡ length ts
      → (sort_of (get_or ts k e) ≡ Term)
      × ((type_of (get_or ts k e) ≡ Some ty) × TypedUnder v types (get_or ts k e))

-- Of a tree in which open terms stand for its innermost variables: it has the tree's sort and type,
-- and is typed under the binders of the other variables where it is well sorted, since an index may
-- become too great.
pub record StaysTyped (v : Vocabulary) (types : List Tree) (body made : Tree) : Type 0 where
  pub typed : WellSorted made → TypedUnder v types made
  pub sort : sort_of made ≡ sort_of body
  pub type : type_of made ≡ type_of body

-- it has the type variables and parameters of these two alone
pub record HasOf (body t made : Tree) : Type 0 where
  pub variables : (n : ℕ) → VariablesBelow n t → VariablesBelow n body → VariablesBelow n made
  pub above : (m : ℕ) → above_params t ≤ m → above_params body ≤ m → above_params made ≤ m
  pub parameters : (ps : List Tree) → ParametersOf ps t → ParametersOf ps body
      → ParametersOf ps made
