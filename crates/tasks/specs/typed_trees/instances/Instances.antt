-- Instances of open trees: closed terms are put in for the open variables.
use Rattle.std.specs.Prelude.{◌≡◌, ℕ, ◌+◌, ◌≤◌, List, [], ◌∷◌, length, get_or, slice_get, Some, All}
use Rattle.trees.specs.declared.Sort.TheVariants.{Term}
use Rattle.trees.specs.Tree.{Tree, loose, above_params}
use Rattle.trees.specs.Sorts.{sort_of, type_of}
use Rattle.tasks.specs.Vocabulary.{Vocabulary}
use Rattle.tasks.specs.Typing.{TypedUnder}
use Rattle.tasks.specs.Valid.{VariablesBelow, ParametersOf}

-- a closed term of this type
pub record IsTermOf (v : Vocabulary) (ty t : Tree) : Type 0 where
  pub sort : sort_of t ≡ Term
  pub typed : TypedUnder v [] t
  pub type : type_of t ≡ Some ty

-- Closed terms, one for each open variable. The types of the variables are listed innermost first,
-- as those of binders are; the last term is for the innermost variable.
pub record AreFor (v : Vocabulary) (types env : List Tree) : Type 0 where
  pub as_many : length env ≡ length types
  pub each : (i k : ℕ) (ty e : Tree) → slice_get types i ≡ Some ty → i + k + 1 ≡ length env
      → IsTermOf v ty (get_or env k e)

-- a term without open variables
pub record IsClosedTerm (t : Tree) : Type 0 where
  pub sort : sort_of t ≡ Term
  pub closed : loose t ≡ 0

-- A tree in whose variable 0 a closed term was put is typed where both are, and has the type
-- variables and parameters of both alone.
pub record IsInstance (body t made : Tree) : Type 0 where
  pub sort : sort_of made ≡ sort_of body
  pub typed : (v : Vocabulary) (ty : Tree) → IsTermOf v ty t → TypedUnder v (ty ∷ []) body
      → TypedUnder v [] made
  pub variables : (n : ℕ) → VariablesBelow n t → VariablesBelow n body → VariablesBelow n made
  pub parameters : (types : List Tree) → ParametersOf types t → ParametersOf types body
      → ParametersOf types made
  pub above : (m : ℕ) → above_params t ≤ m → above_params body ≤ m → above_params made ≤ m

-- each parameter of the formulas and of the goal is below this number
pub record AreParamsBelow (number : ℕ) (es : List Tree) (e : Tree) : Type 0 where
  pub front : All (λ a. above_params a ≤ number) es
  pub goal : above_params e ≤ number
