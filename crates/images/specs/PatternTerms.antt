-- Patterns of a task, and symbols whose results are closed types: what the test of a pattern and
-- the terms for its variables are made of, and what is known of them.
use Rattle.std.specs.Prelude.{◌≡◌, ℕ, ◌≤◌, List, [], ◌∷◌, Some, All, IsTrue}
use Rattle.trees.specs.declared.Sort.TheVariants.{Kind, Term, Formula, Pattern}
use Rattle.trees.specs.Tree.{Tree, loose, above_params}
use Rattle.trees.specs.Sorts.{sort_of, type_of}
use Rattle.trees.specs.Facts.{Each}
use Rattle.tasks.specs.Task.{TaskTree, ConstructorTree, symbol_or}
use Rattle.tasks.specs.Roles.{AlgebraicRole, role, is_constructor}
use Rattle.tasks.specs.Vocabulary.{of_task}
use Rattle.tasks.specs.Typing.{TypedUnder, IsTyped, pattern_types}
use Rattle.tasks.specs.MatchTests.{constructor_projections, tests, test, bind}
use Rattle.tasks.specs.Valid.{VariablesBelow, ParametersOf, IsValid}
use Rattle.tasks.specs.typed_trees.instances.Instances.{AreFor}
use Rattle.images.specs.OpenTerms.{AreOpenFor}

-- a pattern that is typed in a task
pub record IsTypedPattern (t : TaskTree) (types : List Tree) (p : Tree) : Type 0 where
  pub sort : sort_of p ≡ Pattern
  pub typed : TypedUnder (of_task t) types p

-- a symbol whose result is a closed type
pub record HasClosedResult (t : TaskTree) (k : ℕ) : Type 0 where
  pub result : Tree
  pub is : (symbol_or t.symbols k).result ≡ Some result
  pub kind : sort_of result ≡ Kind
  pub closed : loose result ≡ 0

-- what is made has the type variables of a pattern and of a term, and the parameters of the term
-- alone
pub record HasOfBoth (p s made : Tree) : Type 0 where
  pub variables : (n : ℕ) → VariablesBelow n p → VariablesBelow n s → VariablesBelow n made
  pub above : (m : ℕ) → above_params s ≤ m → above_params made ≤ m
  pub parameters : (ps : List Tree) → ParametersOf ps s → ParametersOf ps made

-- the test of a pattern, asked of a term, is a formula under binders of these types, and the terms
-- for the pattern's variables are of their types
pub record IsTypedMatch (t : TaskTree) (types : List Tree) (p s : Tree) : Type 0 where
  pub sort : sort_of (test t p s) ≡ Formula
  pub formula : TypedUnder (of_task t) types (test t p s)
  pub each : Each (λ e. (sort_of e ≡ Formula) × TypedUnder (of_task t) types e) (tests t p (s ∷ []))
  pub terms : AreOpenFor (of_task t) types (pattern_types p) (bind t p s)

-- what they have of type variables and parameters
pub record HasPartsOf (t : TaskTree) (p s : Tree) : Type 0 where
  pub formula : HasOfBoth p s (test t p s)
  pub each : Each (HasOfBoth p s) (tests t p (s ∷ []))
  pub terms : Each (HasOfBoth p s) (bind t p s)

-- ---- the laws
abbrev pub MatchesAreTyped : Type 0
MatchesAreTyped =
    (t : TaskTree) → IsValid t → (types : List Tree) (p s : Tree) → IsTypedPattern t types p
    → sort_of s ≡ Term → TypedUnder (of_task t) types s → type_of s ≡ type_of p
    → IsTypedMatch t types p s

abbrev pub ClosedMatchesAreFor : Type 0
ClosedMatchesAreFor = (t : TaskTree) → IsValid t → (p s : Tree) → IsTypedPattern t [] p
    → sort_of s ≡ Term → IsTyped t s → type_of s ≡ type_of p
    → AreFor (of_task t) (pattern_types p) (bind t p s)

abbrev pub MatchesHaveParts : Type 0
MatchesHaveParts = (t : TaskTree) → IsValid t → (types : List Tree) (p s : Tree)
    → IsTypedPattern t types p → HasPartsOf t p s

abbrev pub ConstructorsHaveResults : Type 0
ConstructorsHaveResults = (t : TaskTree) → IsValid t → (k : ℕ) → IsTrue (is_constructor (role t k))
    → All (HasClosedResult t) (k ∷ constructor_projections t k)

abbrev pub TypesHaveResults : Type 0
TypesHaveResults = (t : TaskTree) → IsValid t → (k : ℕ) (cs : List ConstructorTree)
    → role t k ≡ AlgebraicRole cs
    → All (λ (c : ConstructorTree). All (HasClosedResult t) (c.symbol ∷ c.projections)) cs
