-- Typing without the bound on the indices of variables: what is made of typed trees has it, though
-- parts of it, which may be dropped later, can have indices that no tree of a task has.
use Rattle.std.specs.Prelude.{◌≡◌, ℕ, ◌+◌, ◌≤◌, List, [], ◌++◌, length, get_or, slice_get, Option, Some}
use Rattle.trees.specs.declared.Sort.{Sort}
use Rattle.trees.specs.declared.Sort.TheVariants.{Kind, Term}
use Rattle.trees.specs.Tree.{Tree, Leaf, One, Two, Three, Head, HBound, head_of, above_params}
use Rattle.trees.specs.Sorts.{Fits, OneFits, sort_of, type_of, first_sort, IsExpression}
use Rattle.tasks.specs.Vocabulary.{Vocabulary}
use Rattle.tasks.specs.Typing.{TopTyped, bound_types}
use Rattle.tasks.specs.Valid.{VariablesBelow, ParametersOf}
use Rattle.images.specs.Images.{image, IsOtherHead}

-- the children are of fitting sorts
abbrev pub OneSuits : Head → Sort → Option Sort → Type 0
OneSuits (HBound i) a x = (a ≡ Kind) × Unit {0}
OneSuits h a x = OneFits h a x

abbrev pub Suits : Tree → Type 0
Suits (Leaf h) = Fits (Leaf h)
Suits (One h a) = OneSuits h (sort_of a) (first_sort a)
Suits (Two h a b) = Fits (Two h a b)
Suits (Three h a b c) = Fits (Three h a b c)

abbrev pub HasSorts : Tree → Type 0
HasSorts (Leaf h) = Suits (Leaf h)
HasSorts (One h a) = Suits (One h a) × HasSorts a
HasSorts (Two h a b) = Suits (Two h a b) × HasSorts a × HasSorts b
HasSorts (Three h a b c) = Suits (Three h a b c) × HasSorts a × HasSorts b × HasSorts c

-- typed under binders of these types, but for the bound on indices
abbrev pub HasTyping : Vocabulary → List Tree → Tree → Type 0
HasTyping v types (Leaf h) = Suits (Leaf h) × TopTyped v types (Leaf h)
HasTyping v types (One h a) = Suits (One h a) × TopTyped v types (One h a) × HasTyping v types a
HasTyping v types (Two h a b) =
    Suits (Two h a b) × TopTyped v types (Two h a b) × HasTyping v types a
    × HasTyping v (bound_types h a ++ types) b
HasTyping v types (Three h a b c) =
    Suits (Three h a b c) × TopTyped v types (Three h a b c) × HasTyping v types a
    × HasTyping v types b × HasTyping v types c

-- a closed type, which may have type variables
abbrev pub IsTypeAt : Vocabulary → Tree → Type 0
IsTypeAt v e = (sort_of e ≡ Kind) × HasTyping v [] e

-- open terms, one for each of the innermost variables, the last one for the variable 0
pub record AreTermsFor (v : Vocabulary) (types tys ts : List Tree) : Type 0 where
  pub as_many : length ts ≡ length tys
  pub each : (i k : ℕ) (ty e : Tree) → slice_get tys i ≡ Some ty → i + k + 1 ≡ length ts
      → (sort_of (get_or ts k e) ≡ Term)
      × ((type_of (get_or ts k e) ≡ Some ty) × HasTyping v types (get_or ts k e))

-- what is made of an expression under binders of these types has its sort and type, and no type
-- variable or parameter that it doesn't have
pub record KeepsTyping (v : Vocabulary) (types : List Tree) (e made : Tree) : Type 0 where
  pub typed : HasTyping v types made
  pub sort : sort_of made ≡ sort_of e
  pub type : type_of made ≡ type_of e
  pub variables : (n : ℕ) → VariablesBelow n e → VariablesBelow n made
  pub above : (m : ℕ) → above_params e ≤ m → above_params made ≤ m
  pub parameters : (ps : List Tree) → ParametersOf ps e → ParametersOf ps made

-- a rule for nodes over a vocabulary: it acts at operators of terms and formulas alone, and keeps
-- typing
pub record IsTypedRule (v : Vocabulary) (f : Tree → Tree) : Type 0 where
  pub others : (e : Tree) → IsOtherHead (head_of e) → f e ≡ e
  pub keeps : (types : List Tree) (e : Tree) → IsExpression (sort_of e) → HasTyping v types e
      → KeepsTyping v types e (f e)

-- the node over the images of its parts
abbrev pub over_parts : (Tree → Tree) → Tree → Tree
over_parts f (Leaf h) = Leaf h
over_parts f (One h a) = One h (image f a)
over_parts f (Two h a b) = Two h (image f a) (image f b)
over_parts f (Three h a b c) = Three h (image f a) (image f b) (image f c)
