-- What code has that makes the test of a pattern: numbers that are held, as many terms as patterns,
-- and a constructor's types.
use Rattle.std.specs.Prelude.{◌≡◌, ℕ, ◌+◌, ◌⊎◌, List, length}
use Rattle.trees.specs.declared.TermId.{TermId}
use Rattle.trees.specs.declared.Sort.TheVariants.{Kind, Formula, Pattern}
use Rattle.trees.specs.Tree.{Tree, One, Two, Three, HCell, HPatVar, HPatAlias, HPatCon}
use Rattle.trees.specs.Node.{tree_at, trees_at, Holds}
use Rattle.trees.specs.Sorts.{sort_of, IsList}
use Rattle.trees.specs.binders.Visits.{AreHeldOfSort, HoldTerms, HoldTypes}
use Rattle.tasks.specs.declared.lookup.Lookup.{Lookup}
use Rattle.tasks.specs.Task.{TaskTree}
use Rattle.tasks.specs.Vocabulary.{of_task}
use Rattle.tasks.specs.Meaning.{task_at}
use Rattle.tasks.specs.Looking.{LookupHeld}
use Rattle.tasks.specs.Typing.{members, TypedUnder}
use Rattle.tasks.specs.Valid.{IsValid}
use Rattle.images.specs.declared.match_terms.applied.At.{At}
use Rattle.images.specs.declared.match_terms.Asked.{Asked}

-- the task of a look-up
abbrev pub task_under : List Tree → Lookup → TaskTree
task_under s look = task_at s look.task.now

-- the task, and the types that a constructor or projection is at
pub record AtHeld (s : List Tree) (x : At) : Type 0 where
  pub look : LookupHeld s x.look
  pub types : Holds s x.types
  pub kinds : IsList Kind (tree_at s x.types)
  pub each : HoldTypes s x.members.now
  pub are : trees_at s x.members.now ≡ members (tree_at s x.types)

-- as many terms as a pattern, or a list of patterns, is asked of
abbrev pub IsCount : Tree → ℕ → Type 0
IsCount (One HPatVar a) n = n ≡ 1
IsCount (One HPatAlias a) n = n ≡ 1
IsCount (Two HCell a b) n = n ≡ length (members b) + 1
IsCount (Three (HPatCon k) a b c) n = n ≡ 1
IsCount _ n = Unit {0}

-- a pattern or a list of patterns, typed in a valid task, and as many terms as it is asked of
pub record CanAsk (s : List Tree) (look : Lookup) (pattern : TermId)
    (terms : List TermId) : Type 0 where
  pub look_held : LookupHeld s look
  pub valid : IsValid (task_at s look.task.now)
  pub pattern_held : Holds s pattern
  pub sort : (sort_of (tree_at s pattern) ≡ Pattern) ⊎ IsList Pattern (tree_at s pattern)
  pub types : List Tree
  pub typed : TypedUnder (of_task (task_at s look.task.now)) types (tree_at s pattern)
  pub terms_held : HoldTerms s terms
  pub count : IsCount (tree_at s pattern) (length terms)

-- numbers of formulas, and of terms
pub record AreHeldBoth (s : List Tree) (made bound : List TermId) : Type 0 where
  pub tests : AreHeldOfSort Formula s made
  pub terms : HoldTerms s bound

-- what a pattern was asked is held
pub record IsAskedHeld (s : List Tree) (x : Asked) : Type 0 where
  pub tests : AreHeldOfSort Formula s x.tests.items
  pub test : Holds s x.test
  pub terms : HoldTerms s x.terms.items
