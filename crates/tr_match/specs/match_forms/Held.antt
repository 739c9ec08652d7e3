-- What code has that makes forms: a `match` by its numbers in a store, and a branch with what it is
-- asked of.
use Rattle.std.specs.Prelude.{◌≡◌, List, ◌∷◌}
use Rattle.trees.specs.declared.TermId.{TermId}
use Rattle.trees.specs.declared.Sort.TheVariants.{Term}
use Rattle.trees.specs.Tree.{Tree}
use Rattle.trees.specs.Node.{tree_at, Holds}
use Rattle.trees.specs.Sorts.{sort_of, type_of}
use Rattle.tasks.specs.declared.lookup.Lookup.{Lookup}
use Rattle.tasks.specs.Task.{TaskTree}
use Rattle.tasks.specs.Vocabulary.{of_task}
use Rattle.tasks.specs.Meaning.{task_at}
use Rattle.tasks.specs.Looking.{LookupHeld}
use Rattle.tasks.specs.Valid.{IsValid}
use Rattle.images.specs.PatternTerms.{IsTypedPattern}
use Rattle.images.specs.typing_laws.HasTyping.{HasTyping}
use Rattle.tr_match.specs.match_forms.Branches.{ArmTree, arms_tree, AreTypedBranches}
use Rattle.tr_match.specs.declared.match_forms.forms.FirstBranch.{FirstBranch}

-- the task of a look-up
abbrev pub look_task : List Tree → Lookup → TaskTree
look_task s look = task_at s look.task.now

-- a valid task, a term of it and typed branches for the term
pub record CanForm (s : List Tree) (look : Lookup) (scrutinee branches : TermId) : Type 0 where
  pub look_held : LookupHeld s look
  pub valid : IsValid (look_task s look)
  pub scrutinee_held : Holds s scrutinee
  pub branches_held : Holds s branches
  pub types : List Tree
  pub term : sort_of (tree_at s scrutinee) ≡ Term
  pub term_typed : HasTyping (of_task (look_task s look)) types (tree_at s scrutinee)
  pub body : Tree
  pub first : ArmTree
  pub others : List ArmTree
  pub are : tree_at s branches ≡ arms_tree (first ∷ others)
  pub typed : AreTypedBranches (of_task (look_task s look)) types (type_of (tree_at s scrutinee))
      body (first ∷ others)

-- a valid task, a term, and a branch with a pattern of the task
pub record CanOpenBranch (s : List Tree) (look : Lookup) (scrutinee : TermId)
    (branch : FirstBranch) : Type 0 where
  pub look_held : LookupHeld s look
  pub valid : IsValid (look_task s look)
  pub scrutinee_held : Holds s scrutinee
  pub term : sort_of (tree_at s scrutinee) ≡ Term
  pub pattern_held : Holds s branch.pattern
  pub types : List Tree
  pub pattern : IsTypedPattern (look_task s look) types (tree_at s branch.pattern)
  pub body_held : Holds s branch.body
