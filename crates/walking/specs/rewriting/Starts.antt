-- What is known while the start of a task is refuted by that of the rewritten one.
use Rattle.std.specs.Prelude.{◌≡◌, ℕ, ◌≤◌, List, [], ◌∷◌, map, take, length, get_or, slice_get, Some}
use Rattle.tasks.specs.trees.declared.TermId.{TermId}
use Rattle.tasks.specs.trees.Tree.{Tree, Leaf, HEnd}
use Rattle.tasks.specs.trees.Node.{tree_at}
use Rattle.tasks.specs.declared.task.Task.{Task}
use Rattle.tasks.specs.Task.{TaskTree, neg}
use Rattle.tasks.specs.Meaning.{trees_at}
use Rattle.evidence.specs.Drafts.{DraftTree, Refutes, IsFormulaAt, AreFormulas}
use Rattle.evidence.specs.Stages.{IsOwnTask}
use Rattle.walking.specs.declared.rewriting.gluing.Half.{Half}

abbrev pub tree_or : List Tree → ℕ → Tree
tree_or es i = get_or es i (Leaf HEnd)

-- the draft's task, with the negation of its goal, for which a function is ready
pub record CanGlueStart (ready : TaskTree → List Tree → Type 0) (d : DraftTree) (from : Task)
    (no_goal : TermId) : Type 0 where
  pub is_ready : ready d.task d.trees
  pub own : IsOwnTask d from
  pub negated : IsFormulaAt d no_goal
  pub is : tree_at d.trees no_goal ≡ neg d.task.goal

-- what the first locals become
pub record AreLocalImages (d : DraftTree) (g : Tree → Tree) (done : List TermId) : Type 0 where
  pub formulas : AreFormulas d done
  pub within : length done ≤ length d.task.locals
  pub are : trees_at d.trees done ≡ map g (take (length done) d.task.locals)

-- what a formula becomes, with a step that refutes the formula and the negation of that
pub record IsHalf (d : DraftTree) (old new : Tree) (half : Half) : Type 0 where
  pub formula : IsFormulaAt d half.image
  pub is : tree_at d.trees half.image ≡ new
  pub refutes : Refutes d half.step (old ∷ neg new ∷ [])

-- the formula is at this place of a sequent
pub record IsHalfFor (d : DraftTree) (sequent : List Tree) (place : ℕ) (half : Half) : Type 0 where
  pub old : Tree
  pub there : slice_get sequent place ≡ Some old
  pub half_is : IsHalf d old (tree_at d.trees half.image) half
