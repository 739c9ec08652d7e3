-- What is asked for a step of a goal from steps of its parts, and what the step refutes.
use Rattle.std.specs.Prelude.{◌≡◌, ℕ, List, [], ◌∷◌, ◌++◌, Result, IfOk}
use Rattle.std.specs.declared.alloc.AllocError.{AllocError}
use Rattle.tasks.specs.trees.declared.TermId.{TermId}
use Rattle.tasks.specs.trees.Tree.{Tree}
use Rattle.tasks.specs.trees.Node.{tree_at}
use Rattle.tasks.specs.Task.{neg}
use Rattle.tasks.specs.Meaning.{trees_at}
use Rattle.evidence.specs.Drafts.{DraftTree, Extends, Refutes, IsFormulaAt, AreFormulas}
use Rattle.tr_split.specs.parts.Split.{split}
use Rattle.tr_split.specs.parts.Glue.{EndsOfParts}
use Rattle.tr_split.specs.Goals.{AreParamsBelow}

-- the two formulas from which an `if` takes one
pub record IsFormulaPair (d : DraftTree) (a b : TermId) : Type 0 where
  pub left : IsFormulaAt d a
  pub right : IsFormulaAt d b

-- a goal over these formulas, with no parameter of this number or a greater one, and steps that
-- refute its parts
pub record CanGlue (d : DraftTree) (es : List TermId) (id : TermId) (number : ℕ)
    (steps : List ℕ) : Type 0 where
  pub front : AreFormulas d es
  pub goal : IsFormulaAt d id
  pub below : AreParamsBelow number (trees_at d.trees es) (tree_at d.trees id)
  pub ends : EndsOfParts d steps (trees_at d.trees es) (split (tree_at d.trees id))

-- a step that refutes these formulas and the negated goal
abbrev pub RefutesGoal : DraftTree → DraftTree → List TermId → TermId → ℕ → Type 0
RefutesGoal old new front goal k =
    Refutes new k (trees_at old.trees front ++ neg (tree_at old.trees goal) ∷ [])

pub record IsGlued (old new : DraftTree) (front : List TermId) (goal : TermId)
    (r : Result ℕ AllocError) : Type 0 where
  pub refutes : IfOk r (RefutesGoal old new front goal)
  pub grows : Extends old new

-- what a goal is opened to, with steps that refute its parts over the same formulas
pub record IsGoalOpened (old new : DraftTree) (es : List TermId) (e : Tree) (number : ℕ)
    (id : TermId) (steps : List ℕ) : Type 0 where
  pub is : tree_at new.trees id ≡ e
  pub formula : IsFormulaAt new id
  pub below : AreParamsBelow number (trees_at old.trees es) e
  pub ends : EndsOfParts new steps (trees_at old.trees es) (split e)
