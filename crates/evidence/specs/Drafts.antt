-- What a draft is, in trees, how drafts grow, and which of their steps and formulas are spoken of.
use Rattle.std.specs.Prelude.{◌≡◌, ℕ, ◌<◌, List, [], ◌∷◌, ◌++◌, length, map, slice_get, All, Some, refl}
use Rattle.std.specs.Coded.{Coded, code_by, coded×}
use Rattle.trees.specs.declared.TermId.{TermId}
use Rattle.trees.specs.Tree.{Tree}
use Rattle.trees.specs.Node.{tree_at, Holds, Grows}
use Rattle.trees.specs.Coding.{trees_code}
use Rattle.tasks.specs.Task.{TaskTree}
use Rattle.tasks.specs.Valid.{IsGroundFormula}
use Rattle.tasks.specs.Meaning.{trees_at}
use Rattle.rules.specs.Trees.{RCut, RKeep, StepTree, step_or}
use Rattle.rules.specs.Codes.{steps_code}
use Rattle.tasks.specs.Codes.{task_code}

-- the trees of the store, the task and the steps
pub record DraftTree : Type 0 where
  pub trees : List Tree
  pub task : TaskTree
  pub steps : List StepTree

abbrev pub draft_code : Coded DraftTree
draft_code = code_by (List Tree × (TaskTree × List StepTree))
    (coded× trees_code (coded× task_code steps_code))
    (λ d. (d.trees, (d.task, d.steps))) (λ p. record { trees = p.0; task = p.1.0; steps = p.1.1 })
    (λ _. refl)

-- all that was there stays, under the same numbers
pub record Extends (old new : DraftTree) : Type 0 where
  pub trees : Grows old.trees new.trees
  pub task : new.task ≡ old.task
  pub more : List StepTree
  pub steps : new.steps ≡ old.steps ++ more

-- trees were added, and nothing else changed
pub record AddsTrees (old new : DraftTree) : Type 0 where
  pub trees : Grows old.trees new.trees
  pub task : new.task ≡ old.task
  pub steps : new.steps ≡ old.steps

-- the draft has a step with this number and sequent
pub record Refutes (d : DraftTree) (k : ℕ) (sequent : List Tree) : Type 0 where
  pub within : k < length d.steps
  pub is : (step_or d.steps k).sequent ≡ sequent

-- steps of the draft, by number, refute these sequents
abbrev pub RefuteAll : DraftTree → List ℕ → List (List Tree) → Type 0
RefuteAll d [] [] = Unit {0}
RefuteAll d (k ∷ ks) (q ∷ qs) = Refutes d k q × RefuteAll d ks qs
RefuteAll d _ _ = ⊥

-- the number of a formula of sequents
pub record IsFormulaAt (d : DraftTree) (id : TermId) : Type 0 where
  pub held : Holds d.trees id
  pub ground : IsGroundFormula d.task (tree_at d.trees id)

-- numbers of formulas of sequents
pub record AreFormulas (d : DraftTree) (ids : List TermId) : Type 0 where
  pub held : All (Holds d.trees) ids
  pub ground : All (IsGroundFormula d.task) (trees_at d.trees ids)

-- a step whose sequent has a last formula
pub record HasLast (d : DraftTree) (k : ℕ) : Type 0 where
  pub front : List Tree
  pub last : Tree
  pub refutes : Refutes d k (front ++ last ∷ [])

-- a step of the draft refutes the formulas at these places of a sequent
pub record RefutesAt (d : DraftTree) (sequent : List Tree) (places : List ℕ) (k : ℕ) : Type 0 where
  pub kept : List Tree
  pub are : map Some kept ≡ map (slice_get sequent) places
  pub refutes : Refutes d k kept

-- the step that cuts a sequent on a formula, and the one that keeps places of a sequent
abbrev pub cut_step : List Tree → Tree → ℕ → ℕ → StepTree
cut_step sequent formula j k =
    record { sequent = sequent; rule = RCut formula; premises = j ∷ k ∷ [] }

abbrev pub keep_step : List Tree → List ℕ → ℕ → StepTree
keep_step sequent places k = record { sequent = sequent; rule = RKeep places; premises = k ∷ [] }
