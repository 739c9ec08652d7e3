-- What is true of the parts of every draft.
use Rattle.std.specs.Prelude.{◌≡◌, ℕ, nat_eq, List, [], ◌∷◌, Some}
use Rattle.std.specs.Map.{lookup}
use Rattle.trees.specs.declared.TermId.{TermId}
use Rattle.trees.specs.Tree.{Tree}
use Rattle.trees.specs.Node.{tree_at, Holds}
use Rattle.tasks.specs.declared.task.Task.{Task}
use Rattle.tasks.specs.Task.{neg}
use Rattle.tasks.specs.Meaning.{task_at, TaskHeld}
use Rattle.tasks.specs.Valid.{IsValid}
use Rattle.rules.specs.declared.rule.Step.{Step}
use Rattle.kernel.specs.Right.{AreRight}
use Rattle.rules.specs.Meaning.{steps_at, StepsHeld}
use Rattle.evidence.specs.Drafts.{DraftTree, Refutes}

-- the step that is remembered of a formula refutes the formula's negation, alone
abbrev pub AreLemmas : DraftTree → List (ℕ × ℕ) → Type 0
AreLemmas d es = (a : TermId) (k : ℕ) → lookup (nat_eq a.0) es ≡ Some k
    → Holds d.trees a × Refutes d k (neg (tree_at d.trees a) ∷ [])

abbrev pub draft_at : List Tree → Task → List Step → DraftTree
draft_at s t list = record { trees = s; task = task_at s t; steps = steps_at s list }

pub record IsDraft (s : List Tree) (t : Task) (list : List Step)
    (lemmas : List (ℕ × ℕ)) : Type 0 where
  pub task : TaskHeld s t
  pub valid : IsValid (task_at s t)
  pub held : StepsHeld s list
  pub right : AreRight (task_at s t) (steps_at s list)
  pub lemmas_refute : AreLemmas (draft_at s t list) lemmas
