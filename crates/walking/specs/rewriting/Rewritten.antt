-- Tasks whose formulas are rewritten, everywhere or in the goal alone.
use Rattle.std.specs.Prelude.{ℕ, List, [], ◌∷◌, Result, Ok}
use Rattle.tasks.specs.trees.Tree.{Tree}
use Rattle.tasks.specs.Task.{TaskTree}
use Rattle.tasks.specs.Copying.{with_goal}
use Rattle.evidence.specs.Stages.{TaskEquation}
use Rattle.evidence.specs.changed_tasks.Changed.{changed_task}
use Rattle.walking.specs.declared.rewriting.formulas.FormulaScope.{FormulaScope}
use Rattle.walking.specs.declared.rewriting.formulas.FormulaScope.TheVariants as scope

-- propositions, locals and goal, or the goal alone
abbrev pub scoped_task : FormulaScope → (Tree → Tree) → TaskTree → TaskTree
scoped_task scope.Everywhere g t = changed_task g t
scoped_task scope.Goal g t = with_goal t (g t.goal)

-- one task, by a function that may depend on the task
abbrev pub formulas_equation : FormulaScope → (TaskTree → Tree → Tree) → TaskEquation
formulas_equation sc g t = Ok (scoped_task sc (g t) t ∷ [])
