-- What `simplify_formula` makes of a task, which is valid and declares the same.
use Rattle.std.specs.Prelude.{ℕ, List, All, Result}
use Rattle.tasks.specs.Task.{TaskTree}
use Rattle.tasks.specs.Vocabulary.{of_task}
use Rattle.tasks.specs.Valid.{IsValid}
use Rattle.evidence.specs.Stages.{Gives, Keeps}
use Rattle.walking.specs.images.Images.{image}
use Rattle.walking.specs.declared.rewriting.formulas.FormulaScope.TheVariants as scope
use Rattle.walking.specs.rewriting.Rewritten.{formulas_equation}
use Rattle.walking.specs.rewriting.Kept.{rewritten_keeps}
use Rattle.walking.specs.rule_rewriting.Kept.{rule_keeps_formulas}
use Rattle.tr_simplify.specs.Laws.{simplify_rule}
use Rattle.tr_simplify.specs.SimplifyKept.{simplify_typed_rule}

-- everywhere, by the laws, from the leaves up
abbrev pub simplified_equation : TaskTree → Result (List TaskTree) ℕ
simplified_equation t = formulas_equation scope.Everywhere (λ _. image simplify_rule) t

pub simplified_keep : (t : TaskTree) (ts : List TaskTree) → IsValid t
    → Gives simplified_equation t ts → All (Keeps t) ts
simplified_keep t ts valid gives =
    rewritten_keeps scope.Everywhere (λ _. image simplify_rule)
    (λ u _. rule_keeps_formulas (of_task u) simplify_rule (simplify_typed_rule (of_task u))) t ts
    valid gives
