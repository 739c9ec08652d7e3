-- What `eliminate_let` makes of a task, which is valid and declares the same.
use Rattle.std.specs.Prelude.{ℕ, List, All, Result}
use Rattle.tasks.specs.Task.{TaskTree}
use Rattle.tasks.specs.Vocabulary.{of_task}
use Rattle.tasks.specs.Valid.{IsValid}
use Rattle.evidence.specs.Stages.{Gives, Keeps}
use Rattle.walking.specs.images.Images.{image}
use Rattle.walking.specs.declared.rewriting.formulas.FormulaScope.TheVariants as scope
use Rattle.walking.specs.rewriting.Rewritten.{formulas_equation}
use Rattle.walking.specs.rewriting.Kept.{rewritten_keeps}
use Rattle.walking.specs.rule_rewriting.Kept.{rule_keeps_formulas}
use Rattle.tr_let.specs.LetRule.{let_rule}
use Rattle.tr_let.specs.LetKept.{let_typed_rule}

-- everywhere, each `let` becomes its body at its value
abbrev pub lets_equation : TaskTree → Result (List TaskTree) ℕ
lets_equation t = formulas_equation scope.Everywhere (λ _. image let_rule) t

pub lets_keep : (t : TaskTree) (ts : List TaskTree) → IsValid t → Gives lets_equation t ts
    → All (Keeps t) ts
lets_keep t ts valid gives = rewritten_keeps scope.Everywhere (λ _. image let_rule)
    (λ u _. rule_keeps_formulas (of_task u) let_rule (let_typed_rule (of_task u))) t ts valid gives
