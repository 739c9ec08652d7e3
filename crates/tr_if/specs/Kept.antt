-- A task without conditionals declares the same, and is valid; what a formula becomes is typed
-- alike, at types too.
use Rattle.std.specs.Prelude.{◌≡◌, ℕ, List, [], All, Option, Some, None, Err}
use Rattle.std.proofs.Common.{ap}
use Rattle.tasks.specs.Task.{TaskTree}
use Rattle.tasks.specs.Vocabulary.{of_task}
use Rattle.tasks.specs.Valid.{IsValid}
use Rattle.evidence.specs.Stages.{Misplaced, Gives, Keeps, stage_answer, stage_equation}
use Rattle.walking.specs.evidence.changed_tasks.Changed.{KeepsFormulas}
use Rattle.walking.specs.declared.rewriting.formulas.FormulaScope.TheVariants as scope
use Rattle.walking.specs.rewriting.Formulas.{CommutesWithTypes}
use Rattle.walking.specs.rewriting.Rewritten.{formulas_equation}
use Rattle.walking.specs.rewriting.Kept.{rewritten_keeps}
use Rattle.tr_if.specs.conditionals.lemmas.Typed.{ifs_keep_typing}
use Rattle.tr_if.specs.conditionals.lemmas.AtTypes.{ifs_at_types}
use Rattle.tr_if.specs.Eliminated.{eliminated_formula, taken_or_refused, refused_place, if_equation}

taken_gives : (o : Option ℕ) (t : TaskTree) (ts : List TaskTree) → Gives (taken_or_refused o) t ts
    → Gives (formulas_equation scope.Everywhere eliminated_formula) t ts
taken_gives (Some decl) t ts g = absurd (cc)
taken_gives None t ts g = g

-- a task that isn't taken is refused at this place
pub if_refuses : (t : TaskTree) (decl : ℕ) → refused_place t ≡ Some decl
    → stage_equation if_equation t ≡ Err (Misplaced decl)
if_refuses t decl q = ap (λ (o : Option ℕ). stage_answer (taken_or_refused o t)) q

-- and of any other all formulas are rewritten
pub if_takes : (t : TaskTree) → refused_place t ≡ None
    → if_equation t ≡ formulas_equation scope.Everywhere eliminated_formula t
if_takes t q = ap (λ (o : Option ℕ). taken_or_refused o t) q

-- what it gives is given by rewriting
pub if_gives : (t : TaskTree) (ts : List TaskTree) → Gives if_equation t ts
    → Gives (formulas_equation scope.Everywhere eliminated_formula) t ts
if_gives t ts g = taken_gives (refused_place t) t ts g

pub if_keeps_formulas : (t : TaskTree) → KeepsFormulas (of_task t) (eliminated_formula t)
if_keeps_formulas t = λ e s x. ifs_keep_typing (of_task t) [] e x

pub if_commutes : (t : TaskTree) → CommutesWithTypes (of_task t) (eliminated_formula t)
if_commutes t = λ ys each e s x. ifs_at_types (of_task t) ys each [] e x

pub if_keeps : (t : TaskTree) (ts : List TaskTree) → IsValid t → Gives if_equation t ts
    → All (Keeps t) ts
if_keeps t ts valid g = rewritten_keeps scope.Everywhere eliminated_formula
    (λ u v. if_keeps_formulas u) t ts valid (if_gives t ts g)
