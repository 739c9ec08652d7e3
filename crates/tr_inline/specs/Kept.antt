-- The equation of inlining is that of a task whose formulas are rewritten, so what it gives
-- declares the same, and is valid.
use Rattle.std.specs.Prelude.{◌≡◌, List, All, Result, refl}
use Rattle.std.proofs.Common.{sym, ap, ◌∙◌}
use Rattle.tasks.specs.Task.{TaskTree}
use Rattle.tasks.specs.Valid.{IsValid}
use Rattle.tasks.specs.Vocabulary.{of_task}
use Rattle.walking.specs.evidence.changed_tasks.Changed.{KeepsFormulas}
use Rattle.evidence.specs.Stages.{TaskEquation, Gives, Keeps, stage_answer}
use Rattle.walking.specs.rewriting.Rewritten.{formulas_equation}
use Rattle.walking.specs.rewriting.Kept.{rewritten_keeps}
use Rattle.inlining.specs.declared.modes.InlineMode.{InlineMode}
use Rattle.inlining.specs.declared.modes.InlineMode.TheVariants as mode
use Rattle.walking.specs.rewriting.Formulas.{CommutesWithTypes}
use Rattle.inlining.specs.Inlining.{inline_equation}
use Rattle.tr_inline.specs.full_bodies.Kept.{formula_keeps, formula_commutes}
use Rattle.tr_inline.specs.Inlined.{inline_formula, mode_scope}

pub same_equation : (m : InlineMode) (t : TaskTree)
    → inline_equation m t ≡ formulas_equation (mode_scope m) (inline_formula m) t
same_equation mode.Trivial t = refl
same_equation mode.Goal t = refl
same_equation mode.All t = refl

pub formulas_keep : (m : InlineMode) (t : TaskTree) → IsValid t
    → KeepsFormulas (of_task t) (inline_formula m t)
formulas_keep m t valid e s x = formula_keeps m t valid e x

pub gives_rewritten : (m : InlineMode) (t : TaskTree) (ts : List TaskTree)
    → Gives (inline_equation m) t ts
    → Gives (formulas_equation (mode_scope m) (inline_formula m)) t ts
gives_rewritten m t ts g = ap stage_answer (sym (same_equation m t)) ∙ g

pub inline_keeps : (m : InlineMode) (t : TaskTree) (ts : List TaskTree) → IsValid t
    → Gives (inline_equation m) t ts → All (Keeps t) ts
inline_keeps m t ts valid g =
    rewritten_keeps (mode_scope m) (inline_formula m) (formulas_keep m) t ts valid
    (gives_rewritten m t ts g)

pub formulas_commute : (m : InlineMode) (t : TaskTree) → IsValid t
    → CommutesWithTypes (of_task t) (inline_formula m t)
formulas_commute m t valid ys each e s x = formula_commutes m t valid ys each e x
