use Rattle.std.proofs.Common.{◌≡◌, [], sym, subst, ap, ◌∙◌}
use Rattle.trees.specs.Tree.{Tree}
use Rattle.trees.specs.Node.{tree_at}
use Rattle.tasks.specs.Meaning.{task_at}
use Rattle.tasks.specs.Vocabulary.{of_task}
use Rattle.walking.specs.evidence.changed_tasks.Limits.{IsLarge}
use Rattle.inlining.proofs.images.typing_laws.Sorted.{typed_has}
use Rattle.inlining.specs.images.Images.{image}
use Rattle.tr_inline.specs.declared.full_bodies.fault.InlineFault.TheVariants as fault
use Rattle.tr_inline.specs.full_bodies.FullBodies.{rule_after}
use Rattle.tr_inline.specs.full_bodies.Made.{IsFormulaFault}
use Rattle.tr_inline.proofs.ByBodies.{by_bodies}
use Rattle.tr_inline.proofs.formulas.image_by_bodies.Goals as goal

pub inline_formula-requires-clause-typed : goal.inline_formula-requires-clause-typed
inline_formula-requires-clause-typed c =
    let s = c.args.store.now in
    typed_has (of_task (task_at s c.args.task.now)) [] (tree_at s c.args.formula) c.requires.formula.typed

pub returns-in-Ok-clause-tree : goal.returns-in-Ok-clause-tree
returns-in-Ok-clause-tree c =
    let s = c.args.store.now in
    c.in-Ok.ensures.tree ∙ by_bodies c.args.mode (task_at s c.args.task.now) c.requires.ready.valid s c.args.bodies.now c.requires.bodies (tree_at s c.args.formula) c.requires.formula.typed

pub returns-in-Err-Large-clause-fault : goal.returns-in-Err-Large-clause-fault
returns-in-Err-Large-clause-fault c =
    let s = c.args.store.now in
    let bodies = c.args.bodies.now in
    let here : IsFormulaFault (image (rule_after s (λ e. e) bodies) (tree_at s c.args.formula)) fault.Large = subst (IsFormulaFault (image (rule_after s (λ e. e) bodies) (tree_at s c.args.formula))) c.in-Err-Large.field-0-is c.in-Err-Large.ensures.fault in
    subst IsLarge (by_bodies c.args.mode (task_at s c.args.task.now) c.requires.ready.valid s bodies c.requires.bodies (tree_at s c.args.formula) c.requires.formula.typed) here
