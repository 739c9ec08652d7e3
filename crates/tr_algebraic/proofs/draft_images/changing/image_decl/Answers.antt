use Rattle.std.proofs.Common.{[]}
use Rattle.tasks.specs.trees.Node.{tree_at}
use Rattle.tasks.specs.Meaning.{task_at}
use Rattle.tasks.specs.Vocabulary.{of_task}
use Rattle.walking.proofs.rewriting.Mapped.{said_formula}
use Rattle.walking.proofs.OneTerm.{typed_has}
use Rattle.tr_algebraic.proofs.draft_images.changing.image_decl.Goals as goal

pub image_tree-requires-clause-typed : goal.image_tree-requires-clause-typed
image_tree-requires-clause-typed g c =
    let s = c.args.draft.now.trees in
    let t = task_at s c.args.task.now in
    ([], typed_has (of_task t) [] (tree_at s c.in-Prop.formula) (said_formula s c.args.decl.now c.in-Prop.formula c.in-Prop.is t c.requires.decl_held c.requires.decl_valid).typed)
