use Rattle.std.proofs.Common.{[]}
use Rattle.tasks.specs.trees.Node.{tree_at}
use Rattle.tasks.specs.Meaning.{task_at}
use Rattle.tasks.specs.Vocabulary.{of_task}
use Rattle.evidence.proofs.images.typing_laws.Sorted.{typed_has}
use Rattle.tr_if.proofs.eliminating.ConditionalsRewriteFormulas.image_of.Goals as goal

pub eliminate_ifs-requires : goal.eliminate_ifs-requires
eliminate_ifs-requires c =
    let s = c.args.store.now in
    let v = of_task (task_at s c.args.task.now) in
    let r = c.requires.formula in
    record { held = r.held; vocabulary = v; types = []; typed = typed_has v [] (tree_at s c.args.formula) r.typed }
