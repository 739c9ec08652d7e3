use Rattle.std.proofs.Common.{[]}
use Rattle.trees.specs.Node.{tree_at}
use Rattle.tasks.specs.Meaning.{task_at}
use Rattle.tasks.specs.Vocabulary.{of_task}
use Rattle.images.proofs.typing_laws.Sorted.{typed_has}
use Rattle.walking.proofs.rule_rewriting.task_rules.image_by_rule.Goals as goal

pub image_tree-requires-clause-typed : goal.image_tree-requires-clause-typed
image_tree-requires-clause-typed g c = ([], typed_has (of_task (task_at c.args.store.now c.args.task.now)) [] (tree_at c.args.store.now c.args.formula) c.requires.formula.typed)
