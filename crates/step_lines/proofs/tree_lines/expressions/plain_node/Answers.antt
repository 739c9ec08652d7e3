use Rattle.std.proofs.Common.{◌∙◌}
use Rattle.tasks.specs.Meaning.{task_at}
use Rattle.step_lines.specs.tree_lines.Words.{texts}
use Rattle.step_lines.specs.tree_lines.Made.{earlier_at}
use Rattle.step_lines.proofs.tree_lines.Growing.{types_held}
use Rattle.step_lines.proofs.tree_lines.Others.{plain_other}
use Rattle.step_lines.proofs.tree_lines.expressions.plain_node.Goals as goal

pub variable_node-requires : goal.variable_node-requires
variable_node-requires c = types_held c.args.store.now c.args.x.now.types.now c.requires.types

pub two_node-requires-clause-firsts : goal.two_node-requires-clause-firsts
two_node-requires-clause-firsts c = types_held c.args.store.now c.args.x.now.types.now c.requires.types

pub two_node-requires-clause-seconds : goal.two_node-requires-clause-seconds
two_node-requires-clause-seconds c = c.requires.expressions

pub returns-in_default-clause-tree : goal.returns-in_default-clause-tree
returns-in_default-clause-tree c =
    let s = c.args.store.now in
    let x = c.args.x.now in
    let n = c.in_default in
    c.two_node-in_default.ensures.tree ∙ plain_other (task_at s x.task.now) x.table.now (earlier_at s x) c.args.word n.not-Bound n.not-Param n.not-Num n.not-True n.not-False n.not-Not n.not-Forall n.not-Exists n.not-If (texts c.args.words.now)

pub returns-in_default-clause-below : goal.returns-in_default-clause-below
returns-in_default-clause-below c = c.two_node-in_default.ensures.below
