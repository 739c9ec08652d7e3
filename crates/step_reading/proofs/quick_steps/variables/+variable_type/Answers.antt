use Rattle.std.proofs.Common.{sym, ◌∙◌, arith}
use Rattle.tasks.specs.trees.Node.{tree_at}
use Rattle.step_reading.proofs.quick_steps.Seen.{cell_more, cell_first}
use Rattle.step_reading.proofs.quick_steps.variables.+variable_type.Goals as goal

pub returns-then-back-count-clause-tree : goal.returns-then-back-count-clause-tree
returns-then-back-count-clause-tree t c =
    let s = c.args.store.now in
    c.variable_type-then-back-count.ensures.tree
    ∙ sym (cell_more (tree_at s c.in-Cell.first) (tree_at s c.in-Cell.more) (tree_at s c.args.pattern) c.pattern_variables-count.result c.args.back c.in-Cell.ensures.tree c.in-Cell.ensures.sorted c.pattern_variables-count.ensures (omega arith))

pub returns-else-back-count-clause-tree : goal.returns-else-back-count-clause-tree
returns-else-back-count-clause-tree t c =
    let s = c.args.store.now in
    c.variable_type-else-back-count.ensures.tree
    ∙ sym (cell_first (tree_at s c.in-Cell.first) (tree_at s c.in-Cell.more) (tree_at s c.args.pattern) c.pattern_variables-count.result c.args.back c.in-Cell.ensures.tree c.in-Cell.ensures.sorted c.pattern_variables-count.ensures (omega arith) c.requires.small)
