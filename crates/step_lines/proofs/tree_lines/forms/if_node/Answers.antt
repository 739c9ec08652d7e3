use Rattle.trees.specs.Tree.{Three, HIf}
use Rattle.tasks.specs.Meaning.{trees_at}
use Rattle.step_lines.specs.tree_lines.Words.{at_number}
use Rattle.step_lines.proofs.tree_lines.Others.{three_short, three_long}
use Rattle.step_lines.proofs.tree_lines.forms.if_node.Goals as goal

pub returns-in_default-clause-tree : goal.returns-in_default-clause-tree
returns-in_default-clause-tree c =
    let at = at_number (trees_at c.args.store.now c.args.things.now) in
    three_short at at at (Three HIf) c.args.words.now c.in_default.len_below

pub returns-in_default-2-clause-tree : goal.returns-in_default-2-clause-tree
returns-in_default-2-clause-tree c =
    let at = at_number (trees_at c.args.store.now c.args.things.now) in
    three_long at at at (Three HIf) c.args.words.now c.in_default.len_at_least
