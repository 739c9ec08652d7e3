use Rattle.tasks.specs.Meaning.{trees_at}
use Rattle.step_lines.specs.tree_lines.Words.{number, at_number}
use Rattle.step_lines.specs.tree_lines.Lines.{variable_tree}
use Rattle.step_lines.proofs.tree_lines.Others.{two_short, two_long}
use Rattle.step_lines.proofs.tree_lines.forms.variable_node.Goals as goal

pub returns-in_default-clause-tree : goal.returns-in_default-clause-tree
returns-in_default-clause-tree c = two_short number (at_number (trees_at c.args.store.now c.args.types.now)) (variable_tree c.args.word) c.args.words.now c.in_default.len_below

pub returns-in_default-2-clause-tree : goal.returns-in_default-2-clause-tree
returns-in_default-2-clause-tree c = two_long number (at_number (trees_at c.args.store.now c.args.types.now)) (variable_tree c.args.word) c.args.words.now c.in_default.len_at_least
