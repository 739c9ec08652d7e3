use Rattle.tasks.specs.Meaning.{trees_at}
use Rattle.step_lines.specs.tree_lines.Words.{at_number}
use Rattle.step_lines.specs.tree_lines.Lines.{two_tree}
use Rattle.step_lines.proofs.tree_lines.Others.{two_short, two_long}
use Rattle.step_lines.proofs.tree_lines.forms.two_node.Goals as goal

pub returns-in_default-clause-tree : goal.returns-in_default-clause-tree
returns-in_default-clause-tree c = two_short (at_number (trees_at c.args.store.now c.args.firsts.now)) (at_number (trees_at c.args.store.now c.args.seconds.now)) (two_tree c.args.word) c.args.words.now c.in_default.len_below

pub returns-in_default-2-clause-tree : goal.returns-in_default-2-clause-tree
returns-in_default-2-clause-tree c = two_long (at_number (trees_at c.args.store.now c.args.firsts.now)) (at_number (trees_at c.args.store.now c.args.seconds.now)) (two_tree c.args.word) c.args.words.now c.in_default.len_at_least
