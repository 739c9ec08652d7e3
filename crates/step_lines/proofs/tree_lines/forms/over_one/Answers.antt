use Rattle.trees.specs.Node.{tree_at}
use Rattle.step_lines.proofs.tree_lines.Others.{one_other}
use Rattle.step_lines.proofs.tree_lines.forms.over_one.Goals as goal

pub returns-in_default-clause-tree : goal.returns-in_default-clause-tree
returns-in_default-clause-tree c = λ s. one_other c.args.word c.in_default.not-Any c.in_default.not-Var c.in_default.not-As (tree_at s c.args.a)
