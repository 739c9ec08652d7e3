use Rattle.trees.specs.Node.{tree_at}
use Rattle.step_lines.proofs.tree_lines.Others.{variable_other}
use Rattle.step_lines.proofs.tree_lines.forms.over_number.Goals as goal

pub returns-in_default-clause-tree : goal.returns-in_default-clause-tree
returns-in_default-clause-tree c = λ s. variable_other c.args.word c.in_default.not-Bound c.args.n (tree_at s c.args.ty)
