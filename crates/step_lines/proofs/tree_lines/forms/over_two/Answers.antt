use Rattle.trees.specs.Node.{tree_at}
use Rattle.step_lines.proofs.tree_lines.Others.{two_other}
use Rattle.step_lines.proofs.tree_lines.forms.over_two.Goals as goal

pub returns-in_default-clause-tree : goal.returns-in_default-clause-tree
returns-in_default-clause-tree c =
    let n = c.in_default in
    λ s. two_other c.args.word n.not-And n.not-AndThen n.not-Or n.not-OrElse n.not-Imp n.not-Iff n.not-Forall n.not-Exists n.not-Let (tree_at s c.args.a) (tree_at s c.args.b)
