use Rattle.tasks.specs.trees.Node.{tree_at}
use Rattle.tr_algebraic.specs.law_evidence.Shapes.{leading_quantifiers}
use Rattle.tr_algebraic.proofs.law_evidence.laws.+refute_open_law.Given as goal

abbrev pub decreases-refute_open_law : goal.decreases-refute_open_law
decreases-refute_open_law l = leading_quantifiers (tree_at l.draft.now.trees l.formula)
