use Rattle.trees.specs.Node.{tree_at}
use Rattle.tr_inline.specs.inlining.branch_equations.Branches.{quantifiers}
use Rattle.tr_recursion.proofs.branch_steps.branches.+opened_step.Given as goal

abbrev pub decreases-opened_step : goal.decreases-opened_step
decreases-opened_step l = quantifiers (tree_at l.draft.now.trees l.formula)
