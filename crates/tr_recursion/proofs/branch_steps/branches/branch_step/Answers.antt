use Rattle.trees.specs.Node.{tree_at}
use Rattle.tasks.specs.Meaning.{definition_at}
use Rattle.tr_recursion.proofs.branch_steps.Opened.{opens_to_branch}
use Rattle.tr_recursion.proofs.branch_steps.branches.branch_step.Goals as goal

pub opened_step-requires-clause-opens : goal.opened_step-requires-clause-opens
opened_step-requires-clause-opens c =
    let d = c.args.draft.now in
    let r = c.requires.defined in
    opens_to_branch d.task (definition_at d.trees c.args.def) r.defined r.named c.requires.branch.0 (tree_at d.trees c.args.formula) c.requires.branch.1
