use Rattle.std.proofs.Common.{sym, ap, ◌∙◌}
use Rattle.tasks.specs.trees.Node.{tree_at}
use Rattle.tasks.specs.Task.{neg}
use Rattle.tr_if.proofs.Scripts.{claim_iff}
use Rattle.tr_if.proofs.values.denial_of.Goals as goal

pub returns-clause-tree : goal.returns-clause-tree
returns-clause-tree c =
    let d = c.args.draft.now in
    c.in_ok-made.ensures.tree ∙ ap neg (c.in_ok-claimed.ensures.tree ∙ sym (claim_iff (tree_at d.trees c.args.l) (tree_at d.trees c.args.r) c.requires.left.ground.sort))
