use Rattle.trees.specs.Node.{tree_at}
use Rattle.evidence.specs.Laws.{AddsTrees_extends}
use Rattle.evidence.proofs.Rules.{refutes_later}
use Rattle.tr_recursion.proofs.branch_steps.NewBodies.{universal_follows}
use Rattle.tr_recursion.proofs.branch_steps.universal.universal_step.Goals as goal

pub derive-requires-clause-follow : goal.derive-requires-clause-follow
derive-requires-clause-follow c =
    let d = c.args.draft.now in
    let d1 = c.negation.new.draft in
    let m = c.in_ok-negated in
    let u = c.requires.universal in
    universal_follows d1 c.args.number c.args.step (tree_at d.trees c.args.formula) (tree_at d1.trees m.negated) u.0 u.1.0 m.ensures.tree u.1.1 c.requires.new (refutes_later d d1 (AddsTrees_extends d d1 m.ensures.grows) c.args.step _ (c.requires.step u.0 u.1.0 u.1.1))
