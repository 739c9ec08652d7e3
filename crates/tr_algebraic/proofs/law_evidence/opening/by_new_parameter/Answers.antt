use Rattle.tasks.specs.trees.Node.{tree_at}
use Rattle.evidence.specs.Laws.{AddsTrees_extends}
use Rattle.evidence.proofs.Rules.{refutes_later}
use Rattle.tr_algebraic.proofs.law_evidence.Scripts.{new_follows}
use Rattle.tr_algebraic.proofs.law_evidence.opening.by_new_parameter.Goals as goal

pub derive-requires-clause-follow : goal.derive-requires-clause-follow
derive-requires-clause-follow c =
    let d = c.args.draft.now in
    let d1 = c.negation.new.draft in
    let m = c.in_ok-negated in
    let x = AddsTrees_extends d d1 m.ensures.grows in
    new_follows d1 (tree_at d1.trees m.negated) (tree_at d.trees c.args.formula) (tree_at d.trees c.args.ty) (tree_at d.trees c.args.body) c.args.fresh c.args.step m.ensures.tree c.requires.is c.requires.below (refutes_later d d1 x c.args.step _ c.requires.step)
