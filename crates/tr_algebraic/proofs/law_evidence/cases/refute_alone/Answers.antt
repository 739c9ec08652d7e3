use Rattle.std.proofs.Common.{◌∙◌}
use Rattle.tasks.specs.trees.Node.{tree_at}
use Rattle.tr_algebraic.proofs.law_evidence.Scripts.{case_last}
use Rattle.tr_algebraic.proofs.law_evidence.cases.refute_alone.Goals as goal

pub derive-requires-clause-follow : goal.derive-requires-clause-follow
derive-requires-clause-follow c =
    let d = c.args.draft.now in
    let d1 = c.negation.new.draft in
    let m = c.in_ok-negated in
    case_last d1 (tree_at d1.trees m.negated) (tree_at d1.trees c.args.case) (tree_at d.trees c.args.whole) m.ensures.tree (m.ensures.grows.trees.same c.args.case.0 c.requires.case.held ∙ c.requires.is)
