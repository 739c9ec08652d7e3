use Rattle.std.proofs.Common.{sym, subst}
use Rattle.tasks.specs.trees.Node.{tree_at}
use Rattle.tasks.specs.Task.{TaskTree}
use Rattle.evidence.specs.Laws.{AddsTrees_extends}
use Rattle.tr_algebraic.specs.law_evidence.Shapes.{AreApart}
use Rattle.tr_algebraic.proofs.law_evidence.Scripts.{equation_follows}
use Rattle.tr_algebraic.proofs.law_evidence.laws.refute_equation.Goals as goal

pub derive-requires-clause-follow : goal.derive-requires-clause-follow
derive-requires-clause-follow c =
    let d = c.args.draft.now in
    let d1 = c.negation.new.draft in
    let m = c.in_ok-negated in
    let x = AddsTrees_extends d d1 m.ensures.grows in
    equation_follows d1 (tree_at d1.trees m.negated) (tree_at d.trees c.args.formula) (tree_at d.trees c.args.equation) m.ensures.tree c.requires.is (subst (λ (t : TaskTree). AreApart t (tree_at d.trees c.args.formula)) (sym x.task) c.requires.shape)
