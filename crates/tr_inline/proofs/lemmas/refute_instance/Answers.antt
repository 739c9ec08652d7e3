use Rattle.std.proofs.Common.{[], ◌∷◌, sym, ap, subst, ◌∙◌}
use Rattle.trees.specs.Tree.{Tree}
use Rattle.trees.specs.Node.{tree_at}
use Rattle.tasks.specs.Task.{TaskTree, neg}
use Rattle.congruence.specs.kernel.Right.{IsGroundExpression}
use Rattle.congruence.proofs.Later.{tree_later}
use Rattle.evidence.specs.Drafts.{Refutes}
use Rattle.evidence.specs.Laws.{AddsTrees_extends}
use Rattle.evidence.proofs.Rules.{refutes_later}
use Rattle.tr_inline.proofs.Scripts.{taken_at}
use Rattle.tr_inline.proofs.lemmas.refute_instance.Goals as goal

pub derive-requires-clause-follow : goal.derive-requires-clause-follow
derive-requires-clause-follow c =
    let d = c.args.draft.now in
    let d1 = c.negation.new.draft in
    let m = c.in_ok-negated in
    let x = AddsTrees_extends d d1 m.ensures.grows in
    let w = c.requires.term in
    let l = c.args.lemma in
    let r : Refutes d1 l.step (neg (tree_at d.trees l.formula) ∷ []) = refutes_later d d1 x l.step _ c.requires.lemma.refutes in
    taken_at d1 l.step (tree_at d1.trees l.formula) (tree_at d1.trees c.args.term) (tree_at d1.trees m.negated) w.ty w.body (tree_at d.trees c.args.term) (tree_later d d1 x l.formula c.requires.lemma.formula.held ∙ w.is)
    (tree_later d d1 x c.args.term c.requires.term_held) (m.ensures.tree ∙ ap neg (c.requires.made_is w.ty w.body w.is)) w.type (subst (λ (t : TaskTree). IsGroundExpression t (tree_at d.trees c.args.term)) (sym x.task) w.ground)
    (subst (λ (z : Tree). Refutes d1 l.step (neg z ∷ [])) w.is r)
