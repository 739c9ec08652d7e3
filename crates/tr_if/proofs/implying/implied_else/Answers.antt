use Rattle.std.proofs.Common.{◌≡◌, [], ◌∷◌, sym, ap, subst, ◌∙◌}
use Rattle.std.proofs.lemmas.Result.{IfOk-weaker}
use Rattle.tasks.specs.trees.Tree.{Tree}
use Rattle.tasks.specs.trees.Node.{tree_at}
use Rattle.tasks.specs.Task.{neg}
use Rattle.congruence.specs.kernel.rules.Forms.{alike}
use Rattle.evidence.specs.Drafts.{Refutes}
use Rattle.evidence.specs.Laws.{Extends_trans, AddsTrees_extends}
use Rattle.congruence.proofs.Later.{held_later, tree_later}
use Rattle.congruence.proofs.CaseParts.{denied}
use Rattle.tr_if.proofs.Implications.{whole_formula, else_formula, implied_later}
use Rattle.tr_if.proofs.Scripts.{claim_iff, else_follows}
use Rattle.tr_if.proofs.implying.implied_else.Goals as goal

pub denial_of-requires-clause-left : goal.denial_of-requires-clause-left
denial_of-requires-clause-left c = whole_formula c.args.draft.now c.args.k c.requires

pub denial_of-requires-clause-right : goal.denial_of-requires-clause-right
denial_of-requires-clause-right c = else_formula c.args.draft.now c.args.k c.requires

pub derive-requires-clause-follow : goal.derive-requires-clause-follow
derive-requires-clause-follow c =
    let d = c.args.draft.now in
    let d1 = c.denial_of.new.draft in
    let d2 = c.negation.new.draft in
    let n = c.in_ok-goal in
    let m = c.in_ok-negated in
    let x1 = AddsTrees_extends d d1 n.ensures.grows in
    let y = AddsTrees_extends d1 d2 m.ensures.grows in
    let x = Extends_trans d d1 d2 x1 y in
    let k = c.args.k in
    let q = implied_later d k c.requires d2 x in
    let p = c.requires.parts in
    let e = denied d d2 x n.goal k.whole k.else_part p.whole.held p.else_part.right.held (tree_later d1 d2 y n.goal n.ensures.formula.held ∙ n.ensures.tree) ∙ ap neg (claim_iff (tree_at d2.trees k.whole) (tree_at d2.trees k.else_part) (whole_formula d2 k q).ground.sort) in
    let f : tree_at d2.trees m.negated ≡ neg (tree_at d2.trees k.condition) = m.ensures.tree ∙ ap neg (sym (tree_later d1 d2 y k.condition (held_later d d1 x1 k.condition p.condition.held))) in
    else_follows d2 (tree_at d2.trees k.condition) (tree_at d2.trees k.then_part) (tree_at d2.trees k.else_part) (tree_at d2.trees k.whole) (tree_at d2.trees m.negated) (tree_at d2.trees n.goal) q.is f e

pub returns-clause-refutes : goal.returns-clause-refutes
returns-clause-refutes c =
    let d = c.args.draft.now in
    let d1 = c.denial_of.new.draft in
    let d2 = c.negation.new.draft in
    let n = c.in_ok-goal in
    let m = c.in_ok-negated in
    let x1 = AddsTrees_extends d d1 n.ensures.grows in
    let y = AddsTrees_extends d1 d2 m.ensures.grows in
    let k = c.args.k in
    let p = c.requires.parts in
    let e : tree_at d2.trees n.goal ≡ neg (alike (tree_at d.trees k.whole) (tree_at d.trees k.else_part)) = tree_later d1 d2 y n.goal n.ensures.formula.held ∙ n.ensures.tree in
    let f : tree_at d2.trees m.negated ≡ neg (tree_at d.trees k.condition) = m.ensures.tree ∙ ap neg (tree_later d d1 x1 k.condition p.condition.held) in
    IfOk-weaker c.derive.result _ _ (λ i r. subst (λ (z : Tree). Refutes c.derive.new.draft i (z ∷ neg (alike (tree_at d.trees k.whole) (tree_at d.trees k.else_part)) ∷ [])) f (subst (λ (z : Tree). Refutes c.derive.new.draft i (tree_at d2.trees m.negated ∷ z ∷ [])) e r)) c.derive.ensures.refutes
