use Rattle.std.proofs.Common.{ap, ◌∙◌}
use Rattle.tasks.specs.trees.Node.{tree_at}
use Rattle.tasks.specs.Task.{neg}
use Rattle.evidence.specs.Laws.{AddsTrees_extends}
use Rattle.congruence.proofs.CaseParts.{denied}
use Rattle.tr_if.proofs.Implications.{whole_formula, then_formula, implied_later}
use Rattle.tr_if.proofs.Scripts.{claim_iff, then_follows}
use Rattle.tr_if.proofs.implying.implied_then.Goals as goal

pub denial_of-requires-clause-left : goal.denial_of-requires-clause-left
denial_of-requires-clause-left c = whole_formula c.args.draft.now c.args.k c.requires

pub denial_of-requires-clause-right : goal.denial_of-requires-clause-right
denial_of-requires-clause-right c = then_formula c.args.draft.now c.args.k c.requires

pub derive-requires-clause-follow : goal.derive-requires-clause-follow
derive-requires-clause-follow c =
    let d = c.args.draft.now in
    let d1 = c.denial_of.new.draft in
    let n = c.in_ok-goal in
    let x = AddsTrees_extends d d1 n.ensures.grows in
    let k = c.args.k in
    let q = implied_later d k c.requires d1 x in
    let p = c.requires.parts in
    let m = denied d d1 x n.goal k.whole k.then_part p.whole.held p.then_part.right.held n.ensures.tree ∙ ap neg (claim_iff (tree_at d1.trees k.whole) (tree_at d1.trees k.then_part) (whole_formula d1 k q).ground.sort) in
    then_follows d1 (tree_at d1.trees k.condition) (tree_at d1.trees k.then_part) (tree_at d1.trees k.else_part) (tree_at d1.trees k.whole) (tree_at d1.trees n.goal) q.is m
