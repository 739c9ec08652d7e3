use Rattle.std.proofs.Common.{subst}
use Rattle.trees.specs.Tree.{Tree}
use Rattle.trees.specs.Node.{tree_at}
use Rattle.evidence.specs.Laws.{Extends_trans}
use Rattle.congruence.specs.Alike.{Shows}
use Rattle.congruence.proofs.Later.{tree_later, pair_later}
use Rattle.congruence.proofs.CaseParts.{denied_step}
use Rattle.tr_simplify.proofs.evidence_of_laws.alike_by_lines.Goals as goal

pub alike_by_step-requires : goal.alike_by_step-requires
alike_by_step-requires c =
    let d = c.args.draft.now in
    let d1 = c.refute_denial.new.draft in
    let n = c.in_ok-step in
    let p = c.requires.pair in
    record { pair = pair_later d d1 n.ensures.grows c.args.left c.args.right p; step = denied_step d d1 n.ensures.grows d1 n.step c.args.left c.args.right p.left.held p.right.held n.ensures.refutes }

pub returns-clause-shows : goal.returns-clause-shows
returns-clause-shows c =
    let d = c.args.draft.now in
    let d1 = c.refute_denial.new.draft in
    let n = c.in_ok-step in
    let p = c.requires.pair in
    subst (λ (z : Tree). Shows c.alike_by_step.new.draft c.in_ok-made.made z (tree_at d.trees c.args.right)) (tree_later d d1 n.ensures.grows c.args.left p.left.held)
    (subst (λ (z : Tree). Shows c.alike_by_step.new.draft c.in_ok-made.made (tree_at d1.trees c.args.left) z) (tree_later d d1 n.ensures.grows c.args.right p.right.held) c.in_ok-made.ensures.shows)

pub returns-in_err-made-clause-grows : goal.returns-in_err-made-clause-grows
returns-in_err-made-clause-grows c = Extends_trans _ _ _ c.in_ok-step.ensures.grows c.in_err-made.ensures.grows

pub returns-clause-grows : goal.returns-clause-grows
returns-clause-grows c = Extends_trans _ _ _ c.in_ok-step.ensures.grows c.in_ok-made.ensures.grows
