use Rattle.tr_simplify.proofs.Bodies.{forall_body, exists_body}
use Rattle.tr_simplify.proofs.evidence_of_laws.alike_body.Goals as goal

pub alike_by_lines-requires-clause-follow : goal.alike_by_lines-requires-clause-follow
alike_by_lines-requires-clause-follow c = λ d x.
    let r = c.requires in
    forall_body c.args.draft.now c.parameter.new.g d c.in_ok-term.ensures.grows x c.args.universal c.args.left c.args.right c.args.ty c.args.body c.in_ok-term.term c.args.number r.pair r.above r.node r.free r.is c.in_ok-term.ensures.held c.in_ok-term.ensures.tree c.if-universal.true

pub alike_by_lines-requires-else-universal-clause-follow : goal.alike_by_lines-requires-else-universal-clause-follow
alike_by_lines-requires-else-universal-clause-follow c = λ d x.
    let r = c.requires in
    exists_body c.args.draft.now c.parameter.new.g d c.in_ok-term.ensures.grows x c.args.universal c.args.left c.args.right c.args.ty c.args.body c.in_ok-term.term c.args.number r.pair r.above r.node r.free r.is c.in_ok-term.ensures.held c.in_ok-term.ensures.tree c.if-universal.false
