use Rattle.std.proofs.Common.{sym, ap, ◌∙◌}
use Rattle.trees.specs.Tree.{HLet}
use Rattle.evidence.specs.Laws.{Extends_trans, AddsTrees_extends}
use Rattle.congruence.proofs.Later.{held_later, node_later}
use Rattle.walking.proofs.Binders.{made_link}
use Rattle.tr_let.specs.LetRule.{let_rule}
use Rattle.tr_let.proofs.linking.link_let.Goals as goal

pub alike_let-requires-clause-value_held : goal.alike_let-requires-clause-value_held
alike_let-requires-clause-value_held c =
    let d = c.args.draft.now in
    let d1 = c.put_both.new.draft in
    held_later d d1 (AddsTrees_extends d d1 c.in_ok-m.ensures.grows) c.let_parts-closed.result.value c.let_parts-closed.ensures.value_held

pub alike_let-requires-clause-body_held : goal.alike_let-requires-clause-body_held
alike_let-requires-clause-body_held c =
    let d = c.args.draft.now in
    let d1 = c.put_both.new.draft in
    held_later d d1 (AddsTrees_extends d d1 c.in_ok-m.ensures.grows) c.let_parts-closed.result.body c.let_parts-closed.ensures.body_held

pub alike_let-requires-clause-whole_is : goal.alike_let-requires-clause-whole_is
alike_let-requires-clause-whole_is c =
    let d = c.args.draft.now in
    let d1 = c.put_both.new.draft in
    let closed = c.let_parts-closed.result in
    let is = c.let_parts-closed.ensures in
    node_later d d1 (AddsTrees_extends d d1 c.in_ok-m.ensures.grows) HLet c.args.left closed.value closed.body c.requires.place.left_held is.value_held is.body_held is.tree

pub returns-in_err-m-clause-grows : goal.returns-in_err-m-clause-grows
returns-in_err-m-clause-grows c = AddsTrees_extends _ _ c.in_err-m.ensures.grows

pub returns-in_err-alike-clause-grows : goal.returns-in_err-alike-clause-grows
returns-in_err-alike-clause-grows c =
    let d = c.args.draft.now in
    let d1 = c.put_both.new.draft in
    Extends_trans d d1 c.alike_let.new.draft (AddsTrees_extends d d1 c.in_ok-m.ensures.grows) c.in_err-alike.ensures.grows

pub returns-clause-grows : goal.returns-clause-grows
returns-clause-grows c =
    let d = c.args.draft.now in
    let d1 = c.put_both.new.draft in
    Extends_trans d d1 c.alike_let.new.draft (AddsTrees_extends d d1 c.in_ok-m.ensures.grows) c.in_ok-alike.ensures.grows

pub returns-clause-link : goal.returns-clause-link
returns-clause-link c =
    let d1 = c.put_both.new.draft in
    let d2 = c.alike_let.new.draft in
    let m = c.in_ok-m.m in
    made_link d1 d2 c.in_ok-alike.ensures.grows c.args.env.now c.args.left c.args.fresh _ (record { image = m.image; right = m.right; alike = c.in_ok-alike.alike }) c.in_ok-m.ensures.place (c.in_ok-m.ensures.image ∙ sym (ap let_rule c.requires.open)) c.in_ok-m.ensures.pair c.in_ok-alike.ensures.shows
