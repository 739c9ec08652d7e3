use Rattle.std.proofs.Common.{ap, ◌∙◌}
use Rattle.evidence.specs.Laws.{AddsTrees_extends}
use Rattle.congruence.proofs.Later.{tree_later}
use Rattle.tr_let.specs.LetRule.{let_rule}
use Rattle.tr_let.proofs.LetPlaces.{let_term, value_closed_later, body_place, body_right, body_pair}
use Rattle.tr_let.proofs.linking.put_both.Goals as goal

pub put_value-requires-clause-term : goal.put_value-requires-clause-term
put_value-requires-clause-term c =
    let r = c.requires in
    let_term c.args.draft.now c.args.env.now c.args.e c.args.left c.args.fresh r.place c.args.open.value c.args.open.body c.args.closed.value c.args.closed.body r.value_held r.left_value_held r.left_body_held r.open r.closed

pub instance-requires-clause-closed : goal.instance-requires-clause-closed
instance-requires-clause-closed c =
    let r = c.requires in
    let d = c.args.draft.now in
    let d1 = c.put_value.new.g in
    value_closed_later d c.args.env.now c.args.e c.args.left c.args.fresh r.place c.args.open.value c.args.open.body c.args.closed.value c.args.closed.body r.value_held r.left_value_held r.left_body_held r.open r.closed
    d1 (AddsTrees_extends d d1 c.in_ok-image.ensures.grows)

pub returns-clause-place : goal.returns-clause-place
returns-clause-place c =
    let r = c.requires in
    let d = c.args.draft.now in
    let d1 = c.put_value.new.g in
    let d2 = c.instance.new.g in
    body_place d c.args.env.now c.args.e c.args.left c.args.fresh r.place c.args.open.value c.args.open.body c.args.closed.value c.args.closed.body r.value_held r.left_value_held r.left_body_held r.open r.closed
    d1 (AddsTrees_extends d d1 c.in_ok-image.ensures.grows) d2 (AddsTrees_extends d1 d2 c.in_ok-right.ensures.grows) c.in_ok-image.image c.in_ok-right.right
    c.in_ok-image.ensures.held (c.in_ok-image.ensures.tree ∙ ap let_rule r.open) c.in_ok-image.ensures.sorted c.in_ok-right.ensures.held c.in_ok-right.ensures.tree

pub returns-clause-image : goal.returns-clause-image
returns-clause-image c =
    let d = c.args.draft.now in
    let d1 = c.put_value.new.g in
    let d2 = c.instance.new.g in
    tree_later d1 d2 (AddsTrees_extends d1 d2 c.in_ok-right.ensures.grows) c.in_ok-image.image c.in_ok-image.ensures.held ∙ c.in_ok-image.ensures.tree ∙ ap let_rule c.requires.open

pub returns-clause-pair : goal.returns-clause-pair
returns-clause-pair c =
    let r = c.requires in
    let d = c.args.draft.now in
    let d1 = c.put_value.new.g in
    let d2 = c.instance.new.g in
    body_pair d c.args.env.now c.args.e c.args.left c.args.fresh r.place c.args.open.value c.args.open.body c.args.closed.value c.args.closed.body r.value_held r.left_value_held r.left_body_held r.open r.closed
    d1 (AddsTrees_extends d d1 c.in_ok-image.ensures.grows) d2 (AddsTrees_extends d1 d2 c.in_ok-right.ensures.grows) c.in_ok-image.image c.in_ok-right.right
    c.in_ok-image.ensures.held (c.in_ok-image.ensures.tree ∙ ap let_rule r.open) c.in_ok-image.ensures.sorted c.in_ok-right.ensures.held c.in_ok-right.ensures.tree

pub returns-clause-right : goal.returns-clause-right
returns-clause-right c =
    let r = c.requires in
    let d = c.args.draft.now in
    let d1 = c.put_value.new.g in
    let d2 = c.instance.new.g in
    body_right d c.args.env.now c.args.e c.args.left c.args.fresh r.place c.args.open.value c.args.open.body c.args.closed.value c.args.closed.body r.value_held r.left_value_held r.left_body_held r.open r.closed
    d1 (AddsTrees_extends d d1 c.in_ok-image.ensures.grows) d2 (AddsTrees_extends d1 d2 c.in_ok-right.ensures.grows) c.in_ok-image.image c.in_ok-right.right
    c.in_ok-image.ensures.held (c.in_ok-image.ensures.tree ∙ ap let_rule r.open) c.in_ok-image.ensures.sorted c.in_ok-right.ensures.held c.in_ok-right.ensures.tree
