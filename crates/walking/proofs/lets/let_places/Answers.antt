use Rattle.trees.specs.Node.{tree_at}
use Rattle.evidence.specs.Laws.{Extends_trans, AddsTrees_extends}
use Rattle.congruence.proofs.Later.{held_later}
use Rattle.walking.proofs.PlacesLater.{place_later, all_later}
use Rattle.walking.proofs.Places.{place_closed}
use Rattle.walking.proofs.LetPlaces.{let_fits, let_right, let_under, let_place, let_named, let_pair}
use Rattle.walking.proofs.lets.let_places.Goals as goal

pub add-requires-clause-fits : goal.add-requires-clause-fits
add-requires-clause-fits c = (let_fits c.args.draft.now c.args.env.now c.args.value c.args.inner c.args.fresh c.args.one c.args.part c.requires.one c.requires.term c.requires.part, tt)

pub instance_at-requires-clause-env_held : goal.instance_at-requires-clause-env_held
instance_at-requires-clause-env_held c = all_later c.args.draft.now c.add.new.self (AddsTrees_extends c.args.draft.now c.add.new.self c.in_ok-image.ensures.grows) c.args.env.now c.requires.one.place.env_held

pub instance_at-requires-clause-terms : goal.instance_at-requires-clause-terms
instance_at-requires-clause-terms c =
    let d = c.args.draft.now in
    let d1 = c.add.new.self in
    let p = place_later d d1 (AddsTrees_extends d d1 c.in_ok-image.ensures.grows) c.args.env.now c.args.one.image c.args.one.right c.args.fresh c.requires.one.place in
    (_, p.at.around.terms)

pub returns-clause-place : goal.returns-clause-place
returns-clause-place c =
    let d = c.args.draft.now in
    let d1 = c.add.new.self in
    let d2 = c.instance_at.new.draft in
    let r = c.requires in
    let_place d c.args.env.now c.args.value c.args.inner c.args.fresh c.args.one c.args.part r.one r.term r.part d1 d2 (AddsTrees_extends d d1 c.in_ok-image.ensures.grows) (AddsTrees_extends d1 d2 c.in_ok-right.ensures.grows) c.in_ok-image.image c.in_ok-right.right c.in_ok-image.ensures.held
    c.in_ok-image.ensures.tree c.in_ok-right.ensures.held c.in_ok-right.ensures.tree

pub returns-clause-right : goal.returns-clause-right
returns-clause-right c =
    let d = c.args.draft.now in
    let d1 = c.add.new.self in
    let d2 = c.instance_at.new.draft in
    let r = c.requires in
    let q = let_right d c.args.env.now c.args.value c.args.inner c.args.fresh c.args.one c.args.part r.one r.term r.part d1 d2 (AddsTrees_extends d d1 c.in_ok-image.ensures.grows) (AddsTrees_extends d1 d2 c.in_ok-right.ensures.grows) c.in_ok-image.image c.in_ok-right.right
    c.in_ok-image.ensures.held c.in_ok-image.ensures.tree c.in_ok-right.ensures.held c.in_ok-right.ensures.tree in
    let_named _ _ _ _ _ c.let_parts-parts.ensures.tree q

pub returns-clause-at : goal.returns-clause-at
returns-clause-at c =
    let d = c.args.draft.now in
    let d1 = c.add.new.self in
    let d2 = c.instance_at.new.draft in
    let r = c.requires in
    let_under d c.args.env.now c.args.value c.args.inner c.args.fresh c.args.one c.args.part r.one r.term r.part d1 d2 (AddsTrees_extends d d1 c.in_ok-image.ensures.grows) (AddsTrees_extends d1 d2 c.in_ok-right.ensures.grows) c.in_ok-image.image c.in_ok-right.right c.in_ok-image.ensures.held
    c.in_ok-image.ensures.tree c.in_ok-right.ensures.held c.in_ok-right.ensures.tree (tree_at d2.trees c.let_parts-parts.result.body) (returns-clause-right c)

pub returns-clause-pair : goal.returns-clause-pair
returns-clause-pair c =
    let d = c.args.draft.now in
    let d1 = c.add.new.self in
    let d2 = c.instance_at.new.draft in
    let x = Extends_trans d d1 d2 (AddsTrees_extends d d1 c.in_ok-image.ensures.grows) (AddsTrees_extends d1 d2 c.in_ok-right.ensures.grows) in
    let one = c.args.one in
    let part = c.args.part in
    let n = c.args.fresh in
    let p = place_closed d2 c.args.env.now one.image one.right n (place_later d d2 x c.args.env.now one.image one.right n c.requires.one.place) in
    let_pair d2 c.in_ok-right.right one.right c.let_parts-parts.result.body (place_closed d2 c.args.env.now c.in_ok-image.image c.in_ok-right.right n (returns-clause-place c)) (returns-clause-right c) part.right p (held_later d d2 x part.right c.requires.part.place.left_held) (returns-clause-at c)
