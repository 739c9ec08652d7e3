use Rattle.std.proofs.Common.{◌≡◌, sym, subst, ◌∙◌}
use Rattle.trees.specs.Tree.{Three, HIf}
use Rattle.trees.specs.Node.{tree_at}
use Rattle.trees.specs.Sorts.{Fits}
use Rattle.evidence.specs.Laws.{Extends_trans, AddsTrees_extends, AddsTrees_trans}
use Rattle.congruence.proofs.Later.{held_later, tree_later, closed_later}
use Rattle.walking.proofs.PlacesLater.{link_later}
use Rattle.walking.proofs.LetPlaces.{link_again}
use Rattle.walking.proofs.IfPlaces.{image_fits, right_fits, if_made, if_later}
use Rattle.tasks.proofs.outside.Passed.{no_value}
use Rattle.walking.proofs.ifs.if_places.Goals as goal

pub add-requires-clause-fits : goal.add-requires-clause-fits
add-requires-clause-fits c =
    let l = c.args.left in
    let r = c.requires in
    image_fits c.args.draft.now c.args.env.now l.whole l.condition l.then_part l.else_part c.args.fresh r.left r.left_is c.args.one c.args.two c.args.three r.one r.two r.three

pub add-requires-2-clause-fits : goal.add-requires-2-clause-fits
add-requires-2-clause-fits c =
    let d = c.args.draft.now in
    let d1 = c.add.new.self in
    let x = AddsTrees_extends d d1 c.in_ok-image.ensures.grows in
    let l = c.args.left in
    let r = c.requires in
    let q : Three HIf (tree_at d1.trees c.args.one.right) (tree_at d1.trees c.args.two.right) (tree_at d1.trees c.args.three.right) ≡ Three HIf (tree_at d.trees c.args.one.right) (tree_at d.trees c.args.two.right) (tree_at d.trees c.args.three.right) =
    cc (tree_later d d1 x c.args.one.right r.one.place.left_held, tree_later d d1 x c.args.two.right r.two.place.left_held, tree_later d d1 x c.args.three.right r.three.place.left_held) in
    subst Fits (sym q) (right_fits d c.args.env.now l.whole l.condition l.then_part l.else_part c.args.fresh r.left r.left_is c.args.one c.args.two c.args.three r.one r.two r.three)

pub returns-clause-right : goal.returns-clause-right
returns-clause-right c =
    let d = c.args.draft.now in
    let d1 = c.add.new.self in
    let d2 = c.add-2.new.self in
    let x = AddsTrees_extends d d1 c.in_ok-image.ensures.grows in
    let y = AddsTrees_extends d1 d2 c.in_ok-right.ensures.grows in
    let r = c.requires in
    let one = c.args.one.right in
    let two = c.args.two.right in
    let three = c.args.three.right in
    c.in_ok-right.ensures.tree
    ∙ sym (cc (tree_later d1 d2 y one (held_later d d1 x one r.one.place.left_held), tree_later d1 d2 y two (held_later d d1 x two r.two.place.left_held), tree_later d1 d2 y three (held_later d d1 x three r.three.place.left_held)))

pub returns-clause-place : goal.returns-clause-place
returns-clause-place c =
    let d = c.args.draft.now in
    let d1 = c.add.new.self in
    let d2 = c.add-2.new.self in
    let x = AddsTrees_extends d d1 c.in_ok-image.ensures.grows in
    let y = AddsTrees_extends d1 d2 c.in_ok-right.ensures.grows in
    let xy = Extends_trans d d1 d2 x y in
    let env = c.args.env.now in
    let n = c.args.fresh in
    let l = c.args.left in
    let r = c.requires in
    let one = c.args.one in
    let two = c.args.two in
    let three = c.args.three in
    let image = c.in_ok-image.image in
    let qe : tree_at d2.trees image ≡ Three HIf (tree_at d2.trees one.image) (tree_at d2.trees two.image) (tree_at d2.trees three.image) =
    tree_later d1 d2 y image c.in_ok-image.ensures.held ∙ c.in_ok-image.ensures.tree ∙ sym (cc (tree_later d d2 xy one.image r.one.place.open_held, tree_later d d2 xy two.image r.two.place.open_held, tree_later d d2 xy three.image r.three.place.open_held)) in
    if_made d2 env l.whole l.condition l.then_part l.else_part n (closed_later d d2 xy l.whole r.left) (if_later d d2 xy l.whole l.condition l.then_part l.else_part r.left.held r.condition_held r.then_held r.else_held r.left_is) one two three
    (link_again d2 env l.condition n _ one (link_later d d2 xy env l.condition n _ one r.condition_held r.one)) (link_again d2 env l.then_part n _ two (link_later d d2 xy env l.then_part n _ two r.then_held r.two))
    (link_again d2 env l.else_part n _ three (link_later d d2 xy env l.else_part n _ three r.else_held r.three)) image c.in_ok-right.right (held_later d1 d2 y image c.in_ok-image.ensures.held) c.in_ok-right.ensures.held qe (returns-clause-right c)

pub add-requires-clause-held : goal.add-requires-clause-held
add-requires-clause-held c = (c.requires.one.place.open_held, c.requires.two.place.open_held, c.requires.three.place.open_held)

pub add-requires-2-clause-held : goal.add-requires-2-clause-held
add-requires-2-clause-held c =
    let d = c.args.draft.now in
    let d1 = c.add.new.self in
    let x = AddsTrees_extends d d1 c.in_ok-image.ensures.grows in
    (held_later d d1 x c.args.one.right c.requires.one.place.left_held, held_later d d1 x c.args.two.right c.requires.two.place.left_held, held_later d d1 x c.args.three.right c.requires.three.place.left_held)

pub returns-clause-image : goal.returns-clause-image
returns-clause-image c =
    tree_later c.add.new.self c.add-2.new.self (AddsTrees_extends c.add.new.self c.add-2.new.self c.in_ok-right.ensures.grows) c.in_ok-image.image c.in_ok-image.ensures.held ∙ c.in_ok-image.ensures.tree

pub returns-in_err-image-clause-place : goal.returns-in_err-image-clause-place
returns-in_err-image-clause-place c = no_value _ _ c.from_residual.result c.from_residual.ensures.1

pub returns-in_err-right-clause-place : goal.returns-in_err-right-clause-place
returns-in_err-right-clause-place c = no_value _ _ c.from_residual-in_err-right.result c.from_residual-in_err-right.ensures.1

pub returns-in_err-image-clause-image : goal.returns-in_err-image-clause-image
returns-in_err-image-clause-image c = no_value _ _ c.from_residual.result c.from_residual.ensures.1

pub returns-in_err-right-clause-image : goal.returns-in_err-right-clause-image
returns-in_err-right-clause-image c = no_value _ _ c.from_residual-in_err-right.result c.from_residual-in_err-right.ensures.1

pub returns-in_err-image-clause-right : goal.returns-in_err-image-clause-right
returns-in_err-image-clause-right c = no_value _ _ c.from_residual.result c.from_residual.ensures.1

pub returns-in_err-right-clause-right : goal.returns-in_err-right-clause-right
returns-in_err-right-clause-right c = no_value _ _ c.from_residual-in_err-right.result c.from_residual-in_err-right.ensures.1

pub returns-in_err-image-clause-grows : goal.returns-in_err-image-clause-grows
returns-in_err-image-clause-grows c = c.in_err-image.ensures.grows

pub returns-in_err-right-clause-grows : goal.returns-in_err-right-clause-grows
returns-in_err-right-clause-grows c = AddsTrees_trans _ _ _ c.in_ok-image.ensures.grows c.in_err-right.ensures.grows

pub returns-clause-grows : goal.returns-clause-grows
returns-clause-grows c = AddsTrees_trans _ _ _ c.in_ok-image.ensures.grows c.in_ok-right.ensures.grows
