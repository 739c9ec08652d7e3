use Rattle.std.proofs.Common.{◌≡◌, ap, ◌∙◌}
use Rattle.trees.specs.declared.Sort.TheVariants.{Term}
use Rattle.trees.specs.Node.{tree_at}
use Rattle.trees.specs.Sorts.{sort_of}
use Rattle.evidence.specs.Laws.{Extends_trans, AddsTrees_extends}
use Rattle.congruence.proofs.Later.{held_later, tree_later}
use Rattle.walking.proofs.PlacesLater.{place_later}
use Rattle.walking.proofs.EqualPlaces.{link_term}
use Rattle.congruence.proofs.Lists.{cell_of_terms}
use Rattle.walking.proofs.ArgumentPlaces.{places_later, lists_made, list_right_terms}
use Rattle.walking.proofs.arguments.argument_lists.Goals as goal

pub add-requires-clause-fits : goal.add-requires-clause-fits
add-requires-clause-fits c =
    let d = c.args.draft.now in
    let one = c.args.one in
    (cell_of_terms (tree_at d.trees one.image) (tree_at d.trees c.args.after.image) (link_term d c.args.env.now c.args.first c.args.fresh (tree_at d.trees one.image) one c.requires.one c.requires.term) c.requires.after.terms).0

pub add-requires-2-clause-fits : goal.add-requires-2-clause-fits
add-requires-2-clause-fits c =
    let d = c.args.draft.now in
    let d1 = c.add.new.self in
    let x = AddsTrees_extends d d1 c.in_ok-image.ensures.grows in
    let one = c.args.one in
    let b = places_later d d1 x c.args.env.now c.args.after.image c.args.after.list c.args.fresh c.requires.after in
    (cell_of_terms (tree_at d1.trees one.right) (tree_at d1.trees c.args.after.list) (ap sort_of (tree_later d d1 x one.right c.requires.one.place.left_held) ∙ c.requires.one.sort ∙ c.requires.term) (list_right_terms d1 c.args.env.now c.args.after.image c.args.after.list c.args.fresh b)).0

pub returns-clause-places : goal.returns-clause-places
returns-clause-places c =
    let d = c.args.draft.now in
    let d1 = c.add.new.self in
    let d2 = c.add-2.new.self in
    let x = AddsTrees_extends d d1 c.in_ok-image.ensures.grows in
    let y = AddsTrees_extends d1 d2 c.in_ok-list.ensures.grows in
    let xy = Extends_trans d d1 d2 x y in
    let env = c.args.env.now in
    let n = c.args.fresh in
    let one = c.args.one in
    let after = c.args.after in
    let k = c.requires.one in
    let w = c.requires.after in
    let image = c.in_ok-image.image in
    let s : sort_of (tree_at d2.trees one.image) ≡ Term = ap sort_of (tree_later d d2 xy one.image k.place.open_held) ∙ link_term d env c.args.first n (tree_at d.trees one.image) one k c.requires.term in
    lists_made d2 env one.image one.right after.image after.list image c.in_ok-list.list n (place_later d d2 xy env one.image one.right n k.place) (places_later d d2 xy env after.image after.list n w) s
    (held_later d1 d2 y image c.in_ok-image.ensures.held) c.in_ok-list.ensures.held
    (tree_later d1 d2 y image c.in_ok-image.ensures.held ∙ c.in_ok-image.ensures.tree ∙ cc (tree_later d d2 xy one.image k.place.open_held, tree_later d d2 xy after.image w.open_held))
    (c.in_ok-list.ensures.tree ∙ cc (tree_later d1 d2 y one.right (held_later d d1 x one.right k.place.left_held), tree_later d1 d2 y after.list (held_later d d1 x after.list w.left_held)))
