use Rattle.std.proofs.Common.{ap, ◌∙◌}
use Rattle.trees.specs.Sorts.{sort_of}
use Rattle.evidence.specs.Laws.{AddsTrees_extends}
use Rattle.congruence.proofs.Later.{tree_later, closed_later}
use Rattle.congruence.proofs.HoleTemplates.{closed_loose}
use Rattle.walking.proofs.LetPlaces.{other_fits, trees_sides, trees_middle, trees_inner, trees_pair}
use Rattle.walking.proofs.lets.let_trees.Goals as goal

pub add-requires-clause-fits : goal.add-requires-clause-fits
add-requires-clause-fits c = (other_fits c.args.draft.now c.args.left c.args.value c.args.body c.args.other c.requires.left c.requires.left_is c.requires.pair c.requires.term, tt)

pub instance-requires-clause-closed : goal.instance-requires-clause-closed
instance-requires-clause-closed c =
    let d = c.args.draft.now in
    let d1 = c.add.new.self in
    let x = AddsTrees_extends d d1 c.in_ok-middle.ensures.grows in
    let p = c.requires.pair in
    record { sort = ap sort_of (tree_later d d1 x c.args.other p.right.held) ∙ p.sort ∙ c.requires.term; closed = closed_loose d1 c.args.other (closed_later d d1 x c.args.other p.right) }

pub returns-clause-sides : goal.returns-clause-sides
returns-clause-sides c =
    let d = c.args.draft.now in
    let d1 = c.add.new.self in
    let d2 = c.instance.new.g in
    let r = c.requires in
    trees_sides d d1 d2 (AddsTrees_extends d d1 c.in_ok-middle.ensures.grows) (AddsTrees_extends d1 d2 c.in_ok-inner.ensures.grows) c.args.left c.args.value c.args.body c.args.other r.left r.left_is r.body_held r.pair r.term c.in_ok-middle.middle c.in_ok-inner.inner
    c.in_ok-middle.ensures.held c.in_ok-middle.ensures.tree c.in_ok-inner.ensures.held c.in_ok-inner.ensures.tree

pub returns-clause-middle_is : goal.returns-clause-middle_is
returns-clause-middle_is c =
    let d = c.args.draft.now in
    let d1 = c.add.new.self in
    let d2 = c.instance.new.g in
    let r = c.requires in
    trees_middle d d1 d2 (AddsTrees_extends d d1 c.in_ok-middle.ensures.grows) (AddsTrees_extends d1 d2 c.in_ok-inner.ensures.grows) c.args.left c.args.value c.args.body c.args.other r.left r.left_is r.body_held r.pair r.term c.in_ok-middle.middle c.in_ok-inner.inner
    c.in_ok-middle.ensures.held c.in_ok-middle.ensures.tree c.in_ok-inner.ensures.held c.in_ok-inner.ensures.tree

pub returns-clause-pair : goal.returns-clause-pair
returns-clause-pair c =
    let d = c.args.draft.now in
    let d1 = c.add.new.self in
    let d2 = c.instance.new.g in
    let r = c.requires in
    trees_pair d d1 d2 (AddsTrees_extends d d1 c.in_ok-middle.ensures.grows) (AddsTrees_extends d1 d2 c.in_ok-inner.ensures.grows) c.args.left c.args.value c.args.body c.args.other r.left r.left_is r.body_held r.pair r.term c.in_ok-middle.middle c.in_ok-inner.inner
    c.in_ok-middle.ensures.held c.in_ok-middle.ensures.tree c.in_ok-inner.ensures.held c.in_ok-inner.ensures.tree

pub returns-clause-inner_is : goal.returns-clause-inner_is
returns-clause-inner_is c =
    let d = c.args.draft.now in
    let d1 = c.add.new.self in
    let d2 = c.instance.new.g in
    let r = c.requires in
    trees_inner d d1 d2 (AddsTrees_extends d d1 c.in_ok-middle.ensures.grows) (AddsTrees_extends d1 d2 c.in_ok-inner.ensures.grows) c.args.left c.args.value c.args.body c.args.other r.left r.left_is r.body_held r.pair r.term c.in_ok-middle.middle c.in_ok-inner.inner
    c.in_ok-middle.ensures.held c.in_ok-middle.ensures.tree c.in_ok-inner.ensures.held c.in_ok-inner.ensures.tree
