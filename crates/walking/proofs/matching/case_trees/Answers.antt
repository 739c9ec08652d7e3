use Rattle.std.proofs.Common.{◌≡◌, sym, subst, ◌∙◌}
use Rattle.trees.specs.Tree.{Two, HCase}
use Rattle.trees.specs.Node.{tree_at}
use Rattle.trees.specs.Sorts.{Fits}
use Rattle.evidence.specs.Laws.{Extends_trans, AddsTrees_extends, AddsTrees_trans}
use Rattle.congruence.proofs.Later.{held_later, tree_later, node_later}
use Rattle.walking.proofs.PlacesLater.{place_later, link_later}
use Rattle.walking.proofs.LetPlaces.{link_again}
use Rattle.walking.proofs.CasePlaces.{mixed_fits, middle_fits, mixed_place, mixed_pair}
use Rattle.tasks.proofs.outside.Passed.{no_value}
use Rattle.walking.proofs.matching.case_trees.Goals as goal

pub add-requires-clause-fits : goal.add-requires-clause-fits
add-requires-clause-fits c =
    let r = c.requires in
    let o = c.args.open in
    let s = c.args.parts in
    mixed_fits c.args.draft.now c.args.env.now c.args.e c.args.left c.args.fresh r.place o.scrutinee o.arms s.scrutinee s.arms r.node r.left_is c.args.one r.one r.open_held r.scrutinee_held

pub add-requires-2-clause-fits : goal.add-requires-2-clause-fits
add-requires-2-clause-fits c =
    let d = c.args.draft.now in
    let d1 = c.add.new.self in
    let x = AddsTrees_extends d d1 c.in_ok-mixed.ensures.grows in
    let r = c.requires in
    let o = c.args.open in
    let s = c.args.parts in
    let q : Two HCase (tree_at d1.trees c.args.one.right) (tree_at d1.trees s.arms) ≡ Two HCase (tree_at d.trees c.args.one.right) (tree_at d.trees s.arms) = cc (tree_later d d1 x c.args.one.right r.one.place.left_held, tree_later d d1 x s.arms r.arms_held) in
    subst Fits (sym q) (middle_fits d c.args.env.now c.args.e c.args.left c.args.fresh r.place o.scrutinee o.arms s.scrutinee s.arms r.node r.left_is c.args.one r.one r.open_held r.scrutinee_held)

pub returns-clause-node : goal.returns-clause-node
returns-clause-node c =
    let d = c.args.draft.now in
    let d1 = c.add.new.self in
    let d2 = c.add-2.new.self in
    let x = AddsTrees_extends d d1 c.in_ok-mixed.ensures.grows in
    let y = AddsTrees_extends d1 d2 c.in_ok-middle.ensures.grows in
    let xy = Extends_trans d d1 d2 x y in
    tree_later d1 d2 y c.in_ok-mixed.mixed c.in_ok-mixed.ensures.held ∙ c.in_ok-mixed.ensures.tree ∙ sym (cc (tree_later d d2 xy c.args.one.image c.requires.one.place.open_held, tree_later d d2 xy c.args.open.arms c.requires.open_arms_held))

pub returns-clause-left_is : goal.returns-clause-left_is
returns-clause-left_is c =
    let d = c.args.draft.now in
    let d1 = c.add.new.self in
    let d2 = c.add-2.new.self in
    let x = AddsTrees_extends d d1 c.in_ok-mixed.ensures.grows in
    let y = AddsTrees_extends d1 d2 c.in_ok-middle.ensures.grows in
    c.in_ok-middle.ensures.tree
    ∙ sym (cc (tree_later d1 d2 y c.args.one.right (held_later d d1 x c.args.one.right c.requires.one.place.left_held), tree_later d1 d2 y c.args.parts.arms (held_later d d1 x c.args.parts.arms c.requires.arms_held)))

pub returns-clause-place : goal.returns-clause-place
returns-clause-place c =
    let d = c.args.draft.now in
    let d1 = c.add.new.self in
    let d2 = c.add-2.new.self in
    let x = AddsTrees_extends d d1 c.in_ok-mixed.ensures.grows in
    let y = AddsTrees_extends d1 d2 c.in_ok-middle.ensures.grows in
    let xy = Extends_trans d d1 d2 x y in
    let r = c.requires in
    let o = c.args.open in
    let s = c.args.parts in
    let env = c.args.env.now in
    let n = c.args.fresh in
    let p = place_later d d2 xy env c.args.e c.args.left n r.place in
    let k = link_again d2 env s.scrutinee n _ c.args.one (link_later d d2 xy env s.scrutinee n _ c.args.one r.scrutinee_held r.one) in
    mixed_place d2 env c.args.e c.args.left n p o.scrutinee o.arms s.scrutinee s.arms (node_later d d2 xy HCase c.args.e o.scrutinee o.arms r.place.open_held r.open_held r.open_arms_held r.node) (node_later d d2 xy HCase c.args.left s.scrutinee s.arms r.place.left_held r.scrutinee_held r.arms_held r.left_is) c.args.one k
    (held_later d d2 xy o.scrutinee r.open_held) (held_later d d2 xy s.scrutinee r.scrutinee_held) c.in_ok-mixed.mixed c.in_ok-middle.middle (held_later d1 d2 y c.in_ok-mixed.mixed c.in_ok-mixed.ensures.held) c.in_ok-middle.ensures.held (returns-clause-node c) (returns-clause-left_is c)

pub returns-clause-pair : goal.returns-clause-pair
returns-clause-pair c =
    let d = c.args.draft.now in
    let d1 = c.add.new.self in
    let d2 = c.add-2.new.self in
    let x = AddsTrees_extends d d1 c.in_ok-mixed.ensures.grows in
    let y = AddsTrees_extends d1 d2 c.in_ok-middle.ensures.grows in
    let xy = Extends_trans d d1 d2 x y in
    let r = c.requires in
    let o = c.args.open in
    let s = c.args.parts in
    let env = c.args.env.now in
    let n = c.args.fresh in
    let p = place_later d d2 xy env c.args.e c.args.left n r.place in
    let k = link_again d2 env s.scrutinee n _ c.args.one (link_later d d2 xy env s.scrutinee n _ c.args.one r.scrutinee_held r.one) in
    mixed_pair d2 env c.args.e c.args.left n p o.scrutinee o.arms s.scrutinee s.arms (node_later d d2 xy HCase c.args.e o.scrutinee o.arms r.place.open_held r.open_held r.open_arms_held r.node) (node_later d d2 xy HCase c.args.left s.scrutinee s.arms r.place.left_held r.scrutinee_held r.arms_held r.left_is) c.args.one k
    (held_later d d2 xy o.scrutinee r.open_held) (held_later d d2 xy s.scrutinee r.scrutinee_held) c.in_ok-mixed.mixed c.in_ok-middle.middle (returns-clause-place c) (returns-clause-left_is c)

pub add-requires-clause-held : goal.add-requires-clause-held
add-requires-clause-held c = (c.requires.one.place.open_held, c.requires.open_arms_held)

pub add-requires-2-clause-held : goal.add-requires-2-clause-held
add-requires-2-clause-held c =
    let d = c.args.draft.now in
    let d1 = c.add.new.self in
    let x = AddsTrees_extends d d1 c.in_ok-mixed.ensures.grows in
    (held_later d d1 x c.args.one.right c.requires.one.place.left_held, held_later d d1 x c.args.parts.arms c.requires.arms_held)

pub returns-in_err-mixed-clause-place : goal.returns-in_err-mixed-clause-place
returns-in_err-mixed-clause-place c = no_value _ _ c.from_residual.result c.from_residual.ensures.1

pub returns-in_err-middle-clause-place : goal.returns-in_err-middle-clause-place
returns-in_err-middle-clause-place c = no_value _ _ c.from_residual-in_err-middle.result c.from_residual-in_err-middle.ensures.1

pub returns-in_err-mixed-clause-node : goal.returns-in_err-mixed-clause-node
returns-in_err-mixed-clause-node c = no_value _ _ c.from_residual.result c.from_residual.ensures.1

pub returns-in_err-middle-clause-node : goal.returns-in_err-middle-clause-node
returns-in_err-middle-clause-node c = no_value _ _ c.from_residual-in_err-middle.result c.from_residual-in_err-middle.ensures.1

pub returns-in_err-mixed-clause-left_is : goal.returns-in_err-mixed-clause-left_is
returns-in_err-mixed-clause-left_is c = no_value _ _ c.from_residual.result c.from_residual.ensures.1

pub returns-in_err-middle-clause-left_is : goal.returns-in_err-middle-clause-left_is
returns-in_err-middle-clause-left_is c = no_value _ _ c.from_residual-in_err-middle.result c.from_residual-in_err-middle.ensures.1

pub returns-in_err-mixed-clause-pair : goal.returns-in_err-mixed-clause-pair
returns-in_err-mixed-clause-pair c = no_value _ _ c.from_residual.result c.from_residual.ensures.1

pub returns-in_err-middle-clause-pair : goal.returns-in_err-middle-clause-pair
returns-in_err-middle-clause-pair c = no_value _ _ c.from_residual-in_err-middle.result c.from_residual-in_err-middle.ensures.1

pub returns-in_err-mixed-clause-grows : goal.returns-in_err-mixed-clause-grows
returns-in_err-mixed-clause-grows c = c.in_err-mixed.ensures.grows

pub returns-in_err-middle-clause-grows : goal.returns-in_err-middle-clause-grows
returns-in_err-middle-clause-grows c = AddsTrees_trans _ _ _ c.in_ok-mixed.ensures.grows c.in_err-middle.ensures.grows

pub returns-clause-grows : goal.returns-clause-grows
returns-clause-grows c = AddsTrees_trans _ _ _ c.in_ok-mixed.ensures.grows c.in_ok-middle.ensures.grows
