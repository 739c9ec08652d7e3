use Rattle.std.proofs.Common.{◌≡◌, sym, ap, subst, ◌∙◌}
use Rattle.trees.specs.Tree.{Two, HCase, head_of}
use Rattle.trees.specs.Node.{tree_at}
use Rattle.trees.specs.Sorts.{Fits}
use Rattle.tasks.specs.Valid.{IsValid}
use Rattle.evidence.specs.Laws.{Extends_trans, AddsTrees_extends}
use Rattle.congruence.proofs.Later.{held_later, tree_later}
use Rattle.walking.proofs.PlacesLater.{place_later}
use Rattle.walking.proofs.OpenedBranches.{branch_later}
use Rattle.walking.proofs.RestPlaces.{rest_head, rest_open_fits, rest_left_fits, rest_place, rest_pair}
use Rattle.walking.proofs.matching.rest_trees.Goals as goal

pub add-requires-clause-fits : goal.add-requires-clause-fits
add-requires-clause-fits c =
    let o = c.args.open in
    let w = c.args.opened.now in
    let r = c.requires in
    rest_open_fits c.args.draft.now c.args.env.now c.args.e c.args.left c.args.fresh r.place c.task-task.ensures.valid c.args.scrutinee o.pattern o.body o.others w.by w.under w.others r.node r.opened.left_is r.more

pub add-requires-2-clause-fits : goal.add-requires-2-clause-fits
add-requires-2-clause-fits c =
    let d = c.args.draft.now in
    let d1 = c.add.new.self in
    let x = AddsTrees_extends d d1 c.in_ok-rest.ensures.grows in
    let o = c.args.open in
    let w = c.args.opened.now in
    let r = c.requires in
    let q : Two HCase (tree_at d1.trees w.by) (tree_at d1.trees w.others) ≡ Two HCase (tree_at d.trees w.by) (tree_at d.trees w.others) = cc (tree_later d d1 x w.by r.opened.by.held, tree_later d d1 x w.others r.opened.others_held) in
    subst Fits (sym q) (rest_left_fits d c.args.env.now c.args.e c.args.left c.args.fresh r.place c.task-task.ensures.valid c.args.scrutinee o.pattern o.body o.others w.by w.under w.others r.node r.opened.left_is r.more)

pub returns-clause-node : goal.returns-clause-node
returns-clause-node c = tree_later c.add.new.self c.add-2.new.self (AddsTrees_extends c.add.new.self c.add-2.new.self c.in_ok-rest_left.ensures.grows) c.in_ok-rest.rest c.in_ok-rest.ensures.held ∙ c.in_ok-rest.ensures.tree

pub returns-clause-left_is : goal.returns-clause-left_is
returns-clause-left_is c =
    let d = c.args.draft.now in
    let d1 = c.add.new.self in
    let x = AddsTrees_extends d d1 c.in_ok-rest.ensures.grows in
    let w = c.args.opened.now in
    c.in_ok-rest_left.ensures.tree ∙ cc (tree_later d d1 x w.by c.requires.opened.by.held, tree_later d d1 x w.others c.requires.opened.others_held)

pub returns-clause-place : goal.returns-clause-place
returns-clause-place c =
    let d = c.args.draft.now in
    let d1 = c.add.new.self in
    let d2 = c.add-2.new.self in
    let xy = Extends_trans d d1 d2 (AddsTrees_extends d d1 c.in_ok-rest.ensures.grows) (AddsTrees_extends d1 d2 c.in_ok-rest_left.ensures.grows) in
    let y = AddsTrees_extends d1 d2 c.in_ok-rest_left.ensures.grows in
    let o = c.args.open in
    let w = c.args.opened.now in
    let r = c.requires in
    let env = c.args.env.now in
    let n = c.args.fresh in
    rest_place d2 env c.args.e c.args.left n (place_later d d2 xy env c.args.e c.args.left n r.place) (subst IsValid (sym xy.task) c.task-task.ensures.valid) c.args.scrutinee o.pattern o.body o.others w.by w.under w.others
    (branch_later d d2 xy c.args.e c.args.scrutinee o.pattern o.body o.others r.place.open_held r.scrutinee_held r.pattern_held r.body_held r.others_held r.node) (branch_later d d2 xy c.args.left w.by o.pattern w.under w.others r.place.left_held r.opened.by.held r.pattern_held r.opened.under_held r.opened.others_held r.opened.left_is)
    (ap head_of (tree_later d d2 xy o.others r.others_held) ∙ r.more) c.in_ok-rest.rest c.in_ok-rest_left.rest_left (held_later d1 d2 y c.in_ok-rest.rest c.in_ok-rest.ensures.held) c.in_ok-rest_left.ensures.held
    (returns-clause-node c ∙ sym (cc (tree_later d d2 xy c.args.scrutinee r.scrutinee_held, tree_later d d2 xy o.others r.others_held))) (returns-clause-left_is c ∙ sym (cc (tree_later d d2 xy w.by r.opened.by.held, tree_later d d2 xy w.others r.opened.others_held)))

pub returns-clause-pair : goal.returns-clause-pair
returns-clause-pair c =
    let d = c.args.draft.now in
    let d1 = c.add.new.self in
    let d2 = c.add-2.new.self in
    let xy = Extends_trans d d1 d2 (AddsTrees_extends d d1 c.in_ok-rest.ensures.grows) (AddsTrees_extends d1 d2 c.in_ok-rest_left.ensures.grows) in
    let o = c.args.open in
    let w = c.args.opened.now in
    let r = c.requires in
    let env = c.args.env.now in
    let n = c.args.fresh in
    rest_pair d2 env c.args.e c.args.left n (place_later d d2 xy env c.args.e c.args.left n r.place) (subst IsValid (sym xy.task) c.task-task.ensures.valid) c.args.scrutinee o.pattern o.body o.others w.by w.under w.others
    (branch_later d d2 xy c.args.e c.args.scrutinee o.pattern o.body o.others r.place.open_held r.scrutinee_held r.pattern_held r.body_held r.others_held r.node) (branch_later d d2 xy c.args.left w.by o.pattern w.under w.others r.place.left_held r.opened.by.held r.pattern_held r.opened.under_held r.opened.others_held r.opened.left_is)
    (ap head_of (tree_later d d2 xy o.others r.others_held) ∙ r.more) c.in_ok-rest.rest c.in_ok-rest_left.rest_left (returns-clause-place c) (returns-clause-node c ∙ sym (cc (tree_later d d2 xy c.args.scrutinee r.scrutinee_held, tree_later d d2 xy o.others r.others_held)))

pub returns-clause-branches : goal.returns-clause-branches
returns-clause-branches c =
    let d = c.args.draft.now in
    let d1 = c.add.new.self in
    let d2 = c.add-2.new.self in
    let xy = Extends_trans d d1 d2 (AddsTrees_extends d d1 c.in_ok-rest.ensures.grows) (AddsTrees_extends d1 d2 c.in_ok-rest_left.ensures.grows) in
    let o = c.args.open in
    let w = c.args.opened.now in
    let r = c.requires in
    ap head_of (tree_later d d2 xy w.others r.opened.others_held) ∙ rest_head d c.args.env.now c.args.e c.args.left c.args.fresh r.place c.task-task.ensures.valid c.args.scrutinee o.pattern o.body o.others w.by w.under w.others r.node r.opened.left_is r.more
