use Rattle.std.proofs.Common.{◌≡◌, sym, subst, ◌∙◌}
use Rattle.trees.specs.Tree.{Two, HCase, HCell, HArm}
use Rattle.trees.specs.Node.{tree_at}
use Rattle.trees.specs.Sorts.{Fits}
use Rattle.evidence.specs.Laws.{Extends_trans, AddsTrees_extends}
use Rattle.congruence.proofs.Later.{tree_later}
use Rattle.walking.proofs.PlacesLater.{all_later}
use Rattle.walking.proofs.Placed.{placed, environment_later, expression_case}
use Rattle.walking.proofs.matching.branch_trees.Goals as goal

pub add-requires-clause-fits : goal.add-requires-clause-fits
add-requires-clause-fits c = c.requires.open.typed.3.2.0

pub add-requires-2-clause-fits : goal.add-requires-2-clause-fits
add-requires-2-clause-fits c =
    let d = c.args.draft.now in
    let d1 = c.add.new.self in
    let x = AddsTrees_extends d d1 c.in_ok-arm.ensures.grows in
    let q : Two HCell (tree_at d1.trees c.in_ok-arm.arm) (tree_at d1.trees c.args.others) ≡ Two HCell (Two HArm (tree_at d.trees c.args.pattern) (tree_at d.trees c.args.body)) (tree_at d.trees c.args.others) = cc (c.in_ok-arm.ensures.tree, tree_later d d1 x c.args.others c.requires.others_held) in
    subst Fits (sym q) c.requires.open.typed.3.0

pub add-requires-3-clause-fits : goal.add-requires-3-clause-fits
add-requires-3-clause-fits c =
    let d = c.args.draft.now in
    let d1 = c.add.new.self in
    let d2 = c.add-2.new.self in
    let x = AddsTrees_extends d d1 c.in_ok-arm.ensures.grows in
    let xy = Extends_trans d d1 d2 x (AddsTrees_extends d1 d2 c.in_ok-list.ensures.grows) in
    let l : tree_at d2.trees c.in_ok-list.list ≡ Two HCell (Two HArm (tree_at d.trees c.args.pattern) (tree_at d.trees c.args.body)) (tree_at d.trees c.args.others) = c.in_ok-list.ensures.tree ∙ cc (c.in_ok-arm.ensures.tree, tree_later d d1 x c.args.others c.requires.others_held) in
    let q : Two HCase (tree_at d2.trees c.args.scrutinee) (tree_at d2.trees c.in_ok-list.list) ≡ Two HCase (tree_at d.trees c.args.scrutinee) (Two HCell (Two HArm (tree_at d.trees c.args.pattern) (tree_at d.trees c.args.body)) (tree_at d.trees c.args.others)) =
    cc (tree_later d d2 xy c.args.scrutinee c.requires.scrutinee_held, l) in
    subst Fits (sym q) c.requires.open.typed.0

pub instance_at-requires-clause-env_held : goal.instance_at-requires-clause-env_held
instance_at-requires-clause-env_held c =
    let d = c.args.draft.now in
    let d1 = c.add.new.self in
    let d2 = c.add-2.new.self in
    let d3 = c.add-3.new.self in
    let x = Extends_trans d d2 d3 (Extends_trans d d1 d2 (AddsTrees_extends d d1 c.in_ok-arm.ensures.grows) (AddsTrees_extends d1 d2 c.in_ok-list.ensures.grows)) (AddsTrees_extends d2 d3 c.in_ok-image.ensures.grows) in
    all_later d d3 x c.args.env.now c.requires.env_held

pub instance_at-requires-clause-terms : goal.instance_at-requires-clause-terms
instance_at-requires-clause-terms c =
    let d = c.args.draft.now in
    let d1 = c.add.new.self in
    let d2 = c.add-2.new.self in
    let d3 = c.add-3.new.self in
    let x = Extends_trans d d2 d3 (Extends_trans d d1 d2 (AddsTrees_extends d d1 c.in_ok-arm.ensures.grows) (AddsTrees_extends d1 d2 c.in_ok-list.ensures.grows)) (AddsTrees_extends d2 d3 c.in_ok-image.ensures.grows) in
    (_, (environment_later d d3 x c.args.env.now c.args.fresh c.requires.env_held c.requires.around).terms)

pub returns-clause-node : goal.returns-clause-node
returns-clause-node c =
    let d = c.args.draft.now in
    let d1 = c.add.new.self in
    let d2 = c.add-2.new.self in
    let d3 = c.add-3.new.self in
    let x = AddsTrees_extends d d1 c.in_ok-arm.ensures.grows in
    let xy = Extends_trans d d1 d2 x (AddsTrees_extends d1 d2 c.in_ok-list.ensures.grows) in
    let l : tree_at d2.trees c.in_ok-list.list ≡ Two HCell (Two HArm (tree_at d.trees c.args.pattern) (tree_at d.trees c.args.body)) (tree_at d.trees c.args.others) = c.in_ok-list.ensures.tree ∙ cc (c.in_ok-arm.ensures.tree, tree_later d d1 x c.args.others c.requires.others_held) in
    tree_later d3 c.instance_at.new.draft (AddsTrees_extends d3 c.instance_at.new.draft c.in_ok-right.ensures.grows) c.in_ok-image.image c.in_ok-image.ensures.held ∙ c.in_ok-image.ensures.tree ∙ cc (tree_later d d2 xy c.args.scrutinee c.requires.scrutinee_held, l)

pub returns-clause-place : goal.returns-clause-place
returns-clause-place c =
    let d = c.args.draft.now in
    let d1 = c.add.new.self in
    let d2 = c.add-2.new.self in
    let d3 = c.add-3.new.self in
    let d4 = c.instance_at.new.draft in
    let r = c.requires in
    let x1 = AddsTrees_extends d d1 c.in_ok-arm.ensures.grows in
    let xy = Extends_trans d d1 d2 x1 (AddsTrees_extends d1 d2 c.in_ok-list.ensures.grows) in
    let x = Extends_trans d d2 d3 xy (AddsTrees_extends d2 d3 c.in_ok-image.ensures.grows) in
    let l : tree_at d2.trees c.in_ok-list.list ≡ Two HCell (Two HArm (tree_at d.trees c.args.pattern) (tree_at d.trees c.args.body)) (tree_at d.trees c.args.others) = c.in_ok-list.ensures.tree ∙ cc (c.in_ok-arm.ensures.tree, tree_later d d1 x1 c.args.others r.others_held) in
    let W = Two HCase (tree_at d.trees c.args.scrutinee) (Two HCell (Two HArm (tree_at d.trees c.args.pattern) (tree_at d.trees c.args.body)) (tree_at d.trees c.args.others)) in
    let q : tree_at d3.trees c.in_ok-image.image ≡ W = c.in_ok-image.ensures.tree ∙ cc (tree_later d d2 xy c.args.scrutinee r.scrutinee_held, l) in
    placed d d3 d4 x (AddsTrees_extends d3 d4 c.in_ok-right.ensures.grows) c.args.env.now c.args.fresh W r.env_held r.around r.open (expression_case (tree_at d.trees c.args.scrutinee) (tree_at d.trees c.args.pattern) (tree_at d.trees c.args.body) (tree_at d.trees c.args.others) r.open.typed.3.2.0.0.1) r.own r.order
    c.in_ok-image.image c.in_ok-right.right c.in_ok-image.ensures.held q c.in_ok-right.ensures.held c.in_ok-right.ensures.tree
