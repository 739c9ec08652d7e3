use Rattle.std.proofs.Common.{List, subst, ◌∙◌}
use Rattle.trees.specs.Tree.{Tree}
use Rattle.trees.specs.Node.{tree_at, Holds}
use Rattle.trees.specs.Sorts.{WellSorted}
use Rattle.trees.specs.declared.TermId.{TermId}
use Rattle.evidence.specs.Laws.{AddsTrees_extends}
use Rattle.congruence.proofs.Later.{held_later, tree_later}
use Rattle.tr_simplify.proofs.LawPlaces.{law_place, law_right, law_pair}
use Rattle.tr_simplify.proofs.linking.simplify_both.Goals as goal

pub simplify_node-requires : goal.simplify_node-requires
simplify_node-requires c = c.requires.place.open_held

pub simplify_node-requires-2 : goal.simplify_node-requires-2
simplify_node-requires-2 c = held_later c.args.draft.now c.simplify_node.new.g (AddsTrees_extends c.args.draft.now c.simplify_node.new.g c.in_ok-image.ensures.grows) c.args.left c.requires.place.left_held

pub returns-clause-place : goal.returns-clause-place
returns-clause-place c =
    let d = c.args.draft.now in
    let d1 = c.simplify_node.new.g in
    let d2 = c.simplify_node-2.new.g in
    let i = c.in_ok-image in
    let r = c.in_ok-right in
    let sorted : (id : TermId) → Holds d1.trees id → WellSorted (tree_at d1.trees id) = subst (λ (s : List Tree). (id : TermId) → Holds s id → WellSorted (tree_at s id)) c.store.ensures c.laws.ensures.sorted in
    law_place d c.args.env.now c.args.e c.args.left c.args.fresh c.requires.place c.requires.laws d1 d2 (AddsTrees_extends d d1 i.ensures.grows) (AddsTrees_extends d1 d2 r.ensures.grows) i.image r.right i.ensures.held i.ensures.tree (sorted i.image i.ensures.held) r.ensures.held r.ensures.tree

pub returns-clause-image : goal.returns-clause-image
returns-clause-image c =
    let d1 = c.simplify_node.new.g in
    let d2 = c.simplify_node-2.new.g in
    tree_later d1 d2 (AddsTrees_extends d1 d2 c.in_ok-right.ensures.grows) c.in_ok-image.image c.in_ok-image.ensures.held ∙ c.in_ok-image.ensures.tree

pub returns-clause-pair : goal.returns-clause-pair
returns-clause-pair c =
    let d = c.args.draft.now in
    let d1 = c.simplify_node.new.g in
    let d2 = c.simplify_node-2.new.g in
    let i = c.in_ok-image in
    let r = c.in_ok-right in
    let sorted : (id : TermId) → Holds d1.trees id → WellSorted (tree_at d1.trees id) = subst (λ (s : List Tree). (id : TermId) → Holds s id → WellSorted (tree_at s id)) c.store.ensures c.laws.ensures.sorted in
    law_pair d c.args.env.now c.args.e c.args.left c.args.fresh c.requires.place c.requires.laws d1 d2 (AddsTrees_extends d d1 i.ensures.grows) (AddsTrees_extends d1 d2 r.ensures.grows) i.image r.right i.ensures.held i.ensures.tree (sorted i.image i.ensures.held) r.ensures.held r.ensures.tree

pub returns-clause-right : goal.returns-clause-right
returns-clause-right c =
    let d = c.args.draft.now in
    let d1 = c.simplify_node.new.g in
    let d2 = c.simplify_node-2.new.g in
    let i = c.in_ok-image in
    let r = c.in_ok-right in
    let sorted : (id : TermId) → Holds d1.trees id → WellSorted (tree_at d1.trees id) = subst (λ (s : List Tree). (id : TermId) → Holds s id → WellSorted (tree_at s id)) c.store.ensures c.laws.ensures.sorted in
    law_right d c.args.env.now c.args.e c.args.left c.args.fresh c.requires.place c.requires.laws d1 d2 (AddsTrees_extends d d1 i.ensures.grows) (AddsTrees_extends d1 d2 r.ensures.grows) i.image r.right i.ensures.held i.ensures.tree (sorted i.image i.ensures.held) r.ensures.held r.ensures.tree
